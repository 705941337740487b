-- What is read of a wave's slots comes again after a period.
use Rattle.std.proofs.Common.{◌≡◌, ℕ, ◌+◌, List, length, get_or, sym, ap, subst, ◌∙◌}
use Rattle.scald_base.proofs.Back.{back_zero, period_later}
use Rattle.step_values.specs.declared.value.Value.{Value}
use Rattle.step_values.specs.declared.value.Value.TheVariants.{U}
use Rattle.wave_core.specs.Slots.{earlier}
use Rattle.fixpoint_engine.specs.Pins.{read}

read_cyclic : (cells : List Value) (t : ℕ) → read cells (t + length cells) ≡ read cells t
unfolding earlier
read_cyclic cells t =
    ap (λ (z : ℕ). get_or cells z U)
    (back_zero (length cells) (t + length cells) ∙ period_later (length cells) t ∙ sym (back_zero (length cells) t))

pub read_again : (cells : List Value) (p : ℕ) → length cells ≡ p → (t : ℕ) → read cells (t + p) ≡ read cells t
read_again cells p long t = subst (λ (n : ℕ). read cells (t + n) ≡ read cells t) long (read_cyclic cells t)
