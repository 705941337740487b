-- A change is what is not quiet.
use Rattle.std.proofs.Common.{◌≡◌, Bool, true, false, not, refl, sym, ◌∙◌}
use Rattle.step_values.specs.declared.value.Value.{Value}
use Rattle.step_values.specs.declared.value.Value.TheVariants.{Zero, One, S, C, R, F, U}
use Rattle.step_values.specs.Steps.{has, is_quiet}
use Rattle.critical_paths.specs.declared.direction.Direction.TheVariants.{Change}
use Rattle.critical_paths.specs.Event.{moves}

pub moving : (v : Value) → moves Change (has v) ≡ not (is_quiet v)
moving Zero = refl
moving One = refl
moving S = refl
moving C = refl
moving R = refl
moving F = refl
moving U = refl

pub unquiet : (v : Value) → moves Change (has v) ≡ true → is_quiet v ≡ false
unquiet v moved = by (is_quiet v) (sym (moving v) ∙ moved)
  where
    by : (b : Bool) → not b ≡ true → b ≡ false
    by true is = absurd (cc)
    by false is = refl
