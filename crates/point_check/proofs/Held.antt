-- If a net that is held has no fault, what its wave permits keeps its assertion.
use Rattle.std.proofs.Common.{◌≡◌, ℕ, ◌-◌, ◌%◌, ◌<◌, ◌≤◌, Bool, true, false, not, ◌&&◌, cond, length, refl, ap, ◌∙◌, arith, Some, None}
use Rattle.std.proofs.lemmas.Bool.{or_parts}
use Rattle.std.proofs.Math.Nat.{mod-lt}
use Rattle.scald_base.specs.declared.assertion.AssertSpec.{AssertSpec}
use Rattle.scald_base.specs.Time.{Header, period}
use Rattle.scald_base.specs.Signal.{Signal}
use Rattle.step_values.specs.declared.value.Value.{Value}
use Rattle.step_values.specs.Steps.{has}
use Rattle.step_values.specs.Image.{some_bit}
use Rattle.step_values.specs.Cell.{values}
use Rattle.step_values.specs.Lawful.{values_lawful}
use Rattle.skew_algebra.specs.Wave.{Wave, fold, cell_at}
use Rattle.skew_algebra.specs.Permits.{Permits}
use Rattle.skew_algebra.proofs.Moves.{fold_has}
use Rattle.pin_waves.specs.Interface.{wide_wave}
use Rattle.gate_eval.proofs.Fitting.{fold_mod}
use Rattle.gate_eval.proofs.Held.{first_some_none, map_none}
use Rattle.point_check.specs.Assertion.{exceeds, first_excess, fault_in, assertion_fault}

bit_none : (f : Bool → Bool) (b : Bool) → some_bit f ≡ false → f b ≡ false
bit_none f false e = (or_parts (f false) (f true) e).0
bit_none f true e = (or_parts (f false) (f true) e).1

both_left : (a b : Bool) → (a && not b) ≡ false → a ≡ true → b ≡ true
both_left true true e h = refl
both_left true false e h = cc
both_left false b e h = cc

-- a value that does not exceed another has its steps alone
within : (v wide : Value) (a b : Bool) → exceeds v wide ≡ false → has v a b ≡ true → has wide a b ≡ true
within v wide a b e h =
    both_left (has v a b) (has wide a b)
    (bit_none (λ b'. has v a b' && not (has wide a b')) b (bit_none (λ a'. some_bit (λ b'. has v a' b' && not (has wide a' b'))) a e)) h

unexceeded : (b : Bool) (s : ℕ) → cond b (Some s) None ≡ None → b ≡ false
unexceeded true s none = cc
unexceeded false s none = refl

pub assertion_kept : (h : Header) (spec : AssertSpec) (i : ℕ) (w : Wave Value) (n tick v : ℕ) (x : Signal) → 0 < period h → length w.cells ≡ period h → Permits values w n x v →
    assertion_fault h spec i w ≡ None → 1 ≤ tick → v ≤ tick → tick < n → has (cell_at values (wide_wave h spec) (tick % period h)) (x (tick - 1)) (x tick) ≡ true
unfolding assertion_fault
assertion_kept h spec i w n tick v x pos long permits none t1 tv tn =
    let below : tick % period h < period h = mod-lt tick pos in
    within (fold values w (tick % period h)) (cell_at values (wide_wave h spec) (tick % period h)) (x (tick - 1)) (x tick)
    (unexceeded (exceeds (fold values w (tick % period h)) (cell_at values (wide_wave h spec) (tick % period h))) (tick % period h)
    (first_some_none (λ s. cond (exceeds (fold values w s) (cell_at values (wide_wave h spec) s)) (Some s) None) (period h) 0 (tick % period h)
    (map_none (fault_in i (fold values w)) (first_excess (period h) (fold values w) (cell_at values (wide_wave h spec))) none) (omega arith) (omega (arith, below))))
    (ap (λ (c : Value). has c (x (tick - 1)) (x tick)) (fold_mod values (period h) w tick long) ∙ fold_has values values_lawful w n v tick x permits t1 tv tn)
