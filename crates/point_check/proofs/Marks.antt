-- If a marked pin has no hazard, what the waves permit does not break its rule.
use Rattle.std.proofs.Common.{◌≡◌, ◌≢◌, ℕ, zero, suc, ◌<◌, Bool, true, false, cond, List, [], ◌∷◌, length, refl, ap, ◌∙◌, arith, Some, None}
use Rattle.std.specs.Option.{option_map}
use Rattle.std.proofs.lemmas.List.{length-map}
use Rattle.step_values.specs.declared.value.Value.{Value}
use Rattle.step_values.specs.Steps.{has}
use Rattle.step_values.specs.Cell.{values}
use Rattle.step_values.proofs.Permits.{quiet_same}
use Rattle.skew_algebra.specs.Wave.{Wave, fold}
use Rattle.element_kinds.specs.declared.kind.Kind.{Kind}
use Rattle.gate_eval.specs.Meeting.{folds_in, period_of}
use Rattle.gate_eval.specs.Hold.{value_of_pin, is_closed, closed_bit, mover_beside, disturber, hazard}
use Rattle.gate_eval.specs.Instance.{wave_of_pin}
use Rattle.gate_eval.proofs.Held.{first_some_none, map_none, beside_quiet, closed_bits}

fold_of_pin : (waves : List (Wave Value)) (s i : ℕ) → i < length waves → value_of_pin (folds_in values waves s) i ≡ fold values (wave_of_pin waves i) s
fold_of_pin [] s i below = absurd (omega arith)
fold_of_pin (w ∷ waves) s zero below = refl
fold_of_pin (w ∷ waves) s (suc i) below = fold_of_pin waves s i (omega arith)

-- ---- one slot

module _ (kind : Kind) (waves : List (Wave Value)) (marked : ℕ) where
  undisturbed : (s : ℕ) → hazard kind waves (Some marked) ≡ None → s < period_of waves → disturber kind marked (folds_in values waves s) ≡ None
  unfolding hazard
  undisturbed s none below =
      map_none (λ pin. (s, pin)) (disturber kind marked (folds_in values waves s))
      (first_some_none (λ slot. option_map (λ pin. (slot, pin)) (disturber kind marked (folds_in values waves slot))) (period_of waves) 0 s none (omega arith) (omega arith))

  -- the steps that the folds of both pins have at a tick
  pub mark_kept : (s pin : ℕ) (a a' b b' : Bool) → hazard kind waves (Some marked) ≡ None → s < period_of waves → marked < length waves → pin < length waves → pin ≢ marked →
      has (fold values (wave_of_pin waves marked) s) a a' ≡ true → has (fold values (wave_of_pin waves pin) s) b b' ≡ true →
      ¬ ((a ≡ closed_bit kind) × (a' ≡ closed_bit kind)) → b ≡ b'
  mark_kept s pin a a' b b' none below marked_in pin_in apart h h' leaves =
      by (is_closed kind (value_of_pin (folds_in values waves s) marked)) refl (undisturbed s none below)
    where
      of_marked : has (value_of_pin (folds_in values waves s) marked) a a' ≡ true
      of_marked = ap (λ (v : Value). has v a a') (fold_of_pin waves s marked marked_in) ∙ h

      of_pin : has (value_of_pin (folds_in values waves s) pin) b b' ≡ true
      of_pin = ap (λ (v : Value). has v b b') (fold_of_pin waves s pin pin_in) ∙ h'

      long : length (folds_in values waves s) ≡ length waves
      long = length-map waves (λ w. fold values w s)

      by : (closed : Bool) → is_closed kind (value_of_pin (folds_in values waves s) marked) ≡ closed → cond closed None (mover_beside marked (folds_in values waves s)) ≡ None → b ≡ b'
      by true closed quiet = absurd (leaves (closed_bits kind (value_of_pin (folds_in values waves s) marked) a a' closed of_marked))
      by false opened quiet =
          let far = long in
          quiet_same (value_of_pin (folds_in values waves s) pin) b b' (beside_quiet marked (folds_in values waves s) pin quiet (omega (arith, far)) apart) of_pin
