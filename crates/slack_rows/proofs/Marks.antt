-- A marked gate has a hazard exactly where one of its slacks is broken.
use Rattle.std.proofs.Common.{◌≡◌, ℕ, ◌<◌, Bool, true, false, not, cond, refl, sym, ap, ◌∙◌, arith, List, [], length, Option, Some, None}
use Rattle.std.specs.Prelude.{◌==◌, is_none, is_some}
use Rattle.std.specs.Option.{option_map}
use Rattle.std.proofs.lemmas.Bool.{and_from, and_parts, not-true}
use Rattle.std.proofs.lemmas.List.{get_or-map, length-map}
use Rattle.step_values.specs.declared.value.Value.{Value}
use Rattle.step_values.specs.declared.value.Value.TheVariants.{U}
use Rattle.step_values.specs.Steps.{is_quiet}
use Rattle.step_values.specs.Cell.{values}
use Rattle.skew_algebra.specs.Wave.{Wave, fold, skewed}
use Rattle.element_kinds.specs.declared.kind.Kind.{Kind}
use Rattle.gate_eval.specs.Instance.{wave_of_pin}
use Rattle.gate_eval.specs.Meeting.{folds_in, period_of}
use Rattle.gate_eval.specs.Hold.{disturber, hazard, hazard_beside, is_closed, mover_beside, moves_beside, value_of_pin}
use Rattle.gate_eval.proofs.Found.{first_some_some}
use Rattle.point_check.proofs.Firsts.{first_some_is}

-- ---- constants do not change

-- the letters of a hazard: a slot in which the mark lets the others through, and another pin that may change there
pub record IsDisturbed (kind : Kind) (waves : List (Wave Value)) (marked : ℕ) : Type 0 where
  pub slot : ℕ
  pub below : slot < period_of waves
  pub pin : ℕ
  pub within : pin < length waves
  pub apart : (pin == marked) ≡ false
  pub lets : is_closed kind (fold values (wave_of_pin waves marked) slot) ≡ false
  pub moves : is_quiet (fold values (wave_of_pin waves pin) slot) ≡ false

some_is : {A : Type 0} (o : Option A) → is_none o ≡ false → is_some o ≡ true
some_is None none = absurd (cc)
some_is (Some x) some = refl

none_is_not : {A : Type 0} (o : Option A) → is_some o ≡ true → is_none o ≡ false
none_is_not None none = absurd (cc)
none_is_not (Some x) some = refl

mapped_some : {A B : Type 0} (f : A → B) (o : Option A) → is_none o ≡ false → is_none (option_map f o) ≡ false
mapped_some f None none = absurd (cc)
mapped_some f (Some x) some = refl

some_mapped : {A B : Type 0} (f : A → B) (o : Option A) (y : B) → option_map f o ≡ Some y → is_some o ≡ true
some_mapped f None y none = absurd (cc)
some_mapped f (Some x) y some = refl

module _ (kind : Kind) (waves : List (Wave Value)) (marked : ℕ) (inside : marked < length waves) where
  value_is : (i s : ℕ) → i < length waves → value_of_pin (folds_in values waves s) i ≡ fold values (wave_of_pin waves i) s
  value_is i s below = get_or-map (λ w. fold values w s) waves i (skewed [] 0) U below

  in_slot_by : (s : ℕ) → s < period_of waves → (b : Bool) → is_closed kind (value_of_pin (folds_in values waves s) marked) ≡ b →
      is_some (cond b None (mover_beside marked (folds_in values waves s))) ≡ true → IsDisturbed kind waves marked
  in_slot_by s below true closed none = absurd (cc)
  in_slot_by s below false lets some = by (mover_beside marked (folds_in values waves s)) refl some
    where
      long : length (folds_in values waves s) ≡ length waves
      long = length-map waves (λ w. fold values w s)

      kept : (b : Bool) (i j : ℕ) → cond b (Some i) None ≡ Some j → b ≡ true
      kept true i j is = refl
      kept false i j is = absurd (cc)

      by : (o : Option ℕ) → mover_beside marked (folds_in values waves s) ≡ o → is_some o ≡ true → IsDisturbed kind waves marked
      by None is none = absurd (cc)
      by (Some pin) is some =
          let found = first_some_is (λ i. cond (moves_beside marked (folds_in values waves s) i) (Some i) None) (length (folds_in values waves s)) 0 pin is in
          let within = found.below in
          let there : found.at < length waves = omega (arith, within, long) in
          let parts = and_parts (not (found.at == marked)) (not (is_quiet (value_of_pin (folds_in values waves s) found.at)))
          (kept (moves_beside marked (folds_in values waves s) found.at) found.at pin found.is) in
          record {
            slot = s;
            below = below;
            pin = found.at;
            within = there;
            apart = not-true (found.at == marked) parts.0;
            lets = ap (is_closed kind) (sym (value_is marked s inside)) ∙ lets;
            moves = ap is_quiet (sym (value_is found.at s there)) ∙ not-true (is_quiet (value_of_pin (folds_in values waves s) found.at)) parts.1;
          }

  pub hazard_disturbed : is_some (hazard kind waves (Some marked)) ≡ true → IsDisturbed kind waves marked
  unfolding hazard
  hazard_disturbed some = by (hazard_beside kind waves marked) refl some
    where
      by : (o : Option (ℕ × ℕ)) → hazard_beside kind waves marked ≡ o → is_some o ≡ true → IsDisturbed kind waves marked
      by None is none = absurd (cc)
      by (Some both) is some =
          let found = first_some_is (λ slot. option_map (λ pin. (slot, pin)) (disturber kind marked (folds_in values waves slot))) (period_of waves) 0 both is in
          let below = found.below in
          in_slot_by found.at (omega (arith, below)) (is_closed kind (value_of_pin (folds_in values waves found.at) marked)) refl
          (some_mapped (λ pin. (found.at, pin)) (disturber kind marked (folds_in values waves found.at)) both found.is)

  pub disturbed_hazard : IsDisturbed kind waves marked → is_some (hazard kind waves (Some marked)) ≡ true
  unfolding hazard
  disturbed_hazard d =
      let below = d.below in
      let within = d.within in
      let long : length (folds_in values waves d.slot) ≡ length waves = length-map waves (λ w. fold values w d.slot) in
      let moving : moves_beside marked (folds_in values waves d.slot) d.pin ≡ true =
      and_from (not (d.pin == marked)) (not (is_quiet (value_of_pin (folds_in values waves d.slot) d.pin))) (ap not d.apart)
      (ap (λ v. not (is_quiet v)) (value_is d.pin d.slot within) ∙ ap not d.moves) in
      let mover : is_none (mover_beside marked (folds_in values waves d.slot)) ≡ false =
      first_some_some (λ i. cond (moves_beside marked (folds_in values waves d.slot) i) (Some i) None) (length (folds_in values waves d.slot)) 0 d.pin (omega arith) (omega (arith, within, long))
      (ap (λ (b : Bool). is_none (cond b (Some d.pin) None)) moving) in
      let lets : is_closed kind (value_of_pin (folds_in values waves d.slot) marked) ≡ false = ap (is_closed kind) (value_is marked d.slot inside) ∙ d.lets in
      let here : is_none (disturber kind marked (folds_in values waves d.slot)) ≡ false =
      ap (λ (b : Bool). is_none (cond b None (mover_beside marked (folds_in values waves d.slot)))) lets ∙ mover in
      some_is (hazard_beside kind waves marked)
      (first_some_some (λ slot. option_map (λ pin. (slot, pin)) (disturber kind marked (folds_in values waves slot))) (period_of waves) 0 d.slot (omega arith) (omega (arith, below))
      (mapped_some (λ pin. (d.slot, pin)) (disturber kind marked (folds_in values waves d.slot)) here))
