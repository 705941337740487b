-- A marked gate of a circuit has a hazard exactly where one of its slacks is broken.
use Rattle.std.proofs.Common.{inl, inr, ◌≡◌, ◌⊎◌, ◌↔◌, ℕ, zero, suc, ◌+◌, ◌<◌, ◌≤◌, Bool, true, false, not, cond, refl, sym, ap, ◌∙◌, arith, List, [], ◌∷◌, length, Option, Some, None}
use Rattle.std.specs.Prelude.{◌==◌, is_some, slice_get}
use Rattle.std.specs.Option.{option_map}
use Rattle.std.proofs.lemmas.Bool.{and_from, and_parts}
use Rattle.std.proofs.lemmas.List.{get_or-map}
use Rattle.std.proofs.lemmas.List.Quantifiers.{position-Some}
use Rattle.std.proofs.lemmas.Option.{get_or_from_slice_get}
use Rattle.scald_base.specs.Clock.{back}
use Rattle.scald_base.specs.Time.{period}
use Rattle.scald_base.proofs.Back.{back_later, back_zero, mod_small}
use Rattle.vector_names.specs.declared.bits.Target.{Target}
use Rattle.vector_names.specs.declared.bits.Target.TheVariants.{Net as OnNet, Constant}
use Rattle.step_values.specs.Steps.{has}
use Rattle.step_values.specs.Cell.{values}
use Rattle.wave_core.proofs.Slots.{length_slots}
use Rattle.step_values.specs.declared.value.Value.TheVariants.{Zero, One}
use Rattle.skew_algebra.specs.Wave.{fold, skewed}
use Rattle.pin_waves.specs.Interface.{constant_wave}
use Rattle.element_kinds.specs.declared.kind.Kind.{Kind}
use Rattle.element_kinds.specs.declared.kind.Kind.TheVariants.{Buf, And, Or, Xor, Mux2, Mux4, Mux8, Chg, Reg, RegRs, Latch, LatchRs, SetupHold, RiseFall, MinPulse}
use Rattle.element_kinds.specs.Kinds.{check_of, checks_points, may_be_marked}
use Rattle.flat_circuit.specs.declared.instance.Pin.{Pin}
use Rattle.flat_circuit.specs.declared.instance.Instance.{Instance}
use Rattle.flat_circuit.specs.Circuit.{Circuit}
use Rattle.gate_eval.specs.Instance.{wave_of_pin}
use Rattle.gate_eval.specs.Meeting.{period_of}
use Rattle.gate_eval.specs.Hold.{hazard, is_closed}
use Rattle.fixpoint_engine.specs.Waves.{Waves, marked_pin, pin_wave, pin_waves}
use Rattle.fixpoint_engine.proofs.OnePeriod.{length_pins, period_of_pins}
use Rattle.point_check.specs.Faults.{fault_by, fault_of, hazard_at, instance_fault}
use Rattle.critical_paths.specs.declared.direction.Direction.TheVariants.{Change}
use Rattle.critical_paths.specs.Event.{Events, events, moves}
use Rattle.slack_rows.specs.declared.parameter.Word.{Word as Limit}
use Rattle.slack_rows.specs.declared.parameter.Word.TheVariants.{Gate, Before as GateBefore, After as GateAfter}
use Rattle.slack_rows.specs.Slack.{Finding, is_broken, finding_of}
use Rattle.slack_rows.specs.Watch.{opens}
use Rattle.slack_rows.specs.Launched.{gate_launches}
use Rattle.slack_rows.specs.Limit.{beside, is_beside, is_on, pin_folds, finding_check, finding_in, finding_instance, finding_mark, finding_pin, watch_beside}
use Rattle.slack_rows.specs.Laws.{AreWaves, IsBroken, MarksBreakWithFaults, SomeOf}
use Rattle.slack_rows.proofs.Somewhere.{passing_some, some_passing}
use Rattle.slack_rows.proofs.Touching.{IsMet, met_touches, touched_met}
use Rattle.slack_rows.proofs.Parts.{PartsBreak, least_iff, parts_break, some_either, some_first, some_second}
use Rattle.slack_rows.proofs.Constants.{behind_still, constant_still, still_events}
use Rattle.slack_rows.proofs.Changes.{moving, unquiet}
use Rattle.critical_paths.proofs.Runs.{not_true}
use Rattle.slack_rows.proofs.Marks.{IsDisturbed, disturbed_hazard, hazard_disturbed}
use Rattle.slack_rows.specs.Window.{extent_of}
use Rattle.slack_rows.proofs.Checkers.{all_placed, instance_fits, pins_repeat}

pub one_place : (p s : ℕ) → s < p → back p (s + 1 + 0) 1 ≡ s
one_place p s below =
    let plain : s + 1 + 0 ≡ s + 1 = omega arith in
    ap (λ (z : ℕ). back p z 1) plain ∙ back_later p s 1 0 (omega (arith, below)) ∙ back_zero p s ∙ mod_small s p below

not_there : (ps : List Pin) (i : ℕ) → i < length ps → slice_get ps i ≡ None → ⊥
not_there [] i below none = absurd (omega (arith, below))
not_there (q ∷ ps) zero below none = absurd (cc)
not_there (q ∷ ps) (suc i) below none = not_there ps i (omega (arith, below)) none

abbrev no_pin : Pin
no_pin = record { target = Constant true; inverted = false; hold = false }

module _ (c : Circuit) (ws : Waves) (k : ℕ) (j : Instance) (are : AreWaves c ws) (at : slice_get c.instances k ≡ Some j)
    (marked : ℕ) (marked_is : marked_pin j ≡ Some marked) where
  abbrev p : ℕ
  p = period c.header

  long : 2 ≤ p
  long = are.header.shortest

  marked_inside : marked < length j.pins
  marked_inside = (position-Some (λ (p : Pin). p.hold) j.pins marked no_pin marked_is).0

  waves_long : length (pin_waves c ws j) ≡ length j.pins
  waves_long = length_pins c ws j

  period_is : period_of (pin_waves c ws j) ≡ p
  period_is = period_of_pins c ws j (omega (arith, long)) are.long (instance_fits c ws k j are at)

  abbrev lets : Events
  lets = opens j.kind (pin_folds c ws j marked)

  abbrev changes : ℕ → Events
  changes i = events Change (pin_folds c ws j i)

  lets_cyclic : (t : ℕ) → lets (t + p) ≡ lets t
  lets_cyclic t = ap (λ v. not (is_closed j.kind v)) (pins_repeat c ws k j are at marked marked_inside t)

  changes_cyclic : (i : ℕ) → i < length j.pins → (t : ℕ) → changes i (t + p) ≡ changes i t
  changes_cyclic i below t = ap (λ v. moves Change (has v)) (pins_repeat c ws k j are at i below t)

  abbrev IsMetAt : ℕ → Type 0
  IsMetAt i = IsMet p (extent_of 1 0) lets (changes i)

  -- ---- a pin that changes is on a net

  constant_pin : (i : ℕ) (pin : Pin) (one : Bool) → i < length j.pins → slice_get j.pins i ≡ Some pin → pin.target ≡ Constant one →
      (t : ℕ) → changes i t ≡ false
  constant_pin i pin one below there on t =
      let wave_is : wave_of_pin (pin_waves c ws j) i ≡ pin_wave c ws pin =
      get_or-map (pin_wave c ws) j.pins i pin (skewed [] 0) below ∙ ap (pin_wave c ws) (get_or_from_slice_get j.pins i pin pin there) in
      ap (λ w. moves Change (has (fold values w t))) wave_is
      ∙ by pin.target on
    where
      by : (target : Target) → target ≡ Constant one → moves Change (has (fold values (pin_wave c ws (record { target = target; inverted = pin.inverted; hold = pin.hold })) t)) ≡ false
      by (OnNet n) is = absurd (cc)
      by (Constant bit) is =
          still_events (pin_wave c ws (record { target = Constant bit; inverted = pin.inverted; hold = pin.hold }))
          (behind_still (constant_wave c.header bit) (record { min = 0; max = 0 }) pin.inverted
          (let slots_long : length (constant_wave c.header bit).cells ≡ p = length_slots p (λ s. cond bit One Zero) in omega (arith, slots_long, long))
          (omega arith) (constant_still c.header bit (omega (arith, long)))) t

  on_net : (i t : ℕ) → i < length j.pins → changes i t ≡ true → is_on (slice_get j.pins i) ≡ true
  on_net i t below change = by (slice_get j.pins i) refl
    where
      target : (pin : Pin) (target : Target) → slice_get j.pins i ≡ Some pin → pin.target ≡ target → is_on (Some (record { target = target; inverted = false; hold = false })) ≡ true
      target pin (OnNet n) there is = refl
      target pin (Constant one) there is = absurd (cc (sym (constant_pin i pin one below there is t) ∙ change))

      by : (o : Option Pin) → slice_get j.pins i ≡ o → is_on o ≡ true
      by None none = absurd (not_there j.pins i below none)
      by (Some pin) there = target pin pin.target there refl

  -- ---- a disturbance is a change while the mark lets it through

  disturbed_met : IsDisturbed j.kind (pin_waves c ws j) marked → SomeOf IsMetAt (beside j marked)
  disturbed_met d =
      let below = d.below in
      let within = d.within in
      let there : d.pin < length j.pins = omega (arith, within, waves_long) in
      let inside : d.slot < p = omega (arith, below, period_is) in
      let change : changes d.pin d.slot ≡ true = moving (pin_folds c ws j d.pin d.slot) ∙ ap not d.moves in
      some_passing IsMetAt (is_beside j marked) 0 (length j.pins) record {
        number = d.pin;
        from = omega arith;
        below = omega (arith, there);
        passes = and_from (not (d.pin == marked)) (is_on (slice_get j.pins d.pin)) (ap not d.apart) (on_net d.pin d.slot there change);
        holds = record {
          tick = d.slot;
          below = inside;
          edge = ap not d.lets;
          place = 0;
          within = omega arith;
          change = ap (changes d.pin) (one_place p d.slot inside) ∙ change;
        };
      }

  met_disturbed : SomeOf IsMetAt (beside j marked) → IsDisturbed j.kind (pin_waves c ws j) marked
  met_disturbed some =
      let found = passing_some IsMetAt (is_beside j marked) 0 (length j.pins) some in
      let below = found.below in
      let met = found.holds in
      let inside = met.below in
      let within = met.within in
      let parts = and_parts (not (found.number == marked)) (is_on (slice_get j.pins found.number)) found.passes in
      let first : met.place ≡ 0 = omega (arith, within) in
      let change : changes found.number met.tick ≡ true =
      ap (changes found.number) (sym (ap (λ (place : ℕ). back p (met.tick + 1 + place) 1) first ∙ one_place p met.tick inside)) ∙ met.change in
      record {
        slot = met.tick;
        below = omega (arith, inside, period_is);
        pin = found.number;
        within = omega (arith, below, waves_long);
        apart = not_true (found.number == marked) parts.0;
        lets = not_true (is_closed j.kind (pin_folds c ws j marked met.tick)) met.edge;
        moves = unquiet (pin_folds c ws j found.number met.tick) change;
      }

  -- ---- what is told

  abbrev Parts : ℕ → Type 0
  Parts i = PartsBreak p (gate_launches c ws j marked i) (watch_beside c ws j marked i)

  met_breaks : SomeOf IsMetAt (beside j marked) → SomeOf Parts (beside j marked)
  met_breaks some =
      let found = passing_some IsMetAt (is_beside j marked) 0 (length j.pins) some in
      let below = found.below in
      some_passing Parts (is_beside j marked) 0 (length j.pins) record {
        number = found.number;
        from = omega arith;
        below = below;
        passes = found.passes;
        holds = (parts_break p (gate_launches c ws j marked found.number) (watch_beside c ws j marked found.number) long (changes_cyclic found.number (omega (arith, below)))
            (all_placed p lets (extent_of 1 0) (omega arith) (omega (arith, long)))).0
            (met_touches p long lets (changes found.number) lets_cyclic (changes_cyclic found.number (omega (arith, below))) (extent_of 1 0) (omega (arith, long)) found.holds);
      }

  breaks_met : SomeOf Parts (beside j marked) → SomeOf IsMetAt (beside j marked)
  breaks_met some =
      let found = passing_some Parts (is_beside j marked) 0 (length j.pins) some in
      let below = found.below in
      some_passing IsMetAt (is_beside j marked) 0 (length j.pins) record {
        number = found.number;
        from = omega arith;
        below = below;
        passes = found.passes;
        holds = touched_met p long lets (changes found.number) lets_cyclic (changes_cyclic found.number (omega (arith, below))) (extent_of 1 0) (omega (arith, long)) (omega arith)
            ((parts_break p (gate_launches c ws j marked found.number) (watch_beside c ws j marked found.number) long (changes_cyclic found.number (omega (arith, below)))
            (all_placed p lets (extent_of 1 0) (omega arith) (omega (arith, long)))).1 found.holds);
      }

  abbrev finding : Limit → ℕ → Finding
  finding limit i = finding_pin c ws j limit marked i

  pub marked_breaks : (is_some (hazard j.kind (pin_waves c ws j) (Some marked)) ≡ true)
      ↔ (IsBroken (finding_mark c ws j Gate (Some marked))
      ⊎ (IsBroken (finding_mark c ws j GateBefore (Some marked)) ⊎ IsBroken (finding_mark c ws j GateAfter (Some marked))))
  marked_breaks =
      let inside : marked < length (pin_waves c ws j) = omega (arith, marked_inside, waves_long) in (
        λ found. elim (some_either (λ i. IsBroken (finding Gate i)) (λ i. IsBroken (finding GateBefore i) ⊎ IsBroken (finding GateAfter i)) (beside j marked)
            (met_breaks (disturbed_met (hazard_disturbed j.kind (pin_waves c ws j) marked inside found)))) [
              | inl never ↦ inl ((least_iff (λ i. finding_of i Change (finding Gate i)) (beside j marked)).1 never)
              | inr windows ↦ inr (elim (some_either (λ i. IsBroken (finding GateBefore i)) (λ i. IsBroken (finding GateAfter i)) (beside j marked) windows) [
                | inl before ↦ inl ((least_iff (λ i. finding_of i Change (finding GateBefore i)) (beside j marked)).1 before)
                | inr after ↦ inr ((least_iff (λ i. finding_of i Change (finding GateAfter i)) (beside j marked)).1 after)
              ])
            ],
        λ broken. disturbed_hazard j.kind (pin_waves c ws j) marked inside (met_disturbed (breaks_met (elim broken [
          | inl never ↦ some_first (λ i. IsBroken (finding Gate i)) (λ i. IsBroken (finding GateBefore i) ⊎ IsBroken (finding GateAfter i)) (beside j marked)
              ((least_iff (λ i. finding_of i Change (finding Gate i)) (beside j marked)).0 never)
          | inr windows ↦ some_second (λ i. IsBroken (finding Gate i)) (λ i. IsBroken (finding GateBefore i) ⊎ IsBroken (finding GateAfter i)) (beside j marked)
              (elim windows [
                | inl before ↦ some_first (λ i. IsBroken (finding GateBefore i)) (λ i. IsBroken (finding GateAfter i)) (beside j marked)
                    ((least_iff (λ i. finding_of i Change (finding GateBefore i)) (beside j marked)).0 before)
                | inr after ↦ some_second (λ i. IsBroken (finding GateBefore i)) (λ i. IsBroken (finding GateAfter i)) (beside j marked)
                    ((least_iff (λ i. finding_of i Change (finding GateAfter i)) (beside j marked)).0 after)
              ])
        ]))),
      )

-- ---- by the mark

unmarked_or : (c : Circuit) (ws : Waves) (k : ℕ) (j : Instance) → AreWaves c ws → slice_get c.instances k ≡ Some j →
    (o : Option ℕ) → marked_pin j ≡ o →
    (is_some (hazard j.kind (pin_waves c ws j) o) ≡ true)
    ↔ (IsBroken (finding_mark c ws j Gate o) ⊎ (IsBroken (finding_mark c ws j GateBefore o) ⊎ IsBroken (finding_mark c ws j GateAfter o)))
unfolding hazard
unmarked_or c ws k j are at None is = (
  λ none. absurd (cc),
  λ broken. elim broken [
    | inl never ↦ absurd (cc)
    | inr windows ↦ elim windows [ inl before ↦ absurd (cc) | inr after ↦ absurd (cc) ]
  ],
)
unmarked_or c ws k j are at (Some marked) is = marked_breaks c ws k j are at marked is

-- a checker's pins are not marked
no_checker : (kind : Kind) → may_be_marked kind ≡ true → checks_points kind ≡ false
no_checker Buf marks = refl
no_checker And marks = refl
no_checker Or marks = refl
no_checker Xor marks = refl
no_checker Mux2 marks = refl
no_checker Mux4 marks = refl
no_checker Mux8 marks = refl
no_checker Chg marks = refl
no_checker Reg marks = refl
no_checker RegRs marks = refl
no_checker Latch marks = refl
no_checker LatchRs marks = refl
no_checker SetupHold marks = absurd (cc)
no_checker RiseFall marks = absurd (cc)
no_checker MinPulse marks = refl

unmap : {A B : Type 0} (f : A → B) (o : Option A) → is_some (option_map f o) ≡ is_some o
unmap f None = refl
unmap f (Some x) = refl

pub marks_break_with_faults : MarksBreakWithFaults
unfolding instance_fault finding_in
marks_break_with_faults c ws k j are at marks =
    let both = unmarked_or c ws k j are at (marked_pin j) refl in
    let points = no_checker j.kind marks in
    let fault_is : is_some (fault_of c ws k (slice_get c.instances k)) ≡ is_some (hazard j.kind (pin_waves c ws j) (marked_pin j)) =
    ap (λ o. is_some (fault_of c ws k o)) at ∙ (λ i. is_some (fault_by (points i) (marks i) c ws k j))
    ∙ unmap (hazard_at k) (hazard j.kind (pin_waves c ws j) (marked_pin j)) in
    let finding_is : (limit : Limit) → is_broken (finding_instance c ws limit (slice_get c.instances k)).slack ≡ is_broken (finding_mark c ws j limit (marked_pin j)).slack =
    λ limit. ap (λ o. is_broken (finding_instance c ws limit o).slack) at
    ∙ ap (λ (b : Bool). is_broken (cond b (finding_mark c ws j limit (marked_pin j)) (finding_check c ws j limit (check_of j.kind))).slack) marks in (
      λ found. elim (both.0 (sym fault_is ∙ found)) [
        | inl never ↦ inl (finding_is Gate ∙ never)
        | inr windows ↦ inr (elim windows [ inl before ↦ inl (finding_is GateBefore ∙ before) | inr after ↦ inr (finding_is GateAfter ∙ after) ])
      ],
      λ broken. fault_is ∙ both.1 (elim broken [
        | inl never ↦ inl (sym (finding_is Gate) ∙ never)
        | inr windows ↦ inr (elim windows [ inl before ↦ inl (sym (finding_is GateBefore) ∙ before) | inr after ↦ inr (sym (finding_is GateAfter) ∙ after) ])
      ]),
    )
