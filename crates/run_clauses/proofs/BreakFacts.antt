-- What is known of facts about a break is true of the facts of a run that has it.
use Rattle.std.specs.Prelude.{◌≢◌, ◌==◌, nat_lt, slice_get}
use Rattle.std.proofs.Common.{◌≡◌, ℕ, ◌+◌, ◌-◌, ◌%◌, ◌<◌, ◌≤◌, get_or, min, Bool, true, false, not, List, refl, sym, ap, subst, ◌∙◌, arith, length, Option, Some}
use Rattle.std.proofs.lemmas.Bool.{eq-eqb, eqb-true, lt-ltb}
use Rattle.std.proofs.lemmas.Option.{get_or_from_slice_get}
use Rattle.scald_base.specs.declared.assertion.AssertSpec.{AssertSpec}
use Rattle.step_values.specs.declared.value.Value.{Value}
use Rattle.step_values.specs.Cell.{values}
use Rattle.step_values.specs.Steps.{has}
use Rattle.pin_waves.specs.Interface.{wide_wave}
use Rattle.element_kinds.specs.declared.form.Check.TheVariants.{SetupHold as AboutRise}
use Rattle.element_kinds.specs.declared.form.Form.{Form}
use Rattle.element_kinds.specs.declared.form.Form.TheVariants.{Checker, Gate}
use Rattle.element_kinds.specs.Kinds.{checks_pulses, closes_of, form_of}
use Rattle.scald_base.specs.Time.{Header, period}
use Rattle.flat_circuit.specs.Limits.{hold_of, setup_of}
use Rattle.flat_circuit.specs.declared.instance.Instance.{Instance}
use Rattle.flat_circuit.specs.declared.net.Net.{Net}
use Rattle.flat_circuit.specs.Circuit.{Circuit}
use Rattle.flat_circuit.specs.declared.case.CaseValue.{CaseValue}
use Rattle.flat_circuit.specs.Kind.{PinsFit}
use Rattle.flat_circuit.specs.Run.{Choice, IsRun, net_signal}
use Rattle.fixpoint_engine.specs.Pins.{pin_at}
use Rattle.fixpoint_engine.specs.Waves.{marked_pin}
use Rattle.point_check.specs.Break.{IsMarkBreak, IsNetBreak, IsSetupHoldBreak, wide_at}
use Rattle.pulse_check.specs.Break.{IsWidthBreak, limit_of}
use Rattle.narrowing.specs.declared.named.Named.{Named}
use Rattle.narrowing.specs.declared.named.Named.TheVariants.{Edge, High, Mark, Pulse, Step as NetStep}
use Rattle.narrowing.specs.declared.constraint.Constraint.{Constraint}
use Rattle.narrowing.specs.declared.constraint.Constraint.TheVariants.{Instance as OfInstance, Pulse as OfPulse, Net as OfNet}
use Rattle.narrowing.specs.Break.{IsAtInstance, IsBreakAt, IsCheckBreak, IsClosedBreak, IsFormBreak, IsPulseBreak, IsStepBreak}
use Rattle.narrowing.specs.Named.{first_of}
use Rattle.point_check.proofs.Words.{few_marks, marked_is}
use Rattle.run_clauses.specs.declared.breaks.Stretch.{Stretch}
use Rattle.run_clauses.specs.declared.fact.Fact.TheVariants.{First, Lasts, Second, Step}
use Rattle.run_clauses.specs.Meaning.{IsEdge, IsFirstIn, IsLacking, IsLetThrough, IsNarrow, stretch}
use Rattle.run_clauses.specs.Forms.{differ}
use Rattle.run_clauses.specs.World.{IsWorld, World, choice_in, choice_of, fact_holds, first_named, is_beside, pin_bit, second_named}
use Rattle.run_clauses.proofs.Worlds.{same_pin}

-- two bits that are not the same
differ_from : (a b : Bool) → a ≢ b → differ a b ≡ true
differ_from true true apart = absurd (apart refl)
differ_from true false apart = refl
differ_from false true apart = refl
differ_from false false apart = absurd (apart refl)

-- what the wide wave of an assertion has at a tick, read from its cells
pub wide_read : (h : Header) (spec : AssertSpec) (t p : ℕ) (cells : List Value) (value : Value) →
    cells ≡ wide_wave h spec → p ≡ period h → slice_get cells (t % p) ≡ Some value →
    wide_at h spec t ≡ value
wide_read h spec t p cells value are same at =
    ap (λ (cs : List Value). get_or cs (t % period h) values.any) (sym are)
    ∙ ap (λ (n : ℕ). get_or cells (t % n) values.any) (sym same)
    ∙ get_or_from_slice_get cells (t % p) value values.any at

-- ---- the ticks of a break

module _ (c : Circuit) (w : World) (first second : ℕ) (first_is : first_named w.named ≡ first)
    (second_is : second_named w.named ≡ second) where
  pub at_first : (t : ℕ) → fact_holds c w (First t) ≡ true → first ≡ t
  at_first t is = sym first_is ∙ eqb-true (first_named w.named) t is

  pub at_second : (t : ℕ) → fact_holds c w (Second t) ≡ true → second ≡ t
  at_second t is = sym second_is ∙ eqb-true (second_named w.named) t is

  pub is_first : fact_holds c w (First first) ≡ true
  is_first = eq-eqb (first_named w.named) first first_is

  pub is_second : fact_holds c w (Second second) ≡ true
  is_second = eq-eqb (second_named w.named) second second_is

  pub lasts_at : (t : ℕ) → first < w.run.ticks → fact_holds c w (First t) ≡ true →
      fact_holds c w (Lasts t) ≡ true
  lasts_at t within is =
      subst (λ (u : ℕ). nat_lt u w.run.ticks ≡ true) (at_first t is)
      (lt-ltb first w.run.ticks within)

  pub lasts_then : (t : ℕ) → second < w.run.ticks → fact_holds c w (Second t) ≡ true →
      fact_holds c w (Lasts t) ≡ true
  lasts_then t within is =
      subst (λ (u : ℕ). nat_lt u w.run.ticks ≡ true) (at_second t is)
      (lt-ltb second w.run.ticks within)

  pub first_in : (from end : ℕ) → from ≤ first → first < end → first < w.run.ticks →
      IsFirstIn (stretch from end) (fact_holds c w)
  first_in from end after before within = record {
    tick = first;
    from = after;
    before = before;
    is = is_first;
    lasts = λ t is. lasts_at t within is;
  }

-- ---- breaks at the pins of an instance

module _ (c : Circuit) (w : World) (is_run : IsRun c w.run) (k : ℕ) (j : Instance)
    (there : slice_get c.instances k ≡ Some j) (from period : ℕ) where
  shown : (pin t : ℕ) (bit : Bool) → pin_at w.run j (choice_of w k) pin t ≡ bit →
      pin_bit c w k pin t ≡ bit
  shown pin t bit is = same_pin c w is_run k j there pin t ∙ is

  stepped : (pin t : ℕ) →
      pin_at w.run j (choice_of w k) pin (t - 1) ≢ pin_at w.run j (choice_of w k) pin t →
      fact_holds c w (Step k pin t) ≡ true
  stepped pin t apart =
      ap (λ (a : Bool). differ a (pin_bit c w k pin t)) (same_pin c w is_run k j there pin (t - 1))
      ∙ ap (λ (b : Bool). differ (pin_at w.run j (choice_of w k) pin (t - 1)) b)
      (same_pin c w is_run k j there pin t)
      ∙ differ_from (pin_at w.run j (choice_of w k) pin (t - 1))
      (pin_at w.run j (choice_of w k) pin t) apart

  pub is_edge : (rise change : ℕ) → w.named ≡ Edge rise change →
      IsSetupHoldBreak w.run j (choice_of w k) from rise change →
      min rise change < from + period →
      IsEdge k (setup_of j.limits) (hold_of j.limits) (stretch from (from + period))
      (fact_holds c w)
  is_edge rise change named at first =
      let first_is = ap first_named named in
      let second_is = ap second_named named in
      let after = at.edge_in.after in
      let before = at.not_before in
      let behind = at.not_after in
      let change_after = at.change_in.after in
      record {
        first = first_in c w rise change first_is second_is from (from + period + setup_of j.limits)
            after (omega (arith, first, before)) at.edge_in.ends;
        high = λ t is.
            subst (λ (u : ℕ). pin_bit c w k 0 u ≡ true)
            (at_first c w rise change first_is second_is t is)
            (shown 0 rise true at.rises.1);
        low = λ t is.
            subst (λ (u : ℕ). pin_bit c w k 0 (u - 1) ≡ false)
            (at_first c w rise change first_is second_is t is)
            (shown 0 (rise - 1) false at.rises.0);
        near = λ t is.
            let same = at_first c w rise change first_is second_is t is in
            record {
              tick = change;
              from = omega (arith, same, before, change_after);
              before = omega (arith, same, behind);
              is = is_second c w rise change first_is second_is;
            };
        lasts = λ t is. lasts_then c w rise change first_is second_is t at.change_in.ends is;
        changes = λ t is.
            subst (λ (u : ℕ). fact_holds c w (Step k 1 u) ≡ true)
            (at_second c w rise change first_is second_is t is)
            (stepped 1 change at.changes);
      }

  pub is_narrow : (level : Bool) (start end : ℕ) → w.named ≡ Pulse start end →
      IsWidthBreak w.run j (choice_of w k) level from start end → start < from + period →
      IsNarrow k (limit_of j level) level (stretch from (from + period)) (fact_holds c w)
  is_narrow level start end named at first =
      let first_is = ap first_named named in
      let second_is = ap second_named named in
      let pulse = at.is_pulse in
      let ordered = pulse.ordered in
      let narrow = at.narrow in
      record {
        first = first_in c w start end first_is second_is from (from + period) at.start_in.after
            first
            at.start_in.ends;
        begins = λ t is.
            subst (λ (u : ℕ). pin_bit c w k 0 u ≡ level)
            (at_first c w start end first_is second_is t is)
            (shown 0 start level (pulse.during start (omega arith) ordered));
        before = λ t is.
            subst (λ (u : ℕ). pin_bit c w k 0 (u - 1) ≡ not level)
            (at_first c w start end first_is second_is t is)
            (shown 0 (start - 1) (not level) pulse.before);
        near = λ t is.
            let same = at_first c w start end first_is second_is t is in
            record {
              tick = end;
              from = omega (arith, same, ordered);
              before = omega (arith, same, narrow);
              is = is_second c w start end first_is second_is;
            };
        lasts = λ t is. lasts_then c w start end first_is second_is t at.end_in.ends is;
        ends = λ t is.
            subst (λ (u : ℕ). pin_bit c w k 0 u ≡ not level)
            (at_second c w start end first_is second_is t is)
            (shown 0 end (not level) pulse.behind);
        after = λ t is.
            subst (λ (u : ℕ). pin_bit c w k 0 (u - 1) ≡ level)
            (at_second c w start end first_is second_is t is)
            (shown 0 (end - 1) level (pulse.during (end - 1) (omega (arith, ordered))
            (omega (arith, ordered))));
      }

  pub is_let_through : (closed : Bool) (tick marked pin : ℕ) → w.named ≡ Mark tick marked pin →
      IsMarkBreak w.run j (choice_of w k) closed from marked pin tick → tick < from + period →
      IsLetThrough k marked (length j.pins) closed (stretch from (from + period)) (fact_holds c w)
  is_let_through closed tick marked pin named at first =
      let first_is = ap first_named named in
      let second_is = ap second_named named in
      let own : (other : ℕ) → is_beside w.named other ≡ (pin == other) = λ other.
      ap (λ (n : Named). is_beside n other) named in
      record {
        first = first_in c w tick tick first_is second_is from (from + period) at.marked_in.after
            first
            at.marked_in.ends;
        beside = record {
          pin = pin;
          below = at.below;
          apart = at.apart;
          is = own pin ∙ eq-eqb pin pin refl;
        };
        leaves = λ t is both.
            let same = at_first c w tick tick first_is second_is t is in
            at.leaves (
              sym (same_pin c w is_run k j there marked (tick - 1))
                  ∙ ap (λ (u : ℕ). pin_bit c w k marked (u - 1)) same ∙ both.0,
              sym (same_pin c w is_run k j there marked tick)
                  ∙ ap (λ (u : ℕ). pin_bit c w k marked u) same ∙ both.1,
            );
        steps = λ t other is beside.
            subst (λ (u : ℕ). fact_holds c w (Step k other u) ≡ true)
            (at_first c w tick tick first_is second_is t is)
            (subst (λ (p : ℕ). fact_holds c w (Step k p tick) ≡ true)
            (eqb-true pin other (sym (own other) ∙ beside)) (stepped pin tick at.changes));
      }

-- ---- breaks of an assertion

module _ (c : Circuit) (w : World) (from period i : ℕ) (net : Net) where
  pub is_lacking : (driver tick : ℕ) → w.named ≡ NetStep tick →
      IsNetBreak c w.run i from net driver tick → tick < from + period →
      IsLacking c.header net.spec i (stretch from (from + period)) (fact_holds c w)
  is_lacking driver tick named at first =
      let first_is = ap first_named named in
      let second_is = ap second_named named in
      record {
        first = first_in c w tick tick first_is second_is from (from + period) at.after first
            at.ends;
        lacks = λ t is.
            subst
            (λ (u : ℕ).
            has (wide_at c.header net.spec u) (net_signal w.run i (u - 1))
            (net_signal w.run i u) ≡ false)
            (at_first c w tick tick first_is second_is t is) at.lacks;
      }

-- ---- the break of a world, by its constraint

module _ (c : Circuit) (values : List CaseValue) (x : Constraint) (printed : ℕ) (w : World)
    (is : IsWorld c values x printed w) where
  abbrev near : Stretch
  near = stretch printed (printed + period c.header)

  module _ (k : ℕ) (j : Instance) (there : slice_get c.instances k ≡ Some j) where
    -- what is said of the instance and its choice is said of these
    here : (Is : Instance → Choice → Type 0) → IsAtInstance c w.run k Is → Is j (choice_of w k)
    here Is at =
        let found = sym there ∙ at.instance_is in
        let same : at.instance ≡ j = cc in
        let chosen : at.choice ≡ choice_of w k = sym (ap choice_in at.choice_is) in
        subst (λ (i : Instance). Is i (choice_of w k)) same
        (subst (λ (choice : Choice). Is at.instance choice) chosen at.is)

    by_form : x ≡ OfInstance k →
        IsFormBreak (form_of j.kind) (closes_of j.kind) w.run j (choice_of w k) printed w.named
    by_form of =
        here
        (λ i choice. IsFormBreak (form_of i.kind) (closes_of i.kind) w.run i choice printed w.named)
        (subst (λ (y : Constraint). IsBreakAt c w.run y printed w.named) of is.cut.breaks)

    pub edge_in : x ≡ OfInstance k → form_of j.kind ≡ Checker AboutRise →
        IsEdge k (setup_of j.limits) (hold_of j.limits) near (fact_holds c w)
    edge_in of form =
        by_named w.named refl
        (subst
        (λ (f : Form). IsFormBreak f (closes_of j.kind) w.run j (choice_of w k) printed w.named)
        form
        (by_form of)) is.cut.first
      where
        by_named : (n : Named) → w.named ≡ n →
            IsCheckBreak AboutRise w.run j (choice_of w k) printed n →
            first_of n < printed + period c.header →
            IsEdge k (setup_of j.limits) (hold_of j.limits) near (fact_holds c w)
        by_named (Edge rise change) named at first =
            is_edge c w is.cut.is_run k j there printed (period c.header) rise change named at first
        by_named (High rise fall change) named at first = absurd at
        by_named (Pulse start end) named at first = absurd at
        by_named (Mark tick marked pin) named at first = absurd at
        by_named (NetStep tick) named at first = absurd at

    pub narrow_in : (level : Bool) → x ≡ OfPulse k level →
        IsNarrow k (limit_of j level) level near (fact_holds c w)
    narrow_in level of =
        by_named (checks_pulses j.kind) w.named refl
        (here
        (λ i choice. IsPulseBreak (checks_pulses i.kind) level w.run i choice printed w.named)
        (subst (λ (y : Constraint). IsBreakAt c w.run y printed w.named) of is.cut.breaks))
        is.cut.first
      where
        by_named : (measures : Bool) (n : Named) → w.named ≡ n →
            IsPulseBreak measures level w.run j (choice_of w k) printed n →
            first_of n < printed + period c.header →
            IsNarrow k (limit_of j level) level near (fact_holds c w)
        by_named true (Pulse start end) named at first =
            is_narrow c w is.cut.is_run k j there printed (period c.header) level start end named at
            first
        by_named true (Edge rise change) named at first = absurd at
        by_named true (High rise fall change) named at first = absurd at
        by_named true (Mark tick marked pin) named at first = absurd at
        by_named true (NetStep tick) named at first = absurd at
        by_named false n named at first = absurd at

    pub let_through_in : (closed : Bool) (place : ℕ) → x ≡ OfInstance k → form_of j.kind ≡ Gate →
        closes_of j.kind ≡ Some closed → PinsFit j.kind j.pins → marked_pin j ≡ Some place →
        IsLetThrough k place (length j.pins) closed near (fact_holds c w)
    let_through_in closed place of form closes fits place_is =
        by_named w.named refl
        (subst
        (λ (o : Option Bool). IsClosedBreak o w.run j (choice_of w k) printed w.named) closes
        (subst
        (λ (f : Form). IsFormBreak f (closes_of j.kind) w.run j (choice_of w k) printed w.named)
        form
        (by_form of))) is.cut.first
      where
        by_named : (n : Named) → w.named ≡ n →
            IsClosedBreak (Some closed) w.run j (choice_of w k) printed n →
            first_of n < printed + period c.header →
            IsLetThrough k place (length j.pins) closed near (fact_holds c w)
        by_named (Mark tick marked pin) named at first =
            let own = marked_is j marked (few_marks j fits) at.is_marked in
            let same : marked ≡ place = cc in
            subst
            (λ (p : ℕ). IsLetThrough k p (length j.pins) closed near (fact_holds c w)) same
            (is_let_through c w is.cut.is_run k j there printed (period c.header) closed tick marked
            pin
            named at first)
        by_named (Edge rise change) named at first = absurd at
        by_named (High rise fall change) named at first = absurd at
        by_named (Pulse start end) named at first = absurd at
        by_named (NetStep tick) named at first = absurd at

  pub lacking_in : (i : ℕ) (net : Net) → slice_get c.nets i ≡ Some net → x ≡ OfNet i →
      IsLacking c.header net.spec i near (fact_holds c w)
  lacking_in i net there of =
      by_named w.named refl
      (subst (λ (y : Constraint). IsBreakAt c w.run y printed w.named) of is.cut.breaks)
      is.cut.first
    where
      by_named : (n : Named) → w.named ≡ n → IsStepBreak c w.run i printed n →
          first_of n < printed + period c.header →
          IsLacking c.header net.spec i near (fact_holds c w)
      by_named (NetStep tick) named at first =
          let found = sym there ∙ at.is.net_is in
          let same : at.net ≡ net = cc in
          subst (λ (m : Net). IsLacking c.header m.spec i near (fact_holds c w)) same
          (is_lacking c w printed (period c.header) i at.net at.driver tick named at.is first)
      by_named (Edge rise change) named at first = absurd at
      by_named (High rise fall change) named at first = absurd at
      by_named (Pulse start end) named at first = absurd at
      by_named (Mark tick marked pin) named at first = absurd at
