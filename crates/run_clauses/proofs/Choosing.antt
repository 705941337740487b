-- Each choice of a run is one of the numbers of its bounds.
use Rattle.std.specs.Prelude.{slice_get}
use Rattle.std.proofs.Common.{◌≡◌, ℕ, zero, suc, ◌+◌, true, List, [], ◌∷◌, get_or, refl, subst, sym, arith, Option, Some, None}
use Rattle.std.proofs.lemmas.Bool.{eq-eqb}
use Rattle.scald_base.specs.Time.{Bounds}
use Rattle.scald_base.specs.declared.assertion.ClockSpec.{ClockSpec}
use Rattle.element_kinds.specs.declared.form.Form.{Form}
use Rattle.element_kinds.specs.declared.form.Form.TheVariants.{Gate, Change, Register, Latch as Enabled, Checker}
use Rattle.element_kinds.specs.Kinds.{form_of}
use Rattle.flat_circuit.specs.declared.case.CaseValue.{CaseValue}
use Rattle.flat_circuit.specs.declared.instance.Instance.{Instance}
use Rattle.flat_circuit.specs.declared.instance.Pin.{Pin}
use Rattle.flat_circuit.specs.declared.net.Net.{Net}
use Rattle.flat_circuit.specs.declared.split.Split.{Split}
use Rattle.flat_circuit.specs.Circuit.{Circuit}
use Rattle.flat_circuit.specs.Run.{DelayFitsForm, DelaysFit, IsRun, WireFits, WiresFit, Within}
use Rattle.flat_circuit.specs.Split.{two_delays}
use Rattle.fixpoint_engine.specs.Waves.{target_wire}
use Rattle.fixpoint_engine.proofs.Permitted.{wire_within}
use Rattle.narrowing.specs.declared.constraint.Constraint.{Constraint}
use Rattle.narrowing.specs.Part.{HasDelay, MayBeLate, most_late}
use Rattle.run_clauses.specs.declared.choices.Range.{Range}
use Rattle.run_clauses.specs.declared.fact.Fact.{Fact}
use Rattle.run_clauses.specs.declared.fact.Fact.TheVariants.{Delay, Fall, Offset, Rise, Wire}
use Rattle.run_clauses.specs.Choices.{AreBounds, IsChosen, IsOfClock, IsOfDelay, IsOfWire, choosing, numbers}
use Rattle.run_clauses.specs.World.{IsWorld, World, choice_of, fact_holds}
use Rattle.run_clauses.proofs.Worlds.{here}

has_delay : (form : Form) (b : Bounds) (n : ℕ) → HasDelay form → DelayFitsForm form b n → Within b n
has_delay Gate b n has fits = fits
has_delay Change b n has fits = absurd has
has_delay (Register forced) b n has fits = fits
has_delay (Enabled forced) b n has fits = fits
has_delay (Checker check) b n has fits = absurd has

-- the wire to the pin at a place
wire_at : (nets : List Net) (ps : List Pin) (ws : List ℕ) (p : ℕ) (pin : Pin) →
    WiresFit nets ps ws →
    slice_get ps p ≡ Some pin → WireFits nets pin.target (get_or ws p 0)
wire_at nets [] ws p pin fit is = cc
wire_at nets (q ∷ qs) [] p pin fit is = absurd fit
wire_at nets (q ∷ qs) (w ∷ ws) zero pin fit is =
    let same : q ≡ pin = cc in
    subst (λ (r : Pin). WireFits nets r.target w) same fit.0
wire_at nets (q ∷ qs) (w ∷ ws) (suc p) pin fit is = wire_at nets qs ws p pin fit.1 is

module _ (c : Circuit) (w : World) where
  one_of : (fact : Fact) (b : Bounds) (n : ℕ) → Within b n →
      fact_holds c w (choosing fact n) ≡ true →
      IsChosen c w fact (numbers b)
  one_of fact b n within is =
      let high = within.1 in
      record { number = n; from = within.0; end = omega (arith, high); is = is }

  module _ (is_run : IsRun c w.run) (k : ℕ) (j : Instance)
      (there : slice_get c.instances k ≡ Some j) where
    pub delay_chosen : (d : ℕ) → two_delays j.kind j.split ≡ None → HasDelay (form_of j.kind) →
        IsChosen c w (Delay k d) (numbers j.delay)
    delay_chosen d one has =
        let fits =
        subst (λ (s : Option Split). DelaysFit j.kind j.delay s (choice_of w k)) one
        (here c w is_run k j there).delay in
        let own = (choice_of w k).delay in
        one_of (Delay k d) j.delay own (has_delay (form_of j.kind) j.delay own has fits)
        (eq-eqb own own refl)

    pub rise_chosen : (d : ℕ) (s : Split) → two_delays j.kind j.split ≡ Some s →
        IsChosen c w (Rise k d) (numbers s.rise)
    rise_chosen d s two =
        let fits =
        subst (λ (o : Option Split). DelaysFit j.kind j.delay o (choice_of w k)) two
        (here c w is_run k j there).delay in
        let own = (choice_of w k).rise in
        one_of (Rise k d) s.rise own fits.0 (eq-eqb own own refl)

    pub fall_chosen : (d : ℕ) (s : Split) → two_delays j.kind j.split ≡ Some s →
        IsChosen c w (Fall k d) (numbers s.fall)
    fall_chosen d s two =
        let fits =
        subst (λ (o : Option Split). DelaysFit j.kind j.delay o (choice_of w k)) two
        (here c w is_run k j there).delay in
        let own = (choice_of w k).fall in
        one_of (Fall k d) s.fall own fits.1 (eq-eqb own own refl)

    pub wire_chosen : (p d : ℕ) (pin : Pin) → slice_get j.pins p ≡ Some pin →
        IsChosen c w (Wire k p d) (numbers (target_wire c.nets pin.target))
    wire_chosen p d pin is =
        let own = get_or (choice_of w k).wires p 0 in
        let fits = wire_at c.nets j.pins (choice_of w k).wires p pin
        (here c w is_run k j there).wires is in
        one_of (Wire k p d) (target_wire c.nets pin.target) own
        (wire_within c.nets pin.target own fits) (eq-eqb own own refl)

  pub offset_chosen : (values : List CaseValue) (x : Constraint) (printed i d : ℕ)
      (clock : ClockSpec) →
      IsWorld c values x printed w → MayBeLate c i clock →
      IsChosen c w (Offset i d) (record { from = 0; end = most_late c.header clock + 1 })
  offset_chosen values x printed i d clock is may =
      let few = is.few i clock may in
      let own = w.offset i in
      record {
        number = own;
        from = omega arith;
        end = omega (arith, few);
        is = eq-eqb own own refl;
      }

-- ---- the bounds of facts

module _ (c : Circuit) (k : ℕ) (j : Instance) (there : slice_get c.instances k ≡ Some j) where
  pub of_delay : (range : Range) → IsOfDelay j range → (n : ℕ) → AreBounds c (Delay k n) range
  of_delay range of n values x printed w is =
      subst (λ (r : Range). IsChosen c w (Delay k n) r) (sym of.is)
      (delay_chosen c w is.cut.is_run k j there n of.one of.has)

  pub of_rise : (s : Split) → two_delays j.kind j.split ≡ Some s → (n : ℕ) →
      AreBounds c (Rise k n) (numbers s.rise)
  of_rise s two n values x printed w is = rise_chosen c w is.cut.is_run k j there n s two

  pub of_fall : (s : Split) → two_delays j.kind j.split ≡ Some s → (n : ℕ) →
      AreBounds c (Fall k n) (numbers s.fall)
  of_fall s two n values x printed w is = fall_chosen c w is.cut.is_run k j there n s two

  pub of_wire : (p : ℕ) (range : Range) → IsOfWire c j p range → (n : ℕ) →
      AreBounds c (Wire k p n) range
  of_wire p range of n values x printed w is =
      subst (λ (r : Range). IsChosen c w (Wire k p n) r) (sym of.is)
      (wire_chosen c w is.cut.is_run k j there p n of.pin of.there)

pub of_offset : (c : Circuit) (i : ℕ) (net : Net) → slice_get c.nets i ≡ Some net →
    (range : Range) →
    IsOfClock c.header net range → (n : ℕ) → AreBounds c (Offset i n) range
of_offset c i net there range of n values x printed w is =
    subst (λ (r : Range). IsChosen c w (Offset i n) r) (sym of.is)
    (offset_chosen c w values x printed i n of.clock is
    (record { is = net; there = there; undriven = of.undriven; precise = of.precise }))
