-- Clauses that are true of every world, and refuted, leave no run.
use Rattle.std.proofs.Common.{◌≡◌, ℕ, ◌≤◌, true≢false, List, [], refl, sym, subst, ◌∙◌, Option, Some, None}
use Rattle.std.specs.Prelude.{slice_get}
use Rattle.scald_base.specs.Time.{IsHeader}
use Rattle.scald_base.specs.Signal.{Signal}
use Rattle.scald_base.specs.declared.assertion.AssertSpec.{AssertSpec}
use Rattle.scald_base.specs.declared.assertion.AssertSpec.TheVariants.{None as Unasserted, Precision, Clock, Stable}
use Rattle.scald_base.specs.declared.assertion.ClockSpec.{ClockSpec}
use Rattle.flat_circuit.specs.declared.case.CaseValue.{CaseValue}
use Rattle.flat_circuit.specs.declared.net.Net.{Net}
use Rattle.flat_circuit.specs.Circuit.{Circuit}
use Rattle.flat_circuit.specs.Run.{Run, net_signal}
use Rattle.fixpoint_engine.specs.Interface.{MeetsInterface}
use Rattle.fixpoint_engine.specs.Reach.{reach}
use Rattle.pin_waves.specs.Meets.{Meets}
use Rattle.narrowing.specs.declared.constraint.Constraint.{Constraint}
use Rattle.narrowing.specs.Part.{IsLate, MayBeLate, most_late}
use Rattle.window_law.specs.Window.{HasCut, IsShort}
use Rattle.window_law.proofs.Finite.{breaks_are_in_window}
use Rattle.run_clauses.specs.declared.fact.Said.{Said}
use Rattle.run_clauses.specs.Clauses.{AreRefuted}
use Rattle.run_clauses.specs.Meaning.{Adds, Bits}
use Rattle.run_clauses.specs.Refuting.{NeverBreaksFrom}
use Rattle.run_clauses.specs.World.{IsWorld, StayTrue, World, fact_holds}

-- ---- by how much a clock is late

module _ (c : Circuit) (run : Run) (meets : MeetsInterface c run) (i : ℕ) where
  abbrev bits : Signal
  bits = net_signal run i

  abbrev by_spec : (spec : AssertSpec) → Meets c.header spec run.ticks bits → ℕ
  by_spec Unasserted is = 0
  by_spec (Precision clock) is = is.by
  by_spec (Clock clock) is = 0
  by_spec (Stable spans) is = 0

  abbrev by_driver : (net : Net) → slice_get c.nets i ≡ Some net →
      (driver : Option ℕ) → net.driver ≡ driver → ℕ
  by_driver net there None undriven = by_spec net.spec (meets i net there undriven)
  by_driver net there (Some k) driven = 0

  abbrev by_net : (found : Option Net) → slice_get c.nets i ≡ found → ℕ
  by_net None there = 0
  by_net (Some net) there = by_driver net there net.driver refl

  abbrev pub late_by : ℕ
  late_by = by_net (slice_get c.nets i) refl

  -- it is that of its assertion
  spec_late : (spec : AssertSpec) (is : Meets c.header spec run.ticks bits) (clock : ClockSpec) →
      spec ≡ Precision clock →
      IsLate c.header clock run.ticks bits (by_spec spec is)
      × (by_spec spec is ≤ most_late c.header clock)
  spec_late Unasserted is clock same = absurd (cc)
  spec_late (Precision own) is clock same =
      let one : own ≡ clock = cc in
      subst
      (λ (k : ClockSpec). IsLate c.header k run.ticks bits is.by × (is.by ≤ most_late c.header k))
      one
      (is.bits, is.within)
  spec_late (Clock own) is clock same = absurd (cc)
  spec_late (Stable spans) is clock same = absurd (cc)

  driver_late : (net : Net) (there : slice_get c.nets i ≡ Some net) (driver : Option ℕ)
      (driven : net.driver ≡ driver) (clock : ClockSpec) → net.driver ≡ None →
      net.spec ≡ Precision clock →
      IsLate c.header clock run.ticks bits (by_driver net there driver driven)
      × (by_driver net there driver driven ≤ most_late c.header clock)
  driver_late net there None undriven clock none same =
      spec_late net.spec (meets i net there undriven) clock same
  driver_late net there (Some k) driven clock none same = absurd (cc (driven, none))

  net_late : (found : Option Net) (there : slice_get c.nets i ≡ found) (clock : ClockSpec) →
      MayBeLate c i clock →
      IsLate c.header clock run.ticks bits (by_net found there)
      × (by_net found there ≤ most_late c.header clock)
  net_late None there clock may = let found = may.there in absurd (cc (there, found))
  net_late (Some net) there clock may =
      let found = may.there in
      let same : may.is ≡ net = cc (there, found) in
      driver_late net there net.driver refl clock
      (subst (λ (n : Net). n.driver ≡ None) same may.undriven)
      (subst (λ (n : Net). n.spec ≡ Precision clock) same may.precise)

  pub is_late : (clock : ClockSpec) → MayBeLate c i clock →
      IsLate c.header clock run.ticks bits late_by × (late_by ≤ most_late c.header clock)
  is_late clock may = net_late (slice_get c.nets i) refl clock may

-- ---- a world

module _ (c : Circuit) (values : List CaseValue) (x : Constraint) (printed : ℕ)
    (h : HasCut c values x printed) where
  abbrev world : World
  world = record {
    run = h.run;
    named = h.named;
    offset = λ i. late_by c h.run h.cut.meets i;
  }

  is_world : IsWorld c values x printed world
  is_world = record {
    cut = h.cut;
    late = λ i clock may. (is_late c h.run h.cut.meets i clock may).0;
    few = λ i clock may. (is_late c h.run h.cut.meets i clock may).1;
  }

  pub none_left : (clauses : List (List Said)) → StayTrue c values x printed [] clauses →
      AreRefuted clauses → ⊥
  none_left clauses stay refuted =
      true≢false (sym (stay world is_world refl) ∙ refuted (fact_holds c world))

pub never_breaks : (c : Circuit) (values : List CaseValue) (x : Constraint) (printed : ℕ)
    (clauses : List (List Said)) → IsHeader c.header → reach c ≤ printed → IsShort c x →
    StayTrue c values x printed [] clauses → AreRefuted clauses → NeverBreaksFrom c values x printed
never_breaks c values x printed clauses header far short stay refuted run is meets in_case breaks =
    none_left c values x printed
    (breaks_are_in_window c values x printed run header far short is meets in_case breaks) clauses
    stay
    refuted

-- one step after the other
pub stay_both : (c : Circuit) (values : List CaseValue) (x : Constraint) (printed : ℕ)
    (old between new : List (List Said)) → StayTrue c values x printed old between →
    StayTrue c values x printed between new → StayTrue c values x printed old new
stay_both c values x printed old between new one two w is before = two w is (one w is before)

-- what is added is true of every world, of which it is true
pub stay_by : (c : Circuit) (values : List CaseValue) (x : Constraint) (printed : ℕ)
    (Such : Bits → Type 0)
    (old new : List (List Said)) → Adds Such old new →
    ((w : World) → IsWorld c values x printed w → Such (fact_holds c w)) →
    StayTrue c values x printed old new
stay_by c values x printed Such old new adds such w is before = adds (fact_holds c w)
    (such w is) before
