-- What is known of facts about nets that nothing drives is true of the facts of a run.
use Rattle.std.specs.Prelude.{◌==◌, slice_get}
use Rattle.std.proofs.Common.{◌≡◌, ℕ, ◌+◌, ◌-◌, ◌<◌, ◌≤◌, zero, suc, Bool, true, List, [], ◌∷◌, length, refl, sym, ap, subst, ◌∙◌, arith, Some, None}
use Rattle.std.proofs.lemmas.Bool.{eqb-true, ltb-true}
use Rattle.std.proofs.lemmas.Option.{get_or_from_slice_get, slice_get_within}
use Rattle.scald_base.specs.Clock.{back, ideal}
use Rattle.scald_base.specs.Fitting.{skew_of}
use Rattle.scald_base.specs.Time.{period}
use Rattle.scald_base.specs.declared.assertion.AssertSpec.{AssertSpec}
use Rattle.scald_base.specs.declared.assertion.AssertSpec.TheVariants.{None as Unasserted, Precision, Stable}
use Rattle.scald_base.specs.declared.assertion.ClockSpec.{ClockSpec}
use Rattle.scald_base.specs.declared.assertion.Span.{Span}
use Rattle.flat_circuit.specs.declared.case.CaseValue.{CaseValue}
use Rattle.flat_circuit.specs.declared.net.Net.{Net}
use Rattle.flat_circuit.specs.Circuit.{Circuit}
use Rattle.flat_circuit.specs.Run.{net_signal}
use Rattle.pin_waves.specs.Meets.{Meets, MeetsStable}
use Rattle.narrowing.specs.declared.constraint.Constraint.{Constraint}
use Rattle.run_clauses.specs.declared.fact.Fact.TheVariants.{Lasts, Net as OnNet}
use Rattle.run_clauses.specs.declared.undriven.Input.{Input}
use Rattle.run_clauses.specs.Meaning.{HasValue, IsClock, IsSameAt, Stays}
use Rattle.run_clauses.specs.World.{IsWorld, World, fact_holds}

abbrev input : ℕ → ℕ → Input
input i t = record { net = i; tick = t }

-- a signal that never steps is as it was at tick 0
as_first : (n : ℕ) (x : ℕ → Bool) → ((t : ℕ) → 1 ≤ t → t < n → x (t - 1) ≡ x t) → (t : ℕ) → t < n →
    x t ≡ x 0
as_first n x same zero below = refl
as_first n x same (suc t) below =
    let earlier : suc t - 1 ≡ t = omega arith in
    sym (same (suc t) (omega arith) below) ∙ ap x earlier
    ∙ as_first n x same t (omega (arith, below))

-- a list that is tested to be empty
pub none_if_empty : {T : Type 0} (xs : List T) → (length xs == 0) ≡ true → xs ≡ []
none_if_empty [] is = refl
none_if_empty (x ∷ xs) is =
    let same = eqb-true (length (x ∷ xs)) 0 is in
    absurd (omega (arith, same))

module _ (c : Circuit) (values : List CaseValue) (x : Constraint) (printed : ℕ) (w : World)
    (is : IsWorld c values x printed w) (i : ℕ) (t : ℕ) where
  abbrev bits : ℕ → Bool
  bits = net_signal w.run i

  in_run : fact_holds c w (Lasts t) ≡ true → t < w.run.ticks
  in_run lasts = ltb-true t w.run.ticks lasts

  -- the bit of a case
  pub of_case : (one : Bool) → HasValue values i one → fact_holds c w (Lasts t) ≡ true →
      fact_holds c w (OnNet i t) ≡ one
  of_case one has lasts =
      let value : CaseValue = record { net = i; one = one } in
      let within = slice_get_within values has.place value has.at in
      subst (λ (v : CaseValue). (u : ℕ) → u < w.run.ticks → net_signal w.run v.net u ≡ v.one)
      (get_or_from_slice_get values has.place value value has.at)
      (is.cut.in_case has.place value within) t (in_run lasts)

  module _ (net : Net) (there : slice_get c.nets i ≡ Some net) (undriven : net.driver ≡ None) where
    meets : (spec : AssertSpec) → net.spec ≡ spec → Meets c.header spec w.run.ticks bits
    meets spec same =
        subst (λ (s : AssertSpec). Meets c.header s w.run.ticks bits) same
        (is.cut.meets i net there undriven)

    -- no assertion
    pub of_none : net.spec ≡ Unasserted → IsSameAt (input i t) 0 (fact_holds c w)
    of_none none lasts = as_first w.run.ticks bits (meets Unasserted none) t (in_run lasts)

    -- stable in intervals, or all the time
    never_steps : MeetsStable c.header [] w.run.ticks bits → (u : ℕ) → 1 ≤ u → u < w.run.ticks →
        bits (u - 1) ≡ bits u
    never_steps stable u from below = stable u from below refl

    pub of_stable : (spans : List Span) → net.spec ≡ Stable spans →
        Stays (input i t) c.header spans (fact_holds c w)
    of_stable spans same =
        let stable = meets (Stable spans) same in
        record {
          still = λ from quiet_here lasts. sym (stable t from (in_run lasts) quiet_here);
          always = λ none lasts.
              as_first w.run.ticks bits
              (never_steps
              (subst (λ (ss : List Span). MeetsStable c.header ss w.run.ticks bits) none stable)) t
              (in_run lasts);
        }

    -- a `.P` clock
    pub of_clock : (clock : ClockSpec) → net.spec ≡ Precision clock →
        IsClock (input i t) c.header clock (fact_holds c w)
    of_clock clock same lasts by later =
        is.late i clock (record { is = net; there = there; undriven = undriven; precise = same }) t
        (in_run lasts)
        ∙ ap
        (λ (n : ℕ). ideal clock c.header
        (back (period c.header) (t + (skew_of clock c.header.pskew).0) n))
        (eqb-true (w.offset i) by later)
