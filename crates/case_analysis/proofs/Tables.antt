-- Tests that compute and say the same as the definitions: whether a run is in a case, and which
-- nets are the cone of one.
use Prim.Native.String.{String}
use Rattle.std.proofs.Common.{inl, inr, ◌≡◌, ◌⊎◌, ℕ, zero, suc, ◌+◌, ◌<◌, ◌≤◌, Bool, true, false, not, ◌&&◌, ◌||◌, ◌==◌, List, [], ◌∷◌, length, codes, refl, ap, subst, eqb-true, Option, Some, None}
use Rattle.std.specs.Prelude.{⊤}
use Rattle.std.specs.List.{list_all}
use Rattle.std.proofs.lemmas.Bool.{and_parts, and_from, or_cases, or_left, or_right, cases_lt}
use Rattle.std.proofs.lemmas.List.{get_or_past}
use Rattle.std.proofs.lemmas.List.Elements.{All-nil, All-cons, All-head, All-tail}
use Rattle.std.proofs.lemmas.Option.{slice_get_past}
use Rattle.vector_names.specs.declared.bits.Target.{Target}
use Rattle.vector_names.specs.declared.bits.Target.TheVariants.{Net as OnNet, Constant}
use Rattle.flat_circuit.specs.declared.case.CaseValue.{CaseValue}
use Rattle.element_kinds.specs.declared.kind.Kind.{Kind}
use Rattle.flat_circuit.specs.declared.instance.Pin.{Pin}
use Rattle.flat_circuit.specs.declared.instance.Instance.{Instance}
use Rattle.flat_circuit.specs.declared.net.Net.{Net}
use Rattle.element_kinds.specs.Kinds.{listens}
use Rattle.flat_circuit.specs.Circuit.{Circuit, driver_in, driver, instance_in}
use Rattle.flat_circuit.specs.Run.{Run, net_signal}
use Rattle.pin_waves.proofs.Tests.{bits, ticks, same_bit, same_bit_is, same_bit_from, implies, implies_is, not_true, all_below, each_passes, all_pass}
use Rattle.fixpoint_engine.specs.Work.{is_on_any, hears_from, hears_in}
use Rattle.fixpoint_engine.proofs.Settling.{heard_in}
use Rattle.case_analysis.specs.Case.{is_set, IsInCase, InCone, Is_set, Hears_one, IsCone}

-- ---- runs in cases

abbrev pub is_held : Run → CaseValue → Bool
is_held run v = all_below (λ t. same_bit (net_signal run v.net t) v.one) run.ticks

abbrev pub Holds : Run → CaseValue → Type 0
Holds run v = (t : ℕ) → t < run.ticks → net_signal run v.net t ≡ v.one

abbrev pub in_case : List CaseValue → Run → Bool
in_case values run = list_all (is_held run) values

in_case_is : (values : List CaseValue) (run : Run) → in_case values run ≡ true → IsInCase values run
in_case_is [] run passed = All-nil (Holds run)
in_case_is (v ∷ values) run passed =
    let parts = and_parts (is_held run v) (in_case values run) passed in
    All-cons (Holds run) v values
    (λ t below. same_bit_is _ _
    (each_passes (λ i. same_bit (net_signal run v.net i) v.one) run.ticks parts.0 t below))
    (in_case_is values run parts.1)

in_case_from : (values : List CaseValue) (run : Run) → IsInCase values run →
    in_case values run ≡ true
in_case_from [] run is = refl
in_case_from (v ∷ values) run is =
    and_from (is_held run v) (in_case values run)
    (all_pass (λ i. same_bit (net_signal run v.net i) v.one) run.ticks
    (λ t below. same_bit_from _ _ (All-head (Holds run) v values is t below)))
    (in_case_from values run (All-tail (Holds run) v values is))

abbrev pub InEach : Run → List (List CaseValue) → Type 0
InEach run [] = ⊤
InEach run (values ∷ more) = IsInCase values run × InEach run more

abbrev pub InNone : Run → List (List CaseValue) → Type 0
InNone run [] = ⊤
InNone run (values ∷ more) = (¬ IsInCase values run) × InNone run more

-- The run is in the ones of these cases, and not in the others.
pub record InCases (run : Run) (of others : List (List CaseValue)) : Type 0 where
  pub each : InEach run of
  pub none : InNone run others

in_each : (run : Run) (cases : List (List CaseValue)) →
    list_all (λ values. in_case values run) cases ≡ true → InEach run cases
in_each run [] passed = tt
in_each run (values ∷ more) passed =
    let parts = and_parts (in_case values run) (list_all (λ other. in_case other run) more) passed in
    (in_case_is values run parts.0, in_each run more parts.1)

in_none : (run : Run) (cases : List (List CaseValue)) →
    list_all (λ values. not (in_case values run)) cases ≡ true → InNone run cases
in_none run [] passed = tt
in_none run (values ∷ more) passed =
    let parts = and_parts (not (in_case values run))
    (list_all (λ other. not (in_case other run)) more) passed in
    let failed : in_case values run ≡ false = not_true (in_case values run) parts.0 in (
      λ is. let also : in_case values run ≡ true = in_case_from values run is in
          absurd (cc),
      in_none run more parts.1,
    )

pub cases : {run : Run} {of others : List (List CaseValue)} →
    list_all (λ values. in_case values run) of ≡ true →
    list_all (λ values. not (in_case values run)) others ≡ true → InCases run of others
cases {run = run} {of = of} {others = others} passed failed =
    record { each = in_each run of passed; none = in_none run others failed }

-- ---- cones

-- what a case reaches in so many steps
abbrev pub reached_in : Circuit → List CaseValue → ℕ → ℕ → Bool
reached_in c values zero i = is_set values i
reached_in c values (suc k) i =
    reached_in c values k i || hears_in (reached_in c values k) (driver c i)

reached_is : (c : Circuit) (values : List CaseValue) (k i : ℕ) → reached_in c values k i ≡ true →
    InCone c values i
reached_is c values zero i passed = Is_set passed
reached_is c values (suc k) i passed =
    elim (or_cases (reached_in c values k i) (hears_in (reached_in c values k) (driver c i)) passed) [
      | inl before ↦ reached_is c values k i before
      | inr hears ↦ let at = heard_in (reached_in c values k) (driver c i) hears in
          Hears_one (reached_is c values k at.net at.of) at.is
    ]

-- an element that hears a net of a set hears the set
more_target : (set : ℕ → Bool) (from : ℕ) (t : Target) → set from ≡ true →
    is_on_any (λ j. j == from) t ≡ true → is_on_any set t ≡ true
more_target set from (OnNet j) is on = let same : j ≡ from = eqb-true j from on in rw same is
more_target set from (Constant one) is on = cc

more_from : (set : ℕ → Bool) (from : ℕ) (kind : Kind) (place : ℕ) (ps : List Pin) →
    set from ≡ true → hears_from (λ j. j == from) kind place ps ≡ true →
    hears_from set kind place ps ≡ true
more_from set from kind place [] is hears = cc
more_from set from kind place (p ∷ ps) is hears =
    elim (or_cases (listens kind place && is_on_any (λ j. j == from) p.target)
    (hears_from (λ j. j == from) kind (place + 1) ps) hears) [
      | inl here ↦ let parts = and_parts (listens kind place) _ here in
          or_left _ _ (and_from _ _ parts.0 (more_target set from p.target is parts.1))
      | inr later ↦ or_right _ _ (more_from set from kind (place + 1) ps is later)
    ]

more_in : (set : ℕ → Bool) (from : ℕ) (d : Option Instance) → set from ≡ true →
    hears_in (λ j. j == from) d ≡ true → hears_in set d ≡ true
more_in set from None is hears = cc
more_in set from (Some j) is hears = more_from set from j.kind 0 j.pins is hears

set_has : (set : ℕ → Bool) (values : List CaseValue) (i : ℕ) →
    list_all (λ (v : CaseValue). set v.net) values ≡ true → is_set values i ≡ true → set i ≡ true
set_has set [] i all is = cc
set_has set (v ∷ values) i all is =
    let parts = and_parts (set v.net) (list_all (λ (w : CaseValue). set w.net) values) all in
    elim (or_cases (v.net == i) (is_set values i) is) [
      | inl here ↦ subst (λ (j : ℕ). set j ≡ true) (eqb-true v.net i here) parts.0
      | inr later ↦ set_has set values i parts.1 later
    ]

-- nothing drives a net past the last
not_driven : (c : Circuit) (i : ℕ) → length c.nets ≤ i → driver c i ≡ None
not_driven c i past =
    ap (λ (o : Option Net). instance_in c (driver_in o)) (slice_get_past c.nets i past)

-- what a set has that holds the nets of the case and each net whose driver hears the set
abbrev pub is_closed : Circuit → (ℕ → Bool) → ℕ → Bool
is_closed c set i = implies (hears_in set (driver c i)) (set i)

closed_has : (c : Circuit) (values : List CaseValue) (set : ℕ → Bool) (i : ℕ) →
    list_all (λ (v : CaseValue). set v.net) values ≡ true →
    all_below (is_closed c set) (length c.nets) ≡ true → InCone c values i → set i ≡ true
closed_has c values set i holds closed (Is_set is) = set_has set values i holds is
closed_has c values set i holds closed (Hears_one {from = from} inside hears) =
    at (more_in set from (driver c i) (closed_has c values set from holds closed inside) hears)
    (cases_lt i (length c.nets))
  where
    at : hears_in set (driver c i) ≡ true → (i < length c.nets) ⊎ (length c.nets ≤ i) →
        set i ≡ true
    at heard (inl below) =
        implies_is (hears_in set (driver c i)) (set i)
        (each_passes (is_closed c set) (length c.nets) closed i below) heard
    at heard (inr past) =
        let none : driver c i ≡ None = not_driven c i past in
        let silent : hears_in set None ≡ true =
        subst (λ (d : Option Instance). hears_in set d ≡ true) none heard in
        cc

-- These nets are the cone of the case: a text of `0` and `1`, one for each net.
pub record ConeIs (c : Circuit) (values : List CaseValue) (text : String) : Type 0 where
  pub is : IsCone c values (bits text)

no_bit_past : (text : String) (i : ℕ) → ticks text ≤ i → bits text i ≡ false
no_bit_past text i past = ap (λ c. c == 49) (get_or_past (codes text) i 48 past)

-- Each of them is reached in four steps, the nets of the case are among them, and so is each net
-- whose driver hears them.
pub cone : {c : Circuit} {values : List CaseValue} {text : String} →
    all_below (λ i. implies (bits text i) (reached_in c values 4 i)) (ticks text) ≡ true →
    list_all (λ (v : CaseValue). bits text v.net) values ≡ true →
    all_below (is_closed c (bits text)) (length c.nets) ≡ true → ConeIs c values text
cone {c = c} {values = values} {text = text} reached holds closed =
    record {
      is = λ i. (
        λ passed. inside i passed (cases_lt i (ticks text)),
        λ within. closed_has c values
            (bits text) i holds closed within,
      );
    }
  where
    inside : (i : ℕ) → bits text i ≡ true → (i < ticks text) ⊎ (ticks text ≤ i) → InCone c values i
    inside i passed (inl below) =
        reached_is c values 4 i
        (implies_is (bits text i) _
        (each_passes (λ k. implies (bits text k) (reached_in c values 4 k))
        (ticks text) reached i below) passed)
    inside i passed (inr past) = let failed : bits text i ≡ false = no_bit_past text i past in cc
