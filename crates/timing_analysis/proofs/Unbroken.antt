-- What is promised never to break is false of a circuit that a run breaks from its printed tick on, and of each text that draws
-- it; and true of a circuit in which there is nothing to break.
use Rattle.std.proofs.Common.{◌≡◌, ℕ, zero, suc, Bool, true, false, cond, List, [], ◌∷◌, map, refl, sym, ap, subst, ◌∙◌, arith, Option, None}
use Rattle.std.specs.List.{All}
use Rattle.std.proofs.lemmas.List.Elements.{All-head, All-nil}
use Rattle.scald_base.specs.Time.{Header}
use Rattle.flat_circuit.specs.declared.case.CaseValue.{CaseValue}
use Rattle.flat_circuit.specs.declared.instance.Instance.{Instance}
use Rattle.flat_circuit.specs.Circuit.{Circuit, driver}
use Rattle.flat_circuit.specs.Run.{Run}
use Rattle.fixpoint_engine.specs.Waves.{Waves}
use Rattle.fixpoint_engine.specs.Reach.{reach}
use Rattle.fixpoint_engine.specs.Rounds.{SettlesAt, next, round, wave_from}
use Rattle.fixpoint_engine.specs.Start.{base_start, is_driven}
use Rattle.case_analysis.specs.Base.{base_round}
use Rattle.case_analysis.specs.Case.{IsInCase, case_active, case_round, case_start}
use Rattle.case_analysis.specs.Tick.{tick}
use Rattle.pulse_check.specs.Break.{BreaksPulse}
use Rattle.pulse_check.proofs.Broken.{breaks_high, breaks_low, circuit, is_run, meets, run}
use Rattle.timing_analysis.specs.Drawn.{DrawsCircuit}
use Rattle.timing_analysis.specs.Case.{Case, IsSettled, Listed, listed_cases, printed_tick}
use Rattle.timing_analysis.specs.Promise.{Breaks, by_instance, by_pulse, by_net, IsSafe, IsUnbroken, NeverBreaks}
use Rattle.timing_analysis.proofs.SettlesOneWay.{settles_once}
use Rattle.timing_analysis.proofs.OneText.{text_draws_one_circuit}

-- ---- a circuit that is broken from its printed tick on, which is 1

-- whatever level the pulse is at that is too narrow
breaks_at : (level : Bool) (base : ℕ) (case : Case) → BreaksPulse circuit run 0 level 1 → base ≡ 0 → case.rounds ≡ 0 → case.listed.values ≡ [] →
    ¬ IsUnbroken circuit base case
breaks_at level base case narrow none settled free unbroken =
    let printed : printed_tick circuit base case ≡ 1 =
    ap (λ (b : ℕ). tick (reach circuit) b case.rounds) none ∙ ap (tick (reach circuit) 0) settled in
    unbroken run is_run meets (subst (λ (vs : List CaseValue). IsInCase vs run) (sym free) (All-nil _))
    (by_pulse 0 level (subst (BreaksPulse circuit run 0 level) (sym printed) narrow))

abbrev case_of : Waves → Case
case_of waves = record { listed = record { number = 0; values = [] }; rounds = 0; waves = waves }

broken_high : (waves : Waves) → ¬ IsUnbroken circuit 0 (case_of waves)
broken_high waves = breaks_at true 0 (case_of waves) breaks_high refl refl refl

broken_low : (waves : Waves) → ¬ IsUnbroken circuit 0 (case_of waves)
broken_low waves = breaks_at false 0 (case_of waves) breaks_low refl refl refl

-- ---- a text that draws it

-- Nothing drives a net of it, so each round is as the one before.
undriven : (i : ℕ) → driver circuit i ≡ None
undriven zero = refl
undriven (suc i) = refl

same_by : (active : Bool) (d : Option Instance) (ws : Waves) (i : ℕ) → d ≡ None → cond active (wave_from circuit ws d (ws i)) (ws i) ≡ ws i
same_by true d ws i none = ap (λ (o : Option Instance). wave_from circuit ws o (ws i)) none
same_by false d ws i none = refl

settled_at_once : (active : ℕ → Bool) (start : Waves) → SettlesAt (round circuit active start) 0 0
unfolding round next
settled_at_once active start = record {
  still = λ i. same_by (active i) (driver circuit i) start i (undriven i);
  first = λ s less. absurd (omega (arith, less));
  within = omega arith;
}

breaks_in : (limit base : ℕ) (cases : List Case) → base ≡ 0 → map (λ (k : Case). k.listed) cases ≡ listed_cases [] →
    All (IsSettled circuit limit base) cases → All (IsUnbroken circuit base) cases → ⊥
breaks_in limit base [] none each are_settled unbroken = absurd (cc)
breaks_in limit base (case ∷ cases) none each are_settled unbroken =
    let listed : case.listed ≡ record { number = 0; values = [] } = cc in
    let at : IsSettled circuit limit base case = All-head (IsSettled circuit limit base) case cases are_settled in
    let settled : case.rounds ≡ 0 =
    settles_once (case_round circuit case.listed.values at.cone (base_round circuit base)) limit 0 case.rounds 0 at.is.settles
    (settled_at_once (case_active circuit at.cone) (case_start circuit case.listed.values at.cone (base_round circuit base))) in
    breaks_at true base case breaks_high none settled (ap (λ (l : Listed). l.values) listed)
    (All-head (IsUnbroken circuit base) case cases unbroken)

text_breaks : (text : List ℕ) → DrawsCircuit text circuit [] → ¬ NeverBreaks text
text_breaks text drawn p =
    let same = text_draws_one_circuit text p.circuit circuit p.values [] p.drawn drawn in
    let safe : IsSafe circuit [] p.limit (IsUnbroken circuit) =
    subst (λ (c : Circuit). IsSafe c [] p.limit (IsUnbroken c)) same.0
    (subst (λ (vs : List (List CaseValue)). IsSafe p.circuit vs p.limit (IsUnbroken p.circuit)) same.1 p.never) in
    let none : safe.base ≡ 0 =
    settles_once (base_round circuit) p.limit 0 safe.base 0 safe.settles (settled_at_once (is_driven circuit) (base_start circuit)) in
    breaks_in p.limit safe.base safe.cases none safe.are_settled.each safe.are_settled.settled safe.each

-- ---- no element and no net

abbrev empty : Header → Circuit
empty h = record { header = h; nets = []; instances = []; order = [] }

nothing_breaks : (h : Header) (r : Run) (start : ℕ) → ¬ Breaks (empty h) r start
nothing_breaks h r start (by_instance k b) = let none = b.instance_is in absurd (cc)
nothing_breaks h r start (by_pulse k level b) = let none = b.instance_is in absurd (cc)
nothing_breaks h r start (by_net i b) = let none = b.at.net_is in absurd (cc)

unbroken : (h : Header) (base : ℕ) (case : Case) → IsUnbroken (empty h) base case
unbroken h base case r is _ _ = nothing_breaks h r (printed_tick (empty h) base case)
