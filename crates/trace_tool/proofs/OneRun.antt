-- A text has one reply to `run`.
use Rattle.std.proofs.Common.{◌≡◌, ℕ, ◌-◌, ◌<◌, List, length, Some, None, Option, refl, ap, subst, sym, ◌∙◌, arith}
use Rattle.std.proofs.lemmas.Option.{same_Some, slice_get_within}
use Rattle.flat_circuit.specs.declared.case.CaseValue.{CaseValue}
use Rattle.flat_circuit.specs.Circuit.{Circuit, IsCircuit}
use Rattle.listing.specs.Answer.{refusal_line}
use Rattle.drawing_tree.specs.Tree.{Drawing}
use Rattle.drawing_grammar.proofs.TextLaws.{one_drawing}
use Rattle.timing_analysis.specs.Drawn.{DrawsCircuit}
use Rattle.timing_analysis.proofs.OneText.{not_refused, one_refusal, text_draws_one_circuit}
use Rattle.trace_sim.specs.declared.choice.Choice.{Choice}
use Rattle.trace_sim.specs.Simulated.{IsSimulated}
use Rattle.trace_sim.proofs.One.{choices_have_one_run}
use Rattle.trace_sim.proofs.Inputs.{one_drawn}
use Rattle.trace_tool.specs.declared.trace.Trace.{Trace}
use Rattle.trace_tool.specs.declared.asked.Asked.{Asked}
use Rattle.trace_tool.specs.declared.outcome.TraceOutcome.{TraceOutcome}
use Rattle.trace_tool.specs.declared.outcome.TraceOutcome.TheVariants.{Refused}
use Rattle.trace_tool.specs.Ran as ran
use Rattle.trace_tool.specs.Ran.{IsTraced, Ran, RanIn, RanOn, case_asked, most_bits, written}

one_trace : (c : Circuit) (values : List CaseValue) (ticks seed : ℕ) (trace other : Trace) → IsCircuit c →
    IsTraced c values ticks seed trace → IsTraced c values ticks seed other → trace ≡ other
one_trace c values ticks seed trace other known first second =
    let choices : second.choice ≡ first.choice =
    one_drawn c values ticks seed second.choice first.choice known second.is_run.drawn first.is_run.drawn in
    let made = subst (λ (choice : Choice). IsSimulated c choice ticks second.run.bits) choices second.is_run.made in
    let bits : first.run.bits ≡ second.run.bits =
    choices_have_one_run c first.choice ticks first.run.bits second.run.bits known first.is_run.fits first.is_run.made made in
    let same_ticks : trace.ticks ≡ other.ticks = first.says.ticks ∙ first.is_run.long ∙ sym second.is_run.long ∙ sym second.says.ticks in
    let delays : trace.delays ≡ other.delays =
    first.says.delays ∙ ap (λ (choice : Choice). choice.delays) (sym choices) ∙ sym second.says.delays in
    let wires : trace.wires ≡ other.wires =
    first.says.wires ∙ ap (λ (choice : Choice). choice.wires) (sym choices) ∙ sym second.says.wires in
    let same_bits : trace.bits ≡ other.bits = first.says.bits ∙ bits ∙ sym second.says.bits in
    λ k. record { ticks = same_ticks k; delays = delays k; wires = wires k; bits = same_bits k }

one_in_case : (asked : Asked) (name : List ℕ) (c : Circuit) (values : List CaseValue) (o o' : TraceOutcome) (bytes bytes' : List ℕ) → IsCircuit c →
    RanIn asked name c values o bytes → RanIn asked name c values o' bytes' → (o ≡ o') × (bytes ≡ bytes')
one_in_case asked name c values _ _ _ _ known (ran.too_big more) (ran.too_big more') = (refl, refl)
one_in_case asked name c values _ _ _ _ known (ran.too_big more) (ran.done trace few is) = absurd (omega arith)
one_in_case asked name c values _ _ _ _ known (ran.done trace few is) (ran.too_big more) = absurd (omega arith)
one_in_case asked name c values _ _ _ _ known (ran.done trace few is) (ran.done trace' few' is') =
    (refl, ap (written asked.format name c) (one_trace c values asked.ticks asked.seed trace trace' known is is'))

-- a case that there is not is not asked for
no_such_case : (cases : List (List CaseValue)) (case : Option ℕ) (k : ℕ) (values : List CaseValue) → case ≡ Some k → length cases < k →
    case_asked case cases ≡ Some values → ⊥
no_such_case cases None k values is past asked = cc
no_such_case cases (Some j) k values is past asked =
    let same : j ≡ k = same_Some j k is in
    let within : j - 1 < length cases = slice_get_within cases (j - 1) values asked in omega arith

one_on_circuit : (asked : Asked) (name : List ℕ) (c : Circuit) (cases : List (List CaseValue)) (o o' : TraceOutcome)
    (bytes bytes' : List ℕ) → IsCircuit c → RanOn asked name c cases o bytes → RanOn asked name c cases o' bytes' →
    (o ≡ o') × (bytes ≡ bytes')
one_on_circuit asked name c cases _ _ _ _ known (ran.no_case k is past) (ran.no_case k' is' past') = (refl, refl)
one_on_circuit asked name c cases _ _ _ _ known (ran.no_case k is past) (ran.in_case values o bytes found r) =
    absurd (no_such_case cases asked.case k values is past found)
one_on_circuit asked name c cases _ _ _ _ known (ran.in_case values o bytes found r) (ran.no_case k is past) =
    absurd (no_such_case cases asked.case k values is past found)
one_on_circuit asked name c cases _ _ _ _ known (ran.in_case values o bytes found r) (ran.in_case values' o' bytes' found' r') =
    let same : values' ≡ values = same_Some values' values (sym found' ∙ found) in
    one_in_case asked name c values o o' bytes bytes' known r
    (subst (λ (vs : List CaseValue). RanIn asked name c vs o' bytes') same r')

-- a text draws one drawing, which has one name
one_name : (text : List ℕ) (c c' : Circuit) (cases cases' : List (List CaseValue)) (draws : DrawsCircuit text c cases)
    (draws' : DrawsCircuit text c' cases') → draws'.drawing.name ≡ draws.drawing.name
one_name text c c' cases cases' draws draws' =
    ap (λ (d : Drawing). d.name) (one_drawing text draws'.drawing draws.drawing draws'.draws.drawn draws.draws.drawn)

pub one_ran : (asked : Asked) (text : List ℕ) (o o' : TraceOutcome) (bytes bytes' : List ℕ) →
    Ran asked text o bytes → Ran asked text o' bytes' → (o ≡ o') × (bytes ≡ bytes')
one_ran asked text _ _ _ _ (ran.refused r is) (ran.refused q is') =
    let same : r ≡ q = one_refusal text r q is is' in (ap Refused same, ap refusal_line same)
one_ran asked text _ _ _ _ (ran.refused r is) (ran.on_circuit c cases o bytes draws on) = absurd (not_refused text r c cases is draws)
one_ran asked text _ _ _ _ (ran.on_circuit c cases o bytes draws on) (ran.refused r is) = absurd (not_refused text r c cases is draws)
one_ran asked text _ _ _ _ (ran.on_circuit c cases o bytes draws on) (ran.on_circuit c' cases' o' bytes' draws' on') =
    let same = text_draws_one_circuit text c' c cases' cases draws' draws in
    one_on_circuit asked draws.drawing.name c cases o o' bytes bytes' draws.draws.is_circuit on
    (subst (λ (all : List (List CaseValue)). RanOn asked draws.drawing.name c all o' bytes') same.1
    (subst (λ (z : Circuit). RanOn asked draws.drawing.name z cases' o' bytes') same.0
    (subst (λ (name : List ℕ). RanOn asked name c' cases' o' bytes') (one_name text c c' cases cases' draws draws') on')))
