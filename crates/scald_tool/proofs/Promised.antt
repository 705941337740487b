-- The report is that of the circuit, the base and the cases that a promise speaks of.
use Rattle.std.proofs.Common.{◌≡◌, ℕ, List, ap, subst, true, Option}
use Rattle.drawing_tree.specs.Tree.{Drawing}
use Rattle.drawing_grammar.proofs.TextLaws.{one_drawing}
use Rattle.flat_circuit.specs.declared.case.CaseValue.{CaseValue}
use Rattle.flat_circuit.specs.Circuit.{Circuit}
use Rattle.listing.specs.declared.case.Mode.{Mode}
use Rattle.scald_base.specs.declared.outcome.Outcome.{Outcome}
use Rattle.scald_base.specs.declared.outcome.Outcome.TheVariants.{Clean}
use Rattle.timing_analysis.specs.Drawn.{DrawsCircuit}
use Rattle.timing_analysis.specs.Case.{Case, fault_count, listed_cases}
use Rattle.program_call.specs.Answer as answer
use Rattle.program_call.specs.Answer.{Concluded, limit_for, settled, unsettled}
use Rattle.scald_tool.specs.Answer.{Reported, Verified}
use Rattle.timing_analysis.specs.Promise.{FaultlessNeverBreaks, IsKept, IsSafe, IsUnbroken}
use Rattle.timing_analysis.specs.Promise.{NeverBreaks}
use Rattle.scald_tool.specs.Promise.{has_report}
use Rattle.scald_tool.specs.Laws.{ReportsArePromised}
use Rattle.timing_analysis.proofs.Headline.{faultless_is_safe}
use Rattle.timing_analysis.proofs.SettlesOneWay.{settles_in_one_way}
use Rattle.timing_analysis.proofs.OneText.{text_draws_one_circuit}
use Rattle.scald_tool.proofs.Verdict.{verdict_clean}

-- The report on a circuit is that of the settled base and cases, whatever is said to hold of these.
concluded_report : (mode : Mode) (version : ℕ) (c : Circuit) (values : List (List CaseValue))
    (limit limit' : ℕ) (o : Outcome)
    (bytes : List ℕ) (holds : ℕ → Case → Type 0) →
    Concluded (Reported mode version) c values limit o bytes → has_report o ≡ true →
    (safe : IsSafe c values limit' holds) → Reported mode version c safe.base safe.cases o bytes
concluded_report mode version c values limit limit' _ _ holds
    (settled base cases o bytes settles are_settled is) has safe =
    let one =
    settles_in_one_way c limit limit' base safe.base (listed_cases values) cases safe.cases settles are_settled
    safe.settles safe.are_settled in
    subst (λ (b : ℕ). Reported mode version c b safe.cases o bytes) one.0
    (subst (λ (cs : List Case). Reported mode version c base cs o bytes) one.1 is)
concluded_report mode version c values limit limit' _ _ holds (unsettled place stops) has safe =
    absurd cc

verified_report : (mode : Mode) (rounds : Option ℕ) (text : List ℕ) (o : Outcome) (bytes : List ℕ)
    (holds : Circuit → ℕ → Case → Type 0) → Verified mode rounds text o bytes → has_report o ≡ true →
    (c : Circuit) (values : List (List CaseValue)) (limit : ℕ) → (drawn : DrawsCircuit text c values) →
    (safe : IsSafe c values limit (holds c)) →
    Reported mode drawn.drawing.version c safe.base safe.cases o bytes
verified_report mode rounds text _ _ holds (answer.refused r is) has c values limit drawn safe = absurd cc
verified_report mode rounds text _ _ holds (answer.judged k listed o bytes draws j) has c values limit drawn safe =
    let same = text_draws_one_circuit text k c listed values draws drawn in
    let drawings : draws.drawing ≡ drawn.drawing = one_drawing text draws.drawing drawn.drawing draws.draws.drawn drawn.draws.drawn in
    let version = drawn.drawing.version in
    concluded_report mode version c values (limit_for k rounds) limit o bytes (holds c)
    (subst (λ (vs : List (List CaseValue)). Concluded (Reported mode version) c vs
    (limit_for k rounds) o bytes) same.1
    (subst (λ (z : Circuit). Concluded (Reported mode version) z listed (limit_for k rounds) o
    bytes) same.0
    (subst (λ (d : Drawing). Concluded (Reported mode d.version) k listed (limit_for k rounds) o
    bytes) drawings j))) has safe

pub reports_are_promised : ReportsArePromised
reports_are_promised mode rounds text o bytes is has = (
  λ p. (verified_report mode rounds text o bytes IsUnbroken is has p.circuit p.values p.limit
      p.drawn p.never).text,
  λ p. (verified_report mode rounds text o bytes IsKept is has p.circuit p.values p.limit p.drawn
      p.never).text,
)

-- If the report counts no fault, what has no fault is all there is.
pub clean_never_breaks : (mode : Mode) (rounds : Option ℕ) (text : List ℕ) (o : Outcome)
    (bytes : List ℕ) →
    Verified mode rounds text o bytes → o ≡ Clean → FaultlessNeverBreaks text → NeverBreaks text
clean_never_breaks mode rounds text o bytes is clean p =
    let report = verified_report mode rounds text o bytes IsKept is (ap has_report clean) p.circuit
    p.values p.limit p.drawn p.never in
    let none : fault_count p.circuit p.never.cases ≡ 0 =
    verdict_clean (fault_count p.circuit p.never.cases) o report.outcome clean in
    record {
      circuit = p.circuit;
      values = p.values;
      drawn = p.drawn;
      limit = p.limit;
      never = faultless_is_safe p.circuit p.values p.limit p.never none;
    }
