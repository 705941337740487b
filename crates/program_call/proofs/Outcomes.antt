-- What holds of each outcome that a text may have, if it holds of those that are reported.
use Rattle.std.proofs.Common.{◌≡◌, ℕ, ◌≤◌, Bool, true, false, not, cond, List, refl, ap, arith, Option, None}
use Rattle.std.specs.Prelude.{◌==◌, ◌≢◌}
use Rattle.scald_base.specs.declared.refusal.Refusal.{Refusal}
use Rattle.scald_base.specs.declared.outcome.Outcome.{Outcome}
use Rattle.scald_base.specs.declared.outcome.Outcome.TheVariants.{Clean, Faulty, Refused, Unsettled}
use Rattle.drawing_tree.specs.Tree.{Drawing}
use Rattle.flat_circuit.specs.declared.case.CaseValue.{CaseValue}
use Rattle.flat_circuit.specs.Instances.{outputs}
use Rattle.flat_circuit.specs.Circuit.{Circuit, IsCircuit}
use Rattle.fixpoint_engine.specs.Waves.{Waves}
use Rattle.fixpoint_engine.specs.Loops.{HasNoLoop}
use Rattle.fixpoint_engine.specs.Rounds.{IsUnsettled, round}
use Rattle.fixpoint_engine.proofs.Settling.{settles_by_outputs}
use Rattle.case_analysis.specs.Case.{case_active}
use Rattle.timing_analysis.specs.Case.{Case}
use Rattle.timing_analysis.specs.Ended.{StopsEarly, by_base, by_case}
use Rattle.program_call.specs.Answer as answer
use Rattle.fixpoint_engine.specs.Start.{default_limit}
use Rattle.program_call.specs.Answer.{Reporting, Concluded, Evaluated, limit_for, settled, unsettled}
use Rattle.program_call.specs.Answer.{verdict_of}
use Rattle.program_call.specs.Promise.{SettlesLoopless, TextSettles, Writes, WritesReport, may_count}

-- ---- by what is reported

-- it holds of every outcome that is reported of a circuit
abbrev pub HoldsOfReports : (Outcome → Type 0) → (Drawing → Reporting) → Type 0
HoldsOfReports P Reports =
    (d : Drawing) (c : Circuit) (base : ℕ) (cases : List Case) (o : Outcome) (bytes : List ℕ) →
    Reports d c base cases o bytes → P o

concluded_has : (P : Outcome → Type 0) (Reports : Reporting) (c : Circuit)
    (values : List (List CaseValue)) (limit : ℕ) (o : Outcome) (bytes : List ℕ) →
    ((base : ℕ) (cases : List Case) (o : Outcome) (bytes : List ℕ) → Reports c base cases o bytes →
    P o) →
    ((place : ℕ) → StopsEarly c values limit place → P (Unsettled place limit)) →
    Concluded Reports c values limit o bytes → P o
concluded_has P Reports c values limit _ _ holds of_net
    (settled base cases o bytes settles are_settled is) = holds base cases o bytes is
concluded_has P Reports c values limit _ _ holds of_net (unsettled place stops) = of_net place stops

pub evaluated_has : (P : Outcome → Type 0) → ((place last : ℕ) → P (Unsettled place last)) →
    ((r : Refusal) → P (Refused r)) →
    (Reports : Drawing → Reporting) (rounds : Option ℕ) (text : List ℕ) (o : Outcome)
    (bytes : List ℕ) →
    HoldsOfReports P Reports → Evaluated Reports rounds text o bytes → P o
evaluated_has P of_net of_refusal Reports rounds text _ _ holds (answer.refused r is) = of_refusal r
evaluated_has P of_net of_refusal Reports rounds text _ _ holds
    (answer.judged c values o bytes draws j) =
    concluded_has P (Reports draws.drawing) c values (limit_for c rounds) o bytes
    (holds draws.drawing c) (λ place stops. of_net place (limit_for c rounds)) j

-- ---- of a text that settles

-- what is reported of it is answered
pub settled_evaluated : (Reports : Drawing → Reporting) (rounds : Option ℕ) (text : List ℕ)
    (text_settles : TextSettles rounds text) (o : Outcome) (bytes : List ℕ) →
    Reports text_settles.drawn.drawing text_settles.circuit text_settles.base text_settles.cases
    o bytes → Evaluated Reports rounds text o bytes
settled_evaluated Reports rounds text is o bytes reported =
    answer.judged is.circuit is.values o bytes is.drawn
    (settled is.base is.cases o bytes is.settles is.are_settled reported)

-- if what is answered is written, so is what is reported
pub report_written : (Reports : Drawing → Reporting) (text : List ℕ) (o : Outcome)
    (taken taken' : Option (List ℕ)) →
    ((reply : Outcome) (bytes : List ℕ) → Evaluated Reports None text reply bytes →
    Writes reply bytes o taken taken') → WritesReport Reports text o taken taken'
report_written Reports text o taken taken' writes text_settles reply bytes reported =
    writes reply bytes (settled_evaluated Reports None text text_settles reply bytes reported)

-- ---- without loops

-- it names no net that does not settle
abbrev pub NamesNoNet : Outcome → Type 0
NamesNoNet o = (place last : ℕ) → o ≢ Unsettled place last

ever_still : (c : Circuit) (active : ℕ → Bool) (start : Waves) (limit place : ℕ) → IsCircuit c → HasNoLoop c → outputs c.instances ≤ limit →
    IsUnsettled c.order (round c active start) limit place → ⊥
ever_still c active start limit place known none within is = is.never (outputs c.instances) within (settles_by_outputs c active start known none)

pub never_stops : (c : Circuit) (values : List (List CaseValue)) (limit place : ℕ) → IsCircuit c → HasNoLoop c → outputs c.instances ≤ limit →
    StopsEarly c values limit place → ⊥
never_stops c values limit place known none within (by_base is) = ever_still c _ _ limit place known none within is
never_stops c values limit place known none within (by_case base settles stops) =
    let never = stops.never in
    ever_still c (case_active c never.cone) _ limit place known none within never.is

-- A text whose circuit has no loop settles within the circuit's own limit.
pub evaluated_settles : (Reports : Drawing → Reporting) (text : List ℕ) (o : Outcome)
    (bytes : List ℕ) → HoldsOfReports NamesNoNet Reports →
    Evaluated Reports None text o bytes → SettlesLoopless text o
evaluated_settles Reports text _ _ holds (answer.refused r is) =
    λ free place last still. absurd (cc)
evaluated_settles Reports text _ _ holds (answer.judged c values o bytes draws j) = λ free.
    concluded_has NamesNoNet (Reports draws.drawing) c values (default_limit c) o bytes
    (holds draws.drawing c)
    (λ net stops. absurd (never_stops c values (default_limit c) net draws.draws.is_circuit
    (free c values draws) (omega arith) stops)) j

-- ---- what is counted

pub verdict_counts : (n : ℕ) → may_count (verdict_of n) ≡ true
verdict_counts n = either (n == 0) refl
  where
    either : (none : Bool) → (n == 0) ≡ none → may_count (cond none Clean (Faulty n)) ≡ true
    either true same = refl
    either false same = ap not same

pub verdict_settles : (n : ℕ) → NamesNoNet (verdict_of n)
verdict_settles n place last = either (n == 0)
  where
    either : (none : Bool) → cond none Clean (Faulty n) ≢ Unsettled place last
    either true still = absurd (cc)
    either false still = absurd (cc)
