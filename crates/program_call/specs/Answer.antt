-- What is answered on a text whose circuit is evaluated: what is reported of its settled cases, or
-- why there is nothing to report.
use Rattle.std.specs.Prelude.{ℕ, ◌==◌, Bool, true, false, List, Option, Some, None, if◌then◌else◌}
use Rattle.scald_base.specs.declared.refusal.Refusal.{Refusal}
use Rattle.scald_base.specs.declared.outcome.Outcome.{Outcome}
use Rattle.scald_base.specs.declared.outcome.Outcome.TheVariants.{Clean, Faulty, Done, Refused}
use Rattle.scald_base.specs.declared.outcome.Outcome.TheVariants.{Unsettled, BadWords, TooLong}
use Rattle.scald_base.specs.declared.outcome.Outcome.TheVariants.{ReadFault, WriteFault, NoMemory}
use Rattle.drawing_tree.specs.Tree.{Drawing}
use Rattle.flat_circuit.specs.declared.case.CaseValue.{CaseValue}
use Rattle.flat_circuit.specs.Circuit.{Circuit}
use Rattle.fixpoint_engine.specs.Rounds.{SettlesAt}
use Rattle.fixpoint_engine.specs.Start.{default_limit}
use Rattle.case_analysis.specs.Base.{base_round}
use Rattle.listing.specs.Answer.{refusal_line, unsettled_line}
use Rattle.timing_analysis.specs.Drawn.{IsTextRefused, DrawsCircuit}
use Rattle.timing_analysis.specs.Case.{Case, AreSettled, listed_cases}
use Rattle.timing_analysis.specs.Ended.{StopsEarly}

-- how many rounds there may be: as many as the words allow, or else the circuit's own limit
abbrev pub limit_for : Circuit → Option ℕ → ℕ
limit_for c (Some limit) = limit
limit_for c None = default_limit c

-- Which outcome and bytes are reported of a settled circuit, by the round in which its base settled
-- and by its cases.
abbrev pub Reporting : Type 1
Reporting = Circuit → ℕ → List Case → Outcome → List ℕ → Type 0

-- What is answered on a circuit and its cases, with which bytes: what is reported of the settled
-- base and cases; or, if the base or else a case has not settled by the limit, and every case
-- before it has, the first net in name order that still changes there.
pub data Concluded (Reports : Reporting) (c : Circuit) (values : List (List CaseValue))
    (limit : ℕ) :
    Outcome → List ℕ → Type 0 where
  settled : (base : ℕ) (cases : List Case) (o : Outcome) (bytes : List ℕ) →
      SettlesAt (base_round c) limit base →
      AreSettled c limit base (listed_cases values) cases → Reports c base cases o bytes →
      Concluded Reports c values limit o bytes
  unsettled : (place : ℕ) → StopsEarly c values limit place →
      Concluded Reports c values limit (Unsettled place limit) (unsettled_line c place limit)

-- What is answered on a text whose circuit is evaluated, by the drawing that it draws.
pub data Evaluated (Reports : Drawing → Reporting) (rounds : Option ℕ) (text : List ℕ) : Outcome →
    List ℕ → Type 0 where
  refused : (r : Refusal) → IsTextRefused text r →
      Evaluated Reports rounds text (Refused r) (refusal_line r)
  judged : (c : Circuit) (values : List (List CaseValue)) (o : Outcome) (bytes : List ℕ)
      (draws : DrawsCircuit text c values) →
      Concluded (Reports draws.drawing) c values (limit_for c rounds) o bytes →
      Evaluated Reports rounds text o bytes

-- ---- outcomes

-- no fault, or so many
abbrev pub verdict_of : ℕ → Outcome
verdict_of count = if count == 0 then Clean else Faulty count

-- a report without or with faults, or what else was asked for
abbrev pub is_finished : Outcome → Bool
is_finished Clean = true
is_finished (Faulty n) = true
is_finished Done = true
is_finished (Refused r) = false
is_finished (Unsettled place round) = false
is_finished (BadWords i) = false
is_finished TooLong = false
is_finished ReadFault = false
is_finished WriteFault = false
is_finished NoMemory = false
