-- What is known while the cases of a circuit are reported, and of what is reported in the end.
use Rattle.std.specs.Prelude.{◌≡◌, ℕ, List}
use Rattle.std.specs.List.{All}
use Rattle.drawing_tree.specs.Tree.{Drawing}
use Rattle.scald_base.specs.declared.outcome.Outcome.{Outcome}
use Rattle.flat_circuit.specs.declared.case.CaseValue.{CaseValue}
use Rattle.flat_circuit.specs.Circuit.{Circuit}
use Rattle.fixpoint_engine.specs.Rounds.{SettlesAt}
use Rattle.case_analysis.specs.Base.{base_round}
use Rattle.timing_analysis.specs.Case.{Listed, Case, AreSettled, listed_cases}
use Rattle.timing_analysis.specs.Drawn.{DrawsCircuit}
use Rattle.timing_analysis.specs.Promise.{IsKept}
use Rattle.timing_analysis.specs.Subject.{IsSubject}
use Rattle.timing_analysis.specs.declared.subject.Subject.{Subject}
use Rattle.program_call.specs.Answer.{Reporting}

-- What the text draws is to be evaluated, and this is what is kept of its drawing.
pub record IsRead {Kept : Type 0} (keeps : Drawing → Kept) (text : List ℕ) (kept : Kept)
    (subject : Subject) : Type 0 where
  pub draws : DrawsCircuit text subject.circuit subject.cases
  pub kept_is : kept ≡ keeps draws.drawing
  pub is : IsSubject subject

-- The cases that are listed have settled, what has no fault in one is never broken there, and this
-- holds of them.
pub record OfCases (c : Circuit) (limit base : ℕ) (listed : List Listed)
    (Holds : List Case → Type 0) : Type 0 where
  pub cases : List Case
  pub are_settled : AreSettled c limit base listed cases
  pub kept : All (IsKept c base) cases
  pub holds : Holds cases

-- So have the base and all cases of a circuit, and the outcome and the bytes are reported of them.
pub record IsReported (Reports : Reporting) (c : Circuit) (values : List (List CaseValue))
    (limit : ℕ)
    (o : Outcome) (bytes : List ℕ) : Type 0 where
  pub base : ℕ
  pub settles : SettlesAt (base_round c) limit base
  pub of_cases : OfCases c limit base (listed_cases values) (λ cases. Reports c base cases o bytes)
