-- Laws of texts and answers on which the promise of the whole call rests.
use Rattle.std.specs.Prelude.{◌≡◌, ℕ, true, List, Option}
use Rattle.listing.specs.declared.case.Mode.{Mode}
use Rattle.timing_analysis.specs.Promise.{FaultlessNeverBreaks, NeverBreaks}
use Rattle.scald_base.specs.declared.outcome.Outcome.{Outcome}
use Rattle.scald_tool.specs.Answer.{Answer, Verified}
use Rattle.scald_tool.specs.Report.{report}
use Rattle.scald_tool.specs.Promise.{has_report}

-- words and a text have one answer at most
abbrev pub OneAnswer : Type 0
OneAnswer =
    (words : List (List ℕ)) (text : List ℕ) (o o' : Outcome) (bytes bytes' : List ℕ) →
    Answer words text o bytes → Answer words text o' bytes' → (o ≡ o') × (bytes ≡ bytes')

-- The report that is printed is that of the circuit, the settled base and cases that a promise
-- speaks of. So the numbers of each case in it, its base, rounds and tick, are those of the
-- promise.
abbrev pub ReportsArePromised : Type 0
ReportsArePromised =
    (mode : Mode) (rounds : Option ℕ) (text : List ℕ) (o : Outcome) (bytes : List ℕ) →
    Verified mode rounds text o bytes → has_report o ≡ true →
    ((p : NeverBreaks text) → bytes
    ≡ report mode p.drawn.drawing.version p.circuit p.never.base p.never.cases)
    × ((p : FaultlessNeverBreaks text) →
    bytes ≡ report mode p.drawn.drawing.version p.circuit p.never.base p.never.cases)
