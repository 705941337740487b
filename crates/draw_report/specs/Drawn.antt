-- What is drawn of the limits of a circuit whose cases have settled. The table of slacks and its
-- paragraphs have no exact definition, so neither have pictures of limits, nor the marks on those
-- of cases: these are documents of XML, and their waves are exact.
use Rattle.std.specs.Prelude.{◌≡◌, ℕ, ◌<◌, Bool, true, false, List, [], Option, ⊤}
use Rattle.std.specs.List.{All}
use Rattle.flat_circuit.specs.declared.case.CaseValue.{CaseValue}
use Rattle.flat_circuit.specs.Circuit.{Circuit}
use Rattle.fixpoint_engine.specs.Rounds.{SettlesAt}
use Rattle.fixpoint_engine.specs.Waves.{Waves}
use Rattle.case_analysis.specs.Base.{base_round}
use Rattle.timing_analysis.specs.Case.{Case, fault_count, listed_cases}
use Rattle.program_call.specs.Answer.{verdict_of}
use Rattle.program_call.specs.Reporter.{OfCases}
use Rattle.slack_report.specs.Answer.{AreRows, cases_of}
use Rattle.draw_report.specs.declared.asked.Limits.{Limits as Asked}
use Rattle.draw_report.specs.declared.asked.Limits.TheVariants.{Page as OnPage, Row}
use Rattle.draw_report.specs.declared.case.CaseHead.{CaseHead}
use Rattle.draw_report.specs.declared.collected.Collected.{Collected}
use Rattle.draw_report.specs.declared.drawn.Drawn.{Drawn}
use Rattle.draw_report.specs.declared.drawn.Drawn.TheVariants.{Much, NoRow, Picture}
use Rattle.draw_report.specs.declared.job.Told.{Told}
use Rattle.draw_report.specs.declared.mark.Mark.{Mark}
use Rattle.draw_report.specs.declared.pictures.Pictures.{Pictures}
use Rattle.draw_report.specs.declared.outcome.DrawOutcome.TheVariants.{Limits, NoNet, NoRow as LacksRow, TooMuch}
use Rattle.draw_report.specs.Below.{rows_below}
use Rattle.draw_report.specs.Case.{Answered}
use Rattle.draw_report.specs.Page.{Page, page}
use Rattle.draw_report.specs.Picture.{Sketch, case_drawn, picture}
use Rattle.draw_report.specs.Row.{rows_of}

-- ---- pictures

-- the picture of some sketch
pub record IsPicture (bytes : List ℕ) : Type 0 where
  pub sketch : Sketch
  pub is : bytes ≡ picture sketch

-- what is to stand on a page are pictures
pub record AreDrawn (pictures : Pictures) : Type 0 where
  pub limits : All IsPicture pictures.limits
  pub cases : All IsPicture pictures.cases

-- the page of some pictures
pub record IsPage (bytes : List ℕ) : Type 0 where
  pub shows : Page
  pub is : bytes ≡ page shows

-- The picture of a case shows the waves of its nets, or of those below a path, exactly, with some
-- marks, unless it is too much.
abbrev pub IsPanel : Circuit → Waves → CaseHead → Option (List ℕ) → Option ℕ →
    Option (List ℕ) → Type 0
IsPanel c ws head under room drawn =
    (marks : List Mark)
    × (drawn ≡ case_drawn c ws (rows_below c under (rows_of c ws)) head marks room)

-- ---- what is asked for

-- a page, or too much to draw
abbrev pub IsPageDrawn : Drawn → Type 0
IsPageDrawn (NoRow count) = ⊥
IsPageDrawn Much = ⊤
IsPageDrawn (Picture bytes) = IsPage bytes

-- a picture; or too much to draw; or there are fewer rows than were asked for
abbrev pub IsRowDrawn : ℕ → Drawn → Type 0
IsRowDrawn number (NoRow count) = count < number
IsRowDrawn number Much = ⊤
IsRowDrawn number (Picture bytes) = IsPicture bytes

abbrev pub IsDrawn : Asked → Drawn → Type 0
IsDrawn (OnPage shows) d = IsPageDrawn d
IsDrawn (Row wanted) d = IsRowDrawn wanted.number d

-- ---- over the cases

-- the slacks and the faults of these cases
pub record IsCollected (t : Collected) (c : Circuit) (cases : List Case) : Type 0 where
  pub rows_are : AreRows c (cases_of cases) t.rows
  pub faults_are : t.faults ≡ fault_count c cases

-- It was drawn of a circuit that settles, and the faults of all its cases are counted.
pub record IsToldOf (asked : Asked) (c : Circuit) (values : List (List CaseValue)) (limit : ℕ)
    (t : Told) : Type 0 where
  pub base : ℕ
  pub settles : SettlesAt (base_round c) limit base
  pub of_cases : OfCases c limit base (listed_cases values)
      (λ (cases : List Case). t.faults ≡ fault_count c cases)
  pub drawn : IsDrawn asked t.drawn

-- ---- what is answered

-- the whole drawing's verdict with what is drawn, or why nothing is
abbrev pub answered : Drawn → ℕ → Answered
answered (NoRow count) faults = record { outcome = LacksRow count; bytes = [] }
answered Much faults = record { outcome = TooMuch; bytes = [] }
answered (Picture bytes) faults = record { outcome = Limits (verdict_of faults); bytes = bytes }

-- nothing is drawn unless some net is below the path
abbrev pub answered_below : Bool → Drawn → ℕ → Answered
answered_below false drawn faults = record { outcome = NoNet; bytes = [] }
answered_below true drawn faults = answered drawn faults
