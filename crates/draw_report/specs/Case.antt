-- The picture of one of the settled cases of a circuit.
use Rattle.std.specs.Prelude.{◌≡◌, ℕ, ◌==◌, ◌&&◌, Bool, true, false, List, [], find, Option, Some, None, if◌then◌else◌}
use Rattle.flat_circuit.specs.declared.case.CaseValue.{CaseValue}
use Rattle.flat_circuit.specs.Circuit.{Circuit}
use Rattle.fixpoint_engine.specs.Rounds.{SettlesAt}
use Rattle.fixpoint_engine.specs.Waves.{Waves}
use Rattle.case_analysis.specs.Base.{base_round}
use Rattle.timing_analysis.specs.Case.{Case, fault_count, listed_cases, printed_tick}
use Rattle.program_call.specs.Answer.{verdict_of}
use Rattle.program_call.specs.Reporter.{OfCases}
use Rattle.draw_report.specs.declared.case.CaseHead.{CaseHead}
use Rattle.draw_report.specs.Picture.{case_drawn}
use Rattle.draw_report.specs.Row.{rows_of}
use Rattle.draw_report.specs.declared.outcome.DrawOutcome.{DrawOutcome}
use Rattle.draw_report.specs.declared.outcome.DrawOutcome.TheVariants.{Drawing, NoCase, TooMuch}
use Rattle.draw_report.specs.declared.sought.Found.{Found}
use Rattle.draw_report.specs.declared.sought.Found.TheVariants.{Nothing, Picture, Much}
use Rattle.draw_report.specs.declared.sought.Sought.{Sought}

abbrev pub is_numbered : ℕ → Case → Bool
is_numbered number case = case.listed.number == number

-- what is said above the picture: no number where no case is listed, and the tick that is printed
abbrev pub number_of : ℕ → Option ℕ
number_of number = if number == 0 then None else Some number

abbrev pub settled_head : ℕ → ℕ → CaseHead
settled_head number tick = record { number = number_of number; tick = tick }

abbrev pub head_of : Circuit → ℕ → Case → CaseHead
head_of c base case = settled_head case.listed.number (printed_tick c base case)

-- ---- what is found among cases

abbrev pub picture_in : Option (List ℕ) → Found
picture_in None = Much
picture_in (Some bytes) = Picture bytes

-- in these waves, with this head
abbrev pub found_on : Circuit → Waves → CaseHead → Found
found_on c ws head = picture_in (case_drawn c ws (rows_of c ws) head [] None)

abbrev pub found_in : Circuit → ℕ → Option Case → Found
found_in c base None = Nothing
found_in c base (Some case) = found_on c case.waves (head_of c base case)

abbrev pub found_among : Circuit → ℕ → ℕ → List Case → Found
found_among c base asked cases = found_in c base (find (is_numbered asked) cases)

-- ---- what is found with one case more

abbrev pub is_nothing : Found → Bool
is_nothing Nothing = true
is_nothing Much = false
is_nothing (Picture bytes) = false

-- the first that is asked for is found
abbrev pub next_found : Found → Bool → Found → Found
next_found found is_asked more = if is_asked && is_nothing found then more else found

-- After these cases of a circuit, whose base settled in this round, what was asked for is found,
-- and the faults of all are counted.
pub record IsSought (s : Sought) (asked : ℕ) (c : Circuit) (base : ℕ) (cases : List Case) :
    Type 0 where
  pub found_is : s.found ≡ found_among c base asked cases
  pub faults_are : s.faults ≡ fault_count c cases

-- The same after all cases that are listed, which settle within the limit.
pub record IsFoundIn (s : Sought) (asked : ℕ) (c : Circuit) (values : List (List CaseValue))
    (limit : ℕ) : Type 0 where
  pub base : ℕ
  pub settles : SettlesAt (base_round c) limit base
  pub of_cases : OfCases c limit base (listed_cases values)
      (λ (cases : List Case). IsSought s asked c base cases)

-- ---- what is answered

pub record Answered : Type 0 where
  pub outcome : DrawOutcome
  pub bytes : List ℕ

-- the whole drawing's verdict with the picture, or why there is none: of so many cases none has
-- the number, or there is too much to draw
abbrev pub answered : Found → ℕ → ℕ → Answered
answered Nothing count faults = record { outcome = NoCase count; bytes = [] }
answered Much count faults = record { outcome = TooMuch; bytes = [] }
answered (Picture bytes) count faults =
    record { outcome = Drawing (verdict_of faults); bytes = bytes }

abbrev pub answer_of : Circuit → ℕ → ℕ → List Case → ℕ → Answered
answer_of c base asked cases count =
    answered (found_among c base asked cases) count (fault_count c cases)
