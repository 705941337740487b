-- What the call promises beside its answer.
use Rattle.std.specs.Prelude.{◌≡◌, ◌⊎◌, ℕ, ◌≤◌, ◌==◌, true, not, List, length, None, Ok}
use Rattle.scald_base.specs.declared.outcome.Outcome.{Outcome}
use Rattle.scald_base.specs.declared.outcome.Outcome.TheVariants.{Clean, NoMemory}
use Rattle.flat_circuit.specs.Circuit.{Circuit}
use Rattle.timing_analysis.specs.Case.{Case as Settled, fault_count}
use Rattle.timing_analysis.specs.Promise.{NeverBreaks}
use Rattle.program_call.specs.Answer.{verdict_of}
use Rattle.program_call.specs.Promise.{SettlesLoopless, TextSettles}
use Rattle.program_call.specs.Wordless.{most_bytes}
use Rattle.slack_rows.specs.Known.{are_sure}
use Rattle.slack_rows.specs.Rows.{broken_count, some_broken}
use Rattle.slack_report.specs.declared.request.Request.{Request}
use Rattle.slack_report.specs.Answer.{cases_of}
use Rattle.slack_report.specs.Words.{request_of}

-- The words are of a form, and the text is short enough and settles within the rounds that they
-- allow.
pub record AsksWell (words : List (List ℕ)) (text : List ℕ) : Type 0 where
  pub request : Request
  pub form : request_of words ≡ Ok request
  pub short : length text ≤ most_bytes
  pub settles : TextSettles request.rounds text

-- It ends by how many limits are broken, which is none exactly if `verify` finds no fault, or
-- because memory runs out.
pub record IsVerdict (c : Circuit) (cases : List Settled) (o : Outcome) : Type 0 where
  pub count : ℕ
  pub outcome : o ≡ verdict_of count
  pub none : (count == 0) ≡ not (some_broken c (cases_of cases))
  pub faultless : (count == 0) ≡ (fault_count c cases == 0)
  pub exact : are_sure c (cases_of cases) ≡ true → count ≡ broken_count c (cases_of cases)

abbrev pub EndsByLimits : List (List ℕ) → List ℕ → Outcome → Type 0
EndsByLimits words text o =
    (asks : AsksWell words text) →
    (o ≡ NoMemory) ⊎ IsVerdict asks.settles.circuit asks.settles.cases o

-- Where no limit is broken, nothing of the text ever breaks.
abbrev pub NeverBreaksIfMet : Request → List ℕ → Outcome → Type 0
NeverBreaksIfMet request text o = o ≡ Clean → NeverBreaks text

-- Where the words set no limit of rounds, waves of a circuit without a loop settle.
abbrev pub SettlesUnlimited : List (List ℕ) → List ℕ → Outcome → Type 0
SettlesUnlimited words text o =
    (request : Request) → request_of words ≡ Ok request → request.rounds ≡ None →
    SettlesLoopless text o
