-- What is answered to a text: whether limits are broken, and between a first and a last line that
-- are exact the slacks. The table and the paragraphs have no exact text.
use Rattle.std.specs.Prelude.{◌≡◌, ℕ, ◌==◌, Bool, true, not, ◌&&◌, List, [], ◌∷◌, ◌++◌, length, map, codes, decimal, if◌then◌else◌}
use Rattle.std.specs.List.{AllByRecursion, sum_by}
use Rattle.scald_base.specs.declared.outcome.Outcome.{Outcome}
use Rattle.scald_base.specs.Outcome.{ended, end_of}
use Rattle.scald_base.specs.Time.{period}
use Rattle.drawing_tree.specs.Tree.{Drawing}
use Rattle.flat_circuit.specs.Circuit.{Circuit}
use Rattle.listing.specs.Text.{line}
use Rattle.timing_analysis.specs.Case.{Case as Settled, faults_of}
use Rattle.slack_rows.specs.declared.parameter.Parameter.{Parameter}
use Rattle.slack_rows.specs.declared.rows.Rows.{Rows}
use Rattle.slack_rows.specs.Known.{AreKnown, are_sure}
use Rattle.slack_rows.specs.Laws.{AreWaves}
use Rattle.slack_rows.specs.Limit.{Case}
use Rattle.slack_rows.specs.Rows.{broken_count, free_count, is_reported, own_rows, row, slack_of, some_broken}
use Rattle.slack_rows.specs.Slack.{is_free}
use Rattle.program_call.specs.Answer.{Reporting, Evaluated, verdict_of}
use Rattle.program_call.specs.Program.{Meaning}
use Rattle.program_call.specs.Wordless.{most_bytes}
use Rattle.slack_report.specs.declared.request.Part.{Part}
use Rattle.slack_report.specs.declared.request.Part.TheVariants.{Table, Paragraphs}
use Rattle.slack_report.specs.declared.request.Request.{Request}
use Rattle.slack_report.specs.Words.{request_of}

-- ---- cases

-- a case by its number and its waves
abbrev pub case_of : Settled → Case
case_of case = record { number = case.listed.number; waves = case.waves }

abbrev pub cases_of : List Settled → List Case
cases_of cases = map case_of cases

-- how many faults these cases have, as `verify` counts them
abbrev pub fault_total : Circuit → List Case → ℕ
fault_total c cases = sum_by (λ (case : Case). length (faults_of c case.waves)) cases

-- These are the least slacks of the circuit's limits over these cases, whose waves are of its nets.
pub record AreRows (c : Circuit) (cases : List Case) (rows : Rows) : Type 0 where
  pub known : AreKnown c cases rows.parameters rows.least rows.cases rows.sets.keys
  pub same_period : rows.period ≡ period c.header
  pub are_waves : AllByRecursion (λ (case : Case). AreWaves c case.waves) cases

-- something can break the limit, and it is not in the row before
abbrev pub has_row : Circuit → List Case → Parameter → Bool
has_row c cases q =
    not (is_free (slack_of (row c cases q.subject q.word)))
    && not (is_reported c cases (row c cases q.subject q.word))

-- ---- lines

unfoldable pub first_line : Circuit → List ℕ
first_line c = line (codes "SLACK PERIOD " ∷ decimal (period c.header) ∷ [])

-- how many limits nothing can break, under the table, if there are some
abbrev pub free_lines : Part → ℕ → List ℕ
free_lines Table free =
    if free == 0 then []
    else line (decimal free ∷ codes " limits that nothing can break" ∷ [])
free_lines Paragraphs free = []

-- how many limits are broken, or else how many have a row
abbrev pub count_line : ℕ → ℕ → List ℕ
count_line broken limits =
    if broken == 0 then line (codes "MET " ∷ decimal limits ∷ [])
    else line (codes "BROKEN " ∷ decimal broken ∷ [])

unfoldable pub last_lines : Part → ℕ → ℕ → ℕ → List ℕ
last_lines part free broken limits = free_lines part free ++ line [] ++ count_line broken limits

-- ---- the reply

-- A number of limits that is 0 exactly if no limit is broken, that is, if no case has a
-- fault. If no slack goes by arrivals, it is that of the broken ones that have a row of their
-- own.
pub record AreBroken (c : Circuit) (cases : List Case) (count : ℕ) : Type 0 where
  pub none : (count == 0) ≡ not (some_broken c cases)
  pub faultless : (count == 0) ≡ (fault_total c cases == 0)
  pub exact : are_sure c cases ≡ true → count ≡ broken_count c cases

-- The outcome and the last line are by how many limits are broken; if none is, the last line has
-- how many have a row of their own, which is exact if no slack goes by arrivals. The table
-- ends with how many nothing can break. The lines between the first one and those are any.
pub record AreSlacksOf (part : Part) (c : Circuit) (cases : List Case) (o : Outcome)
    (bytes : List ℕ) : Type 0 where
  pub broken : ℕ
  pub are_broken : AreBroken c cases broken
  pub outcome : o ≡ verdict_of broken
  pub limits : ℕ
  pub have_rows : are_sure c cases ≡ true → limits ≡ length (own_rows c cases)
  pub lines : List ℕ
  pub text : bytes
      ≡ first_line c ++ lines ++ last_lines part (free_count c cases) broken limits

-- those of a circuit's settled cases, whichever the rounds of the base are
abbrev pub AreSlacks : Part → Reporting
AreSlacks part c base cases = AreSlacksOf part c (cases_of cases)

-- the same whichever the drawing is
abbrev pub slacks_of : Part → Drawing → Reporting
slacks_of part d = AreSlacks part

-- What the words ask for, and what is answered to a text. Since not all of an answer is exact, all
-- that speak of the text count as one.
abbrev pub slack_program : Meaning Request Outcome
slack_program = record {
  command_of = request_of;
  reads = λ request. true;
  most_bytes = λ read. most_bytes;
  Replied = λ (request : Request) text. Evaluated (slacks_of request.part) request.rounds text;
  AreOne = λ o bytes p others. end_of o ≡ end_of p;
  ended = ended;
  end_of = end_of;
}
