-- What the program of margins means.
use Rattle.std.specs.Prelude.{◌≡◌, ℕ, List, codes}
use Rattle.scald_base.specs.declared.outcome.Outcome.{Outcome}
use Rattle.scald_base.specs.declared.outcome.Outcome.TheVariants.{Done}
use Rattle.drawing_tree.specs.Tree.{Drawing}
use Rattle.flat_circuit.specs.Circuit.{Circuit}
use Rattle.timing_analysis.specs.Case.{Case}
use Rattle.program_call.specs.Answer.{Reporting}
use Rattle.program_call.specs.Program.{Meaning}
use Rattle.program_call.specs.declared.words.Request.{Request}
use Rattle.program_call.specs.Wordless.{reporting_program}
use Rattle.margin_report.specs.Report.{margin_lines, rows}

-- The call is done with the lines of the margins over all cases, by the version of the drawing,
-- whichever the rounds of the base are.
pub record AreMargins (version : ℕ) (c : Circuit) (base : ℕ) (cases : List Case) (o : Outcome)
    (bytes : List ℕ) : Type 0 where
  pub outcome : o ≡ Done
  pub text : bytes ≡ margin_lines version c (rows c cases)

-- those on the circuit of a drawing
abbrev pub margins_of : Drawing → Reporting
margins_of d = AreMargins d.version

-- the word that asks for it
abbrev pub own_word : List ℕ
own_word = codes "margins"

abbrev pub margins : Meaning Request Outcome
margins = reporting_program own_word margins_of
