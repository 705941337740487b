-- What the program of chains means.
use Rattle.std.specs.Prelude.{◌≡◌, ℕ, List, codes}
use Rattle.scald_base.specs.declared.outcome.Outcome.{Outcome}
use Rattle.drawing_tree.specs.Tree.{Drawing}
use Rattle.flat_circuit.specs.Circuit.{Circuit}
use Rattle.program_call.specs.Program.{Meaning}
use Rattle.timing_analysis.specs.Case.{Case, fault_count}
use Rattle.program_call.specs.declared.words.Request.{Request}
use Rattle.program_call.specs.Answer.{Reporting, verdict_of}
use Rattle.program_call.specs.Wordless.{reporting_program}
use Rattle.fault_chain.specs.Report.{chain_report}

-- The outcome counts the faults, and the bytes are the chains of all of them, by the version of the
-- drawing.
pub record AreChains (version : ℕ) (c : Circuit) (base : ℕ) (cases : List Case) (o : Outcome)
    (bytes : List ℕ) : Type 0 where
  pub outcome : o ≡ verdict_of (fault_count c cases)
  pub text : bytes ≡ chain_report version c cases

-- those on the circuit of a drawing
abbrev pub chains_of : Drawing → Reporting
chains_of d = AreChains d.version

-- the word that asks for it
abbrev pub own_word : List ℕ
own_word = codes "chains"

abbrev pub chains : Meaning Request Outcome
chains = reporting_program own_word chains_of
