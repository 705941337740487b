-- What the program of notes means.
use Rattle.std.specs.Prelude.{ℕ, List, codes, None}
use Rattle.scald_base.specs.declared.outcome.Outcome.{Outcome}
use Rattle.drawing_tree.specs.Tree.{Drawing}
use Rattle.program_call.specs.Program.{Meaning}
use Rattle.program_call.specs.declared.words.Request.{Request}
use Rattle.program_call.specs.Answer.{Evaluated, Reporting}
use Rattle.program_call.specs.Wordless.{reporting_program}
use Rattle.drawing_notes.specs.declared.reply.Kept.{Kept}
use Rattle.drawing_omissions.specs.Spreads.{spreads}
use Rattle.drawing_omissions.specs.Fors.{fors}
use Rattle.drawing_omissions.specs.CaseBits.{case_bits}
use Rattle.drawing_notes.specs.Report.{AreNotes}

-- what the notes keep of a drawing: its version, what is found while it is expanded, its FORs and
-- its cases
abbrev pub kept_of : Drawing → Kept
kept_of d =
    record { version = d.version; found = spreads d; fors = fors d; cases = case_bits d }

-- the notes on a drawing, on its circuit and on its settled cases
abbrev pub notes_of : Drawing → Reporting
notes_of d = AreNotes (kept_of d)

-- What is answered on a text, with the circuit's own limit of rounds.
abbrev pub Noted : List ℕ → Outcome → List ℕ → Type 0
Noted = Evaluated notes_of None

-- the word that asks for it
abbrev pub own_word : List ℕ
own_word = codes "notes"

abbrev pub notes_program : Meaning Request Outcome
notes_program = reporting_program own_word notes_of
