-- All notes on a drawing, and their lines.
use Rattle.std.specs.Prelude.{◌≡◌, ℕ, ◌==◌, List, [], ◌∷◌, ◌++◌, length, codes, decimal}
use Rattle.std.specs.Prelude.{if◌then◌else◌}
use Rattle.std.specs.List.{concat}
use Rattle.flat_circuit.specs.Circuit.{Circuit}
use Rattle.timing_analysis.specs.Case.{Case}
use Rattle.listing.specs.Head.{period_line}
use Rattle.listing.specs.Text.{line}
use Rattle.scald_base.specs.declared.outcome.Outcome.{Outcome}
use Rattle.program_call.specs.Answer.{verdict_of}
use Rattle.drawing_notes.specs.Ways.{Ways, AreWays}
use Rattle.drawing_notes.specs.SoFar.{HoldsOf}
use Rattle.drawing_omissions.specs.Lines.{Lines, Adds}
use Rattle.drawing_notes.specs.declared.cases.SoFar.{SoFar}
use Rattle.drawing_notes.specs.Idle.{idle}
use Rattle.drawing_notes.specs.Unchecked.{unchecked}
use Rattle.drawing_notes.specs.Unread.{unread}
use Rattle.drawing_notes.specs.Late.{late}
use Rattle.drawing_notes.specs.Loops.{loops}
use Rattle.drawing_notes.specs.declared.reply.Kept.{Kept}
use Rattle.drawing_notes.specs.Drawn.{drawn_notes}
use Rattle.drawing_notes.specs.Unclocked.{unclocked}
use Rattle.drawing_notes.specs.Unknown.{unknown}
use Rattle.drawing_notes.specs.Common.{common, common_ticks}
use Rattle.drawing_notes.specs.Unmarked.{unmarked}

-- on instances and nets, each by itself and by the clocks that come to it
abbrev pub single_notes : Ways → Circuit → List Case → List (List ℕ)
single_notes ways c cases =
    unclocked c cases ++ (idle c ++ (unchecked c
    ++ (unmarked c ways.clocks ways.timed cases ++ unread c)))

-- on paths, by what leads to what in the circuit, and on what they meet with in waves
abbrev pub path_notes : Ways → Circuit → List Case → List (List ℕ)
path_notes ways c cases =
    late c ways.arrival ++ (loops c ways.together
    ++ (unknown c cases ++ common c (common_ticks c ways.launched cases)))

-- kind by kind
abbrev pub notes : Ways → Kept → Circuit → List Case → List (List ℕ)
notes ways kept c cases =
    single_notes ways c cases ++ (drawn_notes c kept ++ path_notes ways c cases)

-- the last line: how many notes there are, or that there is none
unfoldable pub count_line : ℕ → List ℕ
count_line total =
    if total == 0 then line (codes "CLEAN" ∷ []) else line (codes "NOTES " ∷ decimal total ∷ [])

-- the version and the period, the notes, and their count
abbrev pub note_lines : ℕ → Circuit → List (List ℕ) → List ℕ
note_lines version c found = period_line version c ++ (concat found ++ count_line (length found))

-- The outcome counts the notes on a circuit, by what leads to what in it, and the bytes are their
-- lines, whichever the round
-- is in which its base settled.
pub record AreNotes (kept : Kept) (c : Circuit) (base : ℕ) (cases : List Case) (o : Outcome)
    (bytes : List ℕ) : Type 0 where
  pub ways : Ways
  pub are : AreWays c cases ways
  pub outcome : o ≡ verdict_of (length (notes ways kept c cases))
  pub text : bytes ≡ note_lines kept.version c (notes ways kept c cases)
