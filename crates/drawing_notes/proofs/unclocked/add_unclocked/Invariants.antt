use Rattle.std.proofs.Common.{List}
use Rattle.std.specs.List.{flat_map, range_with_len}
use Rattle.timing_analysis.specs.Case.{Case}
use Rattle.drawing_omissions.specs.Lines.{Adds}
use Rattle.drawing_notes.specs.Unclocked.{AreActs, unclocked_at}
use Rattle.drawing_notes.proofs.unclocked.add_unclocked.Given as goal

abbrev pub invariant-loop-number : goal.invariant-loop-number
invariant-loop-number l =
    (cases : List Case) → AreActs l.c cases l.acts → Adds l.fn.notes l.notes (flat_map (unclocked_at l.c cases) (range_with_len 0 l.number))
