use Rattle.std.proofs.Common.{take}
use Rattle.std.specs.List.{flat_map}
use Rattle.draw_report.specs.Paper.{Adds, piece_text}
use Rattle.draw_report.proofs.paper.Paper.put.Given as goal

abbrev pub invariant-loop-piece : goal.invariant-loop-piece
invariant-loop-piece l =
    Adds l.fn.self l.self (flat_map piece_text (take l.piece-index l.pieces))
