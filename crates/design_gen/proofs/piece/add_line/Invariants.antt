use Rattle.std.proofs.Common.{◌≡◌, ◌++◌, take}
use Rattle.std.specs.List.{flat_map}
use Rattle.design_gen.specs.Piece.{piece_text}
use Rattle.design_gen.proofs.piece.add_line.Given as goal

abbrev pub invariant-loop-piece : goal.invariant-loop-piece
invariant-loop-piece l = l.out ≡ l.fn.out ++ flat_map piece_text (take l.piece-index l.pieces)
