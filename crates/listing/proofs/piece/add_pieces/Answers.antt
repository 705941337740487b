use Rattle.scald_base.proofs.Device.{at_err}
use Rattle.listing.specs.Piece.{piece_text}
use Rattle.listing.proofs.Parts.{part_of_item}
use Rattle.listing.proofs.piece.add_pieces.Goals as goal

pub returns-in_err-add_piece-clause-err : goal.returns-in_err-add_piece-clause-err
returns-in_err-add_piece-clause-err c =
    at_err c.from_residual.result
    (part_of_item piece_text c.args.pieces.now c.loop-piece.piece-index _ c.args.out.now
    c.loop-piece.out c.add_piece.new.out c.loop-piece-test.true c.loop-piece.invariant c.in_err-add_piece.ensures.err)
