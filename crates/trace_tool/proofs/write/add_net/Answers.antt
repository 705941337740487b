use Rattle.std.proofs.Common.{◌≡◌, ◌++◌, [], ℕ, List, codes, subst}
use Rattle.std.specs.Prelude.{OnErr, OnOk}
use Rattle.std.specs.List.{flat_map}
use Rattle.scald_base.proofs.Device.{at_err}
use Rattle.listing.specs.Piece.{piece_text}
use Rattle.listing.specs.Text.{HasPart}
use Rattle.listing.proofs.Parts.{err_second, ok_second, part_first}
use Rattle.trace_tool.specs.Trace.{digit_text}
use Rattle.trace_tool.proofs.Written.{net_line_is}
use Rattle.trace_tool.proofs.write.add_net.Goals as goal

pub returns-in_err-add_pieces-clause-err : goal.returns-in_err-add_pieces-clause-err
returns-in_err-add_pieces-clause-err c =
    at_err c.from_residual.result
    (subst (HasPart c.args.out.now c.add_pieces.new.out)
    (net_line_is c.args.c.now c.args.net c.args.row.now (piece_text c.net_piece.result) c.net_piece.ensures)
    (part_first c.args.out.now c.add_pieces.new.out (piece_text c.net_piece.result ++ (codes " " ++ []))
    (flat_map digit_text c.args.row.now) c.in_err-add_pieces.ensures.err))

pub returns-clause-ok : goal.returns-clause-ok
returns-clause-ok c =
    subst (λ (text : List ℕ). OnOk c.add_digits.result (c.add_digits.new.out ≡ c.args.out.now ++ text))
    (net_line_is c.args.c.now c.args.net c.args.row.now (piece_text c.net_piece.result) c.net_piece.ensures)
    (ok_second c.add_digits.result c.args.out.now c.add_pieces.new.out c.add_digits.new.out
    (piece_text c.net_piece.result ++ (codes " " ++ [])) (flat_map digit_text c.args.row.now)
    c.in_ok-add_pieces.ensures.ok c.add_digits.ensures.ok)

pub returns-clause-err : goal.returns-clause-err
returns-clause-err c =
    subst (λ (text : List ℕ). OnErr c.add_digits.result (HasPart c.args.out.now c.add_digits.new.out text))
    (net_line_is c.args.c.now c.args.net c.args.row.now (piece_text c.net_piece.result) c.net_piece.ensures)
    (err_second c.add_digits.result c.args.out.now c.add_pieces.new.out c.add_digits.new.out
    (piece_text c.net_piece.result ++ (codes " " ++ [])) (flat_map digit_text c.args.row.now)
    c.in_ok-add_pieces.ensures.ok c.add_digits.ensures.err)
