use Rattle.std.proofs.Common.{◌≡◌, ◌++◌, ℕ, List, subst}
use Rattle.std.specs.Prelude.{OnErr, OnOk}
use Rattle.scald_base.proofs.Device.{at_err}
use Rattle.listing.specs.Piece.{piece_text}
use Rattle.listing.specs.Text.{HasPart}
use Rattle.listing.proofs.Parts.{err_second, ok_second, part_first}
use Rattle.trace_tool.specs.Trace.{wires_text}
use Rattle.trace_tool.proofs.Written.{front_text, instance_line_is}
use Rattle.trace_tool.proofs.write.add_instance.Goals as goal

pub returns-in_err-add_pieces-clause-err : goal.returns-in_err-add_pieces-clause-err
returns-in_err-add_pieces-clause-err c =
    let i = c.args.i.now in
    let pieces = c.delay_pieces.result in
    at_err c.from_residual.result
    (subst (HasPart c.args.out.now c.add_pieces.new.out)
    (instance_line_is i c.args.pick c.args.wires.now c.as_slice.result.now (piece_text pieces.0) (piece_text pieces.1) (piece_text pieces.2)
    c.as_slice.ensures c.delay_pieces.ensures)
    (part_first c.args.out.now c.add_pieces.new.out (front_text c.as_slice.result.now i.bit (piece_text pieces.0) (piece_text pieces.1) (piece_text pieces.2))
    (wires_text c.args.wires.now) c.in_err-add_pieces.ensures.err))

pub returns-clause-ok : goal.returns-clause-ok
returns-clause-ok c =
    let i = c.args.i.now in
    let pieces = c.delay_pieces.result in
    subst (λ (text : List ℕ). OnOk c.add_wires.result (c.add_wires.new.out ≡ c.args.out.now ++ text))
    (instance_line_is i c.args.pick c.args.wires.now c.as_slice.result.now (piece_text pieces.0) (piece_text pieces.1) (piece_text pieces.2)
    c.as_slice.ensures c.delay_pieces.ensures)
    (ok_second c.add_wires.result c.args.out.now c.add_pieces.new.out c.add_wires.new.out
    (front_text c.as_slice.result.now i.bit (piece_text pieces.0) (piece_text pieces.1) (piece_text pieces.2)) (wires_text c.args.wires.now)
    c.in_ok-add_pieces.ensures.ok c.add_wires.ensures.ok)

pub returns-clause-err : goal.returns-clause-err
returns-clause-err c =
    let i = c.args.i.now in
    let pieces = c.delay_pieces.result in
    subst (λ (text : List ℕ). OnErr c.add_wires.result (HasPart c.args.out.now c.add_wires.new.out text))
    (instance_line_is i c.args.pick c.args.wires.now c.as_slice.result.now (piece_text pieces.0) (piece_text pieces.1) (piece_text pieces.2)
    c.as_slice.ensures c.delay_pieces.ensures)
    (err_second c.add_wires.result c.args.out.now c.add_pieces.new.out c.add_wires.new.out
    (front_text c.as_slice.result.now i.bit (piece_text pieces.0) (piece_text pieces.1) (piece_text pieces.2)) (wires_text c.args.wires.now)
    c.in_ok-add_pieces.ensures.ok c.add_wires.ensures.err)
