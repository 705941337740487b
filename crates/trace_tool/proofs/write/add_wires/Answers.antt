use Rattle.std.proofs.Common.{ℕ, ◌++◌, ◌∙◌, ap, subst}
use Rattle.scald_base.proofs.Device.{at_err}
use Rattle.listing.proofs.Parts.{item_added, part_of_item}
use Rattle.listing.specs.Text.{HasPart}
use Rattle.trace_tool.specs.Trace.{wire_text}
use Rattle.trace_tool.proofs.write.add_wires.Goals as goal

pub returns-in_err-add_pieces-clause-err : goal.returns-in_err-add_pieces-clause-err
returns-in_err-add_pieces-clause-err c =
    at_err c.from_residual.result
    (part_of_item wire_text c.args.wires.now c.loop-wire.wire-index 0 c.args.out.now
    c.loop-wire.out c.add_pieces.new.out c.loop-wire-test.true c.loop-wire.invariant
    (subst (λ (n : ℕ). HasPart c.loop-wire.out c.add_pieces.new.out (wire_text n)) c.from.ensures c.in_err-add_pieces.ensures.err))

pub loop-wire-preserved : goal.loop-wire-preserved
loop-wire-preserved c =
    item_added wire_text c.args.wires.now c.loop-wire.wire-index 0 c.args.out.now
    c.loop-wire.out c.add_pieces.new.out c.loop-wire-test.true c.loop-wire.invariant
    (c.in_ok-add_pieces.ensures.ok ∙ ap (λ (n : ℕ). c.loop-wire.out ++ wire_text n) c.from.ensures)
