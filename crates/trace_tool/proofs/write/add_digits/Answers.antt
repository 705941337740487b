use Rattle.std.proofs.Common.{ap, ◌∙◌, ◌++◌, ℕ, List}
use Rattle.scald_base.proofs.Device.{at_err}
use Rattle.listing.proofs.Parts.{item_added, part_of_item}
use Rattle.std.proofs.Common.{false, get_or}
use Rattle.trace_tool.specs.Trace.{digit_text}
use Rattle.trace_tool.proofs.Written.{part_none}
use Rattle.trace_tool.proofs.write.add_digits.Goals as goal

pub returns-in_err-extend-clause-err : goal.returns-in_err-extend-clause-err
returns-in_err-extend-clause-err c =
    at_err c.from_residual.result
    (part_of_item digit_text c.args.row.now c.loop-bit.bit-index false c.args.out.now
    c.loop-bit.out c.extend.new.self c.loop-bit-test.true c.loop-bit.invariant
    (part_none c.loop-bit.out c.extend.new.self (digit_text (get_or c.args.row.now c.loop-bit.bit-index false)) c.in_err-extend.ensures.err))

pub loop-bit-preserved : goal.loop-bit-preserved
loop-bit-preserved c =
    item_added digit_text c.args.row.now c.loop-bit.bit-index false c.args.out.now
    c.loop-bit.out c.extend.new.self c.loop-bit-test.true c.loop-bit.invariant
    (c.in_ok-extend.ensures.ok ∙ ap (λ (l : List ℕ). c.loop-bit.out ++ l) c.digit.ensures)
