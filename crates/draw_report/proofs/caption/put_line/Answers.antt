use Rattle.std.proofs.Common.{◌+◌, length, refl, arith}
use Rattle.draw_report.specs.Element.{all_written}
use Rattle.draw_report.specs.Caption.{part_text}
use Rattle.draw_report.proofs.Texts.{adds_number, nodes_numbers}
use Rattle.draw_report.proofs.caption.put_line.Goals as goal

pub loop-place-preserved : goal.loop-place-preserved
loop-place-preserved c =
    adds_number (λ k. all_written (part_text c.args.y c.args.line.now k)) 0 c.loop-place.place
    (c.loop-place.place + 1) c.loop-place.place c.args.out.now c.loop-place.out c.put_part.new.out
    (omega arith) refl c.loop-place.invariant c.put_part.ensures

pub returns : goal.returns
returns c =
    nodes_numbers (part_text c.args.y c.args.line.now) 0 c.loop-place.place
    (length c.args.line.now) c.args.out.now c.loop-place.out (omega arith) c.loop-place.invariant
