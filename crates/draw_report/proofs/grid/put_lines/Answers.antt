use Rattle.std.proofs.Common.{◌+◌, ◌-◌, arith}
use Rattle.draw_report.specs.Element.{words_text}
use Rattle.draw_report.specs.Grid.{ruled_words}
use Rattle.draw_report.proofs.Texts.{adds_no_number, adds_number, words_numbers}
use Rattle.draw_report.proofs.grid.put_lines.Goals as goal

pub loop-line-init : goal.loop-line-init
loop-line-init c = record {
  after = omega arith;
  text = adds_no_number (λ k. words_text (ruled_words c.args.view c.args.height c.args.ruled k))
      c.args.view.first
      (c.args.view.first - c.args.view.first) c.args.out.now (omega arith);
}

pub loop-line-preserved : goal.loop-line-preserved
loop-line-preserved c = record {
  after = omega arith;
  text = adds_number (λ k. words_text (ruled_words c.args.view c.args.height c.args.ruled k))
      c.args.view.first
      (c.loop-line.line - c.args.view.first) (c.loop-line.line + 1 - c.args.view.first)
      c.loop-line.line c.args.out.now c.loop-line.out c.put_line.new.out (omega arith)
      (omega arith) c.loop-line.invariant.text c.put_line.ensures;
}

pub returns : goal.returns
returns c =
    words_numbers (ruled_words c.args.view c.args.height c.args.ruled) c.args.view.first
    (c.loop-line.line - c.args.view.first)
    (c.args.view.count + 1) c.args.out.now c.loop-line.out (omega arith)
    c.loop-line.invariant.text
