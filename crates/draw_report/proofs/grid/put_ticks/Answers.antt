use Rattle.std.proofs.Common.{◌+◌, ◌-◌, arith}
use Rattle.std.specs.List.{flat_map}
use Rattle.std.specs.Prelude.{codes}
use Rattle.draw_report.specs.Element.{all_written, written}
use Rattle.draw_report.specs.Grid.{head_at, lines, tick_at}
use Rattle.draw_report.proofs.Texts.{adds_no_number, adds_number, adds_two, nodes_numbers}
use Rattle.draw_report.proofs.grid.put_ticks.Goals as goal

pub loop-line-init : goal.loop-line-init
loop-line-init c = record {
  after = omega arith;
  text = adds_no_number (λ k. all_written (tick_at c.args.view k)) c.args.view.first
      (c.args.view.first - c.args.view.first) c.put.new.self (omega arith);
}

pub loop-line-preserved : goal.loop-line-preserved
loop-line-preserved c = record {
  after = omega arith;
  text = adds_number (λ k. all_written (tick_at c.args.view k)) c.args.view.first
      (c.loop-line.line - c.args.view.first) (c.loop-line.line + 1 - c.args.view.first)
      c.loop-line.line c.put.new.self c.loop-line.out c.put_tick.new.out (omega arith)
      (omega arith) c.loop-line.invariant.text c.put_tick.ensures;
}

pub returns : goal.returns
returns c =
    adds_two c.args.out.now c.put.new.self c.loop-line.out
    (written (head_at (codes "-40") (codes "tick")))
    (all_written (flat_map (tick_at c.args.view) (lines c.args.view))) c.put.ensures
    (nodes_numbers (tick_at c.args.view) c.args.view.first (c.loop-line.line - c.args.view.first)
    (c.args.view.count + 1) c.put.new.self c.loop-line.out (omega arith) c.loop-line.invariant.text)
