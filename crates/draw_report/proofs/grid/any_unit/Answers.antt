use Rattle.std.proofs.Common.{◌≡◌, ◌+◌, ◌-◌, arith, ap, sym, ◌∙◌}
use Rattle.std.specs.List.{list_any, range_with_len}
use Rattle.draw_report.specs.Grid.{begins_unit}
use Rattle.draw_report.proofs.Ranges.{none_next, some_passes}
use Rattle.draw_report.proofs.grid.any_unit.Goals as goal

pub returns-then-begins_unit : goal.returns-then-begins_unit
returns-then-begins_unit c =
    sym (some_passes (begins_unit c.args.view) c.args.view.first (c.args.view.count + 1)
    c.loop-line.line
    (omega arith) (omega arith) (cc))

pub loop-line-preserved : goal.loop-line-preserved
loop-line-preserved c = record {
  after = omega arith;
  none = none_next (begins_unit c.args.view) c.args.view.first
      (c.loop-line.line - c.args.view.first)
      (c.loop-line.line + 1 - c.args.view.first) c.loop-line.line (omega arith) (omega arith)
      c.loop-line.invariant.none (cc);
}

pub returns : goal.returns
returns c =
    let all : c.args.view.count + 1 ≡ c.loop-line.line - c.args.view.first = omega arith in
    sym (ap (λ n. list_any (begins_unit c.args.view) (range_with_len c.args.view.first n)) all
    ∙ c.loop-line.invariant.none)
