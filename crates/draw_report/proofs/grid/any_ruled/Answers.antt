use Rattle.std.proofs.Common.{◌≡◌, ◌+◌, ◌-◌, arith, ap, sym, ◌∙◌}
use Rattle.std.specs.List.{list_any, range_with_len}
use Rattle.draw_report.specs.Grid.{is_ruled}
use Rattle.draw_report.proofs.Ranges.{none_next, some_passes}
use Rattle.draw_report.proofs.grid.any_ruled.Goals as goal

pub returns-then-is_at : goal.returns-then-is_at
returns-then-is_at c =
    sym (some_passes (is_ruled c.args.ruled c.args.view) c.args.view.first (c.args.view.count + 1)
    c.loop-line.line
    (omega arith) (omega arith) (cc))

pub loop-line-preserved : goal.loop-line-preserved
loop-line-preserved c = record {
  after = omega arith;
  none = none_next (is_ruled c.args.ruled c.args.view) c.args.view.first
      (c.loop-line.line - c.args.view.first)
      (c.loop-line.line + 1 - c.args.view.first) c.loop-line.line (omega arith) (omega arith)
      c.loop-line.invariant.none (cc);
}

pub returns : goal.returns
returns c =
    let all : c.args.view.count + 1 ≡ c.loop-line.line - c.args.view.first = omega arith in
    sym (ap (λ n. list_any (is_ruled c.args.ruled c.args.view) (range_with_len c.args.view.first n))
    all
    ∙ c.loop-line.invariant.none)
