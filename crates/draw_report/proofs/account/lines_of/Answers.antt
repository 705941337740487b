use Rattle.std.proofs.Common.{ℕ, ◌≤◌, ◌^◌, List, length, arith}
use Rattle.draw_report.proofs.Filling.{all_more, length_more}
use Rattle.draw_report.proofs.account.lines_of.Goals as goal

pub loop-count-preserved : goal.loop-count-preserved
loop-count-preserved c =
    let few = c.loop-count.invariant.few in
    let longer =
    length_more c.loop-count.lines c.push.new.self c.in_ok-line.line c.in_ok-push.ensures.ok in
    record {
      few = omega (arith, few, longer);
      short = all_more (λ (line : List ℕ). length line ≤ 2 ^ 32) c.loop-count.lines
          c.push.new.self c.in_ok-line.line c.loop-count.invariant.short c.in_ok-line.ensures
          c.in_ok-push.ensures.ok;
    }
