use Rattle.std.proofs.Common.{◌≡◌, ◌≤◌, ℕ, List, take}
use Rattle.std.specs.Prelude.{fold, max}
use Rattle.draw_report.specs.Mark.{counted_length}
use Rattle.draw_report.proofs.picture.longest.Given as goal

abbrev pub invariant-loop-line : goal.invariant-loop-line
invariant-loop-line l = record {
  is : l.longest ≡ fold (λ (most : ℕ) (text : List ℕ). max most (counted_length text))
      (counted_length l.heading) (take l.line-index l.caption);
  few : l.longest ≤ 65536;
}
