use Rattle.std.proofs.Common.{◌≡◌, ◌≤◌, ℕ, List, take}
use Rattle.std.specs.Prelude.{fold, max}
use Rattle.draw_report.specs.Row.{shown_length}
use Rattle.draw_report.proofs.picture.left.Given as goal

abbrev pub invariant-loop-label : goal.invariant-loop-label
invariant-loop-label l = record {
  is : l.longest ≡ fold (λ (most : ℕ) (text : List ℕ). max most (shown_length text)) 8
      (take l.label-index l.labels);
  few : l.longest ≤ 40;
}
