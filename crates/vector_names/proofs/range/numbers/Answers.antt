use Rattle.std.proofs.Common.{◌+◌, ◌∙◌, ap, sym, Some, ℕ, List, arith}
use Rattle.vector_names.proofs.Ranges.{length_from_to, range_long, range_up, range_down}
use Rattle.vector_names.proofs.range.numbers.Goals as goal

pub returns-then-abs_diff-ge-WIDEST : goal.returns-then-abs_diff-ge-WIDEST
returns-then-abs_diff-ge-WIDEST c =
    let a = c.args.first in let b = c.args.last in
    range_long a b (c.abs_diff.result + 1) (length_from_to a b (c.abs_diff.result + 1) (λ h. omega (arith, c.abs_diff.ensures)) (λ h. omega (arith, c.abs_diff.ensures))) (omega arith)

pub returns-in_ok-upwards : goal.returns-in_ok-upwards
returns-in_ok-upwards c = range_up c.args.first c.args.last (omega arith) (omega (arith, c.abs_diff.ensures)) ∙ ap (λ (xs : List ℕ). Some xs) (sym c.in_ok-upwards.ensures)

pub returns-in_ok-downwards : goal.returns-in_ok-downwards
returns-in_ok-downwards c = range_down c.args.first c.args.last (omega arith) (omega (arith, c.abs_diff.ensures)) ∙ ap (λ (xs : List ℕ). Some xs) (sym c.in_ok-downwards.ensures)
