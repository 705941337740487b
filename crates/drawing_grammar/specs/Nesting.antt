-- How deep a canonical text nests: how many parentheses and minus signs of an expression are open
-- at once.
use Rattle.std.specs.Prelude.{ℕ, suc, ◌+◌, Bool, if◌then◌else◌, max}
use Rattle.drawing_tree.specs.Expression.{Expression, Number, Param, Negate, Binary}
use Rattle.drawing_tree.specs.ExpressionText.{left_enclosed, right_enclosed, minus_enclosed, is_comparison}

-- one more if it stands in parentheses
abbrev pub enclosed_nesting : Bool → ℕ → ℕ
enclosed_nesting asked depth = if asked then suc depth else depth

-- an expression as a whole condition
unfoldable pub nesting : Expression → ℕ
nesting (Number n) = 0
nesting (Param name) = 0
nesting (Negate operand) = suc (enclosed_nesting (minus_enclosed operand) (nesting operand))
nesting (Binary op left right) =
    max (enclosed_nesting (left_enclosed op left) (nesting left))
    (enclosed_nesting (right_enclosed op right) (nesting right))

-- everywhere else
abbrev pub sum_nesting : Expression → ℕ
sum_nesting e = enclosed_nesting (is_comparison e) (nesting e)

-- how many operators stand between two operands in it
unfoldable pub operators : Expression → ℕ
operators (Number n) = 0
operators (Param name) = 0
operators (Negate operand) = operators operand
operators (Binary op left right) = operators left + suc (operators right)
