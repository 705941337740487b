-- An expression as a tree of what it holds, without where its parts lie in memory.
use Rattle.std.specs.Prelude.{ℕ, ℤ, List}
use Rattle.drawing_tree.specs.declared.expr.Op.{Op}
use Rattle.drawing_tree.specs.declared.expr.Expr.{Expr}
use Rattle.drawing_tree.specs.declared.expr.Expr.TheVariants as expr

pub data Expression : Type 0 where
  Number : ℤ → Expression
  Param : List ℕ → Expression
  Negate : Expression → Expression
  Binary : Op → Expression → Expression → Expression

abbrev pub expression_of : Expr → Expression
expression_of (expr.Number n) = Number n
expression_of (expr.Param name) = Param name
expression_of (expr.Negate' p operand) = Negate (expression_of operand)
expression_of (expr.Binary' op p left q right) =
    Binary op (expression_of left) (expression_of right)
