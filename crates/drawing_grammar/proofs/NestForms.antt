-- Each canonical expression that is read nests no deeper than a text may, at each level of the
-- grammar.
use Rattle.drawing_tree.specs.Expression.{Expression}
use Rattle.drawing_grammar.proofs.Drawable.{IsDrawn}
use Rattle.drawing_grammar.proofs.Forms.{Forms, all_forms}
use Rattle.drawing_grammar.proofs.Levels.{Levels}
use Rattle.drawing_grammar.proofs.NestExpression as expression

abbrev pub nests : Levels
nests = record {
  AsUnary = expression.AsUnary;
  AsProduct = expression.AsProduct;
  AsSum = expression.AsSum;
  AsWhole = expression.AsWhole;
  AsCompared = expression.AsCompared;
  product_of_unary = expression.product_of_unary;
  sum_of_product = expression.sum_of_product;
  whole_of_sum = expression.whole_of_sum;
  unary_of_whole = expression.unary_of_whole;
  number_unary = expression.number_unary;
  word_unary = expression.word_unary;
  minus_unary = expression.minus_unary;
  product_times = expression.product_times;
  product_divided = expression.product_divided;
  sum_plus = expression.sum_plus;
  sum_less = expression.sum_less;
  whole_compared = expression.whole_compared;
  compared_equal = expression.compared_equal;
  compared_unequal = expression.compared_unequal;
  compared_below = expression.compared_below;
  compared_above = expression.compared_above;
  compared_at_most = expression.compared_at_most;
  compared_at_least = expression.compared_at_least;
}

pub forms : (x : Expression) → IsDrawn x → Forms nests x
forms x is = all_forms nests x is
