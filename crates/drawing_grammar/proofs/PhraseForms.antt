-- Each canonical expression has a phrase at each level of the grammar.
use Rattle.drawing_tree.specs.Expression.{Expression}
use Rattle.drawing_grammar.proofs.Drawable.{IsDrawn}
use Rattle.drawing_grammar.proofs.Forms.{Forms, all_forms}
use Rattle.drawing_grammar.proofs.Levels.{Levels}
use Rattle.drawing_grammar.proofs.PhraseExpression as expression
use Rattle.drawing_grammar.proofs.PhraseComparison as comparison

abbrev pub phrases : Levels
phrases = record {
  AsUnary = expression.AsUnary;
  AsProduct = expression.AsProduct;
  AsSum = expression.AsSum;
  AsWhole = expression.AsWhole;
  AsCompared = comparison.AsCompared;
  product_of_unary = expression.product_of_unary;
  sum_of_product = expression.sum_of_product;
  whole_of_sum = expression.whole_of_sum;
  unary_of_whole = expression.unary_of_whole;
  number_unary = expression.number_unary;
  word_unary = expression.word_unary;
  minus_unary = expression.minus_unary;
  product_times = expression.product_times;
  product_divided = expression.product_divided;
  sum_plus = expression.sum_plus;
  sum_less = expression.sum_less;
  whole_compared = comparison.whole_compared;
  compared_equal = comparison.compared_equal;
  compared_unequal = comparison.compared_unequal;
  compared_below = comparison.compared_below;
  compared_above = comparison.compared_above;
  compared_at_most = comparison.compared_at_most;
  compared_at_least = comparison.compared_at_least;
}

pub forms : (x : Expression) → IsDrawn x → Forms phrases x
forms x is = all_forms phrases x is
