-- How an expression is written: one space on each side of an operator, and parentheses only where
-- they are asked for.
use Rattle.std.specs.Prelude.{ℕ, Bool, true, false, ◌&&◌, ◌||◌, List, ◌++◌, codes, if◌then◌else◌}
use Rattle.std.specs.Fmt.{signed_decimal}
use Rattle.drawing_tree.specs.declared.expr.Op.{Op}
use Rattle.drawing_tree.specs.declared.expr.Op.TheVariants.{Add, Sub, Mul, Div, Eq, Ne, Lt, Le, Gt, Ge}
use Rattle.drawing_tree.specs.Expression.{Expression, Number, Param, Negate, Binary}

-- ---- kinds of operators and of expressions

abbrev pub adds : Op → Bool
adds Add = true
adds Sub = true
adds Mul = false
adds Div = false
adds Eq = false
adds Ne = false
adds Lt = false
adds Le = false
adds Gt = false
adds Ge = false

abbrev pub multiplies : Op → Bool
multiplies Add = false
multiplies Sub = false
multiplies Mul = true
multiplies Div = true
multiplies Eq = false
multiplies Ne = false
multiplies Lt = false
multiplies Le = false
multiplies Gt = false
multiplies Ge = false

abbrev pub compares : Op → Bool
compares Add = false
compares Sub = false
compares Mul = false
compares Div = false
compares Eq = true
compares Ne = true
compares Lt = true
compares Le = true
compares Gt = true
compares Ge = true

abbrev pub is_sum : Expression → Bool
is_sum (Number value) = false
is_sum (Param name) = false
is_sum (Negate operand) = false
is_sum (Binary op left right) = adds op

abbrev pub is_product : Expression → Bool
is_product (Number value) = false
is_product (Param name) = false
is_product (Negate operand) = false
is_product (Binary op left right) = multiplies op

abbrev pub is_comparison : Expression → Bool
is_comparison (Number value) = false
is_comparison (Param name) = false
is_comparison (Negate operand) = false
is_comparison (Binary op left right) = compares op

abbrev pub is_minus : Expression → Bool
is_minus (Number value) = false
is_minus (Param name) = false
is_minus (Negate operand) = true
is_minus (Binary op left right) = false

-- ---- where parentheses stand

-- A comparison stands in parentheses as an operand of anything, and so does a sum as the left
-- operand of a product.
abbrev pub left_enclosed : Op → Expression → Bool
left_enclosed op left = is_comparison left || (multiplies op && is_sum left)

-- As a right operand a sum is in parentheses after + and - too, and a product after * and /.
abbrev pub right_enclosed : Op → Expression → Bool
right_enclosed op right =
    is_comparison right || ((adds op || multiplies op) && is_sum right)
    || (multiplies op && is_product right)

-- Behind a minus so does everything but a number and a parameter, another minus too.
abbrev pub minus_enclosed : Expression → Bool
minus_enclosed operand =
    is_comparison operand || is_sum operand || is_product operand || is_minus operand

abbrev pub enclosed : Bool → List ℕ → List ℕ
enclosed asked text = if asked then codes "(" ++ text ++ codes ")" else text

-- ---- texts

abbrev pub op_text : Op → List ℕ
op_text Add = codes " + "
op_text Sub = codes " - "
op_text Mul = codes " * "
op_text Div = codes " / "
op_text Eq = codes " = "
op_text Ne = codes " != "
op_text Lt = codes " < "
op_text Le = codes " <= "
op_text Gt = codes " > "
op_text Ge = codes " >= "

-- an expression as a whole condition
unfoldable pub condition_text : Expression → List ℕ
condition_text (Number n) = signed_decimal n
condition_text (Param name) = name
condition_text (Negate operand) =
    codes "-" ++ enclosed (minus_enclosed operand) (condition_text operand)
condition_text (Binary op left right) =
    enclosed (left_enclosed op left) (condition_text left) ++ op_text op
    ++ enclosed (right_enclosed op right) (condition_text right)

-- Everywhere but as a whole condition a comparison stands in parentheses.
abbrev pub sum_text : Expression → List ℕ
sum_text e = enclosed (is_comparison e) (condition_text e)
