-- The value of an expression, on whole numbers of any size, or its first fault. What stands left
-- comes before what stands right.
use Rattle.std.specs.Prelude.{ℕ, zero, ◌^◌, ℤ, pos, negsuc, ◌+ℤ◌, ◌-ℤ◌, ◌*ℤ◌, neg_ℤ, int_div, int_lt, int_le, Bool, not, ◌&&◌, nat_lt, if◌then◌else◌, List, Option, Some, None, Result, Ok, Err}
use Rattle.std.specs.List.{find}
use Rattle.std.specs.Str.{bytes_eq}
use Rattle.drawing_tree.specs.declared.environment.Binding.{Binding}
use Rattle.drawing_tree.specs.declared.expr.Op.{Op}
use Rattle.drawing_tree.specs.declared.expr.Op.TheVariants.{Add, Sub, Mul, Div, Eq, Ne, Lt, Le, Gt, Ge}
use Rattle.drawing_tree.specs.declared.evaluation.ExprFault.{ExprFault}
use Rattle.drawing_tree.specs.declared.evaluation.ExprFault.TheVariants.{Unknown, Overflow, ZeroDivisor}
use Rattle.drawing_tree.specs.Expression.{Expression, Number, Param, Negate, Binary}

abbrev pub Outcome : Type 0
Outcome = Result ℤ ExprFault

-- a whole number of 64 signed bits
abbrev pub is_within : ℤ → Bool
is_within (pos n) = nat_lt n (2 ^ 63)
is_within (negsuc n) = nat_lt n (2 ^ 63)

abbrev pub within : ℤ → Outcome
within n = if is_within n then Ok n else Err Overflow

-- 1 if it holds, else 0
abbrev pub truth : Bool → Outcome
truth holds = if holds then Ok (pos 1) else Ok (pos 0)

-- towards zero
abbrev pub quotient : ℤ → ℤ → Outcome
quotient a (pos zero) = Err ZeroDivisor
quotient a b = within (int_div a b)

abbrev pub is_equal : ℤ → ℤ → Bool
is_equal a b = int_le a b && int_le b a

-- what an operator gives of two values
abbrev pub applied : Op → ℤ → ℤ → Outcome
applied Add a b = within (a +ℤ b)
applied Sub a b = within (a -ℤ b)
applied Mul a b = within (a *ℤ b)
applied Div a b = quotient a b
applied Eq a b = truth (is_equal a b)
applied Ne a b = truth (not (is_equal a b))
applied Lt a b = truth (int_lt a b)
applied Le a b = truth (int_le a b)
applied Gt a b = truth (int_lt b a)
applied Ge a b = truth (int_le b a)

-- the value of a binding, if there is one
abbrev pub bound : Option Binding → Outcome
bound None = Err Unknown
bound (Some binding) = Ok binding.value

-- the value of a parameter: if names are distinct, at most one binding has its name
abbrev pub value_in : List Binding → List ℕ → Outcome
value_in env name = bound (find (λ binding. bytes_eq binding.name name) env)

-- the first fault, or what comes next
abbrev pub after : Outcome → (ℤ → Outcome) → Outcome
after (Ok a) next = next a
after (Err fault) next = Err fault

abbrev pub value : List Binding → Expression → Outcome
value env (Number n) = Ok n
value env (Param name) = value_in env name
value env (Negate operand) = after (value env operand) (λ a. within (neg_ℤ a))
value env (Binary op left right) =
    after (value env left) (λ a. after (value env right) (λ b. applied op a b))
