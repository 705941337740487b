-- FOR: the values that its variable takes, and what its body is expanded in for one of them.
use Rattle.std.specs.Prelude.{ℕ, zero, suc, List, [], ◌∷◌, ◌++◌, codes, Ok, ℤ, pos, negsuc, ◌+ℤ◌, ◌-ℤ◌}
use Rattle.std.specs.Fmt.{signed_decimal}
use Rattle.scald_base.specs.declared.refusal.Place.{Place}
use Rattle.drawing_tree.specs.declared.environment.Binding.{Binding}
use Rattle.drawing_tree.specs.Expression.{Expression}
use Rattle.macro_expander.specs.Named.{State}
use Rattle.macro_expander.specs.Outcome.{Outcome, Judged, judging, judged, each}
use Rattle.macro_expander.specs.Terms.{Scope, valued}

-- ---- values

-- so many whole numbers upwards
abbrev pub upwards : ℤ → ℕ → List ℤ
upwards first zero = []
upwards first (suc n) = first ∷ upwards (first +ℤ pos 1) n

-- how many there are, if any are
abbrev pub count_of : ℤ → ℕ
count_of (pos n) = n
count_of (negsuc n) = 0

-- from the first to the last, both among them: none if the first is greater
abbrev pub values_between : ℤ → ℤ → List ℤ
values_between first last = upwards first (count_of ((last +ℤ pos 1) -ℤ first))

-- ---- scopes

-- what a FOR puts after each label of its body
abbrev pub turn_text : ℤ → List ℕ
turn_text v = codes "#" ++ signed_decimal v

abbrev pub binding : List ℕ → ℤ → Binding
binding var v = record { name = var; value = v }

-- The variable has its value, whatever else has its name. Nets are those of the scope around.
abbrev pub in_turn : List ℕ → ℤ → Scope → Scope
in_turn var v scope = record scope {
  suffix = scope.suffix ++ turn_text v;
  env = binding var v ∷ scope.env;
}

-- ---- what a FOR does

-- the first and the last value, in the scope around
abbrev pub loop_ends : List Binding → Expression → Expression → Judged (ℤ × ℤ)
loop_ends env first last =
    judging (valued env first) (λ a.
    judging (valued env last) (λ b.
    Ok (a, b)))

-- each value in its turn
abbrev pub for_act : (ℤ → Scope → State → Outcome (Unit {0})) → Expression → Expression → Place →
    Scope → State → Outcome (Unit {0})
for_act turn first last place scope s =
    judged (loop_ends scope.env first last) place (λ ends.
    each (λ v. turn v scope) (values_between ends.0 ends.1) s)
