-- How many bits the connections of a use have.
use Rattle.std.specs.Prelude.{ℕ, List, length, map, Option, Some, None, Ok, Err, ℤ}
use Rattle.std.specs.List.{sum_by}
use Rattle.drawing_tree.specs.Tree.{Item, Zero, One, Named, Term, Connection}
use Rattle.macro_expander.specs.Outcome.{Judged}
use Rattle.macro_expander.specs.Terms.{Bound, Scope, formal_of, numbers_between, written_ends}

-- of a range: one that is refused has none
abbrev pub count_of : Judged (List ℕ) → ℕ
count_of (Ok numbers) = length numbers
count_of (Err kind) = 0

-- without a range all bits of a formal are meant, and of any other name bit 0
abbrev pub whole_width : Option Bound → ℕ
whole_width None = 1
whole_width (Some f) = length f.numbers

-- of a name, followed by a range with these ends, or by none
abbrev pub named_width : Option Bound → Judged (Option (ℤ × ℤ)) → ℕ
named_width formal (Ok None) = whole_width formal
named_width formal (Ok (Some ends)) = count_of (numbers_between ends)
named_width formal (Err kind) = 0

abbrev pub item_width : Scope → Item → ℕ
item_width scope Zero = 1
item_width scope One = 1
item_width scope (Named name range) =
    named_width (formal_of scope.formals name) (written_ends scope.env range)

abbrev pub width : Scope → Connection → ℕ
width scope c = sum_by (λ (t : Term). item_width scope t.item) c.terms

abbrev pub widths : Scope → List Connection → List ℕ
widths scope cs = map (width scope) cs
