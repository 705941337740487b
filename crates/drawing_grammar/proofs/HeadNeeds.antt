-- What may stand in the head of a macro, and what outside of it.
use Rattle.std.proofs.Common.{◌≡◌, ℕ, Bool, true, false, ◌&&◌, List, [], ◌∷◌, ◌++◌, refl}
use Rattle.drawing_grammar.specs.declared.edition.Edition.TheVariants.{First, Second}
use Rattle.drawing_grammar.specs.declared.terminal.Terminal.TheVariants as is
use Rattle.drawing_grammar.specs.Lexeme.{Lexeme}
use Rattle.drawing_grammar.specs.Grammar.{Part, Group, Need, mark, item, keyword, fresh, part, group, Choice, opening, following, others, lead}
use Rattle.drawing_grammar.specs.Grammar as g
use Rattle.drawing_grammar.specs.Names.{choice_names, names_at, head_behind}

abbrev pub part_stands : Bool → Part → Bool
part_stands true g.Unary = true
part_stands true g.Factors = true
part_stands true g.Terms = true
part_stands true g.Comparison = true
part_stands true g.OrEqual = true
part_stands true g.Range = true
part_stands true g.RangeEnd = true
part_stands true g.Parameters = true
part_stands true g.Assign = true
part_stands true g.MoreAssigns = true
part_stands true g.Formal = true
part_stands true g.MoreFormals = true
part_stands true g.FormalOutputs = true
part_stands true _ = false
part_stands false g.Formal = false
part_stands false g.MoreFormals = false
part_stands false g.FormalOutputs = false
part_stands false _ = true

abbrev pub group_stands : Bool → Group → Bool
group_stands true g.Product = true
group_stands true g.Sum = true
group_stands true g.Expr = true
group_stands true g.SomeFormals = true
group_stands true g.Formals = true
group_stands true g.Assigns = true
group_stands true _ = false
group_stands false g.SomeFormals = false
group_stands false g.Formals = false
group_stands false _ = true

-- a name by itself stands outside of a head alone
abbrev name_stands : Bool → Bool
name_stands true = false
name_stands false = true

abbrev pub stands : Bool → Need → Bool
stands in_head (mark is.Name) = false
stands in_head (mark is.Macro) = false
stands in_head (mark _) = true
stands in_head (item is.Name) = name_stands in_head
stands in_head (item is.Macro) = false
stands in_head (item is.Semicolon) = false
stands in_head (item _) = true
stands in_head (keyword x) = true
stands in_head fresh = true
stands in_head (part p n) = part_stands in_head p
stands in_head (group h n) = group_stands in_head h

-- a semicolon ends the head
abbrev pub behind_need : Bool → Need → Bool
behind_need in_head (mark is.Semicolon) = false
behind_need in_head _ = in_head

abbrev pub stand : Bool → List Need → Bool
stand in_head [] = true
stand in_head (x ∷ rest) = stands in_head x && stand (behind_need in_head x) rest

-- ---- choices and groups

pub choice_stands : (in_head : Bool) {p : Part} (c : Choice p) (n : ℕ) (rest : List Need) →
    stand in_head (part p n ∷ rest) ≡ true → stand (head_behind in_head (opening c)) (following c n ++ rest) ≡ true
choice_stands true g.number n rest h = h
choice_stands true g.parameter n rest h = h
choice_stands true g.negated n rest h = h
choice_stands true g.bracketed n rest h = h
choice_stands true g.times n rest h = h
choice_stands true g.divided n rest h = h
choice_stands true g.plus n rest h = h
choice_stands true g.less n rest h = h
choice_stands true g.equal n rest h = h
choice_stands true g.unequal n rest h = h
choice_stands true g.below n rest h = h
choice_stands true g.above n rest h = h
choice_stands true g.or_equal n rest h = h
choice_stands true g.range n rest h = h
choice_stands true g.last n rest h = h
choice_stands true g.parameters n rest h = h
choice_stands true g.assign n rest h = h
choice_stands true g.next_assign n rest h = h
choice_stands true g.formal n rest h = h
choice_stands true g.next_formal n rest h = h
choice_stands true g.formal_outputs n rest h = h
choice_stands true _ n rest h = absurd cc
choice_stands false g.formal n rest h = absurd cc
choice_stands false g.next_formal n rest h = absurd cc
choice_stands false g.formal_outputs n rest h = absurd cc
choice_stands false (g.text {v = First}) n rest h = h
choice_stands false (g.text {v = Second}) n rest h = h
choice_stands false _ n rest h = h

pub choice_named : (in_head : Bool) {p : Part} (c : Choice p) (n : ℕ) (rest : List Need) (t : Lexeme) → stand in_head (part p n ∷ rest) ≡ true → names_at in_head (opening c) t ≡ choice_names c t
choice_named true g.number n rest t h = refl
choice_named true g.parameter n rest t h = refl
choice_named true g.negated n rest t h = refl
choice_named true g.bracketed n rest t h = refl
choice_named true g.times n rest t h = refl
choice_named true g.divided n rest t h = refl
choice_named true g.plus n rest t h = refl
choice_named true g.less n rest t h = refl
choice_named true g.equal n rest t h = refl
choice_named true g.unequal n rest t h = refl
choice_named true g.below n rest t h = refl
choice_named true g.above n rest t h = refl
choice_named true g.or_equal n rest t h = refl
choice_named true g.range n rest t h = refl
choice_named true g.last n rest t h = refl
choice_named true g.parameters n rest t h = refl
choice_named true g.assign n rest t h = refl
choice_named true g.next_assign n rest t h = refl
choice_named true g.formal n rest t h = refl
choice_named true g.next_formal n rest t h = refl
choice_named true g.formal_outputs n rest t h = refl
choice_named true _ n rest t h = absurd cc
choice_named false g.formal n rest t h = absurd cc
choice_named false g.next_formal n rest t h = absurd cc
choice_named false g.formal_outputs n rest t h = absurd cc
choice_named false _ n rest t h = refl

pub group_parts : (in_head : Bool) (h : Group) (n : ℕ) (rest : List Need) → stand in_head (group h n ∷ rest) ≡ true → stand in_head (part (lead h) n ∷ (others h n ++ rest)) ≡ true
group_parts true g.Product n rest h = h
group_parts true g.Sum n rest h = h
group_parts true g.Expr n rest h = h
group_parts true g.SomeFormals n rest h = h
group_parts true g.Formals n rest h = h
group_parts true g.Assigns n rest h = h
group_parts true _ n rest h = absurd cc
group_parts false g.SomeFormals n rest h = absurd cc
group_parts false g.Formals n rest h = absurd cc
group_parts false _ n rest h = h
