-- Parameters and formals of a canonical text that is read are shallow.
use Rattle.std.proofs.Common.{◌≡◌, List, [], ◌∷◌, ◌++◌, None, refl}
use Rattle.std.specs.List.{AllByRecursion}
use Rattle.drawing_tree.specs.Tree as tree
use Rattle.drawing_grammar.specs.declared.terminal.Terminal.TheVariants as token
use Rattle.drawing_grammar.specs.CanonicalDraws.{IsShallowAssignment, IsShallowFormal}
use Rattle.drawing_grammar.specs.Lexeme.{symbol_terminal}
use Rattle.drawing_grammar.specs.Grammar.{Need, mark, item, keyword, fresh, part, group}
use Rattle.drawing_grammar.specs.Grammar as g
use Rattle.drawing_grammar.specs.Machine.{choice}
use Rattle.drawing_grammar.specs.Sketch.{no_items}
use Rattle.drawing_grammar.proofs.Cutting.{Bare}
use Rattle.drawing_grammar.proofs.Leaves as leaf
use Rattle.drawing_grammar.proofs.CanonicalTokens.{close_parenthesis, close_brace, sum_tokens, range_tokens, listed_tokens, inputs_tokens, outputs_tokens, assignment_tokens, params_tokens, formal_tokens}
use Rattle.drawing_grammar.proofs.Drawable.{IsDrawnAssignment, IsDrawnFormal}
use Rattle.drawing_grammar.proofs.LeftOver.{LeftOver, first_of, take_mark, take_choice, pass_part, into_group, into_leading, pass_group}
use Rattle.drawing_grammar.proofs.Matching.{free_word}
use Rattle.drawing_grammar.proofs.PhraseParameters.{arrow_bare}
use Rattle.drawing_grammar.proofs.PhraseSteps.{bare_symbol}
use Rattle.drawing_grammar.proofs.NestRange.{Held, shift, bound, range_held}
use Rattle.drawing_grammar.proofs.NestConnection.{Ends, parenthesis_ends, brace_ends, further, ends_further}

-- ---- parameters

assignment_held : (a : tree.Assignment) → IsDrawnAssignment a →
    (more : List Bare) (rest : List Need) → Ends (first_of more) →
    LeftOver (assignment_tokens a ++ more) (part g.Assign 0 ∷ rest) →
    Held (IsShallowAssignment a) more rest
unfolding symbol_terminal
assignment_held a is more rest ends b =
    let o = take_choice g.assign 0 (leaf.word a.name) (bare_symbol 61 ∷
    (sum_tokens a.value ++ more)) rest (free_word a.name is.name.is_free) b in
    let x = take_mark (bare_symbol 61) (sum_tokens a.value ++ more) token.Equals
    (fresh ∷ group g.Sum 0 ∷ rest) refl o.left in
    bound a.value is.value more rest ends.factors ends.terms x

more_assignments : (xs : List tree.Assignment) → AllByRecursion IsDrawnAssignment xs →
    (more : List Bare) (rest : List Need) → LeftOver (further assignment_tokens xs ++
    (bare_symbol 125 ∷ more)) (part g.MoreAssigns 0 ∷ rest) →
    Held (AllByRecursion IsShallowAssignment xs) (bare_symbol 125 ∷ more) rest
unfolding symbol_terminal
more_assignments [] is more rest b = record {
  holds = tt;
  left =
      pass_part g.MoreAssigns 0 no_items (bare_symbol 125 ∷ more) rest refl refl b;
}
more_assignments (a ∷ xs) is more rest b =
    let end = bare_symbol 125 ∷ more in
    let tail = further assignment_tokens xs in
    let o = take_choice g.next_assign 0 (bare_symbol 44) ((assignment_tokens a ++ tail) ++ end) rest
    refl b in
    let x = shift (assignment_tokens a) tail end (part g.Assign 0 ∷ part g.MoreAssigns 0 ∷ rest)
    o.left in
    let one = assignment_held a is.0 (tail ++ end) (part g.MoreAssigns 0 ∷ rest)
    (ends_further assignment_tokens xs end brace_ends) x in
    let two = more_assignments xs is.1 more rest one.left in
    record { holds = (one.holds, two.holds); left = two.left }

pub params_held : (xs : List tree.Assignment) → AllByRecursion IsDrawnAssignment xs →
    (more : List Bare) (rest : List Need) → choice g.Parameters (first_of more) ≡ None →
    LeftOver (params_tokens xs ++ more) (part g.Parameters 0 ∷ rest) →
    Held (AllByRecursion IsShallowAssignment xs) more rest
unfolding symbol_terminal
params_held [] is more rest none b = record {
  holds = tt;
  left =
      pass_part g.Parameters 0 no_items more rest none refl b;
}
params_held (a ∷ xs) is more rest none b =
    let end = bare_symbol 125 ∷ more in
    let tail = further assignment_tokens xs in
    let needs : List Need = part g.Assign 0 ∷ part g.MoreAssigns 0 ∷ mark token.CloseBrace ∷ rest in
    let o = take_choice g.parameters 0 (bare_symbol 123)
    (((assignment_tokens a ++ tail) ++ close_brace) ++ more) rest refl b in
    let i = into_group g.Assigns 0 (((assignment_tokens a ++ tail) ++ close_brace) ++ more)
    (mark token.CloseBrace ∷ rest) refl o.left in
    let x = shift (assignment_tokens a) tail end needs (shift (assignment_tokens a ++ tail)
    close_brace more needs i) in
    let one = assignment_held a is.0 (tail ++ end) (part g.MoreAssigns 0 ∷ mark token.CloseBrace ∷
    rest) (ends_further assignment_tokens xs end brace_ends) x in
    let two = more_assignments xs is.1 more (mark token.CloseBrace ∷ rest) one.left in
    record {
      holds = (one.holds, two.holds);
      left = take_mark (bare_symbol 125) more token.CloseBrace
          rest refl two.left;
    }

-- ---- formals

formal_held : (f : tree.Formal) → IsDrawnFormal f → (more : List Bare) (rest : List Need) →
    Ends (first_of more) → LeftOver (formal_tokens f ++ more) (part g.Formal 0 ∷ rest) →
    Held (IsShallowFormal f) more rest
formal_held f is more rest ends b = range_held f.range is.range more rest ends.range
    (take_choice g.formal 0 (leaf.name f.base) (range_tokens f.range ++ more) rest refl b).left

more_formals : (xs : List tree.Formal) → AllByRecursion IsDrawnFormal xs →
    (more : List Bare) (rest : List Need) → LeftOver (further formal_tokens xs ++
    (bare_symbol 41 ∷ more)) (part g.MoreFormals 0 ∷ rest) →
    Held (AllByRecursion IsShallowFormal xs) (bare_symbol 41 ∷ more) rest
unfolding symbol_terminal
more_formals [] is more rest b = record {
  holds = tt;
  left =
      pass_part g.MoreFormals 0 no_items (bare_symbol 41 ∷ more) rest refl refl b;
}
more_formals (f ∷ xs) is more rest b =
    let end = bare_symbol 41 ∷ more in
    let tail = further formal_tokens xs in
    let o = take_choice g.next_formal 0 (bare_symbol 44) ((formal_tokens f ++ tail) ++ end) rest
    refl b in
    let x = shift (formal_tokens f) tail end (part g.Formal 0 ∷ part g.MoreFormals 0 ∷ rest)
    o.left in
    let one = formal_held f is.0 (tail ++ end) (part g.MoreFormals 0 ∷ rest)
    (ends_further formal_tokens xs end parenthesis_ends) x in
    let two = more_formals xs is.1 more rest one.left in
    record { holds = (one.holds, two.holds); left = two.left }

listed_formals : (f : tree.Formal) (xs : List tree.Formal) → AllByRecursion IsDrawnFormal (f ∷ xs) →
    (more : List Bare) (rest : List Need) → LeftOver (listed_tokens formal_tokens (f ∷ xs) ++
    (bare_symbol 41 ∷ more)) (part g.Formal 0 ∷ part g.MoreFormals 0 ∷ rest) →
    Held (AllByRecursion IsShallowFormal (f ∷ xs)) (bare_symbol 41 ∷ more) rest
unfolding symbol_terminal
listed_formals f xs is more rest b =
    let end = bare_symbol 41 ∷ more in
    let tail = further formal_tokens xs in
    let x = shift (formal_tokens f) tail end (part g.Formal 0 ∷ part g.MoreFormals 0 ∷ rest) b in
    let one = formal_held f is.0 (tail ++ end) (part g.MoreFormals 0 ∷ rest)
    (ends_further formal_tokens xs end parenthesis_ends) x in
    let two = more_formals xs is.1 more rest one.left in
    record { holds = (one.holds, two.holds); left = two.left }

pub formals_held : (xs : List tree.Formal) → AllByRecursion IsDrawnFormal xs →
    (more : List Bare) (rest : List Need) → LeftOver (inputs_tokens formal_tokens xs ++ more)
    (mark token.OpenParenthesis ∷ group g.Formals 0 ∷ mark token.CloseParenthesis ∷ rest) →
    Held (AllByRecursion IsShallowFormal xs) more rest
unfolding symbol_terminal
formals_held [] is more rest b =
    let end = bare_symbol 41 ∷ more in
    let x = take_mark (bare_symbol 40) end token.OpenParenthesis
    (group g.Formals 0 ∷ mark token.CloseParenthesis ∷ rest) refl b in
    record {
      holds = tt;
      left = take_mark (bare_symbol 41) more token.CloseParenthesis rest refl
          (pass_group g.Formals 0 no_items end (mark token.CloseParenthesis ∷ rest) refl refl x);
    }
formals_held (f ∷ xs) is more rest b =
    let inner = listed_tokens formal_tokens (f ∷ xs) in
    let needs : List Need = group g.Formals 0 ∷ mark token.CloseParenthesis ∷ rest in
    let x = shift inner close_parenthesis more needs (take_mark (bare_symbol 40)
    ((inner ++ close_parenthesis) ++ more) token.OpenParenthesis needs refl b) in
    let i = into_leading g.Formals 0 (inner ++ (bare_symbol 41 ∷ more))
    (mark token.CloseParenthesis ∷ rest) refl refl x in
    let r = listed_formals f xs is more (mark token.CloseParenthesis ∷ rest) i in
    record {
      holds = r.holds;
      left = take_mark (bare_symbol 41) more token.CloseParenthesis rest refl
          r.left;
    }

pub formal_outputs_held : (xs : List tree.Formal) → AllByRecursion IsDrawnFormal xs →
    (more : List Bare) (rest : List Need) → choice g.FormalOutputs (first_of more) ≡ None →
    LeftOver (outputs_tokens formal_tokens xs ++ more) (part g.FormalOutputs 0 ∷ rest) →
    Held (AllByRecursion IsShallowFormal xs) more rest
unfolding symbol_terminal
formal_outputs_held [] is more rest none b = record {
  holds = tt;
  left =
      pass_part g.FormalOutputs 0 no_items more rest none refl b;
}
formal_outputs_held (f ∷ xs) is more rest none b =
    let inner = listed_tokens formal_tokens (f ∷ xs) in
    let needs : List Need = group g.SomeFormals 0 ∷ mark token.CloseParenthesis ∷ rest in
    let o = take_choice g.formal_outputs 0 arrow_bare (bare_symbol 40 ∷
    ((inner ++ close_parenthesis) ++ more)) rest refl b in
    let x = shift inner close_parenthesis more needs (take_mark (bare_symbol 40)
    ((inner ++ close_parenthesis) ++ more) token.OpenParenthesis needs refl o.left) in
    let i = into_group g.SomeFormals 0 (inner ++ (bare_symbol 41 ∷ more))
    (mark token.CloseParenthesis ∷ rest) refl x in
    let r = listed_formals f xs is more (mark token.CloseParenthesis ∷ rest) i in
    record {
      holds = r.holds;
      left = take_mark (bare_symbol 41) more token.CloseParenthesis rest refl
          r.left;
    }
