-- The names of what is written are those of its tokens: only the head of a macro has formals, and no semicolon.
use Rattle.std.proofs.Common.{◌≡◌, Bool, true, false, List, [], ◌∷◌, ◌++◌, refl, sym, ap, ◌∙◌}
use Rattle.std.proofs.lemmas.Bool.{and_parts}
use Rattle.drawing_grammar.specs.declared.terminal.Terminal.{Terminal}
use Rattle.drawing_grammar.specs.declared.terminal.Terminal.TheVariants as is
use Rattle.drawing_grammar.specs.declared.edition.Edition.{Edition}
use Rattle.drawing_grammar.specs.Lexeme.{Lexeme, terminal}
use Rattle.drawing_grammar.specs.Grammar.{Need, mark, item, opening}
use Rattle.drawing_grammar.specs.Written.{Written, nothing, marked, token, worded, begun, chosen, left_out, grouped, lacking, spelling}
use Rattle.drawing_grammar.specs.Draws.{whole}
use Rattle.drawing_grammar.specs.Names.{Naming, choice_names, item_names, names, names_at, head_behind, names_from}
use Rattle.drawing_grammar.proofs.Choices.{opens_so}
use Rattle.drawing_grammar.proofs.HeadNeeds.{part_stands, group_stands, stand, choice_stands, choice_named, group_parts}

-- ---- single tokens

mark_stands : (in_head : Bool) (l : Terminal) (rest : List Need) → stand in_head (mark l ∷ rest) ≡ true → stand (head_behind in_head l) rest ≡ true
mark_stands in_head is.Macro rest h = absurd cc
mark_stands in_head is.Name rest h = absurd cc
mark_stands in_head _ rest h = h

mark_named : (in_head : Bool) (l : Terminal) (rest : List Need) (t : Lexeme) → stand in_head (mark l ∷ rest) ≡ true → names_at in_head l t ≡ []
mark_named in_head is.Macro rest t h = absurd cc
mark_named in_head is.Name rest t h = absurd cc
mark_named in_head _ rest t h = refl

item_stands : (in_head : Bool) (l : Terminal) (rest : List Need) → stand in_head (item l ∷ rest) ≡ true → stand (head_behind in_head l) rest ≡ true
item_stands in_head is.Macro rest h = absurd cc
item_stands true is.Name rest h = absurd cc
item_stands false is.Name rest h = h
item_stands in_head is.Semicolon rest h = absurd cc
item_stands in_head _ rest h = h

item_named : (in_head : Bool) (l : Terminal) (rest : List Need) (t : Lexeme) → stand in_head (item l ∷ rest) ≡ true → names_at in_head l t ≡ item_names l t
item_named true is.Name rest t h = absurd cc
item_named false is.Name rest t h = refl
item_named in_head _ rest t h = refl

-- ---- all of them

-- one token more in front
one_more : (in_head : Bool) (l : Terminal) (t : Lexeme) (some more : List Naming) (ts : List Lexeme) →
    terminal t ≡ l → names_at in_head l t ≡ some → more ≡ names_from (head_behind in_head l) ts → some ++ more ≡ names_from in_head (t ∷ ts)
unfolding names_from
one_more in_head l t some more ts e f h =
    ap (λ (ns : List Naming). ns ++ more) (sym f) ∙ (ap (λ (ns : List Naming). names_at in_head l t ++ ns) h
    ∙ ap (λ (k : Terminal). names_at in_head k t ++ names_from (head_behind in_head k) ts) (sym e))

no_more : (in_head : Bool) → [] ≡ names_from in_head []
unfolding names_from
no_more in_head = refl

pub names_found : (in_head : Bool) {needs : List Need} (w : Written needs) → stand in_head needs ≡ true → names w ≡ names_from in_head (spelling w)
names_found in_head nothing h = no_more in_head
names_found in_head (marked {l = l} {rest = rest} t e w) h = one_more in_head l t [] (names w)
    (spelling w) e (mark_named in_head l rest t h) (names_found (head_behind in_head l) w (mark_stands in_head l rest h))
names_found in_head (token {l = l} {rest = rest} t e w) h = one_more in_head l t (item_names l t)
    (names w) (spelling w) e (item_named in_head l rest t h) (names_found (head_behind in_head l) w (item_stands in_head l rest h))
names_found in_head (worded t e f w) h = one_more in_head is.Word t [] (names w) (spelling w) e refl (names_found in_head w h)
names_found in_head (begun w) h = names_found in_head w h
names_found in_head (chosen {p = p} {n = n} {rest = rest} c t e w) h = one_more in_head (opening c) t (choice_names c t)
    (names w) (spelling w) (opens_so c t e) (choice_named in_head c n rest t h) (names_found (head_behind in_head (opening c)) w (choice_stands in_head c n rest h))
names_found in_head (left_out {p = p} v e w) h = names_found in_head w (and_parts (part_stands in_head p) _ h).1
names_found in_head (grouped {g = k} {n = n} {rest = rest} w) h = names_found in_head w (group_parts in_head k n rest h)
names_found in_head (lacking {g = k} v e w) h = names_found in_head w (and_parts (group_stands in_head k) _ h).1

-- The names of a text are those of its tokens.
pub names_of_text : (v : Edition) (w : Written (whole v)) → names w ≡ names_from false (spelling w)
names_of_text v w = names_found false w refl
