-- The tokens of canonical statements, whatever their margin.
use Rattle.std.proofs.Common.{◌≡◌, ℕ, true, List, [], ◌∷◌, ◌++◌, refl, subst}
use Rattle.std.specs.Prelude.{codes}
use Rattle.std.specs.List.{AllByRecursion}
use Rattle.std.proofs.lemmas.List.{append-nil}
use Rattle.drawing_tree.specs.Tree.{Connection, UseStatement, WireStatement, Statement, Use, Wire, If, For, Statements, nil, cons, Otherwise, no_else, else_}
use Rattle.drawing_tree.specs.ExpressionText.{condition_text, sum_text}
use Rattle.drawing_tree.specs.Canonical.{bracketed, signal_text, bounds_text, assignment_text, connection_text, inputs_text, outputs_text, params_text, delay_text, use_head, use_text, wire_text, line, for_text, deeper, statement_lines, statements_lines, else_lines, body_lines}
use Rattle.drawing_tree.specs.Expression.{Expression}
use Rattle.drawing_tree.specs.WellFormed.{IsFreeWord}
use Rattle.drawing_grammar.specs.declared.edition.Edition.{Edition}
use Rattle.drawing_grammar.proofs.Cutting.{Bare, breaks, Spells, Closes, closed, nothing_closes, before, before_closed, then_, then_closed}
use Rattle.drawing_grammar.proofs.Leaves.{word_spells}
use Rattle.drawing_grammar.proofs.Literals.{two_spaces, one_space, line_end, semicolon_closes, wide_colon_closes, wide_parenthesis_closes, close_parenthesis_closes, arrow_closes, wire_closes, if_closes, for_closes, to_closes, do_spells, wide_equals_closes, then_spells, else_spells, end_closes}
use Rattle.drawing_grammar.proofs.SpelledExpression.{condition_spells, sum_spells, bounds_spell}
use Rattle.drawing_grammar.proofs.SpelledLists.{all_map, Each, bracketed_closes, bracketed_if_some_closes}
use Rattle.drawing_grammar.proofs.SpelledConnection.{signal_closes, connection_spells, assignment_spells, params_close, params_stop, delay_closes, delay_stops}
use Rattle.drawing_grammar.proofs.CanonicalTokens.{word, semicolon, colon, equals, sum_tokens, for_tokens, open_parenthesis, close_parenthesis, arrow, condition_tokens, bounds_tokens, signal_tokens, connection_tokens, inputs_tokens, outputs_tokens, assignment_tokens, params_tokens, delay_tokens, use_tokens, wire_tokens, end_tokens, statement_tokens, statements_tokens, else_tokens, body_tokens}
use Rattle.drawing_grammar.proofs.Drawable.{IsDrawn, IsDrawnConnection, IsDrawnAssignment, IsDrawnUse, IsDrawnWire, IsDrawnStatement, AreDrawn, IsDrawnOtherwise}

-- ---- one statement

pub ins_close : {A : Type 0} (text : A → List ℕ) (tokens : A → List Bare) (ins : List A) → Each text tokens ins → Closes (inputs_text text ins) (inputs_tokens tokens ins)
ins_close text tokens ins is = bracketed_closes (codes " (") (codes ")") open_parenthesis close_parenthesis text tokens wide_parenthesis_closes close_parenthesis_closes refl ins is

pub outs_close : {A : Type 0} (text : A → List ℕ) (tokens : A → List Bare) (outs : List A) → Each text tokens outs → Closes (outputs_text text outs) (outputs_tokens tokens outs)
outs_close text tokens outs is = bracketed_if_some_closes (codes " -> (") (codes ")") (arrow ++ open_parenthesis) close_parenthesis text tokens arrow_closes close_parenthesis_closes refl outs is

-- Behind a space comes a parenthesis, so the word before it ends.
pub ins_break : {A : Type 0} (text : A → List ℕ) (ins : List A) → breaks (inputs_text text ins) ≡ true
unfolding bracketed
ins_break text ins = refl

connections_spell : (cs : List Connection) → AllByRecursion IsDrawnConnection cs → Each connection_text connection_tokens cs
connections_spell cs is = all_map IsDrawnConnection (λ c. Spells (connection_text c) (connection_tokens c)) connection_spells cs is

abbrev head_tokens : UseStatement → List Bare
head_tokens u = word u.label ++ colon ++ word u.kind ++ delay_tokens u.delay u.fall ++ params_tokens u.params

head_spells : (u : UseStatement) → IsDrawnUse u → Spells (use_head u) (head_tokens u)
unfolding use_head
head_spells u is =
    let label = u.label ++ codes " : " in
    let kind = label ++ u.kind in
    let delay = kind ++ delay_text u.delay u.fall in
    let params = all_map IsDrawnAssignment (λ a. Spells (assignment_text a) (assignment_tokens a)) assignment_spells u.params is.params in
    then_ delay (params_text u.params) (word u.label ++ colon ++ word u.kind ++ delay_tokens u.delay u.fall) (params_tokens u.params)
    (then_ kind (delay_text u.delay u.fall) (word u.label ++ colon ++ word u.kind) (delay_tokens u.delay u.fall)
    (before label u.kind (word u.label ++ colon) (word u.kind)
    (then_closed u.label (codes " : ") (word u.label) colon (word_spells u.label is.label.is_word) wide_colon_closes refl)
    (word_spells u.kind is.kind.is_word))
    (closed (delay_text u.delay u.fall) (delay_tokens u.delay u.fall) (delay_closes u.delay u.fall is.delays)) (delay_stops u.delay u.fall))
    (closed (params_text u.params) (params_tokens u.params) (params_close u.params params)) (params_stop u.params)

use_closes : (u : UseStatement) → IsDrawnUse u → Closes (use_text u) (use_tokens u)
unfolding use_text
use_closes u is =
    let ins = inputs_text connection_text u.ins in
    let outs = outputs_text connection_text u.outs in
    let first = inputs_tokens connection_tokens u.ins in
    let last = outputs_tokens connection_tokens u.outs in
    before_closed (use_head u ++ ins ++ outs) (codes ";") (head_tokens u ++ first ++ last) semicolon
    (before_closed (use_head u ++ ins) outs (head_tokens u ++ first) last
    (then_closed (use_head u) ins (head_tokens u) first (head_spells u is) (ins_close connection_text connection_tokens u.ins (connections_spell u.ins is.ins)) (ins_break connection_text u.ins))
    (outs_close connection_text connection_tokens u.outs (connections_spell u.outs is.outs))) semicolon_closes

-- A space between two texts is no token.
pub spaced : (s t : List ℕ) (ts us : List Bare) → Closes s ts → Spells t us → Spells (s ++ codes " " ++ t) (ts ++ us)
spaced s t ts us a b =
    before (s ++ codes " ") t ts us
    (subst (λ (x : List Bare). Closes (s ++ codes " ") x) (append-nil ts) (before_closed s (codes " ") ts [] a one_space)) b

wire_closed : (w : WireStatement) → IsDrawnWire w → Closes (wire_text w) (wire_tokens w)
unfolding wire_text
wire_closed w is =
    let signal = codes "WIRE " ++ signal_text w.name w.range in
    let tokens = word (codes "WIRE") ++ signal_tokens w.name w.range in
    then_closed (signal ++ codes " " ++ bounds_text w.min w.max) (codes ";") (tokens ++ bounds_tokens w.min w.max) semicolon
    (spaced signal (bounds_text w.min w.max) tokens (bounds_tokens w.min w.max)
    (before_closed (codes "WIRE ") (signal_text w.name w.range) (word (codes "WIRE")) (signal_tokens w.name w.range) wire_closes (signal_closes w.name w.range is.name is.range))
    (bounds_spell w.min w.max is.min is.max)) semicolon_closes refl

-- ---- lines

-- The margin and the end of a line are no tokens.
pub line_closes : (margin s : List ℕ) (ts : List Bare) → Closes margin [] → Spells s ts → Closes (line margin s) ts
line_closes margin s ts m is =
    subst (λ (us : List Bare). Closes (line margin s) us) (append-nil ts)
    (then_closed (margin ++ s) (10 ∷ []) ts [] (before margin s [] ts m is) line_end refl)

-- the first line of a FOR
for_spells : (var : List ℕ) (first last : Expression) → IsFreeWord var → IsDrawn first → IsDrawn last →
    Spells (for_text var first last) (for_tokens var first last)
for_spells var first last v a b =
    let named = codes "FOR " ++ var in
    let from = named ++ codes " = " in
    let first_text = from ++ sum_text first in
    let to = first_text ++ codes " TO " in
    let named_words = word (codes "FOR") ++ word var in
    let from_words = named_words ++ equals in
    let first_words = from_words ++ sum_tokens first in
    let to_words = first_words ++ word (codes "TO") in
    then_ (to ++ sum_text last) (codes " DO") (to_words ++ sum_tokens last) (word (codes "DO"))
    (before to (sum_text last) to_words (sum_tokens last)
    (then_closed first_text (codes " TO ") first_words (word (codes "TO"))
    (before from (sum_text first) from_words (sum_tokens first)
    (then_closed named (codes " = ") named_words equals
    (before (codes "FOR ") var (word (codes "FOR")) (word var) for_closes (word_spells var v.is_word)) wide_equals_closes refl)
    (sum_spells first a)) to_closes refl) (sum_spells last b)) do_spells refl

deeper_closes : (margin : List ℕ) → Closes margin [] → Closes (deeper margin) []
deeper_closes margin m = before_closed margin (codes "  ") [] [] m two_spaces

mutual
  unfolding statement_lines statement_tokens

  pub statement_closes : (v : Edition) (margin : List ℕ) (s : Statement) → Closes margin [] → IsDrawnStatement v s → Closes (statement_lines margin s) (statement_tokens s)
  statement_closes v margin (Use u) m is = line_closes margin (use_text u) (use_tokens u) m (closed (use_text u) (use_tokens u) (use_closes u is))
  statement_closes v margin (Wire w) m is = line_closes margin (wire_text w) (wire_tokens w) m (closed (wire_text w) (wire_tokens w) (wire_closed w is))
  statement_closes v margin (If test ss other place) m is =
      let first = line margin (codes "IF " ++ condition_text test ++ codes " THEN") in
      let tokens = word (codes "IF") ++ condition_tokens test ++ word (codes "THEN") in
      let inside = statements_lines (deeper margin) ss in
      let behind = else_lines margin other in
      before_closed (first ++ inside ++ behind) (line margin (codes "END;")) (tokens ++ statements_tokens ss ++ else_tokens other) end_tokens
      (before_closed (first ++ inside) behind (tokens ++ statements_tokens ss) (else_tokens other)
      (before_closed first inside tokens (statements_tokens ss)
      (line_closes margin (codes "IF " ++ condition_text test ++ codes " THEN") tokens m
      (then_ (codes "IF " ++ condition_text test) (codes " THEN") (word (codes "IF") ++ condition_tokens test) (word (codes "THEN"))
      (before (codes "IF ") (condition_text test) (word (codes "IF")) (condition_tokens test) if_closes (condition_spells test is.0)) then_spells refl))
      (statements_close v (deeper margin) ss (deeper_closes margin m) is.1))
      (else_closes v margin other m is.2))
      (line_closes margin (codes "END;") end_tokens m (closed (codes "END;") end_tokens end_closes))
  statement_closes v margin (For var first last ss place) m is =
      let head = line margin (for_text var first last) in
      let inside = statements_lines (deeper margin) ss in
      before_closed (head ++ inside) (line margin (codes "END;")) (for_tokens var first last ++ statements_tokens ss) end_tokens
      (before_closed head inside (for_tokens var first last) (statements_tokens ss)
      (line_closes margin (for_text var first last) (for_tokens var first last) m (for_spells var first last is.1 is.2 is.3))
      (statements_close v (deeper margin) ss (deeper_closes margin m) is.4))
      (line_closes margin (codes "END;") end_tokens m (closed (codes "END;") end_tokens end_closes))

  pub statements_close : (v : Edition) (margin : List ℕ) (ss : Statements) → Closes margin [] → AreDrawn v ss → Closes (statements_lines margin ss) (statements_tokens ss)
  statements_close v margin nil m is = nothing_closes
  statements_close v margin (cons s ss) m is =
      before_closed (statement_lines margin s) (statements_lines margin ss) (statement_tokens s) (statements_tokens ss)
      (statement_closes v margin s m is.0) (statements_close v margin ss m is.1)

  pub else_closes : (v : Edition) (margin : List ℕ) (other : Otherwise) → Closes margin [] → IsDrawnOtherwise v other → Closes (else_lines margin other) (else_tokens other)
  else_closes v margin no_else m is = nothing_closes
  else_closes v margin (else_ ss) m is =
      before_closed (line margin (codes "ELSE")) (statements_lines (deeper margin) ss) (word (codes "ELSE")) (statements_tokens ss)
      (line_closes margin (codes "ELSE") (word (codes "ELSE")) m else_spells) (statements_close v (deeper margin) ss (deeper_closes margin m) is)

pub body_closes : (v : Edition) (body : Statements) → AreDrawn v body → Closes (body_lines body) (body_tokens body)
unfolding body_lines
body_closes v body is =
    before_closed (statements_lines (codes "  ") body) (line [] (codes "END;")) (statements_tokens body) end_tokens
    (statements_close v (codes "  ") body two_spaces is) (line_closes [] (codes "END;") end_tokens nothing_closes (closed (codes "END;") end_tokens end_closes))
