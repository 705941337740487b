-- A drawing's places, and that of a refusal, are those of tokens.
use Rattle.std.proofs.Common.{◌≡◌, ℕ, suc, ℤ, Bool, true, false, List, [], ◌∷◌, ◌++◌, length, Option, Some, None, Result, Err, refl, sym, ap, ◌∙◌, subst, arith}
use Rattle.std.specs.Prelude.{IfSome, Contains}
use Rattle.std.specs.List.{AllByRecursion}
use Rattle.scald_base.specs.Time.{Header}
use Rattle.scald_base.specs.declared.refusal.Place.{Place}
use Rattle.scald_base.specs.declared.refusal.Refusal.{Refusal}
use Rattle.drawing_tree.specs.EachPlace.{IsStatementAt, AreStatementsAt, IsOtherwiseAt, IsMacroAt, EachPlace}
use Rattle.drawing_tree.specs.Tree as tree
use Rattle.drawing_tree.proofs.Every.{every_append, every_between, every_mapped}
use Rattle.drawing_grammar.specs.declared.head.Head.{Head}
use Rattle.drawing_grammar.specs.declared.header.NumberPair.{NumberPair}
use Rattle.drawing_grammar.specs.declared.header.WrittenHeader.{WrittenHeader}
use Rattle.drawing_grammar.specs.declared.terminal.Terminal.{Terminal}
use Rattle.drawing_grammar.specs.declared.terminal.Terminal.TheVariants as is
use Rattle.drawing_grammar.specs.Lexeme.{Lexeme, terminal}
use Rattle.drawing_grammar.specs.Edition.{edition_of}
use Rattle.drawing_grammar.specs.Header.{is_version, is_clock, is_bounds, is_skew, refused_at, judged_statement, judged_pair, judged}
use Rattle.drawing_grammar.specs.Names.{Naming, names, names_at, head_behind, names_from, IsBadName}
use Rattle.drawing_grammar.specs.DoubleNames.{Declaration, constants, parameters, formals, statement_labels, labels, else_labels, head_declared, macros_declared, IsDoubleName}
use Rattle.drawing_grammar.specs.Sketch.{Sketch}
use Rattle.drawing_grammar.specs.Written.{values}
use Rattle.drawing_grammar.specs.Draws.{IsRefused, syntax, too_deep}
use Rattle.drawing_grammar.specs.Drawing.{WrittenBy, declared_by, IsText, Draws, IsWrong, grammar, header, name, double}
use Rattle.drawing_grammar.specs.Laws.{places_of, WrongAtTokens, DrawnAtTokens}
use Rattle.drawing_grammar.proofs.Heads.{names_of_text}
use Rattle.drawing_grammar.proofs.SpelledLists.{all_map}
use Rattle.drawing_grammar.proofs.PlacedValues.{IsPairAt, IsHeaderAt, IsHeadAt, IsSketchAt, values_at}

-- ---- the header

statement_at : {A : Type 0} (P : Place → Type 0) (good : Bool) (place : Place) (said : Result A Refusal) (r : Refusal) →
    P place → (said ≡ Err r → P r.place) → judged_statement good place said ≡ Err r → P r.place
statement_at P true place said r p more e = more e
statement_at P false place said r p more e = let same : refused_at place ≡ r = cc in subst (λ (x : Refusal). P x.place) same p

pair_at : {A : Type 0} (P : Place → Type 0) (test : ℤ → ℤ → Bool) (written : Option NumberPair) (said : Result A Refusal) (r : Refusal) →
    IfSome written (IsPairAt P) → (said ≡ Err r → P r.place) → judged_pair test written said ≡ Err r → P r.place
pair_at P test None said r p more e = more e
pair_at P test (Some pair) said r p more e = statement_at P (test pair.first pair.second) pair.place said r p more e

header_at : (P : Place → Type 0) (w : WrittenHeader) (r : Refusal) → IsHeaderAt P w → judged w ≡ Err r → P r.place
header_at P w r a e =
    statement_at P (is_version w.version) w.place _ r a.place
    (statement_at P (is_clock w.clock.first w.clock.second) w.clock.place _ r a.clock
    (pair_at P is_bounds w.wire _ r a.wire
    (pair_at P is_skew w.pskew _ r a.pskew
    (pair_at P is_skew w.cskew _ r a.cskew
    (λ f. absurd cc))))) e

-- ---- names

abbrev IsNamingAt : (Place → Type 0) → Naming → Type 0
IsNamingAt P n = P n.place

abbrev IsTokenAt : (Place → Type 0) → Lexeme → Type 0
IsTokenAt P t = P t.place

name_at : (P : Place → Type 0) (in_head : Bool) (l : Terminal) (t : Lexeme) → P t.place → AllByRecursion (IsNamingAt P) (names_at in_head l t)
name_at P in_head is.Name t p = (p, tt)
name_at P in_head _ t p = tt

names_placed : (P : Place → Type 0) (in_head : Bool) (ts : List Lexeme) → AllByRecursion (IsTokenAt P) ts → AllByRecursion (IsNamingAt P) (names_from in_head ts)
unfolding names_from
names_placed P in_head [] a = tt
names_placed P in_head (t ∷ ts) a =
    every_append (IsNamingAt P) (names_at in_head (terminal t) t) (names_from (head_behind in_head (terminal t)) ts)
    (name_at P in_head (terminal t) t a.0) (names_placed P (head_behind in_head (terminal t)) ts a.1)

bad_name_at : (P : Place → Type 0) (h : Header) (ns : List Naming) (r : Refusal) → AllByRecursion (IsNamingAt P) ns → IsBadName h ns r → P r.place
bad_name_at P h ns r a bad = subst P (sym bad.place) (every_between (IsNamingAt P) bad.before bad.bad bad.after (subst (AllByRecursion (IsNamingAt P)) bad.parts a))

-- ---- what is declared

abbrev IsDeclarationAt : (Place → Type 0) → Declaration → Type 0
IsDeclarationAt P d = P d.place

constants_at : (P : Place → Type 0) (cs : List tree.Assignment) (places : List Place) → AllByRecursion P places → AllByRecursion (IsDeclarationAt P) (constants cs places)
constants_at P [] places a = tt
constants_at P (c ∷ cs) [] a = tt
constants_at P (c ∷ cs) (place ∷ places) a = (a.0, constants_at P cs places a.1)

parameters_at : (P : Place → Type 0) (scope : ℕ) (ps : List tree.Assignment) (places : List Place) → AllByRecursion P places → AllByRecursion (IsDeclarationAt P) (parameters scope ps places)
parameters_at P scope [] places a = tt
parameters_at P scope (p ∷ ps) [] a = tt
parameters_at P scope (p ∷ ps) (place ∷ places) a = (a.0, parameters_at P scope ps places a.1)

formals_at : (P : Place → Type 0) (scope : ℕ) (fs : List tree.Formal) (places : List Place) → AllByRecursion P places → AllByRecursion (IsDeclarationAt P) (formals scope fs places)
formals_at P scope [] places a = tt
formals_at P scope (f ∷ fs) [] a = tt
formals_at P scope (f ∷ fs) (place ∷ places) a = (a.0, formals_at P scope fs places a.1)

mutual
  unfolding statement_labels labels else_labels

  statement_labels_at : (P : Place → Type 0) (scope : ℕ) (s : tree.Statement) → IsStatementAt P s → AllByRecursion (IsDeclarationAt P) (statement_labels scope s)
  statement_labels_at P scope (tree.Use u) a = (a.place, tt)
  statement_labels_at P scope (tree.Wire w) a = tt
  statement_labels_at P scope (tree.If test ss other place) a =
      every_append (IsDeclarationAt P) (labels scope ss) (else_labels scope other) (labels_at P scope ss a.1) (else_labels_at P scope other a.2)
  statement_labels_at P scope (tree.For var first last ss place) a = labels_at P scope ss a.1

  labels_at : (P : Place → Type 0) (scope : ℕ) (ss : tree.Statements) → AreStatementsAt P ss → AllByRecursion (IsDeclarationAt P) (labels scope ss)
  labels_at P scope tree.nil a = tt
  labels_at P scope (tree.cons s ss) a = every_append (IsDeclarationAt P) (statement_labels scope s) (labels scope ss) (statement_labels_at P scope s a.0) (labels_at P scope ss a.1)

  else_labels_at : (P : Place → Type 0) (scope : ℕ) (o : tree.Otherwise) → IsOtherwiseAt P o → AllByRecursion (IsDeclarationAt P) (else_labels scope o)
  else_labels_at P scope tree.no_else a = tt
  else_labels_at P scope (tree.else_ ss) a = labels_at P scope ss a

head_at : (P : Place → Type 0) (scope : ℕ) (m : tree.Macro) (h : Head) → IsMacroAt P m → IsHeadAt P h → AllByRecursion (IsDeclarationAt P) (head_declared scope m h)
head_at P scope m h a b =
    let D : Declaration → Type 0 = IsDeclarationAt P in (
      a.place,
      every_append D (parameters scope m.params h.parameters) (formals scope m.ins h.ins ++ formals scope m.outs h.outs)
          (parameters_at P scope m.params h.parameters b.parameters)
          (every_append D (formals scope m.ins h.ins) (formals scope m.outs h.outs) (formals_at P scope m.ins h.ins b.ins) (formals_at P scope m.outs h.outs b.outs)),
    )

macros_at : (P : Place → Type 0) (scope : ℕ) (ms : List tree.Macro) (hs : List Head) → AllByRecursion (IsMacroAt P) ms →
    AllByRecursion (IsHeadAt P) hs → AllByRecursion (IsDeclarationAt P) (macros_declared scope ms hs)
macros_at P scope [] hs a b = tt
macros_at P scope (m ∷ ms) [] a b = tt
macros_at P scope (m ∷ ms) (h ∷ hs) a b =
    let D : Declaration → Type 0 = IsDeclarationAt P in
    every_append D (head_declared scope m h ++ labels scope m.body) (macros_declared (suc scope) ms hs)
    (every_append D (head_declared scope m h) (labels scope m.body) (head_at P scope m h a.0 b.0) (labels_at P scope m.body a.0.body))
    (macros_at P (suc scope) ms hs a.1 b.1)

declared_at : (P : Place → Type 0) (s : Sketch) → IsSketchAt P s → AllByRecursion (IsDeclarationAt P) (declared_by s)
declared_at P s a =
    let ms = s.macros.macros in
    let hs = s.macros.heads in
    let cs = s.consts in
    every_append (IsDeclarationAt P) (constants cs.constants cs.name_places) (macros_declared 0 ms hs ++ labels (length ms) s.body)
    (constants_at P cs.constants cs.name_places a.consts.name_places)
    (every_append (IsDeclarationAt P) (macros_declared 0 ms hs) (labels (length ms) s.body) (macros_at P 0 ms hs a.macros.macros a.macros.heads) (labels_at P (length ms) s.body a.body))

double_name_at : (P : Place → Type 0) (ds : List Declaration) (r : Refusal) → AllByRecursion (IsDeclarationAt P) ds → IsDoubleName ds r → P r.place
double_name_at P ds r a wrong =
    subst (λ (x : Refusal). P x.place) (sym wrong.refusal)
    (every_between (IsDeclarationAt P) wrong.before wrong.again wrong.after (subst (AllByRecursion (IsDeclarationAt P)) wrong.parts a))

-- ---- drawings and refusals, by what holds of the place of each token

pub sketch_at : (P : Place → Type 0) (ts : List Lexeme) (w : WrittenBy ts) → AllByRecursion (λ (t : Lexeme). P t.place) ts → IsText ts w → IsSketchAt P (values w).0
sketch_at P ts w a text = (values_at P w (subst (AllByRecursion (IsTokenAt P)) (sym text.spelled) a)).0

names_all_at : (P : Place → Type 0) (ts : List Lexeme) (w : WrittenBy ts) → AllByRecursion (IsTokenAt P) ts → IsText ts w → AllByRecursion (IsNamingAt P) (names w)
names_all_at P ts w a text =
    let same : names w ≡ names_from false ts = names_of_text (edition_of ts) w ∙ ap (λ (xs : List Lexeme). names_from false xs) text.spelled in
    subst (AllByRecursion (IsNamingAt P)) (sym same) (names_placed P false ts a)

token_at : (P : Place → Type 0) (ts before : List Lexeme) (t : Lexeme) (after : List Lexeme) → ts ≡ before ++ t ∷ after → AllByRecursion (IsTokenAt P) ts → P t.place
token_at P ts before t after e a = every_between (IsTokenAt P) before t after (subst (AllByRecursion (IsTokenAt P)) e a)

refused_token_at : (P : Place → Type 0) (ts : List Lexeme) (r : Refusal) → AllByRecursion (IsTokenAt P) ts → IsRefused ts r → P r.place
refused_token_at P ts r a (syntax before t after parts begins near none e) = subst (λ (x : Refusal). P x.place) (sym e) (token_at P ts before t after parts a)
refused_token_at P ts r a (too_deep before t after parts near deep e) = subst (λ (x : Refusal). P x.place) (sym e) (token_at P ts before t after parts a)

pub wrong_at : (P : Place → Type 0) (ts : List Lexeme) (r : Refusal) → AllByRecursion (λ (t : Lexeme). P t.place) ts → IsWrong ts r → P r.place
wrong_at P ts r a (grammar wrong) = refused_token_at P ts r a wrong
wrong_at P ts r a (header w text e) = header_at P (values w).0.header r (sketch_at P ts w a text).header e
wrong_at P ts r a (name w h text e bad) = bad_name_at P h (names w) r (names_all_at P ts w a text) bad
wrong_at P ts r a (double w h text e good wrong) = double_name_at P (declared_by (values w).0) r (declared_at P (values w).0 (sketch_at P ts w a text)) wrong

pub drawn_at : (P : Place → Type 0) (ts : List Lexeme) (d : tree.Drawing) → AllByRecursion (λ (t : Lexeme). P t.place) ts → Draws ts d → EachPlace P d
drawn_at P ts d a draws =
    let s = sketch_at P ts draws.written a draws.text in
    subst (EachPlace P) draws.stands (record { consts = s.consts.places; macros = s.macros.macros; body = s.body; cases = s.cases })

-- ---- by the places of the tokens

behind_one : (xs : List Place) (y x : Place) → Contains xs x → Contains (y ∷ xs) x
behind_one xs y x h = let lt = h.1 in (suc h.0, omega arith, h.2)

each_found : (xs : List Place) → AllByRecursion (Contains xs) xs
each_found [] = tt
each_found (x ∷ xs) = ((0, omega arith, refl), all_map (Contains xs) (Contains (x ∷ xs)) (behind_one xs x) xs (each_found xs))

tokens_found : (ts : List Lexeme) → AllByRecursion (λ (t : Lexeme). Contains (places_of ts) t.place) ts
tokens_found ts = every_mapped (Contains (places_of ts)) (λ (t : Lexeme). t.place) ts (each_found (places_of ts))

pub wrong_at_tokens : WrongAtTokens
wrong_at_tokens ts r wrong = wrong_at (Contains (places_of ts)) ts r (tokens_found ts) wrong

pub drawn_at_tokens : DrawnAtTokens
drawn_at_tokens ts d draws = drawn_at (Contains (places_of ts)) ts d (tokens_found ts) draws
