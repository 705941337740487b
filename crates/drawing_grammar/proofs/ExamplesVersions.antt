-- Small texts of both versions of the language: what they stand for and declare, and where others
-- are refused.
use Rattle.std.proofs.Common.{◌≡◌, ℕ, zero, suc, List, [], ◌∷◌, ◌++◌, length, map, take, drop, true, Option, Some, None, Err, pos, refl, sym, ap, ◌∙◌, append_assoc, arith}
use Rattle.std.specs.Prelude.{codes, replicate, IfSome, is_some, option_map}
use Rattle.std.specs.List.{flat_map}
use Rattle.scald_base.specs.declared.refusal.Place.{Place}
use Rattle.scald_base.specs.declared.refusal.Refusal.{Refusal}
use Rattle.scald_base.specs.declared.refusal.RefusalKind.{RefusalKind}
use Rattle.scald_base.specs.declared.refusal.RefusalKind.TheVariants.{Syntax, TooDeep}
use Rattle.scald_lex.specs.declared.piece.Piece.{Piece}
use Rattle.scald_lex.specs.declared.token.TokenKind.TheVariants.{End}
use Rattle.scald_lex.specs.Piece.{word_at, number_at, piece_at}
use Rattle.scald_lex.specs.Place.{place_behind}
use Rattle.scald_lex.specs.Tokens.{size}
use Rattle.drawing_tree.specs.declared.expr.Op.TheVariants.{Add}
use Rattle.drawing_tree.specs.Expression.{Expression, Number, Param, Binary}
use Rattle.drawing_tree.specs.Tree.{Statement, Use, For, Statements, nil, cons}
use Rattle.drawing_grammar.specs.declared.declared.Kind.{Kind}
use Rattle.drawing_grammar.specs.declared.declared.Kind.TheVariants.{Constant, Macro, Parameter, Label}
use Rattle.drawing_grammar.specs.declared.edition.Edition.{Edition}
use Rattle.drawing_grammar.specs.declared.edition.Edition.TheVariants.{First, Second}
use Rattle.drawing_grammar.specs.Lexeme.{Lexeme, word_terminal, symbol_terminal}
use Rattle.drawing_grammar.specs.Edition.{edition_of}
use Rattle.drawing_grammar.specs.Header.{judged, refused_at}
use Rattle.drawing_grammar.specs.DoubleNames.{key, Declaration, declaration, statement_labels, primitives, double_at, IsDoubleName}
use Rattle.drawing_grammar.specs.Sketch.{Sketch, PlacedConstants}
use Rattle.drawing_grammar.specs.Draws.{whole, Reads, IsRefused}
use Rattle.drawing_grammar.specs.Drawing.{drawing_of_sketch, declared_by, IsWrong, header}
use Rattle.drawing_grammar.specs.Machine.{Verdict, Complete, Refused, refusal, verdict}
use Rattle.drawing_grammar.proofs.Cutting.{Bare, bare_of}
use Rattle.drawing_grammar.proofs.Distinct.{differ}
use Rattle.drawing_grammar.proofs.Whole.{Ending, is_read, is_refused}

-- ---- the tokens of a text

abbrev pub place : ℕ → ℕ → Place
place line col = record { line = line; col = col }

abbrev lexeme : Place → Bare → Lexeme
lexeme place b = record { kind = b.kind; text = b.text; place = place }

abbrev end_at : Place → Lexeme
end_at place = lexeme place (record { kind = End; text = [] })

-- of the piece that stands first, and of those after it
abbrev tokens_behind : (Place → List ℕ → List Lexeme) → Place → List ℕ → Option Piece → List Lexeme
tokens_behind more place text None = end_at place ∷ []
tokens_behind more place text (Some p) =
    map (lexeme place) (bare_of text p)
    ++ more (place_behind place (take (size p) text)) (drop (size p) text)

-- of at most so many pieces, from this place on
abbrev tokens_from : ℕ → Place → List ℕ → List Lexeme
tokens_from zero place text = end_at place ∷ []
tokens_from (suc n) place text = tokens_behind (tokens_from n) place text (piece_at text)

abbrev tokens : List ℕ → List Lexeme
tokens text = tokens_from (length text) (place 1 1) text

ends_so : (p : Place) → Ending (end_at p ∷ [])
ends_so p = record { before = []; last = end_at p; are = refl; end = refl }

ends_behind : (more : Place → List ℕ → List Lexeme) (place : Place) (text : List ℕ)
    (o : Option Piece) → ((p : Place) (s : List ℕ) → Ending (more p s)) →
    Ending (tokens_behind more place text o)
ends_behind more place text None h = ends_so place
ends_behind more place text (Some p) h =
    let e = h (place_behind place (take (size p) text)) (drop (size p) text) in
    let first = map (lexeme place) (bare_of text p) in
    record {
      before = first ++ e.before;
      last = e.last;
      are = ap (λ (ts : List Lexeme). first ++ ts) e.are
          ∙ sym (append_assoc first e.before (e.last ∷ []));
      end = e.end;
    }

ends : (n : ℕ) (p : Place) (text : List ℕ) → Ending (tokens_from n p text)
ends zero p text = ends_so p
ends (suc n) p text = ends_behind (tokens_from n) p text (piece_at text) (ends n)

-- ---- what is read of them

abbrev verdict_on : (ts : List Lexeme) → Verdict (whole (edition_of ts))
verdict_on ts = verdict ts (whole (edition_of ts)) 0

abbrev sketch_of : (v : Edition) → Verdict (whole v) → Option Sketch
sketch_of v (Complete x) = Some x.0
sketch_of v (Refused r) = None

abbrev refusal_of : (v : Edition) → Verdict (whole v) → Option Refusal
refusal_of v (Complete x) = None
refusal_of v (Refused r) = Some r

abbrev pub read : List ℕ → Option Sketch
read text = let ts = tokens text in sketch_of (edition_of ts) (verdict_on ts)

abbrev refused : List ℕ → Option Refusal
refused text = let ts = tokens text in refusal_of (edition_of ts) (verdict_on ts)

-- Both are what the definitions say of the tokens.
module _ (ts : List Lexeme) where
  reads : IfSome (sketch_of (edition_of ts) (verdict_on ts)) (Reads ts)
  reads = one (verdict_on ts) refl
    where
      one : (x : Verdict (whole (edition_of ts))) → verdict_on ts ≡ x →
          IfSome (sketch_of (edition_of ts) x) (Reads ts)
      one (Complete x) e = is_read ts x.0 e
      one (Refused r) e = tt

  refuses : Ending ts → IfSome (refusal_of (edition_of ts) (verdict_on ts)) (IsRefused ts)
  refuses end = one (verdict_on ts) refl
    where
      one : (x : Verdict (whole (edition_of ts))) → verdict_on ts ≡ x →
          IfSome (refusal_of (edition_of ts) x) (IsRefused ts)
      one (Complete x) e = tt
      one (Refused r) e = is_refused ts r end e

text_reads : (text : List ℕ) → IfSome (read text) (Reads (tokens text))
text_reads text = reads (tokens text)

text_refuses : (text : List ℕ) → IfSome (refused text) (IsRefused (tokens text))
text_refuses text = refuses (tokens text) (ends (length text) (place 1 1) text)

abbrev at : RefusalKind → ℕ → Option Refusal
at kind col = Some (refusal kind (place 1 col))

-- ---- versions

-- The value of the number decides, not its spelling.
numbers : map (λ text. edition_of (tokens text))
    (codes "SCALD 1;" ∷ codes "SCALD 2;" ∷ codes "SCALD 02;" ∷ codes "SCALD 002;" ∷ codes "SCALD 3;"
    ∷ codes "SCALD 12;" ∷ codes "SCALD 0;" ∷ codes "SCALD" ∷ codes "2" ∷ [] ∷ [])
    ≡ First ∷ Second ∷ Second ∷ Second ∷ First ∷ First ∷ First ∷ First ∷ First ∷ First ∷ []
unfolding piece_at word_at number_at
numbers = refl

-- a text whose statements begin at column 32, for a version of one digit
abbrev pub text : List ℕ → List ℕ → List ℕ
text version statements =
    codes "SCALD " ++ version ++ codes ";CLOCK 8 x 50;DRAWING D;" ++ statements ++ codes "END;"

abbrev pub body : List ℕ → Option Statements
body text = option_map (λ s. s.body) (read text)

abbrev pub one : Statement → Option Statements
one s = Some (cons s nil)

-- a use with nothing in its parentheses
abbrev pub use_at : ℕ → List ℕ → List ℕ → Statement
use_at col label kind = Use (record {
  label = label;
  kind = kind;
  delay = None;
  fall = None;
  params = [];
  ins = [];
  outs = [];
  place = place 1 col;
})

abbrev first : List ℕ
first = codes "1"

abbrev pub second : List ℕ
second = codes "2"

-- ---- labels

-- FOR is a label if a colon follows, in either version.
label : map (λ version. body (text version (codes "FOR:DO();"))) (first ∷ second ∷ [])
    ≡ one (use_at 32 (codes "FOR") (codes "DO")) ∷ one (use_at 32 (codes "FOR") (codes "DO")) ∷ []
unfolding verdict piece_at word_at number_at word_terminal symbol_terminal
label = refl

-- So are the other words of version 2, and each of them is a kind.
other_labels : body (text second (codes "TO:CONST();DO:FOR();CONST:TO();"))
    ≡ Some (cons (use_at 32 (codes "TO") (codes "CONST"))
    (cons (use_at 43 (codes "DO") (codes "FOR"))
    (cons (use_at 52 (codes "CONST") (codes "TO")) nil)))
unfolding verdict piece_at word_at number_at word_terminal symbol_terminal
other_labels = refl

-- ---- FOR

abbrev pub num : ℕ → Expression
num n = Number (pos n)

abbrev pub param : List ℕ → Expression
param name = Param name

abbrev loop : List ℕ
loop = codes "FOR I=1 TO N DO FOR:BUF();END;"

loop_of_2 : body (text second loop)
    ≡ one (For (codes "I") (num 1) (param (codes "N"))
    (cons (use_at 48 (codes "FOR") (codes "BUF")) nil) (place 1 32))
unfolding verdict piece_at word_at number_at word_terminal symbol_terminal
loop_of_2 = refl

-- In version 1 it is a use whose colon is missing.
loop_of_1 : refused (text first loop) ≡ at Syntax 36
unfolding verdict piece_at word_at number_at word_terminal symbol_terminal
loop_of_1 = refl

-- The words of a FOR may be named in it.
words_in_a_loop : map (λ statements. body (text second statements))
    (codes "FOR TO=TO TO DO DO END;" ∷ codes "FOR FOR=DO TO TO+1 DO END;" ∷ [])
    ≡ one (For (codes "TO") (param (codes "TO")) (param (codes "DO")) nil (place 1 32))
    ∷ one (For (codes "FOR") (param (codes "DO")) (Binary Add (param (codes "TO")) (num 1)) nil
    (place 1 32)) ∷ []
unfolding verdict piece_at word_at number_at word_terminal symbol_terminal
words_in_a_loop = refl

-- a reserved word as the variable, no TO, no DO, a comparison as a bound, and no END
broken_loops : map (λ statements. refused (text second statements))
    (codes "FOR IF=1 TO 2 DO END;" ∷ codes "FOR I=1 DO END;" ∷ codes "FOR I=1 TO 2 END;"
    ∷ codes "FOR I=1<2 TO 3 DO END;" ∷ codes "FOR I=1 TO 2 DO " ∷ [])
    ≡ at Syntax 36 ∷ at Syntax 40 ∷ at Syntax 45 ∷ at Syntax 39 ∷ at Syntax 52 ∷ []
unfolding verdict piece_at word_at number_at word_terminal symbol_terminal
broken_loops = refl

-- ---- constants

-- with the constants at column 22, for a version of one digit
abbrev constant_text : List ℕ → List ℕ → List ℕ
constant_text version constants =
    codes "SCALD " ++ version ++ codes ";CLOCK 8 x 50;" ++ constants ++ codes "DRAWING D;END;"

abbrev constants : List ℕ → Option PlacedConstants
constants text = option_map (λ s. s.consts) (read text)

abbrev two : List ℕ
two = codes "CONST N=4;CONST CONST=N+1;"

-- Each has the place of its word CONST, and beside it that of its name.
constants_of_2 : constants (constant_text second two) ≡ Some (record {
  constants =
      record { name = codes "N"; value = num 4 }
      ∷ record { name = codes "CONST"; value = Binary Add (param (codes "N")) (num 1) } ∷ [];
  places = place 1 22 ∷ place 1 32 ∷ [];
  name_places = place 1 28 ∷ place 1 38 ∷ [];
})
unfolding verdict piece_at word_at number_at word_terminal symbol_terminal
constants_of_2 = refl

-- the same constants by another spelling of the version
constants_of_02 : option_map (λ c. c.constants) (constants (constant_text (codes "02") two))
    ≡ option_map (λ c. c.constants) (constants (constant_text second two))
unfolding verdict piece_at word_at number_at word_terminal symbol_terminal
constants_of_02 = refl

-- The drawing has the version by its value, and the places of the words CONST.
drawn : option_map {U = ℕ × List Place}
    (λ s. let d = drawing_of_sketch s in (d.version, d.const_places))
    (read (constant_text (codes "02") two)) ≡ Some (2, place 1 23 ∷ place 1 33 ∷ [])
unfolding verdict piece_at word_at number_at word_terminal symbol_terminal
drawn = refl

-- Version 1 has none, and a text of any other number is read as one of version 1.
constants_of_others : map (λ version. refused (constant_text version two))
    (first ∷ codes "3" ∷ codes "0" ∷ [])
    ≡ at Syntax 22 ∷ at Syntax 22 ∷ at Syntax 22 ∷ []
unfolding verdict piece_at word_at number_at word_terminal symbol_terminal
constants_of_others = refl

-- a constant after a macro, one with a reserved name, and one without a value
broken_constants : map (λ constants. refused (constant_text second constants))
    (codes "MACRO M();END;CONST N=4;" ∷ codes "CONST END=4;" ∷ codes "CONST N;" ∷ [])
    ≡ at Syntax 36 ∷ at Syntax 28 ∷ at Syntax 29 ∷ []
unfolding verdict piece_at word_at number_at word_terminal symbol_terminal
broken_constants = refl

-- ---- numbers of no version

abbrev text_of_3 : List ℕ
text_of_3 = text (codes "3") (codes "FOR:DO();")

-- The header of a text is judged after the text is read.
version_3 : option_map (λ s. judged s.header) (read text_of_3) ≡ Some (Err (refused_at (place 1 1)))
unfolding verdict piece_at word_at number_at word_terminal symbol_terminal
version_3 = refl

version_3_is_wrong : IsWrong (tokens text_of_3) (refused_at (place 1 1))
unfolding verdict piece_at word_at number_at word_terminal symbol_terminal
version_3_is_wrong =
    let k = text_reads text_of_3 in
    header k.written (record { spelled = k.spelled; within = k.within })
    (ap (λ (s : Sketch). judged s.header) k.stands)

-- ---- what is declared

abbrev declared : List ℕ → Option (List Declaration)
declared text = option_map declared_by (read text)

abbrev at_col : Kind → ℕ → List ℕ → ℕ → Declaration
at_col kind scope name col = declaration scope kind name (place 1 col)

-- Constants come first, then each macro with the labels of its FORs, and then those of the drawing.
in_order : declared (codes "SCALD 2;CLOCK 8 x 50;CONST N=4;CONST M=N;"
    ++ codes "MACRO W {P=1}();FOR I=1 TO 2 DO u:BUF();END;END;DRAWING D;u:BUF();END;")
    ≡ Some (at_col Constant 0 (codes "N") 28 ∷ at_col Constant 0 (codes "M") 38
    ∷ at_col Macro 0 (codes "W") 48 ∷ at_col Parameter 0 (codes "P") 51
    ∷ at_col Label 0 (codes "u") 74 ∷ at_col Label 1 (codes "u") 100 ∷ [])
unfolding verdict piece_at word_at number_at word_terminal symbol_terminal statement_labels
in_order = refl

abbrev twice : List Declaration
twice = at_col Constant 0 (codes "N") 28 ∷ at_col Constant 0 (codes "N") 38 ∷ []

declared_twice : declared (constant_text second (codes "CONST N=4;CONST N=5;")) ≡ Some twice
unfolding verdict piece_at word_at number_at word_terminal symbol_terminal statement_labels
declared_twice = refl

-- A second constant of one name is refused at its name.
refused_at_the_name : IsDoubleName twice (double_at (place 1 38))
unfolding primitives
refused_at_the_name = record {
  before = at_col Constant 0 (codes "N") 28 ∷ [];
  again = at_col Constant 0 (codes "N") 38;
  after = [];
  parts = refl;
  first = differ (primitives ++ key 0 Constant (codes "N") ∷ []) refl;
  double = (15, omega arith, refl);
  refusal = refl;
}

-- ---- how deep IFs and FORs nest

abbrev ifs : ℕ → List ℕ → List ℕ
ifs n inside = flat_map (λ s. s) (replicate n (codes "IF A THEN ")) ++ inside

abbrev loops : ℕ → List ℕ → List ℕ
loops n inside = flat_map (λ s. s) (replicate n (codes "FOR I=1 TO 2 DO ")) ++ inside

abbrev ends_of : ℕ → List ℕ
ends_of n = flat_map (λ s. s) (replicate n (codes "END;"))

-- The 65th is one too many, an IF as well as a FOR, and so is a FOR that any token but a colon
-- follows.
too_deep : map (λ statements. refused (text second statements))
    (ifs 64 (codes "FOR I=1") ∷ ifs 64 (codes "IF A THEN") ∷ ifs 64 (codes "FOR;")
    ∷ loops 64 (codes "FOR I=1") ∷ loops 64 (codes "IF A THEN") ∷ loops 32 (ifs 33 []) ∷ [])
    ≡ at TooDeep 672 ∷ at TooDeep 672 ∷ at TooDeep 672
    ∷ at TooDeep 1056 ∷ at TooDeep 1056 ∷ at TooDeep 864 ∷ []
unfolding verdict piece_at word_at number_at word_terminal symbol_terminal
too_deep = refl

-- Seventy that follow one another do not nest.
one_after_another : is_some (read (text second
    (flat_map (λ s. s) (replicate 70 (codes "FOR I=1 TO 2 DO END;"))))) ≡ true
unfolding verdict piece_at word_at number_at word_terminal symbol_terminal
one_after_another = refl

-- A label FOR counts as no FOR, and 64 are not too many.
not_too_deep : map (λ statements. is_some (read (text second statements)))
    (ifs 64 (codes "FOR:BUF();" ++ ends_of 64) ∷ ifs 63 (loops 1 (ends_of 64))
    ∷ loops 64 (ends_of 64) ∷ [])
    ≡ true ∷ true ∷ true ∷ []
unfolding verdict piece_at word_at number_at word_terminal symbol_terminal
not_too_deep = refl

-- In version 1 a FOR is no FOR at any depth: the colon of a label is missing.
deep_in_1 : refused (text first (ifs 64 (codes "FOR I=1"))) ≡ at Syntax 676
unfolding verdict piece_at word_at number_at word_terminal symbol_terminal
deep_in_1 = refl

-- Each bound of a FOR is an expression of its own, of at most 64 operators.
abbrev sum : ℕ → List ℕ
sum n = codes "1" ++ flat_map (λ s. s) (replicate n (codes "+1"))

own_bounds : is_some (read (text second
    (codes "FOR I=" ++ sum 64 ++ codes " TO " ++ sum 64 ++ codes " DO END;"))) ≡ true
unfolding verdict piece_at word_at number_at word_terminal symbol_terminal
own_bounds = refl

long_bound : refused (text second (codes "FOR I=1 TO " ++ sum 65 ++ codes " DO END;"))
    ≡ at TooDeep 172
unfolding verdict piece_at word_at number_at word_terminal symbol_terminal
long_bound = refl
