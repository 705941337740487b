-- What a header, constants and what follows them stand for.
use Rattle.std.proofs.Common.{◌≡◌, ◌≢◌, ℕ, ℤ, pos, negsuc, ◌⊎◌, inl, inr, Bool, true, false, ◌&&◌, List, ◌++◌, ◌∷◌, Result, Ok, Err, refl, sym, ap, ◌∙◌, arith, w64, FitsSigned, to_z, of_z}
use Rattle.std.specs.Prelude.{IfOk, int_le, if◌then◌else◌}
use Rattle.std.proofs.lemmas.Bool.{leb-true}
use Rattle.std.proofs.lemmas.Int.{to_z-of_z}
use Rattle.drawing_grammar.specs.declared.edition.Edition.{Edition}
use Rattle.drawing_grammar.specs.declared.edition.Edition.TheVariants.{First, Second}
use Rattle.drawing_grammar.specs.declared.header.WrittenHeader.{WrittenHeader}
use Rattle.drawing_grammar.specs.Edition.{edition_by, edition_of}
use Rattle.drawing_grammar.specs.Header.{natural}
use Rattle.drawing_grammar.specs.Lexeme.{Lexeme, number_of}
use Rattle.drawing_grammar.specs.Front.{at_loop}
use Rattle.drawing_grammar.specs.Grammar.{Need, from_macros, part, Text}
use Rattle.drawing_grammar.specs.Sketch.{PlacedConstants, Values, no_constants}
use Rattle.drawing_reader.specs.Sketched.{headed, with_constants}

-- a text from its macros on, and what follows it
abbrev pub RestValues : Edition → List Need → Type 0
RestValues e rest = Values (from_macros e ++ rest)

-- the sketch of a header, of constants and of what stands after them
abbrev pub sketch_from : (e : Edition) (rest : List Need) → WrittenHeader → PlacedConstants → RestValues e rest → Values (part (Text e) 0 ∷ rest)
sketch_from e rest header consts v = (
  record {
    header = header;
    consts = consts;
    macros = v.0;
    name = v.1.0.text;
    body = v.1.1.0;
    cases = v.1.1.1.0;
  },
  v.1.1.1.1,
)

-- Version 1 has no constants, and so none were read.
pub headed_so : (e : Edition) (rest : List Need) (header : WrittenHeader) (consts : PlacedConstants) (v : RestValues e rest) →
    (e ≡ First → consts ≡ no_constants) → headed e rest header (with_constants e (from_macros e) rest consts v) ≡ sketch_from e rest header consts v
headed_so First rest header consts v none =
    ap (λ (c : PlacedConstants). sketch_from First rest header c v) (sym (none refl))
headed_so Second rest header consts v none = refl

-- A FOR stands in version 2 alone.
pub at_second : (e : Edition) (ts : List Lexeme) → at_loop e ts ≡ true → at_loop Second ts ≡ true
at_second First ts e = absurd cc
at_second Second ts e = e

pub second_at : (e : Edition) (ts : List Lexeme) → at_loop e ts ≡ true → e ≡ Second
second_at First ts e = absurd cc
second_at Second ts e = refl

-- Of version 2 nothing is said of having none.
pub none_first : {X S : Type 0} (P : X → Type 0) (r : Result X S) → IfOk r (λ x. Second ≡ First → P x)
none_first P (Ok x) = λ e. absurd cc
none_first P (Err s) = tt

-- The version by which a text is read is that of its second token.
pub edition_at : (t u : Lexeme) (ts us : List Lexeme) → ts ≡ t ∷ us → (vs : List Lexeme) → us ≡ u ∷ vs →
    edition_by (number_of u) ≡ edition_of ts
edition_at t u ts us e vs h = rw (e, h) refl

-- ---- the number of a version

-- An i64 is 2 if its bits are.
is_two : (n : ℤ) → FitsSigned w64 n → of_z w64 n ≡ 2 → n ≡ pos 2
is_two n fits e = sym (to_z-of_z w64 n fits) ∙ ap (to_z w64) e

pub second_by : (n : ℤ) → FitsSigned w64 n → of_z w64 n ≡ 2 → Second ≡ edition_by n
second_by n fits e = rw (is_two n fits e) refl

-- A number other than 2 names version 1.
first_of : (n : ℤ) → n ≢ pos 2 → First ≡ edition_by n
first_of (negsuc m) h = refl
first_of (pos m) h = one (int_le (pos 2) (pos m)) (int_le (pos m) (pos 2)) refl refl
  where
    one : (a b : Bool) → int_le (pos 2) (pos m) ≡ a → int_le (pos m) (pos 2) ≡ b → First ≡ (if a && b then Second else First)
    one true true e f = let k : m ≡ 2 = omega (arith, leb-true 2 m e, leb-true m 2 f) in absurd (h (ap pos k))
    one true false e f = refl
    one false b e f = refl

pub first_by : (n : ℤ) → of_z w64 n ≢ 2 → First ≡ edition_by n
first_by n h = first_of n (λ e. h (ap (of_z w64) e))

pub version_two : (n : ℤ) → FitsSigned w64 n → of_z w64 n ≡ 2 → 2 ≡ natural n
version_two n fits e = rw (is_two n fits e) refl

pub version_one : (n : ℤ) → of_z w64 n ≢ 2 → (natural n ≡ 1) ⊎ (natural n ≡ 2) → 1 ≡ natural n
version_one n h (inl e) = sym e
version_one (pos m) h (inr e) = absurd (h (ap (λ (k : ℕ). of_z w64 (pos k)) e))
version_one (negsuc m) h (inr e) = absurd cc
