-- Tokens with their places that are these tokens.
use Rattle.std.proofs.Common.{◌≡◌, ℕ, false, List, [], ◌∷◌, ◌++◌, map, refl, ap, ◌∙◌}
use Rattle.std.specs.Prelude.{codes}
use Rattle.std.specs.Str.{bytes_eq}
use Rattle.std.proofs.lemmas.Bool.{or_parts}
use Rattle.scald_base.specs.Word.{is_reserved}
use Rattle.drawing_tree.specs.WellFormed.{IsFreeWord}
use Rattle.drawing_grammar.specs.declared.terminal.Terminal.TheVariants.{Word}
use Rattle.drawing_grammar.specs.Lexeme.{Lexeme, word_terminal, terminal_by, terminal}
use Rattle.drawing_grammar.proofs.Cutting.{Bare}
use Rattle.drawing_grammar.proofs.Leaves as leaf

abbrev pub bare : Lexeme → Bare
bare t = record { kind = t.kind; text = t.text }

abbrev pub Are : List Lexeme → List Bare → Type 0
Are ts bs = map bare ts ≡ bs

-- Tokens in two parts.
pub record Parts (ts : List Lexeme) (a b : List Bare) : Type 0 where
  pub first : List Lexeme
  pub second : List Lexeme
  pub whole : ts ≡ first ++ second
  pub front : Are first a
  pub back : Are second b

pub parts : (ts : List Lexeme) (a b : List Bare) → Are ts (a ++ b) → Parts ts a b
parts ts [] b e = record { first = []; second = ts; whole = refl; front = refl; back = e }
parts [] (x ∷ a) b e = absurd cc
parts (t ∷ ts) (x ∷ a) b e =
    let head : bare t ≡ x = cc in
    let tail : map bare ts ≡ a ++ b = cc in
    let r = parts ts a b tail in
    let front : bare t ∷ map bare r.first ≡ x ∷ a = cc (head, r.front) in
    record { first = t ∷ r.first; second = r.second; whole = ap (λ (us : List Lexeme). t ∷ us) r.whole; front = front; back = r.back }

-- One token.
pub record Single (ts : List Lexeme) (x : Bare) : Type 0 where
  pub token : Lexeme
  pub whole : ts ≡ token ∷ []
  pub is : bare token ≡ x

pub single : (ts : List Lexeme) (x : Bare) → Are ts (x ∷ []) → Single ts x
single [] x e = absurd cc
single (t ∷ []) x e = let head : bare t ≡ x = cc in record { token = t; whole = refl; is = head }
single (t ∷ u ∷ ts) x e = absurd (let tail : bare u ∷ map bare ts ≡ [] = cc in cc)

-- what the grammar takes it for
pub terminal_is : (t : Lexeme) (x : Bare) → bare t ≡ x → terminal t ≡ terminal_by x.kind x.text
terminal_is t x e = ap (λ (b : Bare). terminal_by b.kind b.text) e

pub text_is : (t : Lexeme) (x : Bare) → bare t ≡ x → t.text ≡ x.text
text_is t x e = ap (λ (b : Bare). b.text) e

-- A word that is not reserved is no more than a word.
pub free_word : (w : List ℕ) → is_reserved w ≡ false → word_terminal w ≡ Word
unfolding word_terminal
free_word w h =
    let t = λ (x : List ℕ). bytes_eq w x in
    let a = or_parts (t (codes "SCALD")) _ h in
    let b = or_parts (t (codes "CLOCK")) _ a.1 in
    let c = or_parts (t (codes "WIRE")) _ b.1 in
    let d = or_parts (t (codes "PSKEW")) _ c.1 in
    let e = or_parts (t (codes "CSKEW")) _ d.1 in
    let f = or_parts (t (codes "MACRO")) _ e.1 in
    let g = or_parts (t (codes "DRAWING")) _ f.1 in
    let i = or_parts (t (codes "CASE")) _ g.1 in
    let j = or_parts (t (codes "IF")) _ i.1 in
    let k = or_parts (t (codes "THEN")) _ j.1 in
    let l = or_parts (t (codes "ELSE")) _ k.1 in
    let m = or_parts (t (codes "END")) _ l.1 in
    let n = or_parts (t (codes "ZERO")) _ m.1 in
    let o = or_parts (t (codes "ONE")) _ n.1 in
    rw (a.0, b.0, c.0, d.0, e.0, f.0, g.0, i.0, j.0, k.0, l.0, m.0, n.0, o.0) refl

pub word_is_free : (t : Lexeme) (w : List ℕ) → bare t ≡ leaf.word w → IsFreeWord w → terminal t ≡ Word
word_is_free t w e is = terminal_is t (leaf.word w) e ∙ free_word w is.is_free
