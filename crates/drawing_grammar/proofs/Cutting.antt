-- Cutting a text into tokens from its front, and texts that are cut alike whatever stands after them.
use Rattle.std.proofs.Common.{◌≡◌, ℕ, Bool, true, false, not, List, [], ◌∷◌, ◌++◌, length, take, drop, Some, refl, sym, ap, subst, ◌∙◌, append_assoc}
use Rattle.std.specs.List.{list_all}
use Rattle.std.proofs.lemmas.List.Folds.{list_all-append}
use Rattle.std.proofs.Math.Seq.{take-append_seam, drop-append_seam}
use Rattle.scald_base.specs.Word.{is_word_byte}
use Rattle.scald_lex.specs.declared.token.TokenKind.{TokenKind}
use Rattle.scald_lex.specs.declared.piece.Piece.{Piece}
use Rattle.scald_lex.specs.declared.piece.Piece.TheVariants.{Space, LineEnd, Comment, Lexeme}
use Rattle.scald_lex.specs.Bytes.{is_allowed}
use Rattle.scald_lex.specs.Piece.{piece_at}
use Rattle.scald_lex.specs.Tokens.{size}

-- a token with its bytes, wherever it stands
pub record Bare : Type 0 where
  pub kind : TokenKind
  pub text : List ℕ

-- The first text is these pieces, up to the second.
abbrev pub Cuts : List ℕ → List Piece → List ℕ → Type 0
Cuts s [] r = s ≡ r
Cuts s (p ∷ ps) r = (piece_at s ≡ Some p) × Cuts (drop (size p) s) ps r

abbrev pub bare_of : List ℕ → Piece → List Bare
bare_of s Space = []
bare_of s LineEnd = []
bare_of s (Comment count) = []
bare_of s (Lexeme kind count) = record { kind = kind; text = take count s } ∷ []

abbrev pub bares : List ℕ → List Piece → List Bare
bares s [] = []
bares s (p ∷ ps) = bare_of s p ++ bares (drop (size p) s) ps

-- The first text is these tokens, up to the second.
pub record Lexes (s : List ℕ) (ts : List Bare) (r : List ℕ) : Type 0 where
  pub pieces : List Piece
  pub cut : Cuts s pieces r
  pub are : bares s pieces ≡ ts

cuts_append : (s : List ℕ) (ps : List Piece) (r : List ℕ) (qs : List Piece) (q : List ℕ) → Cuts s ps r → Cuts r qs q → Cuts s (ps ++ qs) q
cuts_append s [] r qs q e h = subst (λ (x : List ℕ). Cuts x qs q) (sym e) h
cuts_append s (p ∷ ps) r qs q c h = (c.0, cuts_append (drop (size p) s) ps r qs q c.1 h)

bares_append : (s : List ℕ) (ps : List Piece) (r : List ℕ) (qs : List Piece) → Cuts s ps r → bares s (ps ++ qs) ≡ bares s ps ++ bares r qs
bares_append s [] r qs e = ap (λ (x : List ℕ). bares x qs) e
bares_append s (p ∷ ps) r qs c =
    ap (λ (t : List Bare). bare_of s p ++ t) (bares_append (drop (size p) s) ps r qs c.1)
    ∙ sym (append_assoc (bare_of s p) (bares (drop (size p) s) ps) (bares r qs))

pub lexes_on : (s : List ℕ) (ts : List Bare) (r : List ℕ) (us : List Bare) (q : List ℕ) → Lexes s ts r → Lexes r us q → Lexes s (ts ++ us) q
lexes_on s ts r us q a b = record {
  pieces = a.pieces ++ b.pieces;
  cut = cuts_append s a.pieces r b.pieces q a.cut b.cut;
  are = bares_append s a.pieces r b.pieces a.cut ∙ (ap (λ (t : List Bare). t ++ bares r b.pieces) a.are ∙ ap (λ (t : List Bare). ts ++ t) b.are);
}

-- A token in front of a rest.
pub lexes_one : (text rest : List ℕ) (kind : TokenKind) → piece_at (text ++ rest) ≡ Some (Lexeme kind (length text)) → Lexes (text ++ rest) (record { kind = kind; text = text } ∷ []) rest
lexes_one text rest kind h = record {
  pieces = Lexeme kind (length text) ∷ [];
  cut = (h, drop-append_seam text rest);
  are = ap (λ (t : List ℕ). (let b : Bare = record { kind = kind; text = t } in b) ∷ []) (take-append_seam text rest);
}

-- ---- what may follow

-- No word and no number goes on here.
abbrev pub stops : List ℕ → Bool
stops [] = true
stops (b ∷ bs) = not (is_word_byte b)

-- the same, with a byte here that ends them
abbrev pub breaks : List ℕ → Bool
breaks [] = false
breaks (b ∷ bs) = not (is_word_byte b)

pub stops_on : (s rest : List ℕ) → stops s ≡ true → stops rest ≡ true → stops (s ++ rest) ≡ true
stops_on [] rest h k = k
stops_on (b ∷ bs) rest h k = h

pub breaks_on : (s rest : List ℕ) → breaks s ≡ true → stops (s ++ rest) ≡ true
breaks_on [] rest h = absurd cc
breaks_on (b ∷ bs) rest h = h

-- ---- texts that are these tokens

-- Whatever follows, if no word goes on there.
pub record Spells (s : List ℕ) (ts : List Bare) : Type 0 where
  pub allowed : list_all is_allowed s ≡ true
  pub lexes : (rest : List ℕ) → stops rest ≡ true → Lexes (s ++ rest) ts rest

-- Whatever follows.
pub record Closes (s : List ℕ) (ts : List Bare) : Type 0 where
  pub allowed : list_all is_allowed s ≡ true
  pub lexes : (rest : List ℕ) → Lexes (s ++ rest) ts rest

pub closed : (s : List ℕ) (ts : List Bare) → Closes s ts → Spells s ts
closed s ts c = record { allowed = c.allowed; lexes = λ rest h. c.lexes rest }

pub nothing_closes : Closes [] []
nothing_closes = record { allowed = refl; lexes = λ rest. record { pieces = []; cut = refl; are = refl } }

both_allowed : (s t : List ℕ) → list_all is_allowed s ≡ true → list_all is_allowed t ≡ true → list_all is_allowed (s ++ t) ≡ true
both_allowed s t h k = rw (list_all-append is_allowed s t, h, k) refl

over : (s t rest : List ℕ) (ts us : List Bare) → Lexes (s ++ (t ++ rest)) ts (t ++ rest) → Lexes (t ++ rest) us rest → Lexes ((s ++ t) ++ rest) (ts ++ us) rest
over s t rest ts us a b = subst (λ (x : List ℕ). Lexes x (ts ++ us) rest) (sym (append_assoc s t rest)) (lexes_on (s ++ (t ++ rest)) ts (t ++ rest) us rest a b)

-- A closed text before another.
pub before : (s t : List ℕ) (ts us : List Bare) → Closes s ts → Spells t us → Spells (s ++ t) (ts ++ us)
before s t ts us a b = record {
  allowed = both_allowed s t a.allowed b.allowed;
  lexes = λ rest h. over s t rest ts us (a.lexes (t ++ rest)) (b.lexes rest h);
}

pub before_closed : (s t : List ℕ) (ts us : List Bare) → Closes s ts → Closes t us → Closes (s ++ t) (ts ++ us)
before_closed s t ts us a b = record {
  allowed = both_allowed s t a.allowed b.allowed;
  lexes = λ rest. over s t rest ts us (a.lexes (t ++ rest)) (b.lexes rest);
}

-- An open text before one with which no word goes on.
pub then_ : (s t : List ℕ) (ts us : List Bare) → Spells s ts → Spells t us → stops t ≡ true → Spells (s ++ t) (ts ++ us)
then_ s t ts us a b h = record {
  allowed = both_allowed s t a.allowed b.allowed;
  lexes = λ rest k. over s t rest ts us (a.lexes (t ++ rest) (stops_on t rest h k)) (b.lexes rest k);
}

-- An open text before a closed one that ends its last word.
pub then_closed : (s t : List ℕ) (ts us : List Bare) → Spells s ts → Closes t us → breaks t ≡ true → Closes (s ++ t) (ts ++ us)
then_closed s t ts us a b h = record {
  allowed = both_allowed s t a.allowed b.allowed;
  lexes = λ rest. over s t rest ts us (a.lexes (t ++ rest) (breaks_on t rest h)) (b.lexes rest);
}
