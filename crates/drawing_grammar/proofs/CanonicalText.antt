-- A canonical text has tokens, and they are those of its parts.
use Rattle.std.proofs.Common.{◌≡◌, ℕ, ◌+◌, ◌-◌, ◌<◌, ◌≤◌, true, List, [], ◌∷◌, ◌++◌, length, map, take, drop, Some, refl, sym, ap, subst, ◌∙◌, arith, length-drop}
use Rattle.std.specs.Prelude.{slice_range}
use Rattle.std.specs.List.{list_all}
use Rattle.std.proofs.lemmas.List.{append-nil, map-append, drop-drop}
use Rattle.std.proofs.lemmas.List.Sums.{AllPass-from_list_all}
use Rattle.scald_lex.specs.declared.token.Token.{Token}
use Rattle.scald_lex.specs.declared.piece.Piece.{Piece}
use Rattle.scald_lex.specs.declared.piece.Piece.TheVariants.{Space, LineEnd, Comment, Lexeme}
use Rattle.scald_lex.specs.Bytes.{line_end, is_allowed}
use Rattle.scald_lex.specs.Piece.{begins_with, piece_at}
use Rattle.scald_lex.specs.Tokens.{size, IsCut, token_of, tokens_of, end_token, AreTokens}
use Rattle.scald_lex.proofs.Pieces.{advances}
use Rattle.scald_lex.proofs.Cuts.{ends_within}
use Rattle.drawing_tree.specs.Tree.{Drawing}
use Rattle.drawing_tree.specs.Canonical.{canonical}
use Rattle.drawing_grammar.proofs.Cutting.{Bare, Cuts, bare_of, bares, Lexes, Closes}
use Rattle.drawing_grammar.proofs.CanonicalTokens.{drawing_tokens, end_of_text}
use Rattle.drawing_grammar.proofs.SpelledDrawing.{canonical_closes}
use Rattle.drawing_grammar.proofs.Drawable.{IsDrawnDrawing}

-- a token of a text, without its place
abbrev pub bare_at : List ℕ → Token → Bare
bare_at text t = record { kind = t.kind; text = slice_range text t.start t.end }

-- ---- from the front on, and by numbers of bytes

begins_some : (b : ℕ) (xs : List ℕ) → begins_with b xs ≡ true → 0 < length xs
begins_some b [] h = absurd cc
begins_some b (x ∷ xs) h = omega arith

-- Each piece ends in the text.
ends : (text : List ℕ) (from : ℕ) (p : Piece) → piece_at (drop from text) ≡ Some p → from + size p ≤ length text
ends text from Space h = ends_within text from 1 (advances (drop from text) Space h)
ends text from LineEnd h = let k = begins_some line_end (drop from text) (advances (drop from text) LineEnd h) in omega (arith, length-drop from text)
ends text from (Comment count) h = ends_within text from count (advances (drop from text) (Comment count) h)
ends text from (Lexeme kind count) h = ends_within text from count (advances (drop from text) (Lexeme kind count) h)

cut_from : (text : List ℕ) (from : ℕ) (ps : List Piece) → from ≤ length text → Cuts (drop from text) ps [] → IsCut text from ps (length text)
cut_from text from [] h c = omega (arith, length-drop from text, ap length c)
cut_from text from (p ∷ ps) h c = (c.0, cut_from text (from + size p) ps (ends text from p c.0) (subst (λ (s : List ℕ). Cuts s ps []) (drop-drop (size p) from text) c.1))

token_bare : (text : List ℕ) (at : ℕ) (p : Piece) → map (bare_at text) (token_of text at p) ≡ bare_of (drop at text) p
token_bare text at Space = refl
token_bare text at LineEnd = refl
token_bare text at (Comment count) = refl
token_bare text at (Lexeme kind count) = let e : at + count - at ≡ count = omega arith in ap (λ (n : ℕ). (let b : Bare = record { kind = kind; text = take n (drop at text) } in b) ∷ []) e

tokens_bare : (text : List ℕ) (from : ℕ) (ps : List Piece) → map (bare_at text) (tokens_of text from ps) ≡ bares (drop from text) ps
tokens_bare text from [] = refl
tokens_bare text from (p ∷ ps) =
    map-append (bare_at text) (token_of text from p) (tokens_of text (from + size p) ps)
    ∙ (ap (λ (t : List Bare). t ++ map (bare_at text) (tokens_of text (from + size p) ps)) (token_bare text from p)
    ∙ ap (λ (t : List Bare). bare_of (drop from text) p ++ t) (tokens_bare text (from + size p) ps ∙ ap (λ (s : List ℕ). bares s ps) (sym (drop-drop (size p) from text))))

end_bare : (text : List ℕ) → map (bare_at text) (end_token text ∷ []) ≡ end_of_text
end_bare text = let e : length text - length text ≡ 0 = omega arith in ap (λ (n : ℕ). (let b : Bare = record { kind = (end_token text).kind; text = take n (drop (length text) text) } in b) ∷ []) e

-- ---- the tokens of a closed text

-- The text has tokens, and these are they.
pub record HasBare (text : List ℕ) (ts : List Bare) : Type 0 where
  pub tokens : List Token
  pub are : AreTokens text tokens
  pub bare : map (bare_at text) tokens ≡ ts

tokenised : (text : List ℕ) (ts : List Bare) → list_all is_allowed text ≡ true → Lexes text ts [] → HasBare text (ts ++ end_of_text)
tokenised text ts allowed lexes = record {
  tokens = tokens_of text 0 lexes.pieces ++ end_token text ∷ [];
  are = record {
    allowed = λ k h. AllPass-from_list_all is_allowed text allowed k 0 h;
    pieces = lexes.pieces;
    whole = cut_from text 0 lexes.pieces (omega arith) lexes.cut;
    are = refl;
  };
  bare =
      map-append (bare_at text) (tokens_of text 0 lexes.pieces) (end_token text ∷ [])
      ∙ (ap (λ (t : List Bare). t ++ map (bare_at text) (end_token text ∷ [])) (tokens_bare text 0 lexes.pieces ∙ lexes.are)
      ∙ ap (λ (t : List Bare). ts ++ t) (end_bare text));
}

pub closed_has : (text : List ℕ) (ts : List Bare) → Closes text ts → HasBare text (ts ++ end_of_text)
closed_has text ts is = tokenised text ts is.allowed (subst (λ (s : List ℕ). Lexes s ts []) (append-nil text) (is.lexes []))

-- The tokens of a canonical text are those of its parts, and the end.
pub canonical_has : (d : Drawing) → IsDrawnDrawing d → HasBare (canonical d) (drawing_tokens d ++ end_of_text)
canonical_has d is = closed_has (canonical d) (drawing_tokens d) (canonical_closes d is)
