-- Each text draws one drawing, or is refused in one way, at one of its places.
use Rattle.std.proofs.Common.{ℕ, List, ◌⊎◌, inl, inr, subst}
use Rattle.std.specs.List.{AllByRecursion}
use Rattle.scald_base.specs.declared.refusal.Refusal.{Refusal}
use Rattle.scald_lex.specs.declared.token.Token.{Token}
use Rattle.scald_lex.specs.Place.{IsPlaceOf}
use Rattle.scald_lex.specs.Tokens.{AreTokens}
use Rattle.scald_lex.specs.Laws.{HasTokens, HasRefusal}
use Rattle.scald_lex.proofs.Placed as lex
use Rattle.scald_lex.proofs.Unique.{one_list, not_both as no_tokens_refused, one_refusal as one_token_refusal}
use Rattle.scald_lex.proofs.Whole.{tokens_or_refusal}
use Rattle.drawing_tree.specs.Tree.{Drawing}
use Rattle.drawing_tree.proofs.Every.{every_map}
use Rattle.drawing_grammar.specs.Lexeme.{Lexeme, lexeme_of, lexemes}
use Rattle.drawing_grammar.specs.Drawing.{Draws, IsWrong}
use Rattle.drawing_grammar.specs.CanonicalDraws.{TextDraws}
use Rattle.drawing_grammar.specs.Refused.{IsRefusal, no_tokens, no_drawing}
use Rattle.drawing_grammar.specs.TextLaws.{DrawnOrRefused, OneDrawing, OneRefusal, NotBoth, RefusedAtBytes, DrawnAtBytes}
use Rattle.drawing_grammar.proofs.Decided.{drawn_or_refused as tokens_decided}
use Rattle.drawing_grammar.proofs.PlacedDrawings.{wrong_at, drawn_at}
use Rattle.drawing_grammar.proofs.Unique.{one_drawing as one_by_tokens, draws_is_not_wrong, one_wrong}

-- ---- one of both

abbrev Decided : List ℕ → Type 0
Decided text = ((d : Drawing) × TextDraws text d) ⊎ ((r : Refusal) × IsRefusal text r)

by_tokens : (text : List ℕ) (tokens : List Token) → AreTokens text tokens →
    ((d : Drawing) × Draws (lexemes text tokens) d) ⊎ ((r : Refusal)
    × IsWrong (lexemes text tokens) r) → Decided text
by_tokens text tokens are (inl (d, draws)) = inl (
  d,
  record {
    tokens = tokens;
    are = are;
    draws =
        draws;
  },
)
by_tokens text tokens are (inr (r, wrong)) = inr (r, no_drawing tokens are wrong)

by_text : (text : List ℕ) → HasTokens text ⊎ HasRefusal text → Decided text
by_text text (inl has) = by_tokens text has.tokens has.are (tokens_decided text has.tokens has.are)
by_text text (inr has) = inr (has.refusal, no_tokens has.refused)

pub drawn_or_refused : DrawnOrRefused
drawn_or_refused text = by_text text (tokens_or_refusal text)

-- ---- not both, and not two of either

-- what one list of a text's tokens draws or is refused for, the other is
draws_by : (text : List ℕ) (a b : List Token) (d : Drawing) → AreTokens text a → AreTokens text b →
    Draws (lexemes text a) d → Draws (lexemes text b) d
draws_by text a b d is is' draws = let F : List Token → Type 0 = λ ts. Draws (lexemes text ts) d in
    subst F (one_list text a b is is') draws

wrong_by : (text : List ℕ) (a b : List Token) (r : Refusal) → AreTokens text a → AreTokens text b →
    IsWrong (lexemes text a) r → IsWrong (lexemes text b) r
wrong_by text a b r is is' wrong = let F : List Token → Type 0 =
    λ ts. IsWrong (lexemes text ts) r in subst F (one_list text a b is is') wrong

pub one_drawing : OneDrawing
one_drawing text d e a b = one_by_tokens (lexemes text b.tokens) d e
    (draws_by text a.tokens b.tokens d a.are b.are a.draws) b.draws

pub not_both : NotBoth
not_both text r d (no_tokens refused) a = no_tokens_refused text a.tokens r a.are refused
not_both text r d (no_drawing tokens are wrong) a = draws_is_not_wrong (lexemes text a.tokens) d r
    a.draws (wrong_by text tokens a.tokens r are a.are wrong)

pub one_refusal : OneRefusal
one_refusal text r s (no_tokens a) (no_tokens b) = one_token_refusal text r s a b
one_refusal text r s (no_tokens a) (no_drawing tokens are wrong) =
    absurd (no_tokens_refused text tokens r are a)
one_refusal text r s (no_drawing tokens are wrong) (no_tokens b) =
    absurd (no_tokens_refused text tokens s are b)
one_refusal text r s (no_drawing tokens are wrong) (no_drawing others are' wrong') =
    one_wrong (lexemes text others) r s (wrong_by text tokens others r are are' wrong) wrong'

-- ---- places

tokens_at : (text : List ℕ) (tokens : List Token) → AreTokens text tokens →
    AllByRecursion (λ (t : Lexeme). IsPlaceOf text t.place) (lexemes text tokens)
tokens_at text tokens are = every_map (λ (t : Lexeme). IsPlaceOf text t.place) (lexeme_of text)
    tokens (lex.tokens_placed text tokens are)

-- Tokens of a text are refused at a place of the text.
pub wrong_at_bytes : (text : List ℕ) (tokens : List Token) (r : Refusal) → AreTokens text tokens →
    IsWrong (lexemes text tokens) r → IsPlaceOf text r.place
wrong_at_bytes text tokens r are wrong = wrong_at (IsPlaceOf text) (lexemes text tokens) r
    (tokens_at text tokens are) wrong

pub refused_at_bytes : RefusedAtBytes
refused_at_bytes text r (no_tokens refused) = lex.refusals_are_placed text r refused
refused_at_bytes text r (no_drawing tokens are wrong) = wrong_at_bytes text tokens r are wrong

pub drawn_at_bytes : DrawnAtBytes
drawn_at_bytes text d drawn = drawn_at (IsPlaceOf text) (lexemes text drawn.tokens) d
    (tokens_at text drawn.tokens drawn.are) drawn.draws
