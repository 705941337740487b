-- Tokens and refusals have places of the text.
use Rattle.std.proofs.Common.{ℕ, ◌+◌, List, [], ◌∷◌, ◌++◌, length, Result, Ok, Err, refl, ap, sym, subst, arith}
use Rattle.std.specs.Prelude.{IfErr}
use Rattle.std.specs.List.{AllByRecursion}
use Rattle.std.proofs.lemmas.List.Elements.{All-from_recursion}
use Rattle.scald_base.specs.declared.refusal.Refusal.{Refusal}
use Rattle.scald_base.specs.declared.refusal.Stop.{Stop}
use Rattle.scald_base.specs.declared.refusal.Stop.TheVariants.{Refused, NoMemory}
use Rattle.scald_lex.specs.declared.piece.Piece.{Piece}
use Rattle.scald_lex.specs.declared.piece.Piece.TheVariants.{Space, LineEnd, Comment, Lexeme}
use Rattle.scald_lex.specs.declared.token.Token.{Token}
use Rattle.scald_lex.specs.Place.{IsPlaceOf, IsPlacedStop}
use Rattle.scald_lex.specs.Tokens.{IsCut, tokens_of, end_token, AreTokens, bad_byte, bad_token}
use Rattle.scald_lex.specs.Scan.{IsStop}
use Rattle.scald_lex.specs.Laws.{RefusalsArePlaced, TokensArePlaced}
use Rattle.scald_lex.proofs.Stands.{before_end}

abbrev IsPlaced : List ℕ → Token → Type 0
IsPlaced text t = IsPlaceOf text t.place

pub refusals_are_placed : RefusalsArePlaced
refusals_are_placed text r (bad_byte at bad e) = let h = bad.within in record { at = at; within = omega arith; is = ap (λ (x : Refusal). x.place) e }
refusals_are_placed text r (bad_token at bad e) = let h = bad.within in record { at = at; within = omega arith; is = ap (λ (x : Refusal). x.place) e }

-- so where reading stops
pub stop_is_placed : {A : Type 0} (text : List ℕ) (result : Result A Stop) → IfErr result (λ stop. IsStop text stop) → IfErr result (λ stop. IsPlacedStop text stop)
stop_is_placed text (Ok found) h = tt
stop_is_placed text (Err (Refused r)) h = refusals_are_placed text r h
stop_is_placed text (Err NoMemory) h = tt

placed_from : (text : List ℕ) (at : ℕ) (ps : List Piece) → IsCut text at ps (length text) → AllByRecursion (IsPlaced text) (tokens_of text at ps ++ end_token text ∷ [])
placed_from text at [] cut = (record { at = length text; within = omega arith; is = refl }, tt)
placed_from text at (Space ∷ ps) cut = placed_from text (at + 1) ps cut.1
placed_from text at (LineEnd ∷ ps) cut = placed_from text (at + 1) ps cut.1
placed_from text at (Comment count ∷ ps) cut = placed_from text (at + count) ps cut.1
placed_from text at (Lexeme kind count ∷ ps) cut =
    let h = before_end text at (Lexeme kind count) cut.0 in
    (record { at = at; within = omega arith; is = refl }, placed_from text (at + count) ps cut.1)

-- the same, from the first token on
pub tokens_placed : (text : List ℕ) (tokens : List Token) → AreTokens text tokens → AllByRecursion (λ t. IsPlaceOf text t.place) tokens
tokens_placed text tokens are = subst (AllByRecursion (IsPlaced text)) (sym are.are) (placed_from text 0 are.pieces are.whole)

pub tokens_are_placed : TokensArePlaced
tokens_are_placed text tokens are = All-from_recursion (IsPlaced text) tokens (tokens_placed text tokens are)
