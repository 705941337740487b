-- The answer to the tokens of a text is the one drawing that they draw, or their one refusal.
use Rattle.std.proofs.Common.{ℕ, List, Result, Ok, Err, refl, ap, inl, inr}
use Rattle.std.specs.Prelude.{IfOk, IfErr}
use Rattle.scald_base.specs.declared.refusal.Refusal.{Refusal}
use Rattle.scald_base.specs.declared.refusal.Stop.{Stop}
use Rattle.scald_base.specs.declared.refusal.Stop.TheVariants.{Refused, NoMemory}
use Rattle.scald_lex.specs.declared.token.Token.{Token}
use Rattle.scald_lex.specs.Place.{IsPlacedStop}
use Rattle.scald_lex.specs.Tokens.{AreTokens}
use Rattle.drawing_tree.specs.declared.drawing.Drawing as code
use Rattle.drawing_tree.specs.Canonical.{canonical}
use Rattle.drawing_tree.specs.Tree.{Drawing, drawing_of}
use Rattle.drawing_tree.specs.WellFormed.{IsWellFormed}
use Rattle.drawing_grammar.specs.CanonicalDraws.{IsShallowDrawing, DrawsAgain}
use Rattle.drawing_grammar.specs.Drawing.{Draws, IsWrong, IsWrongStop}
use Rattle.drawing_grammar.specs.Lexeme.{lexemes}
use Rattle.drawing_grammar.proofs.Again.{law}
use Rattle.drawing_grammar.proofs.Different.{well_formed}
use Rattle.drawing_grammar.proofs.PlacedDrawings.{wrong_at_tokens}
use Rattle.drawing_grammar.proofs.TextLaws.{wrong_at_bytes}
use Rattle.drawing_grammar.proofs.Unique.{one_drawing, draws_is_not_wrong, one_wrong}
use Rattle.drawing_reader.specs.Sketched.{GivesDrawing, GivesRefusal, IsStopAt}

abbrev IsDrawn : List ℕ → List Token → Result code.Drawing Stop → Type 0
IsDrawn text tokens result = IfOk result (λ d. Draws (lexemes text tokens) (drawing_of d))

abbrev IsWrongly : List ℕ → List Token → Result code.Drawing Stop → Type 0
IsWrongly text tokens result = IfErr result (λ stop. IsWrongStop (lexemes text tokens) stop)

-- ---- what the drawing is

pub formed : (text : List ℕ) (tokens : List Token) (result : Result code.Drawing Stop) →
    AreTokens text tokens → IsDrawn text tokens result →
    IfOk result (λ d. IsWellFormed (drawing_of d))
formed text tokens (Ok d) are draws = well_formed text tokens (drawing_of d) are draws
formed text tokens (Err stop) are draws = tt

pub again : (text : List ℕ) (tokens : List Token) (result : Result code.Drawing Stop) →
    AreTokens text tokens → IsDrawn text tokens result →
    IfOk result (λ d. IsShallowDrawing (drawing_of d) → DrawsAgain (canonical (drawing_of d))
    (drawing_of d))
again text tokens (Ok d) are draws = λ shallow. law text (drawing_of d)
    (record { tokens = tokens; are = are; draws = draws }) shallow
again text tokens (Err stop) are draws = tt

-- ---- where the refusal stands

pub at_token : (text : List ℕ) (tokens : List Token) (result : Result code.Drawing Stop) →
    IsWrongly text tokens result → IfErr result (λ stop. IsStopAt (lexemes text tokens) stop)
at_token text tokens (Ok d) wrong = tt
at_token text tokens (Err (Refused r)) wrong = wrong_at_tokens (lexemes text tokens) r wrong
at_token text tokens (Err NoMemory) wrong = tt

pub placed : (text : List ℕ) (tokens : List Token) (result : Result code.Drawing Stop) →
    AreTokens text tokens → IsWrongly text tokens result →
    IfErr result (λ stop. IsPlacedStop text stop)
placed text tokens (Ok d) are wrong = tt
placed text tokens (Err (Refused r)) are wrong = wrong_at_bytes text tokens r are wrong
placed text tokens (Err NoMemory) are wrong = tt

-- ---- and there is no other answer

pub only_drawing : (text : List ℕ) (tokens : List Token) (result : Result code.Drawing Stop) →
    IsDrawn text tokens result → IsWrongly text tokens result → (d : Drawing) →
    Draws (lexemes text tokens) d → GivesDrawing d result
only_drawing text tokens (Ok found) is wrong d draws = one_drawing (lexemes text tokens)
    (drawing_of found) d is draws
only_drawing text tokens (Err (Refused r)) is wrong d draws =
    absurd (draws_is_not_wrong (lexemes text tokens) d r draws wrong)
only_drawing text tokens (Err NoMemory) is wrong d draws = refl

pub only_refusal : (text : List ℕ) (tokens : List Token) (result : Result code.Drawing Stop) →
    IsDrawn text tokens result → IsWrongly text tokens result → (r : Refusal) →
    IsWrong (lexemes text tokens) r → GivesRefusal r result
only_refusal text tokens (Ok found) is wrong r refused =
    draws_is_not_wrong (lexemes text tokens) (drawing_of found) r is refused
only_refusal text tokens (Err (Refused s)) is wrong r refused =
    inl (ap (λ (x : Refusal). Refused x) (one_wrong (lexemes text tokens) s r wrong refused))
only_refusal text tokens (Err NoMemory) is wrong r refused = inr refl
