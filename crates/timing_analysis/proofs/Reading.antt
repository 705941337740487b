-- What each step of the way from a text to its circuit gives, or is refused for.
use Rattle.std.proofs.Common.{◌≡◌, ℕ, List, Result, subst}
use Rattle.std.specs.List.{All}
use Rattle.std.proofs.lemmas.List.Elements.{All-weaker}
use Rattle.scald_base.specs.declared.refusal.Refusal.{Refusal}
use Rattle.scald_base.specs.declared.refusal.Stop.{Stop}
use Rattle.scald_base.specs.declared.refusal.Stop.TheVariants.{Refused, NoMemory}
use Rattle.scald_lex.specs.declared.token.Token.{Token}
use Rattle.scald_lex.specs.Tokens.{AreTokens, IsRefused as AreRefused}
use Rattle.scald_lex.specs.Scan.{IsStop as AreStopped}
use Rattle.drawing_tree.specs.Tree.{Drawing}
use Rattle.drawing_grammar.specs.Lexeme.{lexemes}
use Rattle.drawing_grammar.specs.Drawing.{IsWrong, IsWrongStop}
use Rattle.drawing_grammar.specs.CanonicalDraws.{TextDraws}
use Rattle.drawing_grammar.specs.Refused.{IsRefusal, no_tokens, no_drawing}
use Rattle.flat_circuit.specs.declared.case.CaseValue.{CaseValue}
use Rattle.flat_circuit.specs.Circuit.{Circuit}
use Rattle.macro_expander.specs.Named.{State}
use Rattle.macro_expander.specs.Cases.{CaseBit, cases_of, listed_cases}
use Rattle.macro_expander.specs.Stands.{IsStopOf}
use Rattle.case_analysis.specs.Case.{NetsExist}
use Rattle.case_analysis.specs.Listed.{AreCasesStop, IsListed}
use Rattle.timing_analysis.specs.Drawn.{Draws, IsTextRefused, undrawn, unexpanded, wrong_cases}

-- ---- a drawing

pub token_refusal : (text : List ℕ) (stop : Stop) (r : Refusal) →
    AreStopped text stop → stop ≡ Refused r → IsRefusal text r
token_refusal text (Refused s) r is e =
    let same : s ≡ r = cc in
    let F : Refusal → Type 0 = λ x. AreRefused text x in
    no_tokens (subst F same is)
token_refusal text NoMemory r is e = cc

pub drawing_refusal : (text : List ℕ) (tokens : List Token) (stop : Stop) (r : Refusal) →
    AreTokens text tokens → IsWrongStop (lexemes text tokens) stop → stop ≡ Refused r →
    IsRefusal text r
drawing_refusal text tokens (Refused s) r are is e =
    let same : s ≡ r = cc in
    let F : Refusal → Type 0 = λ x. IsWrong (lexemes text tokens) x in
    no_drawing tokens are (subst F same is)
drawing_refusal text tokens NoMemory r are is e = cc

-- ---- its circuit

pub text_refusal : (text : List ℕ) (stop : Stop) (r : Refusal) →
    ((q : Refusal) → stop ≡ Refused q → IsRefusal text q) → stop ≡ Refused r → IsTextRefused text r
text_refusal text stop r refuses e = undrawn (refuses r e)

pub expansion_refusal : (text : List ℕ) (d : Drawing) (stop : Stop) (r : Refusal) →
    TextDraws text d → IsStopOf d stop → stop ≡ Refused r → IsTextRefused text r
expansion_refusal text d stop r draws is e = unexpanded d draws (subst (IsStopOf d) e is)

pub cases_are : (s : State) (d : Drawing) (r : Result (List (List CaseBit)) Refusal) →
    listed_cases s d.cases ≡ r → cases_of s d ≡ r
unfolding cases_of
cases_are s d r is = is

pub cases_refusal : (text : List ℕ) (d : Drawing) (c : Circuit) (draws : Draws text d c)
    (stop : Stop) (r : Refusal) → AreCasesStop c d.cases stop → stop ≡ Refused r → IsTextRefused text r
cases_refusal text d c draws stop r is e =
    let refuses : AreCasesStop c d.cases (Refused r) = subst (AreCasesStop c d.cases) e is in
    wrong_cases d c draws (cases_are draws.circuit.state d _ (refuses draws.circuit.state draws.circuit.stands))

-- the nets of the cases that are listed exist
pub listed_exist : (c : Circuit) (cases : List (List CaseValue)) → All (IsListed c) cases →
    All (NetsExist c) cases
listed_exist c cases listed =
    All-weaker (IsListed c) (NetsExist c) (λ values is. is.exist) cases listed
