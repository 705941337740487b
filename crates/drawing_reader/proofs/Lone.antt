-- A number that is all of a sum.
use Rattle.std.proofs.Common.{◌≡◌, ◌≢◌, List, ◌∷◌, None, refl, sym, subst, ◌∙◌}
use Rattle.scald_lex.specs.declared.token.Token as lex
use Rattle.drawing_tree.specs.Expression.{Number}
use Rattle.drawing_grammar.specs.declared.terminal.Terminal.TheVariants as is
use Rattle.drawing_reader.specs.declared.cursor.Cursor.{Cursor}
use Rattle.drawing_grammar.specs.Lexeme.{Lexeme, kind_number}
use Rattle.drawing_grammar.specs.Grammar.{Need, part, group, number, Factors, Terms, Sum}
use Rattle.drawing_grammar.specs.Machine.{choice, Moves}
use Rattle.drawing_reader.specs.Reader.{tokens_at, ahead, at}
use Rattle.drawing_grammar.specs.Front.{first_terminal, behind_first}
use Rattle.drawing_grammar.proofs.Moves.{moves}
use Rattle.drawing_reader.proofs.Cursors.{always, plainly, left_out}

pub lone : (old new : Cursor) (t : lex.Token) → first_terminal (tokens_at old) ≡ is.Number →
    (first_terminal (tokens_at old) ≢ is.EndOfText → tokens_at old ≡ at old t ∷ tokens_at new) → new.operators ≡ old.operators →
    choice Factors (first_terminal (tokens_at new)) ≡ None → choice Terms (first_terminal (tokens_at new)) ≡ None →
    (rest : List Need) → Moves (ahead old (group Sum 0 ∷ rest)) (ahead new rest) (λ v. (Number (kind_number t.kind), v))
lone old new t e f o no_factor no_term rest =
    moves (always Sum 0 old refl rest)
    (moves (plainly number 0 old new t refl e f o (part Factors 0 ∷ part Terms 0 ∷ rest))
    (moves (left_out Factors 0 new (λ left. left) no_factor refl (part Terms 0 ∷ rest)) (left_out Terms 0 new (λ left. left) no_term refl rest)))

-- the same by what stands after the number
pub lone_behind : (old new : Cursor) (t : lex.Token) → first_terminal (tokens_at old) ≡ is.Number →
    (first_terminal (tokens_at old) ≢ is.EndOfText → tokens_at old ≡ at old t ∷ tokens_at new) → new.operators ≡ old.operators →
    choice Factors (first_terminal (behind_first (tokens_at old))) ≡ None → choice Terms (first_terminal (behind_first (tokens_at old))) ≡ None →
    (rest : List Need) → Moves (ahead old (group Sum 0 ∷ rest)) (ahead new rest) (λ v. (Number (kind_number t.kind), v))
lone_behind old new t e f o no_factor no_term rest =
    let k : tokens_at old ≡ at old t ∷ tokens_at new =
    f (λ h. let z : is.Number ≡ is.EndOfText = sym e ∙ h in absurd cc) in
    lone old new t e f o
    (subst (λ (ts : List Lexeme). choice Factors (first_terminal (behind_first ts)) ≡ None) k no_factor)
    (subst (λ (ts : List Lexeme). choice Terms (first_terminal (behind_first ts)) ≡ None) k no_term) rest
