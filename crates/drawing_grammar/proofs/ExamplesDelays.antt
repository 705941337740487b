-- What the brackets of a use stand for, with one delay and with two, and the token at which others are
-- refused.
use Rattle.std.proofs.Common.{◌≡◌, ℕ, suc, List, [], ◌∷◌, ◌++◌, Option, Some, None, refl}
use Rattle.std.specs.Prelude.{codes}
use Rattle.scald_base.specs.declared.refusal.RefusalKind.TheVariants.{Syntax}
use Rattle.drawing_tree.specs.declared.expr.Op.TheVariants.{Add}
use Rattle.drawing_tree.specs.Expression.{Expression, Param, Binary}
use Rattle.drawing_grammar.specs.Lexeme.{Lexeme, word_terminal, symbol_terminal}
use Rattle.drawing_grammar.specs.Grammar.{Need, part, Delay}
use Rattle.drawing_grammar.specs.Machine.{Verdict, Complete, Refused, refusal, verdict}
use Rattle.drawing_grammar.proofs.Cutting.{Bare}
use Rattle.drawing_grammar.proofs.CanonicalTokens.{comma, open_bracket, close_bracket, condition_tokens, sum_tokens, bounds_tokens, fall_tokens, delay_tokens}

abbrev a : Expression
a = Param (codes "A")

abbrev sum : Expression
sum = Binary Add a (Param (codes "B"))

-- tokens on line 1, one in each column from this one on
abbrev columns : ℕ → List Bare → List Lexeme
columns n [] = []
columns n (b ∷ bs) = (record { kind = b.kind; text = b.text; place = record { line = 1; col = n } }) ∷
    columns (suc n) bs

abbrev needs : List Need
needs = part Delay 0 ∷ []

abbrev read : List Bare → Verdict needs
read bs = verdict (columns 1 bs) needs 0

abbrev both : Option (Expression × Expression) → Option (Expression × Expression) → Verdict needs
both delay fall = Complete (record { delay = delay; fall = fall }, tt)

abbrev syntax_at : ℕ → Verdict needs
syntax_at n = Refused (refusal Syntax (record { line = 1; col = n }))

-- ---- what stands for delays

nothing : read [] ≡ both None None
unfolding verdict
nothing = refl

-- [A:A + B]
one_delay : read (delay_tokens (Some (a, sum)) None) ≡ both (Some (a, sum)) None
unfolding condition_tokens verdict word_terminal symbol_terminal
one_delay = refl

-- [A:A + B, A + B:A]
two_delays : read (delay_tokens (Some (a, sum)) (Some (sum, a)))
    ≡ both (Some (a, sum)) (Some (sum, a))
unfolding condition_tokens verdict word_terminal symbol_terminal
two_delays = refl

-- ---- what is refused

-- [A:A,]
comma_alone : read (open_bracket ++ bounds_tokens a a ++ comma ++ close_bracket) ≡ syntax_at 6
unfolding condition_tokens verdict word_terminal symbol_terminal
comma_alone = refl

-- [A:A, A]
one_bound_of_a_fall : read (open_bracket ++ bounds_tokens a a ++ comma ++ sum_tokens a
    ++ close_bracket) ≡ syntax_at 7
unfolding condition_tokens verdict word_terminal symbol_terminal
one_bound_of_a_fall = refl

-- [A:A, A:A, A:A]
three_delays : read (open_bracket ++ bounds_tokens a a ++ fall_tokens (Some (a, a))
    ++ fall_tokens (Some (a, a)) ++ close_bracket) ≡ syntax_at 9
unfolding condition_tokens verdict word_terminal symbol_terminal
three_delays = refl

-- [, A:A]
fall_alone : read (open_bracket ++ fall_tokens (Some (a, a)) ++ close_bracket) ≡ syntax_at 2
unfolding condition_tokens verdict word_terminal symbol_terminal
fall_alone = refl
