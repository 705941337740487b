-- Why the bytes of a text draw no drawing.
use Rattle.std.specs.Prelude.{ℕ, List}
use Rattle.scald_base.specs.declared.refusal.Refusal.{Refusal}
use Rattle.scald_lex.specs.declared.token.Token.{Token}
use Rattle.scald_lex.specs.Tokens.{AreTokens, IsRefused as AreRefused}
use Rattle.drawing_grammar.specs.Lexeme.{lexemes}
use Rattle.drawing_grammar.specs.Drawing.{IsWrong}

-- The bytes give no tokens, or the tokens no drawing.
pub data IsRefusal (text : List ℕ) (r : Refusal) : Type 0 where
  no_tokens : AreRefused text r → IsRefusal text r
  no_drawing : (tokens : List Token) → AreTokens text tokens → IsWrong (lexemes text tokens) r →
      IsRefusal text r
