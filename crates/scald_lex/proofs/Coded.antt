-- The kinds of tokens as numbers.
use Rattle.std.proofs.Common.{ℕ, List, pos, negsuc}
use Rattle.scald_lex.specs.declared.token.TokenKind.{TokenKind}
use Rattle.scald_lex.specs.declared.token.TokenKind.TheVariants.{Word, Number, Name, Arrow, Symbol, End}
use Rattle.scald_lex.specs.Laws.{Spells}
use Rattle.scald_lex.specs.Packed.{HasCode}

-- A number that stands in a text is not negative.
pub has_code : (kind : TokenKind) (text : List ℕ) → Spells kind text → HasCode kind
has_code Word text is = tt
has_code (Number (pos n)) text is = tt
has_code (Number (negsuc n)) text is = let e = is.1 in absurd cc
has_code Name text is = tt
has_code Arrow text is = tt
has_code (Symbol b) text is = tt
has_code End text is = tt
