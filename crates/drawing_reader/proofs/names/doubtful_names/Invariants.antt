use Rattle.std.proofs.Common.{false, drop, map}
use Rattle.drawing_grammar.specs.Lexeme.{lexemes}
use Rattle.drawing_grammar.specs.Names.{names_from}
use Rattle.drawing_reader.specs.Sifted.{Sifting, naming_of}
use Rattle.drawing_reader.proofs.names.doubtful_names.Given as goal

abbrev pub invariant-tokens : goal.invariant-tokens
invariant-tokens l = Sifting (map naming_of l.doubtful) (names_from false (lexemes l.text l.tokens))
    (names_from l.in_head (lexemes l.text (drop l.token-index l.tokens)))
