-- By which version of the language the tokens of a text are read.
use Rattle.std.specs.Prelude.{ℤ, pos, int_le, ◌&&◌, if◌then◌else◌, List, [], ◌∷◌}
use Rattle.drawing_grammar.specs.declared.edition.Edition.{Edition}
use Rattle.drawing_grammar.specs.declared.edition.Edition.TheVariants.{First, Second}
use Rattle.drawing_grammar.specs.Lexeme.{Lexeme, number_of}

-- version 2 by its own grammar, any other by that of version 1
abbrev pub edition_by : ℤ → Edition
edition_by n = if int_le (pos 2) n && int_le n (pos 2) then Second else First

-- The number after SCALD chooses the grammar, whatever follows it. Up to that number both are
-- alike, so it does not matter by which of them a text that has none is read.
abbrev pub edition_of : List Lexeme → Edition
edition_of [] = First
edition_of (t ∷ []) = First
edition_of (t ∷ u ∷ ts) = edition_by (number_of u)
