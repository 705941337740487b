-- Statements one after another.
use Rattle.std.specs.Prelude.{List, [], ◌∷◌}
use Rattle.drawing_tree.specs.Tree.{Statement, Statements, cons}

abbrev pub followed : List Statement → Statements → Statements
followed [] more = more
followed (s ∷ ss) more = cons s (followed ss more)
