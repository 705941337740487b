-- Names that are good, some after others.
use Rattle.std.proofs.Common.{List, [], ◌∷◌, ◌++◌}
use Rattle.scald_base.specs.Time.{Header}
use Rattle.drawing_grammar.specs.Names.{Naming, AreGood}

pub good_both : (h : Header) (ns ms : List Naming) → AreGood h ns → AreGood h ms → AreGood h (ns ++ ms)
good_both h [] ms first second = second
good_both h (n ∷ ns) ms first second = (first.0, good_both h ns ms first.1 second)
