use Rattle.std.proofs.Common.{map, drop}
use Rattle.drawing_tree.specs.Tree.{term_of}
use Rattle.macro_expander.specs.Terms.{term_bits, terms_bits}
use Rattle.macro_expander.specs.Numbered.{GatheredFront, scope_of, names_in, state_of}
use Rattle.macro_expander.proofs.connection.terms_bits.Given as goal

abbrev pub invariant-loop-term : goal.invariant-loop-term
invariant-loop-term l =
    let scope = scope_of (names_in l.fn.expansion) l.scope in
    GatheredFront (term_bits scope l.place) l.fn.expansion (terms_bits scope l.place (map term_of l.terms) (state_of l.fn.expansion)) (map term_of (drop l.term-index l.terms)) l.bits l.expansion
