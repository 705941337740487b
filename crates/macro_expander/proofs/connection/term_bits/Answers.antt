use Rattle.drawing_tree.specs.Tree.{term_of}
use Rattle.macro_expander.specs.Numbered.{scope_of, names_in}
use Rattle.macro_expander.proofs.Gathered.{turned_term}
use Rattle.macro_expander.proofs.connection.term_bits.Goals as goal

pub returns : goal.returns
returns c = turned_term c.args.expansion.now c.item_bits.new.expansion (scope_of (names_in c.args.expansion.now) c.args.scope.now)
    c.args.place (term_of c.args.term.now) c.in_ok-bits.bits c.turned.result c.turned.ensures c.in_ok-bits.ensures
