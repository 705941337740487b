use Rattle.std.proofs.Common.{map, drop}
use Rattle.drawing_tree.specs.Tree.{connection_of}
use Rattle.macro_expander.specs.Terms.{joined, all_joined}
use Rattle.macro_expander.specs.Numbered.{GatheredJoined, scope_of, names_in, state_of}
use Rattle.macro_expander.proofs.connection.all_joined.Given as goal

abbrev pub invariant-loop-connection : goal.invariant-loop-connection
invariant-loop-connection l =
    let scope = scope_of (names_in l.fn.expansion) l.scope in
    GatheredJoined (joined scope l.place) l.fn.expansion (all_joined scope l.place (map connection_of l.connections) (state_of l.fn.expansion))
    (map connection_of (drop l.connection-index l.connections)) l.all l.expansion
