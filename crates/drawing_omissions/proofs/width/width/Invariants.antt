use Rattle.std.proofs.Common.{◌≡◌, ◌+◌, drop, map}
use Rattle.std.specs.List.{sum_by}
use Rattle.drawing_tree.specs.Tree.{Term, term_of}
use Rattle.drawing_omissions.specs.Walk.{seen}
use Rattle.drawing_omissions.specs.Widths.{item_width}
use Rattle.drawing_omissions.proofs.width.width.Given as goal

abbrev pub invariant-loop-term : goal.invariant-loop-term
invariant-loop-term l =
    l.bits + sum_by (λ (t : Term). item_width (seen l.scope) t.item) (map term_of (drop l.term-index l.term-items))
    ≡ sum_by (λ (t : Term). item_width (seen l.scope) t.item) (map term_of l.connection.terms)
