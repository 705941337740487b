use Rattle.std.proofs.Common.{◌≡◌, drop}
use Rattle.drawing_tree.specs.Value.{value_in}
use Rattle.drawing_tree.proofs.evaluation.value_of.Given as goal

abbrev pub invariant-loop-binding : goal.invariant-loop-binding
invariant-loop-binding l = value_in l.env l.name ≡ value_in (drop l.binding-index l.env) l.name
