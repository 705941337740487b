use Rattle.std.proofs.Common.{take}
use Rattle.drawing_omissions.specs.Same.{AreHeld, IsOver}
use Rattle.drawing_omissions.proofs.held.Held.of.Given as goal

abbrev pub invariant-loop-value : goal.invariant-loop-value
invariant-loop-value l = record {
  over : IsOver l.nets l.held;
  are : AreHeld (take l.value-index l.values) l.held;
}
