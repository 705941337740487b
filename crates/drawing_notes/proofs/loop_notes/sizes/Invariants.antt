use Rattle.std.proofs.Common.{◌≡◌, length}
use Rattle.drawing_notes.specs.Parts.{AreSizes}
use Rattle.drawing_notes.proofs.loop_notes.sizes.Given as goal

abbrev pub invariant-loop-net : goal.invariant-loop-net
invariant-loop-net l = record {
  long : length l.sizes.items ≡ length l.parts;
  are : AreSizes l.net l.parts l.sizes.items;
}
