use Rattle.std.proofs.Common.{◌≡◌, drop}
use Rattle.narrowing.specs.Narrowed.{offset_in}
use Rattle.narrowing.proofs.part.offset_in.Given as goal

abbrev pub invariant-loop-part : goal.invariant-loop-part
invariant-loop-part l = offset_in l.net (drop l.part-index l.parts) ≡ offset_in l.net l.parts
