use Rattle.std.proofs.Common.{◌≡◌, length, take}
use Rattle.assertion_syntax.specs.Units.{AreEnds}
use Rattle.assertion_syntax.proofs.units.ends_of.Given as goal

abbrev pub invariant-spans : goal.invariant-spans
invariant-spans l = record {
  size : length l.ends ≡ 4096;
  are : AreEnds l.units l.ends (take l.span-index l.spans);
}
