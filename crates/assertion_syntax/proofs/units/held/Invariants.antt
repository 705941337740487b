use Rattle.std.proofs.Common.{◌≡◌, length}
use Rattle.assertion_syntax.specs.Units.{AreHeld}
use Rattle.assertion_syntax.proofs.Covered.{IsLatest}
use Rattle.assertion_syntax.proofs.units.held.Given as goal

abbrev pub invariant-units : goal.invariant-units
invariant-units l = record {
  size : length l.held ≡ 4096;
  latest : IsLatest l.ends l.unit l.latest;
  are : AreHeld l.unit l.held l.spans;
}
