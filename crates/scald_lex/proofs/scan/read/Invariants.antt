use Rattle.std.proofs.Common.{◌-◌, length}
use Rattle.scald_lex.specs.Scan.{IsRead}
use Rattle.scald_lex.proofs.scan.read.Given as goal

abbrev pub invariant-loop-scan : goal.invariant-loop-scan
invariant-loop-scan l = IsRead l.text l.scan

abbrev pub decreases-loop-scan : goal.decreases-loop-scan
decreases-loop-scan l = length l.text - l.scan.at
