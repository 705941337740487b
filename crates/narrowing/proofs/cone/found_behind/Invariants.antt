use Rattle.std.proofs.Common.{◌-◌, length}
use Rattle.narrowing.proofs.Behind.{Closing}
use Rattle.narrowing.proofs.cone.found_behind.Given as goal

abbrev pub invariant-nets : goal.invariant-nets
invariant-nets l = Closing l.c l.through l.fn.nets l.found l.next

abbrev pub decreases-nets : goal.decreases-nets
decreases-nets l = length l.c.nets - l.next
