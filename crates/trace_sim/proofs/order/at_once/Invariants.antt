use Rattle.std.proofs.Common.{◌≡◌, ◌++◌, drop}
use Rattle.trace_sim.specs.Order.{at_once_list}
use Rattle.trace_sim.proofs.order.at_once.Given as goal

abbrev pub invariant-loop-pin : goal.invariant-loop-pin
invariant-loop-pin l = l.list.items ++ at_once_list l.c.nets (drop l.pin-index l.pins) ≡ at_once_list l.c.nets l.pins
