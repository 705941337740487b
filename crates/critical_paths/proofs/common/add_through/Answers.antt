use Rattle.std.proofs.Common.{sym}
use Rattle.critical_paths.specs.Walk.{event_at}
use Rattle.critical_paths.proofs.Counting.{through_is}
use Rattle.critical_paths.proofs.common.add_through.Goals as goal

pub returns : goal.returns
returns c =
    through_is c.args.c.now (event_at c.args.stop) c.args.pin c.args.out.now c.add_delay.new.out
    c.add_wire.new.out c.in-Some.number
    c.in-Some-instance.element.now c.turned-own.result c.known.ensures (sym c.in-Some.ensures)
    (sym c.in-Some-instance.ensures)
    c.turned-own.ensures c.in_ok-add_delay.ensures c.in_ok-add_wire.ensures
