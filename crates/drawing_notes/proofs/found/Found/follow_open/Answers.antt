use Rattle.std.proofs.Common.{◌+◌, ◌-◌, ◌<◌, length, refl, sym, arith}
use Rattle.std.proofs.lemmas.Option.{slice_get_within}
use Rattle.fixpoint_engine.specs.Settled.{marked_in}
use Rattle.fixpoint_engine.specs.Waves.{waves_of}
use Rattle.fixpoint_engine.proofs.Waiting.{waiting_few}
use Rattle.drawing_notes.specs.Paths.{leads_in}
use Rattle.drawing_notes.proofs.Closing.{closing_start, closing_more, closing_end, found_below}
use Rattle.drawing_notes.proofs.found.Found.follow_open.Goals as goal

pub nets-init : goal.nets-init
nets-init g c = closing_start (leads_in c.args.view.now.circuit.now (waves_of c.args.view.now.waves.now)) (marked_in c.args.view.now.within.now) (marked_in c.args.self.now.marks) (length c.args.view.now.circuit.now.nets) c.args.self.now c.requires.each_net refl

pub add_open-requires-clause-exists : goal.add_open-requires-clause-exists
add_open-requires-clause-exists g c =
    found_below (length c.args.view.now.circuit.now.nets) c.nets.self c.nets.next c.in-Some.net c.in-Some.ensures.once c.nets.invariant.each_net (sym c.in-Some.ensures.is)

pub overflow_add-next : goal.overflow_add-next
overflow_add-next g c =
    let below = slice_get_within c.nets.self.nets c.nets.next c.in-Some.net (sym c.in-Some.ensures.is) in
    let few = waiting_few c.nets.self c.in-Some.ensures.once in
    let each = c.nets.invariant.each_net in
    let nets = c.known.ensures.few_nets in
    omega (arith, below, few, each, nets)

pub nets-smaller : goal.nets-smaller
nets-smaller g c =
    let below = slice_get_within c.nets.self.nets c.nets.next c.in-Some.net (sym c.in-Some.ensures.is) in
    let few = waiting_few c.nets.self c.in-Some.ensures.once in
    let each = c.nets.invariant.each_net in
    let less : length c.args.view.now.circuit.now.nets - (c.nets.next + 1) < length c.args.view.now.circuit.now.nets - c.nets.next = omega (arith, below, few, each) in
    less

pub nets-preserved : goal.nets-preserved
nets-preserved g c =
    closing_more (leads_in c.args.view.now.circuit.now (waves_of c.args.view.now.waves.now)) (marked_in c.args.view.now.within.now) (marked_in c.args.self.now.marks) (length c.args.view.now.circuit.now.nets)
    c.nets.self c.add_open.new.self c.nets.next c.in-Some.net c.in-Some.ensures.once (sym c.in-Some.ensures.is) c.nets.invariant c.in_ok-add_open.ensures

pub returns-clause-is : goal.returns-clause-is
returns-clause-is g c =
    closing_end (leads_in c.args.view.now.circuit.now (waves_of c.args.view.now.waves.now)) (marked_in c.args.view.now.within.now) (marked_in c.args.self.now.marks) (length c.args.view.now.circuit.now.nets)
    c.nets.self c.nets.next c.in_default.ensures.once (sym c.in_default.ensures.is) c.nets.invariant
