use Rattle.std.proofs.Common.{true, false, sym, ◌∙◌}
use Rattle.fixpoint_engine.specs.Waves.{marked_pin, pin_waves, waves_of}
use Rattle.gate_eval.specs.Hold.{hazard}
use Rattle.critical_paths.proofs.Pins.{held_by, is_marked}
use Rattle.critical_paths.proofs.view.View.held_pin.Goals as goal

pub returns-then-has : goal.returns-then-has
returns-then-has g c =
    let j = c.args.element.now in
    held_by (hazard j.kind (pin_waves c.args.self.now.circuit.now
    (waves_of c.args.self.now.waves.now) j) (marked_pin j)) (marked_pin j) c.in_ok-marked.marked
    true
    (is_marked c.marked_pin.ensures c.in_ok-marked.was)
    (sym c.if-has.true ∙ c.has.ensures ∙ c.requires.sees.marks c.args.number j c.requires.is)

pub returns-else-has : goal.returns-else-has
returns-else-has g c =
    let j = c.args.element.now in
    held_by (hazard j.kind (pin_waves c.args.self.now.circuit.now
    (waves_of c.args.self.now.waves.now) j) (marked_pin j)) (marked_pin j) c.in_ok-marked.marked
    false
    (is_marked c.marked_pin.ensures c.in_ok-marked.was)
    (sym c.if-has.false ∙ c.has.ensures ∙ c.requires.sees.marks c.args.number j c.requires.is)
