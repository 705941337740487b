use Rattle.std.proofs.Common.{◌∙◌, ℕ, List, [], ◌∷◌, ◌++◌, get_or, take, sym, ap, subst}
use Rattle.std.proofs.lemmas.List.{take_more}
use Rattle.flat_circuit.specs.declared.instance.Pin.{Pin}
use Rattle.flat_circuit.specs.Run.{WiresFit}
use Rattle.trace_sim.specs.Draw.{draw_each}
use Rattle.trace_sim.specs.Drawn.{draw_wire}
use Rattle.trace_sim.proofs.Each.{each_more, wires_more, no_pin}
use Rattle.trace_sim.proofs.picks.draw_wires.Goals as goal

pub loop-pin-preserved : goal.loop-pin-preserved
loop-pin-preserved g c =
    let next = take_more c.args.pins.now c.loop-pin.pin-index no_pin c.loop-pin-test.true in
    let pin = get_or c.args.pins.now c.loop-pin.pin-index no_pin in
    let before = take c.loop-pin.pin-index c.args.pins.now in
    let start = g.R.Rng.stream c.args.rng.now in
    let after = g.R.Rng.stream c.draw_wire.new.rng in
    let draw = λ (p : Pin). draw_wire c.args.c.now.nets p.target in
    record {
      is =
          ap (λ (ws : List ℕ). (ws, after)) c.in_ok-push.ensures.ok
          ∙ each_more draw before pin start (g.R.Rng.stream c.loop-pin.rng) after c.loop-pin.wires c.draw_wire.result
          c.loop-pin.invariant.is c.draw_wire.ensures.is
          ∙ ap (λ (ps : List Pin). draw_each draw ps start) (sym next);
      within =
          subst (λ (ps : List Pin). WiresFit c.args.c.now.nets ps c.push.new.self) (sym next)
          (subst (λ (ws : List ℕ). WiresFit c.args.c.now.nets (before ++ pin ∷ []) ws) (sym c.in_ok-push.ensures.ok)
          (wires_more c.args.c.now.nets before c.loop-pin.wires pin c.draw_wire.result
          c.loop-pin.invariant.within c.draw_wire.ensures.within));
    }
