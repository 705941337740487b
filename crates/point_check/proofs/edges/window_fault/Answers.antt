use Rattle.std.proofs.Common.{length, rules, arith, ap, ◌∙◌, ℕ}
use Rattle.flat_circuit.specs.declared.fault.Fault.TheVariants.{Point}
use Rattle.fixpoint_engine.specs.Pins.{read}
use Rattle.fixpoint_engine.proofs.ReadSlots.{read_at}
use Rattle.point_check.specs.Window.{slot_at}
use Rattle.point_check.proofs.Found.{no_window_fault, a_window_fault, same_fault}
use Rattle.point_check.proofs.Where.{all_quiet, mover_where}
use Rattle.point_check.proofs.edges.window_fault.Goals as goal

pub returns-in-None : goal.returns-in-None
returns-in-None g c =
    let cells = g.W.CyclicWave.cells c.args.input.now in
    no_window_fault (length cells) c.args.instance (read cells) c.args.window c.args.edge
    (all_quiet cells c.args.window c.args.edge c.slot_at-from.result
    (c.slot_at-from.ensures.slot ∙ ap (λ (z : ℕ). slot_at z c.args.window c.args.edge 0) c.period-period.ensures)
    (λ k below. let said = c.in-None.ensures k (omega arith) below in search rules))

pub returns-in-Some : goal.returns-in-Some
returns-in-Some g c =
    let cells = g.W.CyclicWave.cells c.args.input.now in
    let p = c.period-period.ensures in
    let found = c.in-Some.ensures in
    a_window_fault (length cells) c.args.instance (read cells) c.args.window c.args.edge c.in-Some.place
    (Point c.kind_at.result c.args.instance c.args.edge c.slot_at-slot.result c.letter.result)
    (mover_where cells c.args.window c.args.edge c.slot_at-from.result (c.slot_at-from.ensures.slot ∙ ap (λ (z : ℕ). slot_at z c.args.window c.args.edge 0) p) c.in-Some.place found.within
    (λ k below. let said = found.before k (omega arith) below in search rules) (let said = found.passes in search rules))
    (same_fault (length cells) c.args.instance (read cells) c.args.window c.args.edge c.in-Some.place c.kind_at.result c.slot_at-slot.result c.at.result c.letter.result
    c.kind_at.ensures (c.slot_at-slot.ensures.slot ∙ ap (λ (z : ℕ). slot_at z c.args.window c.args.edge c.in-Some.place) p)
    (read_at cells c.slot_at-slot.result c.slot_at-slot.result c.at.result (λ i. c.slot_at-slot.result) (omega (arith, p, c.slot_at-slot.ensures.within)) c.at.ensures)
    c.letter.ensures)
