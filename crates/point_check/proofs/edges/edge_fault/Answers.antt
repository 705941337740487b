use Rattle.std.proofs.Common.{ℕ, length, refl, sym, ap, ◌∙◌, Some}
use Rattle.fixpoint_engine.specs.Pins.{read}
use Rattle.fixpoint_engine.proofs.ReadSlots.{read_at}
use Rattle.point_check.specs.Window.{window_fault}
use Rattle.point_check.proofs.Found.{no_edge, an_edge}
use Rattle.point_check.proofs.edges.edge_fault.Goals as goal

pub returns-then-not-may_rise : goal.returns-then-not-may_rise
returns-then-not-may_rise g c =
    let clock = g.W.CyclicWave.cells c.args.clock.now in
    no_edge c.args.kind (length clock) c.args.instance (read clock) (read (g.W.CyclicWave.cells c.args.input.now)) c.args.limits c.args.edge c.at.result
    (read_at clock c.args.edge c.args.edge c.at.result refl c.requires.edge c.at.ensures) (sym c.may_rise.ensures ∙ c.if-not-may_rise.true)

pub returns-in-Some : goal.returns-in-Some
returns-in-Some g c =
    let clock = g.W.CyclicWave.cells c.args.clock.now in
    let input = g.W.CyclicWave.cells c.args.input.now in
    an_edge c.args.kind (length clock) c.args.instance (read clock) (read input) c.args.limits c.args.edge c.at.result (Some c.in-Some.window) c.window_fault.result
    (read_at clock c.args.edge c.args.edge c.at.result refl c.requires.edge c.at.ensures) (sym c.may_rise.ensures ∙ c.if-not-may_rise.false) c.in-Some.ensures.window
    (c.window_fault.ensures ∙ ap (λ (p : ℕ). window_fault p c.args.instance (read input) c.args.edge (Some c.in-Some.window)) c.requires.periods)
