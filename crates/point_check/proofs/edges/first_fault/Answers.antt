use Rattle.std.proofs.Common.{length, arith, rules}
use Rattle.fixpoint_engine.specs.Pins.{read}
use Rattle.point_check.proofs.Found.{first_fault_here, first_fault_nowhere}
use Rattle.point_check.proofs.Where.{past_edges}
use Rattle.point_check.proofs.edges.first_fault.Goals as goal

pub returns-in-Some : goal.returns-in-Some
returns-in-Some g c =
    let p = c.period.ensures in
    first_fault_here c.args.kind (length (g.W.CyclicWave.cells c.args.clock.now)) c.args.instance
    (read (g.W.CyclicWave.cells c.args.clock.now)) (read (g.W.CyclicWave.cells c.args.input.now)) c.args.limits
    c.edges.edge c.in-Some.fault c.edges.invariant (omega (arith, p)) c.in-Some.ensures

pub edges-preserved : goal.edges-preserved
edges-preserved g c =
    past_edges c.args.kind (length (g.W.CyclicWave.cells c.args.clock.now)) c.args.instance (read (g.W.CyclicWave.cells c.args.clock.now)) (read (g.W.CyclicWave.cells c.args.input.now)) c.args.limits
    c.edges.edge c.next_edge-edge.result c.edges.invariant (search rules) c.next_edge-edge.ensures

pub returns : goal.returns
returns g c =
    let p = c.period.ensures in
    first_fault_nowhere c.args.kind (length (g.W.CyclicWave.cells c.args.clock.now)) c.args.instance
    (read (g.W.CyclicWave.cells c.args.clock.now)) (read (g.W.CyclicWave.cells c.args.input.now)) c.args.limits
    (λ s below. c.edges.invariant s (omega (arith, p)))
