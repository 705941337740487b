use Rattle.std.proofs.Common.{length, arith, rules, sym}
use Rattle.fixpoint_engine.specs.Pins.{read}
use Rattle.pulse_check.proofs.Narrow.{first_at, first_nowhere, past_starts}
use Rattle.pulse_check.proofs.pulse.first_narrow.Goals as goal

pub returns-in-Some : goal.returns-in-Some
returns-in-Some g c =
    let cells = g.W.CyclicWave.cells c.args.wave.now in
    let p = c.period.ensures in
    sym (first_at (length cells) c.args.level (read cells) c.args.limit c.starts.start c.in-Some.found c.starts.invariant (omega (arith, p)) (sym c.in-Some.ensures))

pub starts-preserved : goal.starts-preserved
starts-preserved g c =
    let cells = g.W.CyclicWave.cells c.args.wave.now in
    past_starts c.args.level (read cells) c.args.limit (length cells) c.starts.start c.next_start-start.result c.starts.invariant (search rules) c.next_start-start.ensures

pub returns : goal.returns
returns g c =
    let cells = g.W.CyclicWave.cells c.args.wave.now in
    let p = c.period.ensures in
    sym (first_nowhere (length cells) c.args.level (read cells) c.args.limit (λ k below. c.starts.invariant k (omega (arith, p))))
