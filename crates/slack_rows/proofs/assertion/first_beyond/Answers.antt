use Rattle.std.proofs.Common.{◌≡◌, min, length, arith, sym, ◌∙◌, false}
use Rattle.fixpoint_engine.specs.Pins.{read}
use Rattle.fixpoint_engine.proofs.ReadSlots.{below_run}
use Rattle.point_check.specs.Assertion.{exceeds}
use Rattle.point_check.proofs.Exceeded.{excess_here, excess_nowhere, exceeds_read, exceeds_run}
use Rattle.slack_rows.proofs.assertion.first_beyond.Goals as goal

pub returns-then-is_beyond-clause-first : goal.returns-then-is_beyond-clause-first
returns-then-is_beyond-clause-first g c =
    let found = g.W.CyclicWave.cells c.args.fold.now in
    let wide = g.W.CyclicWave.cells c.args.wide.now in
    let p = c.period.ensures in
    excess_here (length found) (read found) (read wide) c.changes.slot c.changes.invariant (omega (arith, p))
    (exceeds_read found wide c.changes.slot c.at.result c.at-in-changes.result (omega (arith, p)) (omega (arith, p)) c.at.ensures c.at-in-changes.ensures ∙ sym c.is_beyond.ensures ∙ c.if-is_beyond.true)

pub changes-preserved : goal.changes-preserved
changes-preserved g c =
    let found = g.W.CyclicWave.cells c.args.fold.now in
    let wide = g.W.CyclicWave.cells c.args.wide.now in
    let least : c.min-slot.result ≡ min c.same_until.result c.same_until-in-changes.result = c.min-slot.ensures in
    below_run (λ k. exceeds (read found k) (read wide k) ≡ false) c.changes.slot _ c.changes.invariant
    (λ k above below. exceeds_run found wide c.changes.slot c.same_until.result c.same_until-in-changes.result k c.at.result c.at-in-changes.result c.same_until.ensures c.same_until-in-changes.ensures
    c.at.ensures c.at-in-changes.ensures above (omega (arith, below, least)) (omega (arith, below, least)) ∙ sym c.is_beyond.ensures ∙ c.if-is_beyond.false)

pub returns-clause-first : goal.returns-clause-first
returns-clause-first g c =
    let p = c.period.ensures in
    excess_nowhere (length (g.W.CyclicWave.cells c.args.fold.now)) (read (g.W.CyclicWave.cells c.args.fold.now))
    (read (g.W.CyclicWave.cells c.args.wide.now)) (λ k below. c.changes.invariant k (omega (arith, p)))
