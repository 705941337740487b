use Rattle.std.proofs.Common.{length, sym, ◌∙◌}
use Rattle.fixpoint_engine.specs.Pins.{read}
use Rattle.slack_rows.proofs.Narrowed.{next_found, none_left}
use Rattle.slack_rows.proofs.width.narrowest.Goals as goal

pub narrower-smaller : goal.narrower-smaller
narrower-smaller g c =
    let cells = g.W.CyclicWave.cells c.args.wave.now in
    let next = next_found (length cells) c.args.level (read cells) c.narrower.limit c.narrower.best c.in-Some.found c.narrower.invariant (sym c.first_narrow.ensures ∙ c.in-Some.is) in
    next.less

pub narrower-preserved : goal.narrower-preserved
narrower-preserved g c =
    let cells = g.W.CyclicWave.cells c.args.wave.now in
    let next = next_found (length cells) c.args.level (read cells) c.narrower.limit c.narrower.best c.in-Some.found c.narrower.invariant (sym c.first_narrow.ensures ∙ c.in-Some.is) in
    next.known

pub returns-clause-is : goal.returns-clause-is
returns-clause-is g c =
    let cells = g.W.CyclicWave.cells c.args.wave.now in
    sym (none_left (length cells) c.args.level (read cells) c.narrower.limit c.narrower.best c.narrower.invariant (sym c.first_narrow.ensures ∙ c.in_default.is))
