use Rattle.std.proofs.Common.{◌∙◌, length, sym, arith}
use Rattle.fixpoint_engine.proofs.ReadSlots.{length_folded}
use Rattle.point_check.proofs.Steady.{still_input}
use Rattle.point_check.proofs.Gathered.{checker_is}
use Rattle.point_check.proofs.checker.fault_between.Goals as goal

pub returns-then-is_steady : goal.returns-then-is_steady
returns-then-is_steady g c =
    still_input c.args.asked.kind (length c.args.clock.now.cells) c.args.asked.instance c.args.clock.now
    c.args.input.now c.args.asked.limits
    (let two = c.known-2.ensures.sized.shortest in omega (arith, two)) (sym c.is_steady.ensures ∙ c.if-is_steady.true)

pub first_fault-requires-clause-limits : goal.first_fault-requires-clause-limits
first_fault-requires-clause-limits g c =
    let long = length_folded c.args.clock.now (g.W.CyclicWave.cells c.in_ok-clock_folds.clock_folds) c.in_ok-clock_folds.ensures in
    let within = c.requires.limits in
    omega (arith, long, within)

pub first_fault-requires-clause-periods : goal.first_fault-requires-clause-periods
first_fault-requires-clause-periods g c =
    length_folded c.args.input.now (g.W.CyclicWave.cells c.in_ok-input_folds.input_folds) c.in_ok-input_folds.ensures.wave
    ∙ c.requires.periods
    ∙ sym (length_folded c.args.clock.now (g.W.CyclicWave.cells c.in_ok-clock_folds.clock_folds) c.in_ok-clock_folds.ensures)

pub returns : goal.returns
returns g c =
    checker_is c.args.asked.kind c.args.asked.instance c.args.clock.now c.args.input.now
    (g.W.CyclicWave.cells c.in_ok-clock_folds.clock_folds) (g.W.CyclicWave.cells c.in_ok-input_folds.input_folds) c.args.asked.limits c.first_fault.result
    (let two = c.known.ensures.sized.shortest in omega (arith, two)) (let two = c.known-2.ensures.sized.shortest in omega (arith, two))
    c.in_ok-clock_folds.ensures c.in_ok-input_folds.ensures.wave c.first_fault.ensures
