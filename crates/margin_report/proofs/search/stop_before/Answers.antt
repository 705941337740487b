use Rattle.std.proofs.Common.{arith}
use Rattle.fixpoint_engine.specs.Waves.{waves_of}
use Rattle.margin_report.proofs.Searching.{between_start, between_stops}
use Rattle.margin_report.proofs.search.stop_before.Goals as goal

pub loop-fits-init : goal.loop-fits-init
loop-fits-init g c =
    between_start c.args.c.now (waves_of c.args.waves.now) c.args.row.instance c.args.checker.now c.args.row.parameter c.args.most c.args.found
    c.requires.fits c.requires.found

pub returns-clause-stops : goal.returns-clause-stops
returns-clause-stops g c =
    let close = c.loop-fits-test.false in
    between_stops c.args.c.now (waves_of c.args.waves.now) c.args.row.instance c.args.checker.now c.args.row.parameter c.args.most
    c.loop-fits.fits c.loop-fits.faulty c.loop-fits.fault c.loop-fits.invariant (omega (arith, close))

pub returns-clause-sooner : goal.returns-clause-sooner
returns-clause-sooner g c =
    let apart = c.loop-fits.invariant.apart in
    let within = c.loop-fits.invariant.within in
    omega (arith, apart, within)
