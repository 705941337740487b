use Rattle.std.proofs.Common.{◌-◌}
use Rattle.fixpoint_engine.specs.Waves.{waves_of}
use Rattle.margin_report.proofs.Searching.{IsBetween}
use Rattle.margin_report.proofs.search.stop_before.Given as goal

abbrev pub invariant-loop-fits : goal.invariant-loop-fits
invariant-loop-fits g l = IsBetween l.c (waves_of l.waves) l.row.instance l.checker l.row.parameter l.most l.fits l.faulty l.fault

abbrev pub decreases-loop-fits : goal.decreases-loop-fits
decreases-loop-fits g l = l.faulty - l.fits
