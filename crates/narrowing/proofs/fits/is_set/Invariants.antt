use Rattle.std.proofs.Common.{◌≡◌, drop}
use Rattle.case_analysis.specs.Case.{is_set}
use Rattle.narrowing.proofs.fits.is_set.Given as goal

abbrev pub invariant-loop-value : goal.invariant-loop-value
invariant-loop-value l = is_set (drop l.value-index l.values) l.net ≡ is_set l.values l.net
