use Rattle.std.proofs.Common.{◌≡◌, take}
use Rattle.drawing_omissions.specs.Open.{most_entries}
use Rattle.drawing_omissions.proofs.parts.most_entries.Given as goal

abbrev pub invariant-loop-case : goal.invariant-loop-case
invariant-loop-case l = l.most ≡ most_entries (take l.case-index l.cases)
