use Rattle.std.proofs.Common.{◌≡◌, ◌++◌, drop}
use Rattle.critical_paths.specs.Known.{end_of}
use Rattle.critical_paths.proofs.Counting.{parts_from}
use Rattle.critical_paths.proofs.common.parts.Given as goal

abbrev pub invariant-loop-place : goal.invariant-loop-place
invariant-loop-place l =
    l.out ++ parts_from l.c (end_of l.end) (drop l.place l.nodes) ≡ parts_from l.c (end_of l.end)
    l.nodes
