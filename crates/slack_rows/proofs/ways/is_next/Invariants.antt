use Rattle.std.proofs.Common.{◌≡◌, false, take}
use Rattle.std.specs.List.{list_any}
use Rattle.slack_rows.specs.Arrived.{is_nearer}
use Rattle.slack_rows.proofs.ways.is_next.Given as goal

-- none so far
abbrev pub invariant-loop-other : goal.invariant-loop-other
invariant-loop-other l =
    list_any (is_nearer l.launch.corner l.launch.period l.launch.tick l.edge)
    (take l.other-index l.edges) ≡ false
