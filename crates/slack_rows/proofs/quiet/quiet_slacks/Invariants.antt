use Rattle.std.proofs.Common.{map, length}
use Rattle.std.specs.Prelude.{filter}
use Rattle.std.specs.List.{range_with_len}
use Rattle.fixpoint_engine.specs.Pins.{read}
use Rattle.critical_paths.specs.declared.direction.Direction.TheVariants.{Change, Rise}
use Rattle.critical_paths.specs.Event.{events}
use Rattle.slack_rows.specs.Limit.{still_after, still_before, finding_still}
use Rattle.slack_rows.specs.Slack.{least, finding_of}
use Rattle.slack_rows.specs.Views.{Tells}
use Rattle.slack_rows.proofs.quiet.quiet_slacks.Given as goal

-- the least of the slots so far
abbrev pub invariant-loop-slot : goal.invariant-loop-slot
invariant-loop-slot g l = record {
  before : Tells (length (g.W.CyclicWave.cells l.clock)) l.all.before
      (finding_of 1 Change (least (map
      (λ t. finding_still (still_before (length (g.W.CyclicWave.cells l.clock)) (events Change (read (g.W.CyclicWave.cells l.input))) t))
      (filter (events Rise (read (g.W.CyclicWave.cells l.clock))) (range_with_len 0 l.slot)))));
  after : Tells (length (g.W.CyclicWave.cells l.clock)) l.all.after
      (finding_of 1 Change (least (map
      (λ t. finding_still (still_after (length (g.W.CyclicWave.cells l.clock)) (events Change (read (g.W.CyclicWave.cells l.input))) t))
      (filter (events Rise (read (g.W.CyclicWave.cells l.clock))) (range_with_len 0 l.slot)))));
}
