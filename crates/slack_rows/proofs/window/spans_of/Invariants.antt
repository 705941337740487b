use Rattle.std.proofs.Common.{◌≡◌, ◌+◌, ◌-◌, ◌%◌, map, length}
use Rattle.std.specs.Prelude.{filter_map}
use Rattle.std.specs.List.{range_with_len}
use Rattle.std.specs.Option.{option_map}
use Rattle.fixpoint_engine.specs.Pins.{read}
use Rattle.critical_paths.specs.Views.{ticks_of_region}
use Rattle.slack_rows.specs.Watch.{fall_of, span_at}
use Rattle.slack_rows.proofs.window.spans_of.Given as goal

-- those of the slots so far, and how long the clock is high after the slot before
abbrev pub invariant-loop-slot : goal.invariant-loop-slot
invariant-loop-slot g l = record {
  spans : l.spans ≡ map ticks_of_region (filter_map (span_at (length (g.W.CyclicWave.cells l.clock)) (read (g.W.CyclicWave.cells l.clock)))
      (range_with_len 0 l.slot));
  before : option_map (λ high. (l.slot + (length (g.W.CyclicWave.cells l.clock) - 1)) % length (g.W.CyclicWave.cells l.clock) + high) l.before
      ≡ fall_of (length (g.W.CyclicWave.cells l.clock)) (read (g.W.CyclicWave.cells l.clock))
      ((l.slot + (length (g.W.CyclicWave.cells l.clock) - 1)) % length (g.W.CyclicWave.cells l.clock));
}
