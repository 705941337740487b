use Rattle.std.proofs.Common.{◌+◌, ◌≤◌}
use Rattle.scald_base.specs.Time.{period}
use Rattle.fixpoint_engine.specs.Waves.{waves_of}
use Rattle.slack_rows.specs.Views.{window_in}
use Rattle.slack_rows.specs.Held.{GoesOn, side_held, two_of}
use Rattle.slack_rows.proofs.Gathering.{AroundTo}
use Rattle.slack_rows.proofs.sides.around_in.Given as goal

-- what those before and those so far come to
abbrev pub invariant-loop-region : goal.invariant-loop-region
invariant-loop-region g l =
    record {
      goes : GoesOn l.view.circuit.now (waves_of l.view.waves.now) l.fn.paths l.paths;
      met : l.all.met ≤ l.fn.before.met + l.region-index;
      are : AroundTo (period l.view.circuit.now.header)
          (side_held l.view.circuit.now (waves_of l.view.waves.now) l.watch.held (window_in (period l.view.circuit.now.header) l.window))
          (two_of l.view.circuit.now (waves_of l.view.waves.now) l.watch.held (window_in (period l.view.circuit.now.header) l.window))
          (window_in (period l.view.circuit.now.header) l.window) l.begin l.watch.changes.now l.fn.before l.region-index l.all;
    }
