use Rattle.std.proofs.Common.{◌≡◌, ◌*◌, ◌≤◌}
use Rattle.scald_base.specs.Time.{period}
use Rattle.fixpoint_engine.specs.Waves.{waves_of}
use Rattle.slack_rows.specs.Views.{window_in}
use Rattle.slack_rows.specs.Held.{AreAround, GoesOn, in_periods, side_held, two_of}
use Rattle.slack_rows.proofs.sides.around.Given as goal

-- what those of the periods so far come to
abbrev pub invariant-loop-number : goal.invariant-loop-number
invariant-loop-number g l =
    record {
      goes : GoesOn l.view.circuit.now (waves_of l.view.waves.now) l.fn.paths l.paths;
      met : l.all.met ≤ 4096 * l.number;
      short : l.begin ≤ 4096 * l.number;
      begin : l.begin ≡ l.number * period l.view.circuit.now.header;
      are : AreAround (period l.view.circuit.now.header)
          (side_held l.view.circuit.now (waves_of l.view.waves.now) l.watch.held (window_in (period l.view.circuit.now.header) l.window))
          (two_of l.view.circuit.now (waves_of l.view.waves.now) l.watch.held (window_in (period l.view.circuit.now.header) l.window))
          (window_in (period l.view.circuit.now.header) l.window)
          (in_periods (period l.view.circuit.now.header) l.watch.changes.now l.number) l.all;
    }
