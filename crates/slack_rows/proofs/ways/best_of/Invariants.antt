use Rattle.std.proofs.Common.{◌≡◌, ◌≤◌, true}
use Rattle.std.specs.Prelude.{IfSome, fold}
use Rattle.scald_base.specs.Time.{period}
use Rattle.fixpoint_engine.specs.Waves.{target_wire}
use Rattle.critical_paths.specs.Path.{bound}
use Rattle.critical_paths.specs.Reached.{arrivals_in}
use Rattle.slack_rows.specs.Arrived.{with_arrival}
use Rattle.slack_rows.specs.Views.{is_starred, slack_by}
use Rattle.slack_rows.proofs.ways.best_of.Given as goal

abbrev pub invariant-loop-number : goal.invariant-loop-number
invariant-loop-number g l =
    record {
      from : l.from ≤ l.number;
      to : l.number ≤ l.to;
      is : l.best ≡ fold (with_arrival (period l.view.circuit.now.header)
          (bound l.sought.corner (target_wire l.view.circuit.now.nets l.sought.held.pin.target)) l.edges
          l.sought) l.fn.so_far (arrivals_in l.paths.arrivals (l.from, l.number));
      starred : IfSome l.best (λ finding. is_starred (slack_by finding.slack) ≡ true);
    }
