use Rattle.std.proofs.Common.{◌≡◌, ◌≤◌}
use Rattle.std.specs.Prelude.{◌≤ℤ◌, IfSome}
use Rattle.scald_base.specs.Time.{period}
use Rattle.fixpoint_engine.specs.Waves.{target_wire}
use Rattle.critical_paths.specs.Path.{bound}
use Rattle.critical_paths.specs.Reached.{arrivals_in}
use Rattle.critical_paths.specs.Tick.{IsWithin, most_tick}
use Rattle.slack_rows.specs.Arrived.{furthest_in}
use Rattle.slack_rows.proofs.two.furthest_in.Given as goal

-- it is in the region, and of those so far
abbrev pub invariant-loop-number : goal.invariant-loop-number
invariant-loop-number g l =
    record {
      from : l.from ≤ l.number;
      to : l.number ≤ l.to;
      is : l.best ≡ furthest_in (period l.view.circuit.now.header)
          (bound l.corner (target_wire l.view.circuit.now.nets l.held.pin.target)) l.region l.corner
          l.fn.edge (arrivals_in l.paths.arrivals (l.from, l.number));
      near : IfSome l.best (λ a. IsWithin most_tick a.tick);
      within : IfSome l.best (λ a. (l.region.first ≤ℤ a.tick) × (a.tick ≤ℤ l.region.last));
    }
