use Rattle.std.proofs.Common.{◌≡◌, map, take, None}
use Rattle.std.specs.List.{AllByRecursion}
use Rattle.scald_base.specs.Time.{period}
use Rattle.fixpoint_engine.specs.Waves.{waves_of}
use Rattle.critical_paths.specs.Event.{Events}
use Rattle.slack_rows.specs.Laws.{IsPlaced}
use Rattle.slack_rows.specs.Held.{AreChanges, GoesOn, TellWindows, launches_of, place_in, two_of, windows_about}
use Rattle.slack_rows.specs.Sides.{AreLeastAbout}
use Rattle.slack_rows.specs.Views.{window_about}
use Rattle.slack_rows.proofs.sides.about_all.Given as goal

-- those about the edges so far
abbrev pub invariant-loop-edge : goal.invariant-loop-edge
invariant-loop-edge g l =
    record {
      goes : GoesOn l.view.circuit.now (waves_of l.view.waves.now) l.fn.paths l.paths;
      level : l.all.level ≡ None;
      finding : (ev : Events) → AreChanges (period l.view.circuit.now.header) ev l.watch.changes.now →
          AllByRecursion (IsPlaced (period l.view.circuit.now.header)) (windows_about (period l.view.circuit.now.header) l.watch.extent l.watch.edges.now) →
          TellWindows (period l.view.circuit.now.header) ev (launches_of l.view.circuit.now (waves_of l.view.waves.now) l.watch.held)
          (two_of l.view.circuit.now (waves_of l.view.waves.now) l.watch.held) (place_in l.watch.held) l.watch.direction
          (windows_about (period l.view.circuit.now.header) l.watch.extent (take l.edge-index l.watch.edges.now)) l.all;
      are : AreLeastAbout l.view.circuit.now (waves_of l.view.waves.now) l.fn.paths l.watch.held l.watch.direction l.watch.changes.now
          (map (λ e. window_about e l.watch.extent) (take l.edge-index l.watch.edges.now)) l.all;
    }
