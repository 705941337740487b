use Rattle.std.proofs.Common.{◌≡◌, map, take}
use Rattle.fixpoint_engine.specs.Waves.{waves_of}
use Rattle.slack_rows.specs.Held.{GoesOn}
use Rattle.slack_rows.specs.Sides.{guarded, guards_of}
use Rattle.slack_rows.proofs.ways.edges.Given as goal

-- those of the windows so far
abbrev pub invariant-loop-edge : goal.invariant-loop-edge
invariant-loop-edge g l =
    record {
      goes : GoesOn l.view.circuit.now (waves_of l.view.waves.now) l.fn.paths l.paths;
      are : map guarded l.found ≡ guards_of l.view.circuit.now (waves_of l.view.waves.now) l.held l.corner l.watch.extent
          (take l.edge-index l.watch.edges.now);
    }
