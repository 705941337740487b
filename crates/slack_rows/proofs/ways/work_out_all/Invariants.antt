use Rattle.std.proofs.Common.{◌≡◌, ℕ, ◌<◌, Some}
use Rattle.std.specs.Prelude.{slice_get}
use Rattle.fixpoint_engine.specs.Waves.{waves_of}
use Rattle.slack_rows.specs.declared.guard.Guard.{Guard}
use Rattle.critical_paths.specs.Reached.{StaysKnown}
use Rattle.slack_rows.specs.Arrived.{AreWorkedOut, place_on}
use Rattle.slack_rows.specs.Held.{GoesOn}
use Rattle.slack_rows.proofs.ways.work_out_all.Given as goal

-- those so far
abbrev pub invariant-loop-number : goal.invariant-loop-number
invariant-loop-number g l =
    record {
      goes : GoesOn l.view.circuit.now (waves_of l.view.waves.now) l.fn.paths l.paths;
      known : (k : ℕ) (e : Guard) → k < l.number → slice_get l.edges k ≡ Some e →
          AreWorkedOut l.paths.known.entries (place_on e.net l.corner l.held.pin.target);
      stays : StaysKnown l.fn.paths.known.entries l.paths.known.entries;
    }
