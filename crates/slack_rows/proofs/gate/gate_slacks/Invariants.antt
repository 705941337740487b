use Rattle.fixpoint_engine.specs.Waves.{waves_of}
use Rattle.critical_paths.specs.Reached.{KnowsArrivals}
use Rattle.slack_rows.specs.Exact.{AreOfPins}
use Rattle.slack_rows.specs.Held.{GoesOn}
use Rattle.slack_rows.proofs.Marking.{MarkedTo}
use Rattle.slack_rows.proofs.gate.gate_slacks.Given as goal

-- those of the pins so far
abbrev pub invariant-loop-place : goal.invariant-loop-place
invariant-loop-place g l =
    record {
      goes : GoesOn l.view.circuit.now (waves_of l.view.waves.now) l.fn.paths l.paths;
      marked : MarkedTo l.view.circuit.now (waves_of l.view.waves.now) l.gate l.marked l.place l.all;
      each : KnowsArrivals l.view.circuit.now (waves_of l.view.waves.now) l.fn.paths →
          AreOfPins l.view.circuit.now (waves_of l.view.waves.now) l.gate l.marked l.place l.all;
    }
