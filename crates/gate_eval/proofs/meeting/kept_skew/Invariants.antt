use Rattle.std.proofs.Common.{◌<◌, map, take}
use Rattle.step_values.specs.Cell.{values}
use Rattle.gate_eval.specs.Meeting.{movers}
use Rattle.gate_eval.proofs.Scanned.{Keeps}
use Rattle.gate_eval.proofs.meeting.kept_skew.Given as goal

abbrev pub invariant-loop-pin : goal.invariant-loop-pin
invariant-loop-pin g l = record {
  so_far : Keeps (movers values (map (λ p. p.wave) (take l.pin-index l.pins))) l.moves l.skew;
  short : l.skew < 4096;
}
