use Rattle.std.proofs.Common.{◌≡◌, map, take}
use Rattle.step_values.specs.Cell.{values}
use Rattle.skew_algebra.specs.Wave.{cell_at}
use Rattle.gate_eval.proofs.meeting.read_slot.Given as goal

abbrev pub invariant-loop-wave : goal.invariant-loop-wave
invariant-loop-wave g l = l.found.items ≡ map (λ w. cell_at values (g.W.CyclicWave.cells w) l.slot) (take l.wave-index l.waves)
