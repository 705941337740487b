use Rattle.std.proofs.Common.{◌≡◌, map, take}
use Rattle.step_values.specs.Cell.{values}
use Rattle.skew_algebra.specs.Wave.{folded}
use Rattle.gate_eval.proofs.meeting.folded_waves.Given as goal

abbrev pub invariant-loop-pin : goal.invariant-loop-pin
invariant-loop-pin g l =
    map (λ w. g.W.CyclicWave.cells w) l.waves.items
    ≡ map (λ p. folded values p.wave) (take l.pin-index l.pins)
