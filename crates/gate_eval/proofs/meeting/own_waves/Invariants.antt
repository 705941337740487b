use Rattle.std.proofs.Common.{◌≡◌, map, take}
use Rattle.gate_eval.proofs.meeting.own_waves.Given as goal

abbrev pub invariant-loop-pin : goal.invariant-loop-pin
invariant-loop-pin g l =
    map (λ w. g.W.CyclicWave.cells w) l.waves.items ≡ map (λ p. p.wave.cells) (take l.pin-index l.pins)
