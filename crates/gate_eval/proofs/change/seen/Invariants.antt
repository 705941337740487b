use Rattle.std.proofs.Common.{map, take}
use Rattle.skew_algebra.specs.Wave.{skewed}
use Rattle.gate_eval.specs.Meeting.{period_of}
use Rattle.gate_eval.proofs.Gathering.{StandsFor}
use Rattle.gate_eval.proofs.change.seen.Given as goal

abbrev pub invariant-loop-place : goal.invariant-loop-place
invariant-loop-place g l =
    StandsFor (map (λ p. p.wave) (take l.place l.pins)) l.d
    (period_of (map (λ p. p.wave) l.pins))
    (g.W.CyclicWave.cells l.gathered.seen) (skewed (g.W.CyclicWave.cells l.gathered.last) l.gathered.skew)
