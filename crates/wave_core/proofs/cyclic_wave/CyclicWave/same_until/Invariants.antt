use Rattle.wave_core.proofs.Steady.{AreSame}
use Rattle.wave_core.proofs.cyclic_wave.CyclicWave.same_until.Given as goal

abbrev pub invariant-loop-next : goal.invariant-loop-next
invariant-loop-next g l = AreSame (g.Self.CyclicWave.cells l.self) l.slot l.next
