use Rattle.std.proofs.Common.{◌-◌, false}
use Rattle.wave_core.specs.Slots.{Gives}
use Rattle.wave_core.proofs.search.first_where.Given as goal

abbrev pub invariant-loop-place : goal.invariant-loop-place
invariant-loop-place g l =
    Gives g.W.Item.Cell.kind (g.W.CyclicWave.cells l.wave) (λ c passes. g.F.Fn.post l.test (c, tt) passes) l.from 0 l.place false

abbrev pub decreases-loop-place : goal.decreases-loop-place
decreases-loop-place g l = l.count - l.place
