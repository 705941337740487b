use Rattle.std.proofs.Common.{◌≡◌, ◌-◌, ◌<◌, min}
use Rattle.wave_core.specs.Slots.{join_round}
use Rattle.wave_core.proofs.joined.joined_from.Given as goal

abbrev pub invariant-loop-place : goal.invariant-loop-place
invariant-loop-place g l = record {
  some : 0 < l.place;
  so_far : l.all ≡ join_round g.W.Item.Cell.kind (g.W.CyclicWave.cells l.wave) l.from (min l.place l.count - 1);
}

abbrev pub decreases-loop-place : goal.decreases-loop-place
decreases-loop-place g l = l.count - l.place
