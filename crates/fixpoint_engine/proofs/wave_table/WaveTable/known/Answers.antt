use Rattle.std.proofs.Common.{subst}
use Rattle.fixpoint_engine.specs.Table.{AreDistinct}
use Rattle.fixpoint_engine.proofs.Distinct.{distinct}
use Rattle.fixpoint_engine.proofs.wave_table.WaveTable.known.Goals as goal

pub returns : goal.returns
returns g c =
    subst AreDistinct c.self.view_is (distinct (λ k. k.wave) c.self.inside.waves.keys c.len-count.ensures.unique)
