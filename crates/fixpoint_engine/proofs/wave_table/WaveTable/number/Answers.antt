use Rattle.std.proofs.Common.{map, subst}
use Rattle.fixpoint_engine.specs.Same.{same_wave}
use Rattle.fixpoint_engine.specs.Table.{Grows}
use Rattle.fixpoint_engine.proofs.Distinct.{grows, means}
use Rattle.fixpoint_engine.proofs.wave_table.WaveTable.number.Goals as goal

pub returns-clause-grows : goal.returns-clause-grows
returns-clause-grows g c =
    subst (λ old. Grows old (map (λ k. k.wave) c.insert_full.new.self.keys)) c.self.view_is
    (grows (λ k. k.wave) (λ a b. same_wave a.wave b.wave) c.self.inside.waves.keys c.insert_full.new.self.keys
    (record { wave = c.args.wave }) c.in_ok-index.ensures.keys)

pub returns-clause-means : goal.returns-clause-means
returns-clause-means g c =
    let stored = c.in_ok-index.ensures.stored in
    means (λ k. k.wave) c.insert_full.new.self.keys c.in_ok-index.index (record { wave = c.args.wave }) stored.0 stored.1 stored.2
