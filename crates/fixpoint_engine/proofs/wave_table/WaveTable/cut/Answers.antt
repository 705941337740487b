use Rattle.std.proofs.Common.{◌∙◌, ap, map, take, sym}
use Rattle.std.proofs.lemmas.List.{take-map}
use Rattle.fixpoint_engine.proofs.wave_table.WaveTable.cut.Goals as goal

pub returns : goal.returns
returns g c =
    ap (map (λ k. k.wave)) c.truncate.ensures.keys
    ∙ sym (take-map (λ k. k.wave) c.args.kept c.self.inside.waves.keys)
    ∙ ap (take c.args.kept) c.self.view_is
