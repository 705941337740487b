use Rattle.std.proofs.Common.{rules, ◌≡◌, ◌∙◌}
use Rattle.std.specs.Prelude.{replicate}
use Rattle.run_wave.specs.Run.{cells_of}
use Rattle.run_wave.proofs.Turned.{replicate_slots}
use Rattle.run_wave.proofs.run_wave.RunWaveCyclicWave.uniform.Goals as goal

pub returns : goal.returns
returns g c =
    let made : cells_of c.push.new.self.runs.items ≡ replicate c.args.period c.args.cell = search rules in
    made ∙ replicate_slots c.args.period c.args.cell
