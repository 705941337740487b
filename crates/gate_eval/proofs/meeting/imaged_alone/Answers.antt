use Rattle.std.proofs.Common.{[], ◌∷◌, rules}
use Rattle.step_values.specs.declared.value.Value.{Value}
use Rattle.gate_eval.proofs.Seen.{if_mapped}
use Rattle.gate_eval.proofs.meeting.imaged_alone.Goals as goal

pub returns : goal.returns
returns g c =
    if_mapped c.map.result g.W.CyclicWave.cells (λ (v : Value). g.I.Image.value_of c.args.image.now (v ∷ [])) (g.W.CyclicWave.cells c.args.only.now) _
    (λ x y h. search rules) c.map.ensures
