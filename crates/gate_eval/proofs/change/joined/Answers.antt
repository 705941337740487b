use Rattle.std.proofs.Common.{rules}
use Rattle.std.specs.List.{zip}
use Rattle.step_values.specs.declared.value.Value.{Value}
use Rattle.step_values.specs.Steps.{join}
use Rattle.gate_eval.proofs.Seen.{if_mapped}
use Rattle.gate_eval.proofs.change.joined.Goals as goal

pub returns : goal.returns
returns g c =
    if_mapped c.zip.result g.W.CyclicWave.cells (λ (q : Value × Value). join q.0 q.1) (zip (g.W.CyclicWave.cells c.args.one.now) (g.W.CyclicWave.cells c.args.other.now)) _
    (λ x y h. search rules) c.zip.ensures
