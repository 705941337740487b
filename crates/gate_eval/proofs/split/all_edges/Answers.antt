use Rattle.std.proofs.Common.{rules}
use Rattle.std.specs.List.{zip}
use Rattle.step_values.specs.declared.value.Value.{Value}
use Rattle.gate_eval.specs.SplitWindow.{edges_after}
use Rattle.gate_eval.proofs.Seen.{if_mapped}
use Rattle.gate_eval.proofs.split.all_edges.Goals as goal

pub returns : goal.returns
returns g c =
    if_mapped c.zip.result g.W.CyclicWave.cells (λ (q : Value × Value). edges_after q.0 q.1)
    (zip (g.W.CyclicWave.cells c.args.rise.now) (g.W.CyclicWave.cells c.args.fall.now)) _ (λ x y h. search rules) c.zip.ensures
