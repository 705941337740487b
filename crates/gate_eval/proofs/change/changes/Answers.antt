use Rattle.std.proofs.Common.{rules}
use Rattle.gate_eval.specs.Window.{change_of}
use Rattle.gate_eval.proofs.Seen.{if_mapped}
use Rattle.gate_eval.proofs.change.changes.Goals as goal

pub returns : goal.returns
returns g c = if_mapped c.map.result g.W.CyclicWave.cells change_of (g.W.CyclicWave.cells c.args.seen.now) _ (λ x y h. search rules) c.map.ensures
