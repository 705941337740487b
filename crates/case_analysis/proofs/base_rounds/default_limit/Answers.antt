use Rattle.std.proofs.Common.{◌≡◌, ◌+◌, ◌∙◌, drop, sym, subst}
use Rattle.flat_circuit.specs.Instances.{outputs}
use Rattle.case_analysis.proofs.Far.{outputs_more, outputs_same}
use Rattle.case_analysis.proofs.base_rounds.default_limit.Goals as goal
use Rattle.case_analysis.proofs.base_rounds.default_limit.Goals.{then-has_output, else-has_output}

pub loop-k-preserved : goal.loop-k-preserved
loop-k-preserved c = elim c.if-has_output.branch [
  | then-has_output w ↦
      subst (λ n. n + outputs (drop (c.loop-k.k + 1) c.args.c.now.instances) ≡ outputs c.args.c.now.instances) (sym w.outputs-is)
      (outputs_more c.args.c.now.instances c.loop-k.k c.loop-k.outputs c.instance_of.result.now c.instance_of.ensures (sym c.has_output.ensures ∙ w.if-has_output.true) c.loop-k.invariant)
  | else-has_output w ↦
      subst (λ n. n + outputs (drop (c.loop-k.k + 1) c.args.c.now.instances) ≡ outputs c.args.c.now.instances) (sym w.outputs-is)
      (outputs_same c.args.c.now.instances c.loop-k.k c.loop-k.outputs c.instance_of.result.now c.instance_of.ensures (sym c.has_output.ensures ∙ w.if-has_output.false) c.loop-k.invariant)
]
