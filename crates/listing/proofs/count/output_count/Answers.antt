use Rattle.std.proofs.Common.{ℕ, ◌∙◌, ◌+◌, ◌<◌, ◌≤◌, length, take, arith, sym, ap, subst}
use Rattle.flat_circuit.specs.Instances.{outputs}
use Rattle.listing.proofs.Numbers.{outputs_more, byte_is, one_at_most}
use Rattle.listing.proofs.count.output_count.Goals as goal

pub loop-k-preserved : goal.loop-k-preserved
loop-k-preserved c =
    let js = c.args.c.now.instances in
    let k = c.loop-k.k in
    let within : k < length js = omega (arith, c.instance_count-k-end.ensures, c.loop-k-test.true) in
    let one = c.from-count.ensures ∙ byte_is c.has_output.result in
    let few : c.from-count.result ≤ 1 = subst (λ (n : ℕ). n ≤ 1) (sym one) (one_at_most c.has_output.result) in
    record {
      counted = ap (λ (n : ℕ). n + c.from-count.result) c.loop-k.invariant.counted
          ∙ ap (λ (n : ℕ). outputs (take k js) + n) one ∙ sym (outputs_more js k c.has_output.result within c.has_output.ensures);
      few = omega (arith, c.loop-k.invariant.few, few);
    }
