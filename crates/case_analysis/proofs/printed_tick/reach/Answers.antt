use Rattle.std.proofs.Common.{◌≡◌, ◌+◌, drop, max, arith, sym, subst}
use Rattle.std.proofs.lemmas.Grind.{common_steps}
use Rattle.fixpoint_engine.specs.Reach.{farthest}
use Rattle.case_analysis.proofs.Far.{far_more}
use Rattle.case_analysis.proofs.printed_tick.reach.Goals as goal

pub loop-k-preserved : goal.loop-k-preserved
loop-k-preserved c =
    let greater : c.max-farthest.result ≡ max c.loop-k.farthest c.looks_back.result = grind (arith, common_steps, c.max-farthest.ensures) in
    let before = c.loop-k.invariant.bounded in
    let one = c.looks_back.ensures.bounded in
    record {
      is = subst (λ n. max n (farthest c.args.c.now.nets (drop (c.loop-k.k + 1) c.args.c.now.instances)) ≡ farthest c.args.c.now.nets c.args.c.now.instances) (sym greater)
          (far_more c.args.c.now.nets c.args.c.now.instances c.loop-k.k c.instance_of.result.now
          c.loop-k.farthest c.looks_back.result c.instance_of.ensures c.looks_back.ensures.is c.loop-k.invariant.is);
      bounded = omega (arith, greater, before, one);
    }
