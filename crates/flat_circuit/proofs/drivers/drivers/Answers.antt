use Rattle.std.proofs.Common.{◌≡◌, ◌∙◌, refl, sym, subst, true, false, rules, arith, length}
use Rattle.std.proofs.lemmas.List.{get_or_default}
use Rattle.flat_circuit.specs.declared.instance.Instance.{Instance}
use Rattle.flat_circuit.specs.Steps.{DrivenTo, Took, StopsAtTaken}
use Rattle.flat_circuit.proofs.Driven.{driven_more, first_taken}
use Rattle.flat_circuit.proofs.drivers.drivers.Goals as goal

pub returns-then-not-take_output : goal.returns-then-not-take_output
returns-then-not-take_output c =
    let r : c.take_output.result ≡ false = search rules in
    let js = c.args.instances.now in
    let t : Took c.loop-k.drivers.items c.take_output.new.drivers.items c.loop-k.k c.index-instances-k.result.out c.take_output.result =
    subst (λ (j : Instance). Took c.loop-k.drivers.items c.take_output.new.drivers.items c.loop-k.k j.out c.take_output.result)
    (sym c.index-instances-k.is) c.take_output.ensures in
    let f = first_taken js c.args.nets c.loop-k.k c.loop-k.drivers.items c.take_output.new.drivers.items c.index-instances-k.result c.loop-k-test.true
    c.index-instances-k.is (subst (λ b. Took c.loop-k.drivers.items c.take_output.new.drivers.items c.loop-k.k c.index-instances-k.result.out b)
    r t) c.loop-k.invariant in
    subst (StopsAtTaken js) (sym c.refused.ensures) (
      refl,
      rw (get_or_default js c.loop-k.k c.index-instances-k-then-not-take_output.result c.index-instances-k.result c.loop-k-test.true
          ∙ sym c.index-instances-k.is) f,
    )

pub loop-k-preserved : goal.loop-k-preserved
loop-k-preserved c =
    let r : c.take_output.result ≡ true = search rules in
    driven_more c.args.instances.now c.args.nets c.loop-k.k c.loop-k.drivers.items c.take_output.new.drivers.items c.index-instances-k.result
    c.loop-k-test.true c.index-instances-k.is c.requires.within
    (subst (λ b. Took c.loop-k.drivers.items c.take_output.new.drivers.items c.loop-k.k c.index-instances-k.result.out b) r
    (subst (λ (j : Instance). Took c.loop-k.drivers.items c.take_output.new.drivers.items c.loop-k.k j.out c.take_output.result)
    (sym c.index-instances-k.is) c.take_output.ensures)) c.loop-k.invariant

pub returns : goal.returns
returns c = let e : c.loop-k.k ≡ length c.args.instances.now = omega arith in subst (λ k. DrivenTo c.args.instances.now c.args.nets k c.loop-k.drivers.items) e c.loop-k.invariant
