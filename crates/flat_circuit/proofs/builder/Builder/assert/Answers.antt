use Rattle.std.proofs.Common.{sym, subst}
use Rattle.scald_base.specs.Fitting.{Fits}
use Rattle.flat_circuit.specs.Builder.{Built}
use Rattle.flat_circuit.proofs.Counts.{built_asserted}
use Rattle.flat_circuit.proofs.builder.Builder.assert.Goals as goal

pub invariant_of-self-2 : goal.invariant_of-self-2
invariant_of-self-2 c =
    let i = c.self.inside in
    rw c.in_ok-add.ensures.ok (
      built_asserted i.header i.nets i.assertions i.instances c.args.text.now c.args.spec.now
          c.self.invariant.0 (subst (λ (b : Built). Fits b.header c.args.spec.now) (sym c.self.view_is) c.requires),
      c.self.invariant.1,
    )
