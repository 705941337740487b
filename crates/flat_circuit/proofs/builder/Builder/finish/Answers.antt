use Rattle.std.proofs.Common.{subst, length, arith}
use Rattle.std.proofs.lemmas.List.Elements.{All-weaker}
use Rattle.std.proofs.lemmas.Result.{err_from_is_err_and}
use Rattle.flat_circuit.specs.Instances.{InstanceExists, InstanceFits}
use Rattle.flat_circuit.specs.Builder.{Built, Stands, IsRefusal}
use Rattle.flat_circuit.proofs.Counts.{length_few}
use Rattle.flat_circuit.proofs.Ends.{circuit_is, stands_is, refusal_ruled, nets_long}
use Rattle.flat_circuit.proofs.builder.Builder.finish.Goals as goal

pub checked_nets-requires-clause-few : goal.checked_nets-requires-clause-few
checked_nets-requires-clause-few c = let few = length_few c.self.inside.instances c.self.invariant.0.few in rw c.as_slice.ensures (omega arith)

pub returns-in_err-nets : goal.returns-in_err-nets
returns-in_err-nets c =
    let i = c.self.inside in
    let p = err_from_is_err_and c.from_residual.result c.from_residual.ensures.1 in
    rw (p.1, p.2) (subst (λ (s : Built). IsRefusal s c.in_err-nets.field-0.0) c.self.view_is
    (refusal_ruled i.header i.nets i.assertions i.instances c.in_err-nets.field-0.0 (rw c.as_slice.ensures at c.in_err-nets.ensures)))

pub readers-requires-clause-within : goal.readers-requires-clause-within
readers-requires-clause-within c =
    let i = c.self.inside in
    let ruled = rw c.as_slice.ensures at c.in_ok-nets.ensures in
    rw (c.as_slice-2.ensures, c.len.ensures, nets_long c.in_ok-nets.nets i.nets.names ruled.are.names_are)
    (All-weaker (InstanceFits i.header (length i.nets.names)) (InstanceExists (length i.nets.names)) (λ j f. f.exists) i.instances c.self.invariant.0.each)

pub readers-requires-clause-few : goal.readers-requires-clause-few
readers-requires-clause-few c = let few = length_few c.self.inside.instances c.self.invariant.0.few in rw c.as_slice-2.ensures (omega arith)

pub invariant_of-result : goal.invariant_of-result
invariant_of-result c =
    let i = c.self.inside in (
      circuit_is i.header i.nets i.assertions i.instances c.in_ok-nets.nets c.in_ok-order.order.items c.self.invariant.0
          (rw c.as_slice.ensures at c.in_ok-nets.ensures)
          (rw c.as_slice-3.ensures at c.in_ok-order.ensures),
      rw (c.len.ensures, c.as_slice-2.ensures) at c.in_ok-readers.ensures,
    )

pub returns : goal.returns
returns c =
    let i = c.self.inside in
    subst (λ (s : Built). Stands s (record { header = i.header; nets = c.in_ok-nets.nets; instances = i.instances; order = c.in_ok-order.order.items })) c.self.view_is
    (stands_is i.header i.nets i.assertions i.instances c.in_ok-nets.nets c.in_ok-order.order.items (rw c.as_slice.ensures at c.in_ok-nets.ensures))
