use Rattle.std.proofs.Common.{◌≡◌, true, not, sym, subst, length, ap, ◌∙◌, arith}
use Rattle.flat_circuit.specs.Instances.{InstanceFits}
use Rattle.flat_circuit.specs.Builder.{Built, is_one_too_many}
use Rattle.flat_circuit.proofs.Counts.{byte_is, length_few, built_instance, counts_push, not_true}
use Rattle.flat_circuit.proofs.builder.Builder.instance.Goals as goal

pub overflow_cast-number : goal.overflow_cast-number
overflow_cast-number c = let few = length_few c.self.inside.instances c.self.invariant.0.few in omega (arith, c.len-number.ensures)

pub invariant_of-self-2 : goal.invariant_of-self-2
invariant_of-self-2 c =
    let i = c.self.inside in
    let j = c.args.instance in
    let room : not (is_one_too_many i.instances j) ≡ true = ap (λ (b : Built). not (is_one_too_many b.instances j)) c.self.view_is ∙ sym c.has_room.ensures ∙ c.if-not-has_room.false in
    let r = not_true (is_one_too_many i.instances j) room in
    let out = c.has_output-has_output.ensures in
    let is_output = c.has_output-has_output.result in
    let outputs = c.from.ensures ∙ byte_is is_output in
    let checkers = c.from-2.ensures ∙ byte_is (not is_output) in
    let fits = subst (λ (b : Built). InstanceFits b.header (length b.names) j) (sym c.self.view_is) c.requires in
    rw c.in_ok-push.ensures.ok (
      built_instance i.header i.nets i.assertions i.instances j c.self.invariant.0 fits r,
      rw (outputs, checkers, out, c.len-pins.ensures) (counts_push i.instances j i.outputs i.checkers i.pins c.self.invariant.1),
    )
