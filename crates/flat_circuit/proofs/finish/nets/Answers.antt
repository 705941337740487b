use Rattle.std.proofs.Common.{◌≡◌, ◌∙◌, length, ap, refl, sym}
use Rattle.flat_circuit.specs.Builder.{Nets, net_entries, spec_of}
use Rattle.flat_circuit.proofs.Ends.{net_next, nets_end, specs_by_names}
use Rattle.flat_circuit.proofs.finish.nets.Goals as goal

pub spec_of-requires : goal.spec_of-requires
spec_of-requires c =
    let to = c.loop-entry.invariant.are in
    rw c.as_slice.ensures (specs_by_names c.args.assertions.now (net_entries c.into_iter-entry-iterator.result).names
    (length c.loop-entry.nets) c.loop-entry.nets to.names_are to.specs_are)

pub loop-entry-preserved : goal.loop-entry-preserved
loop-entry-preserved c =
    let es = c.into_iter-entry-iterator.result in
    let given = c.args.assertions.now in
    let same = ap net_entries c.into_iter-entry-iterator.ensures.into_iter_gives ∙ c.into_entries-entry-items.ensures in
    let long : length c.args.drivers.now ≡ length (net_entries es).names = c.requires ∙ sym (ap (λ (t : Nets). length t.names) same) in
    rw (c.in_ok-push.ensures.ok, c.len.ensures) (net_next es c.next.new.self c.loop-entry.entry-iterator given c.args.drivers.now c.loop-entry.nets _ c.in-Some.entry _
    long c.loop-entry.invariant c.in-Some.ensures.steps refl refl
    (c.in_ok-spec.ensures ∙ ap (spec_of given) c.as_slice-in-loop-entry.ensures) refl)

pub returns : goal.returns
returns c =
    let es = c.into_iter-entry-iterator.result in
    let same = ap net_entries c.into_iter-entry-iterator.ensures.into_iter_gives ∙ c.into_entries-entry-items.ensures in
    nets_end es c.args.table c.args.assertions.now c.args.drivers.now c.loop-entry.nets same c.requires
    (rw c.in-None.ensures.steps.0 at c.loop-entry.invariant)
