use Rattle.std.proofs.Common.{◌≡◌, ◌∙◌, ◌<◌, ◌≤◌, subst, length}
use Rattle.flat_circuit.specs.Instances.{readers_of}
use Rattle.flat_circuit.specs.Circuit.{Circuit}
use Rattle.flat_circuit.proofs.Driven.{get_is, get_none}
use Rattle.flat_circuit.proofs.Rows.{row_found, row_missing}
use Rattle.flat_circuit.proofs.circuit.Circuit.readers.Goals as goal

pub returns-in-Some : goal.returns-in-Some
returns-in-Some c =
    let i = c.self.inside in
    let l = rw c.deref.ensures.value at c.in-Some.ensures.lookup in
    let f = row_found i.instances i.readers.items (length i.nets) c.args.net c.in-Some.row.now c.self.invariant.1 (get_is i.readers.items c.args.net c.in-Some.row.now l.3.0 l.1) in
    subst (λ (x : Circuit). (c.args.net < length x.nets) × (c.as_slice.result.now ≡ readers_of x.instances c.args.net)) c.self.view_is (f.0, c.as_slice.ensures ∙ f.1)

pub returns-in-None : goal.returns-in-None
returns-in-None c =
    let i = c.self.inside in
    let l = rw c.deref.ensures.value at c.in-None.ensures.lookup in
    subst (λ (x : Circuit). length x.nets ≤ c.args.net) c.self.view_is
    (row_missing i.instances i.readers.items (length i.nets) c.args.net c.self.invariant.1
    (get_none i.readers.items c.args.net l.3))
