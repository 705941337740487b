use Rattle.std.proofs.Common.{◌≡◌, ◌<◌, ◌≤◌, ◌∙◌, ℕ, List, length, get_or, set, sym, ap, subst, arith}
use Rattle.netlist_import.specs.declared.netlist.Port.{Port}
use Rattle.netlist_import.specs.declared.kinds.Kind.{Kind}
use Rattle.netlist_import.specs.declared.shapes.Formal.{Formal}
use Rattle.netlist_import.specs.Kinds.{joined, joins, with_cell, with_ports}
use Rattle.netlist_import.proofs.Joining.{with_here, with_new}
use Rattle.netlist_import.proofs.Starts.{starts_set}
use Rattle.netlist_import.proofs.kinds.Kinds.join.Goals as goal

pub invariant_of-self : goal.invariant_of-self
invariant_of-self c =
    starts_set c.self.inside.list.items c.self.inside.starts.entries c.place_of-place.result
    c.index_mut.result.now c.add_ports.new.ports c.index_mut.ensures.value c.self.invariant

pub invariant_of-self-in_err-add_ports : goal.invariant_of-self-in_err-add_ports
invariant_of-self-in_err-add_ports c =
    starts_set c.self.inside.list.items c.self.inside.starts.entries c.place_of-place.result
    c.index_mut.result.now c.add_ports.new.ports c.index_mut.ensures.value c.self.invariant

pub returns-in_ok-add_ports-clause-kinds : goal.returns-in_ok-add_ports-clause-kinds
returns-in_ok-add_ports-clause-kinds c =
    let kinds = c.self.inside.list.items in
    let cell = c.args.cell.now in
    let place = c.place_of-place.result in
    let k = c.index_mut.result.now in
    let at : place ≡ joins kinds cell =
    c.place_of-place.ensures.place ∙ ap (λ (ks : List Kind). joins ks cell)
    (sym c.self.view_is) in
    let here = c.if-place-len.true in
    let len = c.len.ensures in
    let many = c.self.inside.list.ok.0 in
    let below : joins kinds cell < length kinds = omega arith in
    let is : k ≡ get_or kinds (joins kinds cell) k =
    subst (λ (n : ℕ). k ≡ get_or kinds n k) at c.index_mut.ensures.value in
    ap (λ (ports : List Formal). set kinds place
    (record { kind = k.kind; parameters = k.parameters; ports = ports }))
    (c.in_ok-add_ports.ensures ∙ ap (λ (cs : List Port). with_ports k.ports cs)
    c.as_slice.ensures)
    ∙ ap (λ (n : ℕ). set kinds n (joined cell k)) at ∙ sym (with_here kinds cell k below is)
    ∙ ap (λ (ks : List Kind). with_cell ks cell) c.self.view_is

pub returns-in_ok-add-clause-kinds : goal.returns-in_ok-add-clause-kinds
returns-in_ok-add-clause-kinds c =
    let kinds = c.args.self.now in
    let cell = c.args.cell.now in
    let at = c.place_of-place.ensures.place in
    let here = c.if-place-len.false in
    let len = c.len.ensures in
    let many = c.self.inside.list.ok.0 in
    let same : length c.self.inside.list.items ≡ length kinds = ap length c.self.view_is in
    let past : length kinds ≤ joins kinds cell = omega arith in
    c.in_ok-add.ensures ∙ sym (with_new kinds cell past)
