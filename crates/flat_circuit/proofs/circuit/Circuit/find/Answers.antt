use Rattle.std.proofs.Common.{◌≡◌, ◌<◌, ℕ, sym, subst, rules, length, get_or}
use Rattle.std.proofs.lemmas.Fn.{always_returns_same}
use Rattle.std.specs.declared.cmp.Ordering.TheVariants.{Equal}
use Rattle.flat_circuit.specs.Name.{Name, IsNumber, name_cmp, name_at}
use Rattle.flat_circuit.specs.Circuit.{Circuit, net_names}
use Rattle.flat_circuit.proofs.Names.{name_is, order_in, not_there, rises}
use Rattle.flat_circuit.proofs.circuit.Circuit.find.Goals as goal

pub returns-in-Ok : goal.returns-in-Ok
returns-in-Ok c =
    let ns = net_names c.self.inside.nets in
    let want : Name = record { text = c.args.name.now; bit = c.args.bit } in
    let p = c.in-Ok.ensures.position (λ i. name_cmp (name_at ns i) want) (always_returns_same _ _ _ (λ a r f' q. search rules)) in
    let v = c.index.result.now in
    let os = c.self.inside.order.items in
    let o = c.self.invariant.0.by_name in
    let e : v ≡ get_or os c.in-Ok.at v = search rules in
    let b : c.in-Ok.at < length os = rw c.deref.ensures.value at c.in-Ok.ensures.bound in
    let t : name_cmp (name_at ns v) want ≡ Equal = subst (λ z. name_cmp (name_at ns z) want ≡ Equal) (sym e) ((rw c.deref.ensures.value at p) v) in
    let l : v < length ns = subst (λ z. z < length ns) (sym e) (order_in ns os c.in-Ok.at v o b) in
    subst (λ (f : Circuit). IsNumber (net_names f.nets) want v) c.self.view_is (record { below = l; is = name_is (name_at ns v) want t })

pub returns-in-Err : goal.returns-in-Err
returns-in-Err c =
    let ns = net_names c.self.inside.nets in
    let want : Name = record { text = c.args.name.now; bit = c.args.bit } in
    let p = c.in-Err.ensures.position (λ i. name_cmp (name_at ns i) want) (always_returns_same _ _ _ (λ a r f' q. search rules)) in
    let u = p (rw c.deref.ensures.value (rises ns c.self.inside.order.items want c.self.invariant.0.by_name)) in
    subst (λ (f : Circuit). (i : ℕ) → ¬ (IsNumber (net_names f.nets) want i)) c.self.view_is (λ i n. not_there ns
    c.self.inside.order.items want c.in-Err.field-0 c.self.invariant.0.by_name (rw c.deref.ensures.value at u) i n.below n.is)
