use Rattle.std.proofs.Common.{◌≡◌, ◌∙◌, ◌++◌, ◌∷◌, [], ℕ, List, length, ap, sym, subst, arith}
use Rattle.netlist_import.specs.declared.kinds.Kind.{Kind}
use Rattle.netlist_import.specs.declared.kinds.Sort.{Sort}
use Rattle.netlist_import.specs.Sorts.{AreStarts, start_of}
use Rattle.netlist_import.proofs.Starts.{starts_noted, starts_push}
use Rattle.netlist_import.proofs.kinds.Kinds.add.Goals as goal

pub invariant_of-self-2 : goal.invariant_of-self-2
invariant_of-self-2 c =
    let kinds = c.self.inside.list.items in
    let old = c.self.inside.starts.entries in
    let new = c.add_start.new.starts.entries in
    let k = c.in_ok-kind_of.field-0 in
    let len = c.len.ensures in
    let many = c.self.inside.list.ok.0 in
    let count : c.len.result ≡ length kinds = omega arith in
    let same : (s : Sort) → start_of new (length kinds) s ≡ start_of old (length kinds) s =
    subst (λ (n : ℕ). (s : Sort) → start_of new n s ≡ start_of old n s) count
    c.in_ok-add_start.ensures.same in
    let pushed = starts_push kinds new c.sort_of.result k
    (c.sort_of.ensures.kind ∙ sym (ap (λ (x : Kind). x.kind) c.in_ok-kind_of.ensures))
    (c.sort_of.ensures.parameters
    ∙ sym (ap (λ (x : Kind). x.parameters) c.in_ok-kind_of.ensures))
    c.in_ok-add_start.ensures.known (starts_noted kinds old new same c.self.invariant) in
    subst (λ (ks : List Kind). AreStarts ks new) (sym c.in_ok-push.ensures.items) pushed
