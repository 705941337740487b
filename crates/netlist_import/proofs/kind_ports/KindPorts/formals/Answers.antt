use Rattle.std.proofs.Common.{◌≡◌, ◌∙◌, ◌+◌, ◌++◌, ◌∷◌, [], ℕ, List, take, map, ap, sym, subst}
use Rattle.netlist_import.specs.declared.shapes.Formal.{Formal}
use Rattle.netlist_import.specs.KindPorts.{formal_in}
use Rattle.netlist_import.proofs.KeptPorts.{taken_more}
use Rattle.netlist_import.proofs.kind_ports.KindPorts.formals.Goals as goal

pub loop-place-preserved : goal.loop-place-preserved
loop-place-preserved c =
    let i = c.loop-place.place in
    let name = c.in-Some.name.now in
    let form = c.in-Some.form.now in
    let same : c.in_ok-of.field-0 ≡ name = c.in_ok-of.ensures.copied ∙ c.as_slice.ensures in
    let more : take (i + 1) c.args.self.now ≡ take i c.args.self.now
    ++ formal_in (name, form) ∷ [] =
    subst (λ (fs : List Formal). take (i + 1) fs ≡ take i fs ++ formal_in (name, form) ∷ [])
    c.self.view_is
    (taken_more formal_in c.self.inside.ports.entries i (name, form)
    (sym c.in-Some.ensures.entry)) in
    c.in_ok-push.ensures.ok
    ∙ ap (λ (fs : List Formal). fs ++ formal_in (c.in_ok-of.field-0, form) ∷ [])
    c.loop-place.invariant
    ∙ ap (λ (n : List ℕ). take i c.args.self.now ++ formal_in (n, form) ∷ []) same
    ∙ sym more
