use Rattle.std.proofs.Common.{◌≡◌, ◌∙◌, ◌&&◌, ◌==◌, true, length, refl, map, ap, sym, Some, None}
use Rattle.std.specs.Prelude.{not}
use Rattle.std.specs.List.{list_any}
use Rattle.netlist_import.specs.KindPorts.{formal_in}
use Rattle.netlist_import.specs.Kinds.{differs, has_bits, is_same_way}
use Rattle.netlist_import.proofs.KeptPorts.{differs_at, form_differs, twice_not}
use Rattle.netlist_import.proofs.kind_ports.KindPorts.agrees.Goals as goal

pub returns-in-Some : goal.returns-in-Some
returns-in-Some c =
    let p = c.args.connection.now in
    let es = c.self.inside.ports.entries in
    let bits : has_bits p ≡ true = ap not (sym c.is_empty.ensures ∙ c.if-is_empty.false) in
    let found : list_any (differs p) (map formal_in es)
    ≡ form_differs p (Some c.in-Some.form.now) =
    differs_at p es c.self.invariant ∙ ap (form_differs p) (sym c.in-Some.ensures.value) in
    let f = c.in-Some.form.now in
    rw (← c.self.view_is, bits, found) (c.is_alike.ensures
    ∙ twice_not (is_same_way f.direction p.direction && f.width == length p.bits))

pub returns-in-None : goal.returns-in-None
returns-in-None c =
    let p = c.args.connection.now in
    let es = c.self.inside.ports.entries in
    let bits : has_bits p ≡ true = ap not (sym c.is_empty.ensures ∙ c.if-is_empty.false) in
    let found : list_any (differs p) (map formal_in es) ≡ form_differs p None =
    differs_at p es c.self.invariant ∙ ap (form_differs p) (sym c.in-None.ensures.value) in
    rw (← c.self.view_is, bits, found) refl
