use Rattle.std.proofs.Common.{◌≡◌, ◌∙◌, ◌++◌, ◌∷◌, [], ℕ, List, true, false, length, refl, map, ap, sym, None}
use Rattle.std.specs.Prelude.{not}
use Rattle.std.specs.List.{list_any}
use Rattle.std.specs.Map.{lookup}
use Rattle.std.specs.Str.{bytes_eq}
use Rattle.indexmap.proofs.CallerLemmas.{insert_entry-new}
use Rattle.netlist_import.specs.declared.kind_ports.PortForm.{PortForm}
use Rattle.netlist_import.specs.declared.shapes.Formal.{Formal}
use Rattle.netlist_import.specs.KindPorts.{formal_in}
use Rattle.netlist_import.specs.Kinds.{formal_of, has_bits, is_named}
use Rattle.netlist_import.proofs.KeptPorts.{named_at, none_there}
use Rattle.netlist_import.proofs.Named.{mapped_more}
use Rattle.netlist_import.proofs.kind_ports.KindPorts.add.Goals as goal

pub returns-then-contains_key : goal.returns-then-contains_key
returns-then-contains_key c =
    let p = c.args.connection.now in
    let bits : has_bits p ≡ true = ap not (sym c.is_empty.ensures ∙ c.if-is_empty.false) in
    let named : list_any (is_named p.name) c.args.self.now ≡ true =
    ap (list_any (is_named p.name)) (sym c.self.view_is)
    ∙ named_at p.name c.self.inside.ports.entries
    ∙ sym c.contains_key.ensures ∙ c.if-contains_key.true in
    rw (bits, named) refl

pub returns : goal.returns
returns c =
    let p = c.args.connection.now in
    let es = c.self.inside.ports.entries in
    let name = c.in_ok-name.name in
    let form : PortForm = record { direction = p.direction; width = c.len.result } in
    let bits : has_bits p ≡ true = ap not (sym c.is_empty.ensures ∙ c.if-is_empty.false) in
    let named : list_any (is_named p.name) c.args.self.now ≡ false =
    ap (list_any (is_named p.name)) (sym c.self.view_is) ∙ named_at p.name es
    ∙ sym c.contains_key.ensures ∙ c.if-contains_key.false in
    let same : name ≡ p.name = c.in_ok-name.ensures.copied ∙ c.as_slice.ensures in
    let none : lookup (bytes_eq name) es ≡ None =
    ap (λ (n : List ℕ). lookup (bytes_eq n) es) same
    ∙ none_there (lookup (bytes_eq p.name) es)
    (sym c.contains_key.ensures ∙ c.if-contains_key.false) in
    let entries : c.insert.new.self.entries ≡ es ++ (name, form) ∷ [] =
    c.in_ok-insert.ensures.entries
    ∙ insert_entry-new bytes_eq c.self.inside.ports name form none in
    let one : formal_in (name, form) ≡ formal_of p =
    ap (λ (n : List ℕ). formal_in (n, form)) same
    ∙ ap (λ (w : ℕ). formal_in (p.name, record { direction = p.direction; width = w }))
    c.len.ensures in
    rw (bits, named) (ap (map formal_in) entries ∙ mapped_more formal_in es (name, form)
    ∙ ap (λ (fs : List Formal). fs ++ formal_in (name, form) ∷ []) c.self.view_is
    ∙ ap (λ (f : Formal). c.args.self.now ++ f ∷ []) one)
