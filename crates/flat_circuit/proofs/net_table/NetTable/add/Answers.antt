use Rattle.std.proofs.Common.{◌≡◌, ◌∙◌, ◌++◌, ◌∷◌, [], List, ap, sym, subst, map, false}
use Rattle.std.proofs.lemmas.List.{map_push}
use Rattle.flat_circuit.specs.Builder.{Nets, IsNets, net_entries, has_name, name_of_key}
use Rattle.flat_circuit.proofs.Tables.{Entry, names, entry_new, nets_new}
use Rattle.flat_circuit.proofs.net_table.NetTable.add.Goals as goal

pub invariant_of-self-2 : goal.invariant_of-self-2
invariant_of-self-2 c =
    let es = c.self.inside.nets.entries in
    let n : has_name (names es) (name_of_key c.args.name) ≡ false = subst (λ (t : Nets). has_name t.names (name_of_key c.args.name) ≡ false) (sym c.self.view_is) c.requires in
    subst (λ (x : List Entry). IsNets (net_entries x)) (sym (c.in_ok-insert.ensures.entries ∙ entry_new es c.args.name c.args.wire n)) (nets_new es c.args.name c.args.wire c.self.invariant n)

pub returns-clause-names : goal.returns-clause-names
returns-clause-names c =
    let es = c.self.inside.nets.entries in
    let n : has_name (names es) (name_of_key c.args.name) ≡ false = subst (λ (t : Nets). has_name t.names (name_of_key c.args.name) ≡ false) (sym c.self.view_is) c.requires in
    ap names (c.in_ok-insert.ensures.entries ∙ entry_new es c.args.name c.args.wire n) ∙ map_push (λ (p : Entry). name_of_key p.0)
    es (c.args.name, c.args.wire) ∙ ap (λ (t : Nets). t.names ++ name_of_key c.args.name ∷ []) c.self.view_is

pub returns-clause-wires : goal.returns-clause-wires
returns-clause-wires c =
    let es = c.self.inside.nets.entries in
    let n : has_name (names es) (name_of_key c.args.name) ≡ false = subst (λ (t : Nets). has_name t.names (name_of_key c.args.name) ≡ false) (sym c.self.view_is) c.requires in
    ap (map (λ (p : Entry). p.1)) (c.in_ok-insert.ensures.entries ∙ entry_new es c.args.name c.args.wire n)
    ∙ map_push (λ (p : Entry). p.1) es (c.args.name, c.args.wire) ∙ ap (λ (t : Nets). t.wires ++ c.args.wire ∷ []) c.self.view_is
