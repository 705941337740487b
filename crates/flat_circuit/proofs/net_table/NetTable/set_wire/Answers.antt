use Rattle.std.proofs.Common.{◌≡◌, ◌∙◌, ◌<◌, ap, sym, subst, set, length, false, true, arith}
use Rattle.std.proofs.lemmas.List.{length-map}
use Rattle.flat_circuit.specs.Builder.{Nets, name_of_key}
use Rattle.flat_circuit.proofs.Tables.{Entry, names_set, wires_set, nets_set}
use Rattle.flat_circuit.proofs.net_table.NetTable.set_wire.Goals as goal
use Rattle.flat_circuit.proofs.net_table.NetTable.set_wire.Goals.{in-Some, in_default}

-- the net of a number below the count is there
none : (c : goal.Joined-get_index_mut) → (c.args.net < length c.self.inside.nets.entries → false ≡ true) → false ≡ true
none c f = f (let l = length-map c.self.inside.nets.entries (λ (p : Entry). name_of_key p.0) in let r =
    subst (λ (t : Nets). c.args.net < length t.names) (sym c.self.view_is) c.requires in omega arith)

pub invariant_of-self : goal.invariant_of-self
invariant_of-self c = elim c.match-get_index_mut.branch [
  | in-Some w ↦ rw w.self-inside-is (nets_set c.self.inside.nets.entries c.args.net c.args.wire c.self.invariant)
  | in_default w ↦ let f =
      none c w.in_default.ensures.found.1 in absurd (cc)
]

pub returns-clause-names : goal.returns-clause-names
returns-clause-names c = elim c.match-get_index_mut.branch [
  | in-Some w ↦ rw w.self-inside-is (names_set c.self.inside.nets.entries c.args.net c.args.wire ∙ ap (λ (t : Nets). t.names) c.self.view_is)
  | in_default w ↦ let f = none c w.in_default.ensures.found.1 in absurd (cc)
]

pub returns-clause-wires : goal.returns-clause-wires
returns-clause-wires c = elim c.match-get_index_mut.branch [
  | in-Some w ↦ rw w.self-inside-is (wires_set c.self.inside.nets.entries c.args.net c.args.wire
      ∙ ap (λ (t : Nets). set t.wires c.args.net c.args.wire) c.self.view_is)
  | in_default w ↦ let f =
      none c w.in_default.ensures.found.1 in absurd (cc)
]
