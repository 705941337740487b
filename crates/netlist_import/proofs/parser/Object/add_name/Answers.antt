use Rattle.std.proofs.Common.{◌≡◌, ◌∙◌, map, sym, is_some, false, rules}
use Rattle.netlist_import.specs.Placed.{member_of}
use Rattle.netlist_import.proofs.Texts.{new_name, old_name}
use Rattle.netlist_import.proofs.parser.Object.add_name.Goals as goal

pub returns-then-is_new : goal.returns-then-is_new
returns-then-is_new c =
    let o = c.args.self.now in
    let none : is_some o.next ≡ false = search rules in
    rw c.if-is_new.true (new_name o.token o.names.keys (map member_of o.members.items) o.next
    c.args.name c.insert_full.new.self.keys none (sym c.if-is_new.true ∙ c.in-Ok.ensures.added)
    c.in-Ok.ensures.keys)

pub returns-else-is_new : goal.returns-else-is_new
returns-else-is_new c =
    let o = c.args.self.now in
    let none : is_some o.next ≡ false = search rules in
    rw c.if-is_new.false (old_name o.token o.names.keys (map member_of o.members.items) o.next
    c.args.name none (sym c.if-is_new.false ∙ c.in-Ok.ensures.added))
