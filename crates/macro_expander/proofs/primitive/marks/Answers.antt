use Rattle.std.proofs.Common.{◌≡◌, ◌∙◌, sym, rules}
use Rattle.std.specs.Prelude.{count_by}
use Rattle.drawing_tree.specs.declared.connection.Conn.{Conn}
use Rattle.drawing_tree.specs.Tree.{Connection, connection_of}
use Rattle.macro_expander.proofs.Lists.{count_by_map}
use Rattle.macro_expander.proofs.primitive.marks.Goals as goal

pub returns : goal.returns
returns c =
    let counted : c.count.result ≡ count_by (λ (x : Conn). x.hold) c.args.connections.now = search rules in
    counted ∙ sym (count_by_map (λ (x : Connection). x.hold) connection_of c.args.connections.now)
