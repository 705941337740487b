use Rattle.std.proofs.Common.{subst}
use Rattle.std.specs.Prelude.{MatchOption, false, true, ◌≡◌}
use Rattle.flat_circuit.specs.Name.{IsNumber}
use Rattle.flat_circuit.specs.Builder.{Nets, has_name, name_of_key}
use Rattle.flat_circuit.proofs.Tables.{number_is}
use Rattle.flat_circuit.proofs.net_table.NetTable.number_of.Goals as goal

pub returns : goal.returns
returns c =
    let k = c.args.name.now in
    subst (λ (t : Nets). MatchOption c.get_index_of.result (has_name t.names (name_of_key k)
    ≡ false) (λ i. (has_name t.names (name_of_key k) ≡ true) × IsNumber t.names (name_of_key k) i)) c.self.view_is
    (number_is c.self.inside.nets.entries k c.get_index_of.result c.get_index_of.ensures.index)
