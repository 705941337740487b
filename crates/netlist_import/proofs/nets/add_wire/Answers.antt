use Rattle.std.proofs.Common.{◌∙◌, eqb}
use Rattle.indexmap.proofs.CallerLemmas.{insert_entry-new}
use Rattle.netlist_import.proofs.nets.add_wire.Goals as goal

pub returns : goal.returns
returns c = c.in_ok-insert.ensures.entries
    ∙ insert_entry-new eqb c.args.map.now c.args.number c.args.wire c.requires
