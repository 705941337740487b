use Rattle.scald_base.specs.declared.refusal.RefusalKind.TheVariants.{BadName}
use Rattle.drawing_grammar.specs.Names.{no_name, bad_name}
use Rattle.drawing_reader.specs.Sifted.{naming_of}
use Rattle.drawing_reader.proofs.Naming.{fault_stop}
use Rattle.drawing_reader.proofs.names.judge.Goals as goal

pub returns-in-Ok : goal.returns-in-Ok
returns-in-Ok c =
    fault_stop c.args.header.now (naming_of c.args.name.now) c.in-Some.kind c.refused.result c.refused.ensures (bad_name c.in-Ok.read c.in-Ok.ensures.found c.in-Some.ensures)

pub returns-in-Err-BadName : goal.returns-in-Err-BadName
returns-in-Err-BadName c =
    fault_stop c.args.header.now (naming_of c.args.name.now) BadName c.refused-in-Err-BadName.result
    c.refused-in-Err-BadName.ensures (no_name (c.in-Err-BadName.ensures.none c.in-Err-BadName.field-0-is))
