use Rattle.std.proofs.Common.{◌∙◌}
use Rattle.drawing_grammar.proofs.Signals.{named, unnamed}
use Rattle.drawing_reader.proofs.signal.signal.Goals as goal

pub returns-in-Ok-clause-is : goal.returns-in-Ok-clause-is
returns-in-Ok-clause-is c = named c.args.text.now c.unquoted.result.now c.in-Ok.name c.unquoted.ensures c.in-Ok.ensures.found

pub returns-in-Err-BadName-clause-is : goal.returns-in-Err-BadName-clause-is
returns-in-Err-BadName-clause-is c = c.blank.ensures ∙ unnamed c.args.text.now c.unquoted.result.now c.unquoted.ensures (c.in-Err-BadName.ensures.none c.in-Err-BadName.field-0-is)
