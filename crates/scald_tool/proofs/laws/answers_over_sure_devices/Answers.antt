use Rattle.std.proofs.Common.{refl, None}
use Rattle.program_call.specs.Program.{by_source}
use Rattle.scald_tool.proofs.Finishing.{finished_or_not, calm}
use Rattle.scald_tool.proofs.laws.answers_over_sure_devices.Goals as goal

pub returns-clause-whole : goal.returns-clause-whole
returns-clause-whole c = c.tool_main.ensures.call.whole c.args.source.now (by_source refl) (λ reads. calm) calm

pub returns-clause-finished : goal.returns-clause-finished
returns-clause-finished c asks =
    finished_or_not c.args.words.now c.args.source.now _ None None (c.tool_main.ensures.call.whole c.args.source.now (by_source refl) (λ reads. calm) calm) asks
