use Rattle.trace_tool.proofs.DumpCutting.{stretches_are}
use Rattle.trace_tool.proofs.dump_laws.variables_are_stretches.Goals as goal

pub returns : goal.returns
returns c = stretches_are
