use Rattle.trace_tool.proofs.DumpLines as lines
use Rattle.trace_tool.proofs.dump_laws.commands_come_back.Goals as goal

pub returns : goal.returns
returns c = lines.commands_come_back
