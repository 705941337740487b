use Rattle.trace_tool.proofs.DumpReading as reading
use Rattle.trace_tool.proofs.dump_laws.bits_come_back.Goals as goal

pub returns : goal.returns
returns c = reading.bits_come_back
