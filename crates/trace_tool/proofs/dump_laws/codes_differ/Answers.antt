use Rattle.trace_tool.proofs.Codes as codes
use Rattle.trace_tool.proofs.dump_laws.codes_differ.Goals as goal

pub returns : goal.returns
returns c = codes.codes_differ
