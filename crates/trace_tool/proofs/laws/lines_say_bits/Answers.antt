use Rattle.trace_tool.proofs.OneText.{lines_say_bits as law}
use Rattle.trace_tool.proofs.laws.lines_say_bits.Goals as goal

pub returns : goal.returns
returns c = law
