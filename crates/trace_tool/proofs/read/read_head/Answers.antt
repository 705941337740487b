use Rattle.std.proofs.Common.{◌++◌, [], decimal}
use Rattle.trace_tool.proofs.Heads.{head_read}
use Rattle.trace_tool.proofs.read.read_head.Goals as goal

pub returns-in-None : goal.returns-in-None
returns-in-None c = λ n some few is. c.in-None.ensures (decimal n ++ []) is

pub returns-in-Some : goal.returns-in-Some
returns-in-Some c =
    head_read c.args.extent c.args.line.now c.in-Some.digits.now c.ticks_in.result c.in-Some.ensures c.ticks_in.ensures
