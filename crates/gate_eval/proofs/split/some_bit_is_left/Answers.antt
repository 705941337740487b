use Rattle.gate_eval.proofs.SplitCovers.{some_bit}
use Rattle.gate_eval.proofs.split.some_bit_is_left.Goals as goal

pub returns : goal.returns
returns c = some_bit
