use Rattle.std.proofs.Common.{◌∙◌, ap, arith}
use Rattle.trace_sim.specs.Choice.{Bits}
use Rattle.trace_sim.specs.Simulated.{bit_of}
use Rattle.trace_sim.proofs.Made.{put_other}
use Rattle.trace_sim.proofs.Steps.{put_is}
use Rattle.trace_sim.proofs.levels.put.Goals as goal

pub returns-then-n-bits-clause-is : goal.returns-then-n-bits-clause-is
returns-then-n-bits-clause-is c = put_is c.args.bits.now c.args.net c.args.t c.args.bit c.index-bits-n.result c.put_in.new.row c.if-n-bits.true c.put_in.ensures

pub returns-then-n-bits-clause-before : goal.returns-then-n-bits-clause-before
returns-then-n-bits-clause-before c = λ n v l.
    ap (λ (x : Bits). bit_of x n v) (put_is c.args.bits.now c.args.net c.args.t c.args.bit c.index-bits-n.result c.put_in.new.row c.if-n-bits.true c.put_in.ensures)
    ∙ put_other c.args.bits.now c.args.net c.args.t n v c.args.bit (λ same now. omega arith)
