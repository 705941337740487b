use Rattle.fault_decider.proofs.Ends.{concluded_done, concluded_no_run}
use Rattle.fault_decider.proofs.answer.ended_trace.Goals as goal

pub returns-then-is_traced : goal.returns-then-is_traced
returns-then-is_traced c version c' base i cases sought =
    concluded_done version c' base cases i c.args.answer c.whole-bytes.result c.whole-bytes.ensures
    c.if-is_traced.true sought

pub returns-else-is_traced : goal.returns-else-is_traced
returns-else-is_traced c version c' base i cases sought =
    concluded_no_run version c' base cases i c.args.answer c.whole-bytes.result
    c.whole-bytes.ensures c.if-is_traced.false sought
