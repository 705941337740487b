use Rattle.assertion_syntax.proofs.Intervals.{spans_decided}
use Rattle.assertion_syntax.proofs.fitting.intervals_fit.Goals as goal

pub returns-in-Precision : goal.returns-in-Precision
returns-in-Precision c = rw c.in-Precision.is (spans_decided c.args.h.now c.in-Precision.clock.spans c.spans_fit.result c.spans_fit.ensures)

pub returns-in-Clock : goal.returns-in-Clock
returns-in-Clock c = rw c.in-Clock.is (spans_decided c.args.h.now c.in-Clock.clock.spans c.spans_fit-in-Clock.result c.spans_fit-in-Clock.ensures)

pub returns-in-Stable : goal.returns-in-Stable
returns-in-Stable c = rw c.in-Stable.is (spans_decided c.args.h.now c.in-Stable.spans c.spans_fit-in-Stable.result c.spans_fit-in-Stable.ensures)
