use Rattle.assertion_syntax.specs.Slots.{steps}
use Rattle.assertion_syntax.proofs.Near.{NoneNear}
use Rattle.assertion_syntax.proofs.fitting.are_near.Given as goal

abbrev pub invariant-ticks : goal.invariant-ticks
invariant-ticks l = NoneNear (steps l.clock l.h) l.reach l.last l.tick
