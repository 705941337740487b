use Rattle.fixpoint_engine.proofs.Rows.{HearersTo}
use Rattle.fixpoint_engine.proofs.hearers.Hearers.of.Given as goal

abbrev pub invariant-loop-net : goal.invariant-loop-net
invariant-loop-net l = HearersTo l.c l.classes l.rows.items l.net
