use Rattle.std.proofs.Common.{Option, subst}
use Rattle.fixpoint_engine.specs.Waves.{waves_of}
use Rattle.slack_rows.specs.declared.parameter.Subject.{Subject}
use Rattle.slack_rows.specs.Exact.{AreOfKnown}
use Rattle.slack_rows.proofs.subject.slacks_at.Goals as goal

pub returns-in_ok-found-clause-are : goal.returns-in_ok-found-clause-are
returns-in_ok-found-clause-are g c exact own = λ k j is at. c.in_ok-found.ensures.are k j exact is at

pub returns-else-is_other-clause-are : goal.returns-else-is_other-clause-are
returns-else-is_other-clause-are g c exact own =
    subst (λ (o : Option Subject). AreOfKnown c.args.view.now.circuit.now (waves_of c.args.view.now.waves.now) o c.args.slacks)
    (c.is_other.ensures.known c.if-is_other.false) own
