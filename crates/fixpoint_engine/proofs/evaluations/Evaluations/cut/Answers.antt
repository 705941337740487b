use Rattle.std.proofs.Common.{sym, subst}
use Rattle.fixpoint_engine.specs.Evaluation.{AreValues}
use Rattle.fixpoint_engine.proofs.evaluations.Evaluations.cut.Goals as goal

pub invariant_of-self : goal.invariant_of-self
invariant_of-self g c =
    subst (AreValues g.K.Evaluated.reads g.K.Evaluated.makes c.cut.new.self) (sym c.truncate.ensures.entries) tt
