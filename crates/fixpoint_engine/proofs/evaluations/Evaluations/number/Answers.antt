use Rattle.fixpoint_engine.proofs.Remembered.{still_values}
use Rattle.fixpoint_engine.proofs.evaluations.Evaluations.number.Goals as goal

pub invariant_of-self-then-len-count : goal.invariant_of-self-then-len-count
invariant_of-self-then-len-count g c =
    still_values g.K.Evaluated.reads g.K.Evaluated.makes c.self.inside.waves c.number.new.self c.number.ensures.grows
    c.self.inside.made.entries c.self.invariant

pub invariant_of-self : goal.invariant_of-self
invariant_of-self g c =
    still_values g.K.Evaluated.reads g.K.Evaluated.makes c.self.inside.waves c.number.new.self c.number.ensures.grows
    c.self.inside.made.entries c.self.invariant
