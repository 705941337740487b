use Rattle.std.proofs.Common.{◌∙◌, subst}
use Rattle.std.specs.Prelude.{IfSome}
use Rattle.fixpoint_engine.specs.Evaluation.{value_of}
use Rattle.fixpoint_engine.specs.Table.{IsNumber}
use Rattle.fixpoint_engine.proofs.Remembered.{found_if}
use Rattle.fixpoint_engine.proofs.evaluations.Evaluations.find.Goals as goal

pub returns : goal.returns
returns g c =
    subst (λ ws. IfSome c.copied.result (IsNumber ws (value_of g.K.Evaluated.reads g.K.Evaluated.makes ws c.args.key.now))) c.self.view_is
    (found_if g.K.Evaluated.reads g.K.Evaluated.makes c.self.inside.waves g.K.PartialEq.eq g.met.K.Evaluated.exact
    c.self.inside.made.entries c.args.key.now c.copied.result c.self.invariant (c.copied.ensures ∙ c.get.ensures.value))
