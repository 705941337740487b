use Rattle.std.proofs.Common.{subst, sym}
use Rattle.fixpoint_engine.specs.Evaluation.{AreValues}
use Rattle.fixpoint_engine.specs.Table.{Grows, IsNumber}
use Rattle.fixpoint_engine.proofs.Remembered.{more_values, made_value}
use Rattle.fixpoint_engine.proofs.evaluations.Evaluations.remember.Goals as goal

pub invariant_of-self : goal.invariant_of-self
invariant_of-self g c =
    subst (AreValues g.K.Evaluated.reads g.K.Evaluated.makes c.self.inside.waves) (sym c.in_err-insert.ensures.err) c.self.invariant

pub invariant_of-self-2 : goal.invariant_of-self-2
invariant_of-self-2 g c =
    let reads = g.K.Evaluated.reads in
    let makes = g.K.Evaluated.makes in
    let new = c.self.inside.waves in
    more_values reads makes new g.K.PartialEq.eq g.met.K.Evaluated.exact
    c.self.inside.made.entries c.insert.new.self.entries c.args.key c.in_ok-number.number c.in_ok-insert.ensures.entries
    c.self.invariant
    (made_value reads makes c.args.self.now new c.args.key c.in_ok-number.number c.args.wave
    (subst (λ table. Grows c.args.self.now table) (sym c.self.view_is) c.in_ok-number.ensures.grows) c.requires.known c.requires.made
    (subst (λ table. IsNumber table c.args.wave c.in_ok-number.number) (sym c.self.view_is) c.in_ok-number.ensures.means))
