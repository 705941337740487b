use Rattle.std.proofs.Common.{◌∙◌, ap, subst, sym, take}
use Rattle.fixpoint_engine.specs.Table.{AreKnown, Grows, waves_at}
use Rattle.fixpoint_engine.proofs.Growing.{take_grows}
use Rattle.fixpoint_engine.proofs.evaluations.Evaluations.compact.Goals as goal

pub returns-clause-grows : goal.returns-clause-grows
returns-clause-grows g c =
    subst (λ now. Grows (take c.args.kept c.args.self.now) now) (sym c.self-2.view_is)
    (subst (λ old. Grows old c.take_in.new.self) c.cut.ensures c.in_ok-there.ensures.grows)

pub returns-clause-known : goal.returns-clause-known
returns-clause-known g c = subst (λ now. AreKnown now c.in_ok-there.there) (sym c.self-2.view_is) c.in_ok-there.ensures.known

pub returns-clause-same : goal.returns-clause-same
returns-clause-same g c =
    ap (λ now. waves_at now c.in_ok-there.there) c.self-2.view_is ∙ c.in_ok-there.ensures.same
    ∙ ap (waves_at c.renumbered.new.other) c.as_slice.ensures ∙ c.in_ok-places.ensures.same
    ∙ ap (λ t. waves_at t c.args.numbers.now) c.self.view_is

-- nothing was forgotten yet
pub returns-in_err-places-clause-grows : goal.returns-in_err-places-clause-grows
returns-in_err-places-clause-grows g c = take_grows c.args.kept c.args.self.now

pub returns-in_err-there-clause-grows : goal.returns-in_err-there-clause-grows
returns-in_err-there-clause-grows g c =
    subst (λ old. Grows old c.take_in.new.self) c.cut.ensures c.in_err-there.ensures.grows
