use Rattle.std.proofs.Common.{◌∙◌, ap, refl, subst, sym}
use Rattle.fixpoint_engine.specs.Table.{waves_at}
use Rattle.timing_analysis.specs.Settled.{IsBaseIn}
use Rattle.timing_analysis.proofs.Stored.{base_again}
use Rattle.timing_analysis.proofs.settled.SettledBase.shorten.Goals as goal

-- nothing was forgotten
pub returns-then-not-branch-clause-kept : goal.returns-then-not-branch-clause-kept
returns-then-not-branch-clause-kept g c circuit limit is =
    subst (λ table. IsBaseIn circuit limit c.args.self.now.base.rounds table c.args.self.now.base.numbers c.args.self.now.known)
    (sym c.is_long_in_all.ensures) is

pub returns-clause-kept : goal.returns-clause-kept
returns-clause-kept g c circuit limit is =
    base_again circuit limit c.args.self.now.base.rounds c.args.self.now.base.rounds c.args.self.now.store c.compact.new.self
    c.args.self.now.base.numbers c.in_ok-numbers.numbers c.args.self.now.known c.args.self.now.known refl refl c.in_ok-numbers.ensures.known
    (c.in_ok-numbers.ensures.same ∙ ap (waves_at c.is_long_in_all.new.self) c.as_slice-base.ensures
    ∙ ap (λ table. waves_at table c.args.self.now.base.numbers) c.is_long_in_all.ensures) is
