use Rattle.std.proofs.Common.{sym, subst, take}
use Rattle.fixpoint_engine.specs.Table.{Grows}
use Rattle.fixpoint_engine.proofs.Growing.{take_grows}
use Rattle.fixpoint_engine.proofs.rounds.shortened.Goals as goal

-- nothing was forgotten
pub returns-in_err-is_long-clause-grows : goal.returns-in_err-is_long-clause-grows
returns-in_err-is_long-clause-grows g c =
    subst (Grows (take c.args.kept c.args.store.now)) (sym c.is_long.ensures) (take_grows c.args.kept c.args.store.now)

pub returns-then-not-branch-clause-grows : goal.returns-then-not-branch-clause-grows
returns-then-not-branch-clause-grows g c =
    subst (Grows (take c.args.kept c.args.store.now)) (sym c.is_long.ensures) (take_grows c.args.kept c.args.store.now)
