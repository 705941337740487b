use Rattle.fixpoint_engine.proofs.Rows.{row_added}
use Rattle.fixpoint_engine.proofs.hearers.add_at.Goals as goal

pub returns-clause-added : goal.returns-clause-added
returns-clause-added c =
    row_added c.args.rows.now.items c.args.first c.args.net c.index_mut.result.now c.push.new.self c.requires c.index_mut.ensures.value c.in_ok-push.ensures.ok
