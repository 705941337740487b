use Rattle.std.proofs.Common.{sym}
use Rattle.fixpoint_engine.proofs.Rows.{heard_net}
use Rattle.fixpoint_engine.proofs.hearers.heard.Goals as goal

pub returns-in-Net-clause-is : goal.returns-in-Net-clause-is
returns-in-Net-clause-is c net leads =
    heard_net c.args.classes.now c.args.kind c.args.place c.args.target c.first.result net c.in-Net.net c.in-Net.is (sym c.if-not-listens.ensures)
    c.first.ensures.first c.first.ensures.alike leads
