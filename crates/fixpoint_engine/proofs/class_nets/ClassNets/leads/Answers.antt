use Rattle.fixpoint_engine.proofs.Members.{leads_found}
use Rattle.fixpoint_engine.proofs.class_nets.ClassNets.leads.Goals as goal

pub returns-in-Some : goal.returns-in-Some
returns-in-Some c =
    leads_found c.self.inside.classes.items c.args.self.now c.deref.result.now c.self.inside.before.items c.args.net c.in-Some.before.now c.is_none.result
    c.self.invariant.each_net c.self.invariant.before_is c.self.view_is c.deref.ensures.value c.in-Some.ensures.lookup.0 c.in-Some.ensures.lookup.1 c.is_none.ensures
