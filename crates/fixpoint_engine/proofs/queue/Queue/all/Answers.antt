use Rattle.std.proofs.Common.{◌∙◌, ◌&&◌, Bool, sym, ap, arith, inl, inr}
use Rattle.std.proofs.lemmas.Bool.{cases_lt}
use Rattle.fixpoint_engine.specs.Members.{leads_in}
use Rattle.fixpoint_engine.proofs.Drivers.{active_past}
use Rattle.fixpoint_engine.proofs.queue.Queue.all.Goals as goal

pub returns-clause-are : goal.returns-clause-are
returns-clause-are c i =
    elim (cases_lt i c.loop-net.net) [
      | inl less ↦ c.loop-net.invariant.before i less
      | inr more ↦ c.loop-net.invariant.after i more ∙ sym (ap (λ (b : Bool). b && leads_in c.args.classes.now i)
          (active_past c.args.c.now c.args.active.now i c.requires (omega (arith, more, c.net_count-net-end.ensures, c.loop-net-test.false))))
    ]
