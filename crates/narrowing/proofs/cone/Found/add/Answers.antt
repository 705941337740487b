use Rattle.std.proofs.Common.{◌≡◌, sym, ap, arith, length}
use Rattle.fixpoint_engine.specs.Worklist.{Queue}
use Rattle.fixpoint_engine.proofs.Waiting.{add_net}
use Rattle.narrowing.proofs.cone.Found.add.Goals as goal

pub invariant_of-self-then-not-has : goal.invariant_of-self-then-not-has
invariant_of-self-then-not-has c =
    let long : length c.self.inside.marks ≡ length c.args.self.now.marks =
    ap (λ (q : Queue). length q.marks) c.self.view_is in
    add_net c.self.inside.nets.items c.push.new.self.items c.self.inside.marks c.add.new.self c.args.net
    c.in_ok-push.ensures.items c.add.ensures (omega (arith, long, c.requires))
    (sym c.if-not-has.ensures) c.self.invariant
