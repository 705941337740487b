use Rattle.std.proofs.Common.{ap, length}
use Rattle.std.specs.Prelude.{◌==◌}
use Rattle.std.specs.List.{list_any}
use Rattle.std.proofs.lemmas.List.{drop_all}
use Rattle.fault_chain.specs.declared.chain.Link.{Link}
use Rattle.fault_chain.proofs.Following.{all_forgotten}
use Rattle.fault_chain.proofs.follow.forget.Goals as goal

pub returns : goal.returns
returns c =
    all_forgotten (length c.args.met.now) c.loop-link.met c.loop-link.invariant.long (λ i.
    c.loop-link.invariant.others i
    (ap (list_any (λ (one : Link). one.net == i)) (drop_all c.loop-link.link-index c.args.links.now c.loop-link-test.false)))
