use Rattle.std.proofs.Common.{◌≡◌, sym, subst, ◌∙◌}
use Rattle.scald_base.specs.Time.{Header}
use Rattle.scald_base.specs.declared.assertion.AssertSpec.{AssertSpec}
use Rattle.narrowing.specs.Narrowed.{narrowed_net}
use Rattle.narrowing.proofs.SameLists.{at_some}
use Rattle.narrowing.proofs.Nets.{narrowed_net_at}
use Rattle.narrowing.proofs.same.is_narrowed_at.Goals as goal

pub returns-in-Some : goal.returns-in-Some
returns-in-Some c same =
    let b = c.args.b.now in
    let parts = c.args.parts.now in
    let one = c.in-Some-Some.one.now in
    let other = c.in-Some-Some.other.now in
    let found = at_some (λ (s : AssertSpec). s ≡ (narrowed_net c.header.result.now parts c.args.net other).spec) c.in-Some.is
    c.in_ok-spec_in.ensures in
    let own = subst (λ (h : Header). c.in-Some.spec ≡ (narrowed_net h parts c.args.net other).spec) c.header.ensures found in
    sym c.in-Some-Some.ensures
    ∙ narrowed_net_at b.header parts c.args.net b.nets one other c.in-Some.spec (sym c.in-Some-Some.ensures') own
    (c.is_same_net.ensures same)
