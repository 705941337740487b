use Rattle.std.proofs.Common.{◌≡◌, ℕ, ◌+◌, ◌-◌, false, List, [], length, subst, sym, ap, ◌∙◌, arith}
use Rattle.std.proofs.lemmas.List.{length-replicate}
use Rattle.fixpoint_engine.specs.Waves.{Waves, waves_of}
use Rattle.fixpoint_engine.proofs.Drivers.{driver_fits}
use Rattle.fault_chain.specs.declared.chain.Link.{Link}
use Rattle.fault_chain.specs.declared.chain.End.TheVariants.{Repeat, Undriven, Both}
use Rattle.fault_chain.proofs.Following.{IsFollowed, ends_both, ends_met, ends_undriven, followed_more, followed_start, one_more}
use Rattle.fault_chain.proofs.follow.followed.Goals as goal

pub loop-passed-init : goal.loop-passed-init
loop-passed-init g c =
    let ws : Waves = waves_of c.args.waves.now in
    let nets : ℕ = length c.args.c.now.nets in
    let all : nets ≡ nets - 0 = omega arith in
    subst (λ (links : List Link). IsFollowed c.args.c.now ws c.args.first links c.args.first c.args.met.now (nets - 0)) (sym c.new-links.ensures)
    (subst (λ (left : ℕ). IsFollowed c.args.c.now ws c.args.first [] c.args.first c.args.met.now left) all
    (followed_start c.args.c.now ws c.args.first c.args.met.now c.requires.net c.requires.met (ap length c.requires.met ∙ length-replicate nets false)))

pub returns-then-has-clause-is : goal.returns-then-has-clause-is
returns-then-has-clause-is g c =
    let ws : Waves = waves_of c.args.waves.now in
    let p = c.loop-passed in
    (λ k. record { links = c.in_ok-push.ensures.ok k; end = Repeat })
    ∙ sym (ends_met c.args.c.now ws c.args.first p.links p.link p.met (length c.args.c.now.nets - (p.passed + 1))
    (one_more c.args.c.now ws c.args.first p.links p.link p.met p.passed _ c.net_count-passed-end.ensures c.loop-passed-test.true p.invariant)
    (sym c.has.ensures ∙ c.if-has.true))

pub returns-in-None-clause-is : goal.returns-in-None-clause-is
returns-in-None-clause-is g c =
    let ws : Waves = waves_of c.args.waves.now in
    let p = c.loop-passed in
    (λ k. record { links = c.in_ok-push.ensures.ok k; end = Undriven })
    ∙ sym (ends_undriven c.args.c.now ws c.args.first p.links p.link p.met (length c.args.c.now.nets - (p.passed + 1))
    (one_more c.args.c.now ws c.args.first p.links p.link p.met p.passed _ c.net_count-passed-end.ensures c.loop-passed-test.true p.invariant)
    (sym c.has.ensures ∙ c.if-has.false) (sym c.in-None.ensures))

pub next_link-requires-clause-fits : goal.next_link-requires-clause-fits
next_link-requires-clause-fits g c = driver_fits c.args.c.now c.loop-passed.link.net c.in-Some.element.now c.known.ensures (sym c.in-Some.ensures)

pub returns-in-None-next_link-clause-is : goal.returns-in-None-next_link-clause-is
returns-in-None-next_link-clause-is g c =
    let ws : Waves = waves_of c.args.waves.now in
    let p = c.loop-passed in
    (λ k. record { links = c.in_ok-push.ensures.ok k; end = Both })
    ∙ sym (ends_both c.args.c.now ws c.args.first p.links p.link p.met (length c.args.c.now.nets - (p.passed + 1))
    (one_more c.args.c.now ws c.args.first p.links p.link p.met p.passed _ c.net_count-passed-end.ensures c.loop-passed-test.true p.invariant)
    c.in-Some.element.now (sym c.has.ensures ∙ c.if-has.false) (sym c.in-Some.ensures) (sym c.in-None-next_link.ensures.is))

pub loop-passed-preserved : goal.loop-passed-preserved
loop-passed-preserved g c =
    let ws : Waves = waves_of c.args.waves.now in
    let p = c.loop-passed in
    followed_more c.args.c.now ws c.args.first p.links p.link p.met (length c.args.c.now.nets - (p.passed + 1))
    c.in-Some.element.now c.in-Some-next_link.next c.push.new.self c.add.new.self
    (one_more c.args.c.now ws c.args.first p.links p.link p.met p.passed _ c.net_count-passed-end.ensures c.loop-passed-test.true p.invariant)
    (sym c.has.ensures ∙ c.if-has.false) (sym c.in-Some.ensures) (sym c.in-Some-next_link.ensures.is)
    c.in-Some-next_link.ensures.net c.in_ok-push.ensures.ok c.add.ensures
