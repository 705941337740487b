use Rattle.std.proofs.Common.{◌≡◌, Bool, true, false, cond, List, [], ◌∷◌, ◌++◌, length, sym, ap, ◌∙◌}
use Rattle.step_values.specs.Steps.{is_quiet}
use Rattle.fixpoint_engine.specs.Waves.{waves_of}
use Rattle.fault_chain.specs.declared.chain.Link.{Link}
use Rattle.fault_chain.specs.declared.chain.End.TheVariants.{Level, Undriven}
use Rattle.fault_chain.specs.Chain.{chain_at, chain_from, chain_of, ending}
use Rattle.fault_chain.proofs.follow.chain_of.Goals as goal

pub returns-in-None-clause-is : goal.returns-in-None-clause-is
unfolding chain_of
returns-in-None-clause-is g c =
    (λ k. record { links = c.new.ensures k; end = Undriven }) ∙ ap (chain_at c.args.c.now (waves_of c.args.waves.now)) c.in-None.ensures.is

pub returns-then-quiet-clause-is : goal.returns-then-quiet-clause-is
unfolding chain_of
returns-then-quiet-clause-is g c =
    let link : Link = c.in-Some.link in
    let links = c.in_ok-push.ensures.ok ∙ ap (λ (before : List Link). before ++ link ∷ []) c.new-links.ensures in
    let quiet : is_quiet link.value ≡ true = sym c.quiet.ensures ∙ c.if-quiet.true in
    (λ k. record { links = links k; end = Level })
    ∙ sym (ap (λ (b : Bool). cond b (ending link Level) (chain_from c.args.c.now (waves_of c.args.waves.now) (length c.args.c.now.nets) [] link)) quiet)
    ∙ ap (chain_at c.args.c.now (waves_of c.args.waves.now)) c.in-Some.ensures.is

pub returns-clause-is : goal.returns-clause-is
unfolding chain_of
returns-clause-is g c =
    let link : Link = c.in-Some.link in
    let moves : is_quiet link.value ≡ false = sym c.quiet.ensures ∙ c.if-quiet.false in
    c.in_ok-chain.ensures.is
    ∙ sym (ap (λ (b : Bool). cond b (ending link Level) (chain_from c.args.c.now (waves_of c.args.waves.now) (length c.args.c.now.nets) [] link)) moves)
    ∙ ap (chain_at c.args.c.now (waves_of c.args.waves.now)) c.in-Some.ensures.is
