use Rattle.std.proofs.Common.{◌∙◌, Some, sym, ap}
use Rattle.std.proofs.lemmas.Result.{IfOk-weaker}
use Rattle.fixpoint_engine.specs.Table.{IsNumber, waves_at}
use Rattle.fixpoint_engine.specs.Waves.{waves_of}
use Rattle.fixpoint_engine.specs.Value.{instance_wave}
use Rattle.fixpoint_engine.proofs.Keys.{made_by_key, each_number}
use Rattle.fixpoint_engine.proofs.value.number_made.Goals as goal

pub key_of-requires-clause-each_net : goal.key_of-requires-clause-each_net
key_of-requires-clause-each_net g c = each_number c.args.c.now c.args.store.now c.args.numbers.now c.requires.fit

-- what was made before is what the instance makes
pub returns-in-Some-clause-is : goal.returns-in-Some-clause-is
returns-in-Some-clause-is g c =
    let ws = waves_of (waves_at c.args.store.now c.args.numbers.now) in
    c.in-Some.ensures ∙ ap Some (made_by_key c.args.c.now c.args.store.now ws c.args.instance.now c.in_ok-key.key c.in_ok-key.ensures)

pub remember-requires-clause-known : goal.remember-requires-clause-known
remember-requires-clause-known g c = c.in_ok-key.ensures.known

pub remember-requires-clause-made : goal.remember-requires-clause-made
remember-requires-clause-made g c =
    let ws = waves_of (waves_at c.args.store.now c.args.numbers.now) in
    c.in_ok-wave.ensures ∙ c.in_ok-made.ensures ∙ ap (λ now. instance_wave c.args.c.now (waves_of now) c.args.instance.now) (c.new-waves.ensures ∙ ap (λ table. waves_at table c.args.numbers.now) c.waves.ensures) ∙ sym (made_by_key c.args.c.now c.args.store.now ws c.args.instance.now c.in_ok-key.key c.in_ok-key.ensures)

pub returns-clause-is : goal.returns-clause-is
returns-clause-is g c =
    IfOk-weaker c.remember.result _ (IsNumber c.remember.new.self (instance_wave c.args.c.now (waves_of (waves_at c.args.store.now c.args.numbers.now)) c.args.instance.now))
    (λ n at. at ∙ ap Some (c.in_ok-wave.ensures ∙ c.in_ok-made.ensures ∙ ap (λ now. instance_wave c.args.c.now (waves_of now) c.args.instance.now) (c.new-waves.ensures ∙ ap (λ table. waves_at table c.args.numbers.now) c.waves.ensures))) c.remember.ensures.means
