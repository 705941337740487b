use Rattle.std.proofs.Common.{◌-◌, arith, refl}
use Rattle.std.proofs.lemmas.Bool.{lt-ltb, ltb-true}
use Rattle.std.proofs.lemmas.Result.{on_ok_weaker}
use Rattle.run_clauses.specs.World.{fact_holds}
use Rattle.run_clauses.proofs.encode.explain.Goals as goal

pub returns-in-Lasts : goal.returns-in-Lasts
returns-in-Lasts c =
    on_ok_weaker c.add_lasts.result
    (λ adds x printed w is before.
    adds (fact_holds c.args.c.now w)
    (λ lasts.
    let below = ltb-true c.in-Lasts.tick w.run.ticks lasts in
    lt-ltb (c.in-Lasts.tick - 1) w.run.ticks (omega (arith, below))) before)
    c.add_lasts.ensures

pub returns-in-Pin : goal.returns-in-Pin
returns-in-Pin c =
    on_ok_weaker c.explain_pin.result
    (λ stay. stay c.args.values.now)
    c.explain_pin.ensures

pub returns-in-Step : goal.returns-in-Step
returns-in-Step c =
    on_ok_weaker c.explain_step.result
    (λ adds x printed w is before. adds (fact_holds c.args.c.now w) refl before)
    c.explain_step.ensures

pub returns-in-Own : goal.returns-in-Own
returns-in-Own c =
    on_ok_weaker c.explain_own.result
    (λ stay. stay c.args.values.now)
    c.explain_own.ensures

pub returns-in_default : goal.returns-in_default
returns-in_default c =
    on_ok_weaker c.explain_choice.result (λ stay. stay c.args.values.now) c.explain_choice.ensures
