use Rattle.std.proofs.Common.{[], ◌∷◌, sym}
use Rattle.std.proofs.lemmas.Result.{on_ok_weaker}
use Rattle.scald_base.specs.Signal.{turned}
use Rattle.run_clauses.specs.declared.fact.Fact.TheVariants.{Pin}
use Rattle.run_clauses.specs.Forms.{said}
use Rattle.run_clauses.specs.World.{fact_holds}
use Rattle.run_clauses.proofs.Pushing.{added, differs, other_bit}
use Rattle.run_clauses.proofs.Worlds.{shows_constant, shows_net}
use Rattle.run_clauses.proofs.pins.explain_pin.Goals as goal

pub returns-in-Constant : goal.returns-in-Constant
returns-in-Constant c =
    let at = c.args.at in
    let pin = c.in-Some-get.pin.now in
    let shown = turned pin.inverted c.in-Constant.bit in
    on_ok_weaker c.push.result
    (λ e values x printed w is before.
    let bits = fact_holds c.args.c.now w in
    added bits c.args.formula.now c.push.new.self (said (Pin at.instance at.pin at.tick) shown ∷ [])
    (cc)
    (λ none.
    differs (bits (Pin at.instance at.pin at.tick)) shown
    (shows_constant c.args.c.now w is.cut.is_run at.instance c.in-Some.i.now (sym c.in-Some.ensures)
    at.pin pin
    c.in-Constant.bit at.tick (sym c.in-Some-get.ensures) c.in-Constant.is)
    (other_bit shown (bits (Pin at.instance at.pin at.tick)) none.0)) before)
    c.push.ensures

pub returns-in-Net : goal.returns-in-Net
returns-in-Net c =
    let at = c.args.at in
    on_ok_weaker c.add_shown.result
    (λ adds values x printed w is before.
    adds (fact_holds c.args.c.now w)
    (shows_net c.args.c.now w is.cut.is_run at.instance c.in-Some.i.now
    (sym c.in-Some.ensures) at.pin
    c.in-Some-get.pin.now c.in-Net.net at.tick (sym c.in-Some-get.ensures) c.in-Net.is) before)
    c.add_shown.ensures
