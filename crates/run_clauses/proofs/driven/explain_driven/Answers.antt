use Rattle.std.proofs.Common.{◌≡◌, ℕ, length, arith, rules, subst, sym}
use Rattle.std.proofs.lemmas.Result.{on_ok_weaker}
use Rattle.fixpoint_engine.proofs.Drivers.{makes_of}
use Rattle.flat_circuit.proofs.Numbered.{fits_of}
use Rattle.run_clauses.specs.declared.driven.Driven.{Driven}
use Rattle.run_clauses.specs.Meaning.{IsChange}
use Rattle.run_clauses.specs.World.{fact_holds}
use Rattle.run_clauses.proofs.Worlds.{is_change, is_gate, is_latch, is_register, is_split, output_of, spans_of}
use Rattle.run_clauses.proofs.driven.explain_driven.Goals as goal

pub returns-in-Some-two_of : goal.returns-in-Some-two_of
returns-in-Some-two_of c =
    let j = c.in-Some.i.now in
    let there = sym c.in-Some.ensures in
    let out = output_of c.args.c.now c.args.net c.args.driver j c.known.ensures there c.requires in
    let makes = makes_of c.args.c.now c.args.driver c.args.net j c.known.ensures there out in
    let two = sym c.in-Some-two_of.ensures in
    let fits = fits_of c.args.c.now c.args.driver j c.known.ensures there in
    on_ok_weaker c.add_split.result
    (λ adds values x printed w is before.
    adds (fact_holds c.args.c.now w)
    (is_split c.args.c.now w is.cut.is_run c.args.driver j there c.args.net out makes
    c.in-Some-two_of.split two (spans_of j.kind j.delay j.split c.in-Some-two_of.split fits.split
    two)
    c.args.tick (omega arith)) before)
    c.add_split.ensures

pub returns-in-Gate : goal.returns-in-Gate
returns-in-Gate c =
    let j = c.in-Some.i.now in
    let there = sym c.in-Some.ensures in
    let out = output_of c.args.c.now c.args.net c.args.driver j c.known.ensures there c.requires in
    let makes = makes_of c.args.c.now c.args.driver c.args.net j c.known.ensures there out in
    on_ok_weaker c.add_gate.result
    (λ adds values x printed w is before.
    adds (fact_holds c.args.c.now w)
    (is_gate c.args.c.now w is.cut.is_run c.args.driver j there c.args.net out makes
    (sym c.in-None.ensures) c.args.tick (omega arith) (sym c.in-Gate.ensures)) before)
    c.add_gate.ensures

pub returns-in-Ok : goal.returns-in-Ok
returns-in-Ok c =
    let j = c.in-Some.i.now in
    let there = sym c.in-Some.ensures in
    let out = output_of c.args.c.now c.args.net c.args.driver j c.known.ensures there c.requires in
    let makes = makes_of c.args.c.now c.args.driver c.args.net j c.known.ensures there out in
    let counted : c.in-Ok.pins ≡ length j.pins = search rules in
    let net : Driven = record {
      net = c.args.net;
      instance = c.args.driver;
      tick = c.args.tick;
      inverted = j.out_inverted;
    } in
    on_ok_weaker c.add_change.result
    (λ adds values x printed w is before.
    adds (fact_holds c.args.c.now w)
    (subst (λ (n : ℕ). IsChange net n j.delay (fact_holds c.args.c.now w)) (sym counted)
    (is_change c.args.c.now w is.cut.is_run c.args.driver j there c.args.net out makes
    (sym c.in-None.ensures) c.args.tick (omega arith) (sym c.in-Change.ensures))) before)
    c.add_change.ensures

pub returns-in-Register : goal.returns-in-Register
returns-in-Register c =
    let j = c.in-Some.i.now in
    let there = sym c.in-Some.ensures in
    let out = output_of c.args.c.now c.args.net c.args.driver j c.known.ensures there c.requires in
    let makes = makes_of c.args.c.now c.args.driver c.args.net j c.known.ensures there out in
    on_ok_weaker c.add_storage.result
    (λ adds values x printed w is before.
    adds (fact_holds c.args.c.now w)
    (is_register c.args.c.now w is.cut.is_run c.args.driver j there c.args.net out makes
    (sym c.in-None.ensures) c.args.tick (omega arith) c.in-Register.forced
    (sym c.in-Register.ensures)) before)
    c.add_storage.ensures

pub returns-in-Latch : goal.returns-in-Latch
returns-in-Latch c =
    let j = c.in-Some.i.now in
    let there = sym c.in-Some.ensures in
    let out = output_of c.args.c.now c.args.net c.args.driver j c.known.ensures there c.requires in
    let makes = makes_of c.args.c.now c.args.driver c.args.net j c.known.ensures there out in
    on_ok_weaker c.add_storage-in-Latch.result
    (λ adds values x printed w is before.
    adds (fact_holds c.args.c.now w)
    (is_latch c.args.c.now w is.cut.is_run c.args.driver j there c.args.net out makes
    (sym c.in-None.ensures) c.args.tick (omega arith) c.in-Latch.forced (sym c.in-Latch.ensures))
    before)
    c.add_storage-in-Latch.ensures
