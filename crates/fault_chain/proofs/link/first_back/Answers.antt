use Rattle.std.proofs.Common.{◌≡◌, ◌+◌, ◌-◌, sym, ap, ◌∙◌, arith, true}
use Rattle.scald_base.specs.Time.{period}
use Rattle.step_values.specs.declared.value.Value.{Value}
use Rattle.step_values.specs.Cell.{values}
use Rattle.skew_algebra.specs.Wave.{Wave, is_steady}
use Rattle.gate_eval.proofs.Found.{first_some_beyond}
use Rattle.fixpoint_engine.specs.Waves.{waves_of}
use Rattle.fault_chain.specs.Chain.{mover_back}
use Rattle.fault_chain.proofs.Looking.{first_from, some_here, steady_none}
use Rattle.fault_chain.proofs.link.first_back.Goals as goal

pub returns-then-is_steady-clause-is : goal.returns-then-is_steady-clause-is
returns-then-is_steady-clause-is g c =
    let long = c.requires.fit.each_slot c.args.net c.requires.exists in
    let least = c.known.ensures.shortest in
    let same = ap period c.header.ensures in
    let steady : is_steady values (waves_of c.args.waves.now c.args.net).cells ≡ true =
    sym (ap (λ (w : Wave Value). is_steady values w.cells) c.at.ensures) ∙ sym c.is_steady.ensures ∙ c.if-is_steady.true in
    sym (steady_none c.args.c.now (waves_of c.args.waves.now) c.args.net c.args.slot (record { min = c.args.least; max = c.args.greatest })
    (omega (arith, long, least, same)) steady)

pub returns-then-not-quiet-clause-is : goal.returns-then-not-quiet-clause-is
returns-then-not-quiet-clause-is g c =
    let bounds = c.requires.bounds in
    let after = c.loop-late.auto.late in
    let before = c.loop-late-test.true in
    sym (first_from (mover_back c.args.c.now (waves_of c.args.waves.now) c.args.net c.args.slot) (c.args.greatest - c.args.least + 1) c.args.least
    c.loop-late.late c.link_back-link.result c.loop-late.invariant after (omega (arith, bounds, after, before))
    (some_here c.args.c.now (waves_of c.args.waves.now) c.args.net c.args.slot c.loop-late.late c.link_back-link.result c.link_back-link.ensures
    (sym c.quiet.ensures ∙ c.if-not-quiet.true)))

pub returns-clause-is : goal.returns-clause-is
returns-clause-is g c =
    let bounds = c.requires.bounds in
    let past = c.loop-late-test.false in
    sym (first_some_beyond (mover_back c.args.c.now (waves_of c.args.waves.now) c.args.net c.args.slot) (c.args.greatest - c.args.least + 1) c.args.least
    (λ o above below. c.loop-late.invariant o above (omega (arith, below, bounds, past))))
