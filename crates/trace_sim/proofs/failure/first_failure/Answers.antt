use Rattle.std.proofs.Common.{ℕ, Option, arith, length, subst}
use Rattle.std.specs.Prelude.{MatchOption}
use Rattle.std.proofs.lemmas.Grind.{common_steps, elements, moves}
use Rattle.trace_sim.specs.Choice.{choices_of}
use Rattle.trace_sim.specs.Failure.{AreFine, IsFirst}
use Rattle.trace_sim.proofs.Failing.{each_obeys, fails_first, fine_more}
use Rattle.trace_sim.proofs.failure.first_failure.Goals as goal

pub returns-in-Some : goal.returns-in-Some
returns-in-Some c =
    let circuit = c.args.c.now in
    let choices = choices_of c.args.choice.now in
    let bits = c.args.bits.now in
    fails_first circuit c.args.choice.now c.args.ticks bits c.loop-t.t c.in-Some.net c.known.ensures c.requires (omega (arith, c.loop-t-test.true))
    c.loop-t.invariant.fine
    (subst (λ (o : Option ℕ). MatchOption o (AreFine circuit choices bits c.loop-t.t (length circuit.instances)) (IsFirst circuit choices bits c.loop-t.t))
    c.in-Some.is c.in_ok-net.ensures)

pub loop-t-preserved : goal.loop-t-preserved
loop-t-preserved c =
    let circuit = c.args.c.now in
    let choices = choices_of c.args.choice.now in
    let bits = c.args.bits.now in
    record {
      long = first_of (grind (arith, common_steps), grind (arith, elements), grind (arith, moves));
      rows = first_of (grind (arith, common_steps), grind (arith, elements), grind (arith, moves));
      fine = fine_more circuit choices bits c.loop-t.t c.loop-t.invariant.fine
          (subst (λ (o : Option ℕ). MatchOption o (AreFine circuit choices bits c.loop-t.t (length circuit.instances)) (IsFirst circuit choices bits c.loop-t.t))
          c.in_default.is c.in_ok-net.ensures);
    }

pub returns : goal.returns
returns c =
    each_obeys c.args.c.now c.args.choice.now c.args.ticks c.args.bits.now c.loop-t.t c.known.ensures c.requires
    (omega (arith, c.loop-t-test.false)) c.loop-t.invariant.fine
