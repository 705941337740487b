use Rattle.std.proofs.Common.{refl}
use Rattle.std.proofs.lemmas.Result.{IfOk-weaker}
use Rattle.trace_sim.specs.Choice.{choices_of}
use Rattle.fault_decider.proofs.Judged.{run_shows}
use Rattle.fault_decider.proofs.showing.is_shown.Goals as goal

pub returns-then-is_in_case : goal.returns-then-is_in_case
returns-then-is_in_case c =
    IfOk-weaker c.is_break.result _ _
    (λ is broken h.
    run_shows c.args.c.now c.args.values.now c.args.x c.args.from c.args.choice.now c.args.ticks c.args.bits.now
    c.args.named c.requires.is_run (c.in-None.ensures (choices_of c.args.choice.now))
    (c.if-is_in_case.ensures (choices_of c.args.choice.now) refl) (broken h) c.requires.long)
    c.is_break.ensures
