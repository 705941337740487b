use Rattle.std.proofs.Common.{◌∙◌, ◌+◌, map, take, ap, arith}
use Rattle.trace_sim.specs.Choice.{Bits, choices_of}
use Rattle.run_search.proofs.Cutting.{cut_is_run}
use Rattle.run_search.proofs.search.cut_at_break.Goals as goal

pub returns : goal.returns
returns c =
    cut_is_run c.args.c.now (choices_of c.args.choice.now) c.in_ok-bits.bits c.in_ok-bits-2.bits c.args.ticks (c.last-last.result + 1)
    c.in_ok-bits.ensures.is_run (omega arith)
    (c.in_ok-bits-2.ensures ∙ ap (λ (rows : Bits). map (take (c.last-last.result + 1)) rows) c.as_slice-2.ensures)
