use Rattle.std.proofs.Common.{refl, subst}
use Rattle.scald_base.specs.Time.{IsHeader}
use Rattle.trace_sim.specs.Choice.{choices_of}
use Rattle.trace_sim.specs.Simulated.{run_of}
use Rattle.trace_tool.proofs.Drawing.{drawn_run_is}
use Rattle.trace_tool.proofs.drawn.traced.Goals as goal

pub returns : goal.returns
returns c =
    let choice = c.in_ok-choice.choice in
    record {
      choice = choice;
      run = run_of c.args.ticks (choices_of choice) c.in_ok-bits.bits;
      is_run =
          drawn_run_is c.args.c.now c.args.values.now c.args.ticks c.args.seed choice c.in_ok-bits.bits c.known.ensures
          (subst IsHeader c.header.ensures c.known-2.ensures)
          c.requires c.in_ok-choice.ensures.is c.in_ok-choice.ensures.fits c.in_ok-bits.ensures;
      says = record { ticks = refl; delays = refl; wires = refl; bits = refl };
    }
