-- A run as a trace, by the choice that it is made of and its bits.
use Rattle.std.specs.Prelude.{ℕ}
use Rattle.trace_sim.specs.declared.choice.Choice.{Choice}
use Rattle.trace_sim.specs.Choice.{Bits}
use Rattle.narrowing.specs.declared.named.Named.{Named}
use Rattle.fault_decider.specs.declared.showing.Showing.{Showing}

abbrev pub showing_of : Choice → ℕ → Bits → Named → Showing
showing_of choice ticks bits named =
    record {
      trace = record {
        ticks = ticks;
        delays = choice.delays;
        wires = choice.wires;
        bits = bits;
      };
      named = named;
    }
