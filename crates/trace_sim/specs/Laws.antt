-- What holds of runs that are made.
use Rattle.std.specs.Prelude.{◌≡◌, ℕ}
use Rattle.flat_circuit.specs.Circuit.{Circuit, IsCircuit}
use Rattle.trace_sim.specs.declared.choice.Choice.{Choice}
use Rattle.trace_sim.specs.Choice.{Bits, ChoiceFits}
use Rattle.trace_sim.specs.Simulated.{IsSimulated}

-- Each circuit has a run of each number of ticks for each choice of delays, inputs and start: the
-- start is the free bits at the ticks at which nothing is asked yet.
abbrev pub RunsExist : Type 0
RunsExist = (c : Circuit) (choice : Choice) (ticks : ℕ) → IsCircuit c → ChoiceFits c choice ticks →
    (bits : Bits) × IsSimulated c choice ticks bits

-- Each choice has one run: its bits are all fixed by the choice.
abbrev pub ChoicesHaveOneRun : Type 0
ChoicesHaveOneRun = (c : Circuit) (choice : Choice) (ticks : ℕ) (bits others : Bits) → IsCircuit c →
    ChoiceFits c choice ticks →
    IsSimulated c choice ticks bits → IsSimulated c choice ticks others → bits ≡ others
