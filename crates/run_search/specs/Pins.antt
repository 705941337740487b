-- What pins show of bits, and which of their steps count.
use Rattle.std.specs.Prelude.{ℕ, ◌+◌, ◌<◌, ◌≤◌, List, slice_index_or}
use Rattle.scald_base.specs.Signal.{Signal}
use Rattle.element_kinds.specs.Equation.{nth_signal}
use Rattle.flat_circuit.specs.declared.instance.Instance.{Instance}
use Rattle.flat_circuit.specs.Run.{pin_signals}
use Rattle.trace_sim.specs.Choice.{Bits}
use Rattle.trace_sim.specs.Making.{seen}

-- what a pin of an instance shows
abbrev pub shown : Bits → Instance → List ℕ → ℕ → Signal
shown bits i wires pin = nth_signal (pin_signals (seen bits) i.pins wires) pin

-- The step of a pin at a tick lies in the run, and from a given tick on: its net has both bits, a
-- wire's delay before.
pub record Counts (wires : List ℕ) (pin from ticks t : ℕ) : Type 0 where
  pub after : from ≤ t
  pub begins : slice_index_or wires pin 0 + 1 ≤ t
  pub ends : t < ticks
