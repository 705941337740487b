-- Loops through listening pins. If there is none, rounds settle within as many rounds as there
-- are outputs.
use Rattle.std.specs.Prelude.{◌≡◌, ℕ, ◌==◌, true}
use Rattle.flat_circuit.specs.Circuit.{Circuit, driver}
use Rattle.flat_circuit.specs.Loop.{Reaches}
use Rattle.fixpoint_engine.specs.Work.{hears_in}

-- the driver of the net has a listening pin on the other net
abbrev pub Hears : Circuit → ℕ → ℕ → Type 0
Hears c from net = hears_in (λ i. i == from) (driver c net) ≡ true

-- no net is reached from itself through listening pins
abbrev pub HasNoLoop : Circuit → Type 0
HasNoLoop c = (net : ℕ) → ¬ Reaches (Hears c) net net
