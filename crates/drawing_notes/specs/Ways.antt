-- What leads to what in a circuit, and what comes over it in its cases.
use Rattle.std.specs.Prelude.{ℕ, Bool, List, Option}
use Rattle.flat_circuit.specs.Circuit.{Circuit}
use Rattle.fixpoint_engine.specs.Waves.{Waves}
use Rattle.timing_analysis.specs.Case.{Case}
use Rattle.drawing_notes.specs.declared.launched.Arrival.{Arrival}
use Rattle.drawing_notes.specs.Paths.{TellsArrivals, TellsLaunches, TellsLoops, is_looped}
use Rattle.drawing_notes.specs.Unmarked.{TellsClocks, TellsTimed}

-- which nets are on one loop, when storage is heard at each net, which clocks launch what reaches
-- it in a case, which nets clocks reach through gates alone, and which reach a clock pin so
pub record Ways : Type 0 where
  pub together : ℕ → ℕ → Bool
  pub arrival : ℕ → Option Arrival
  pub launched : Waves → ℕ → ℕ → Bool
  pub clocks : ℕ → Bool
  pub timed : ℕ → Bool

pub record AreWays (c : Circuit) (cases : List Case) (ways : Ways) : Type 0 where
  pub loops : TellsLoops c ways.together
  pub arrivals : TellsArrivals c (is_looped ways.together) cases ways.arrival
  pub launches : (ws : Waves) → TellsLaunches c (is_looped ways.together) ws (ways.launched ws)
  pub clocks : TellsClocks c ways.clocks
  pub timed : TellsTimed c ways.timed
