-- What the cases so far show: exactly what the notes ask of them.
use Rattle.std.specs.Prelude.{◌≡◌, ℕ, ◌*◌, ◌+◌, ◌<◌, Bool, true, false, List, [], length}
use Rattle.flat_circuit.specs.Circuit.{Circuit}
use Rattle.flat_circuit.specs.Node.{Feeds}
use Rattle.flat_circuit.specs.Sorted.{IsSorted}
use Rattle.fixpoint_engine.specs.Settled.{marked_in}
use Rattle.fixpoint_engine.specs.Waves.{Waves}
use Rattle.timing_analysis.specs.Case.{Case}
use Rattle.drawing_notes.specs.declared.cases.SoFar.{SoFar}
use Rattle.drawing_notes.specs.declared.case_gates.CaseGates.{CaseGates}
use Rattle.drawing_notes.specs.declared.case_paths.CasePaths.{CasePaths}
use Rattle.drawing_notes.specs.Arrivals.{AreUpTo, arrival_at}
use Rattle.drawing_notes.specs.Common.{common_ticks, skew_at}
use Rattle.drawing_omissions.specs.Lines.{Adds}
use Rattle.drawing_notes.specs.Parts.{AreInside, together}
use Rattle.drawing_notes.specs.Paths.{TellsArrivals, TellsLaunches, TellsLoops, is_looped, leads}
use Rattle.drawing_notes.specs.Unclocked.{AreActs}
use Rattle.drawing_notes.specs.Unknown.{unknown}
use Rattle.drawing_notes.specs.Unmarked.{AreFirst, TellsClocks, TellsTimed}
use Rattle.drawing_notes.specs.Ways.{Ways}

-- an order of the nets in which each of no loop follows those of no loop that lead to it
pub record IsOrder (c : Circuit) (looped : ℕ → Bool) (order : List ℕ) : Type 0 where
  pub feeders : ℕ → List ℕ
  pub sorted : IsSorted feeders (length c.nets) order
  pub feeds : (from net : ℕ) → leads c from net ≡ true → looped from ≡ false →
      looped net ≡ false → Feeds feeders from net

abbrev pub looped_in : CasePaths → ℕ → Bool
looped_in paths = is_looped (together paths.parts.items)

-- the ticks of each checker
abbrev pub AreTicks : Circuit → (ℕ → Bool) → List Case → List ℕ → Type 0
AreTicks c looped cases ticks =
    (launched : Waves → ℕ → ℕ → Bool) →
    ((ws : Waves) → TellsLaunches c looped ws (launched ws)) →
    (k : ℕ) → k < length c.instances → skew_at ticks k ≡ common_ticks c launched cases k

-- the loops, and what comes over paths past them
pub record HoldPaths (c : Circuit) (cases : List Case) (paths : CasePaths) : Type 0 where
  pub each_part : length paths.parts.items ≡ length c.nets
  pub inside : AreInside (length c.nets) paths.parts.items
  pub loops : TellsLoops c (together paths.parts.items)
  pub order : IsOrder c (looped_in paths) paths.order.items
  pub each_net : length paths.latest.items ≡ length c.nets
  pub arrivals : TellsArrivals c (looped_in paths) cases (arrival_at paths.latest.items)
  pub small : AreUpTo (131070 * length c.nets) paths.latest.items
  pub each_instance : length paths.ticks.items ≡ length c.instances
  pub ticks : AreTicks c (looped_in paths) cases paths.ticks.items

-- what clocks reach, and what changes beside them
pub record HoldGates (c : Circuit) (cases : List Case) (gates : CaseGates) : Type 0 where
  pub clocks : TellsClocks c (marked_in gates.clocks)
  pub timed : TellsTimed c (marked_in gates.timed)
  pub each_instance : length gates.firsts.items ≡ length c.instances
  pub firsts : AreFirst c (marked_in gates.clocks) (marked_in gates.timed) cases gates.firsts.items

pub record HoldsOf (so_far : SoFar) (c : Circuit) (cases : List Case) : Type 0 where
  pub each_instance : length so_far.acts.items ≡ length c.instances
  pub acts : AreActs c cases so_far.acts.items
  pub unknown_notes : Adds (record { bytes = []; count = 0 }) so_far.unknown (unknown c cases)
  pub gates : HoldGates c cases so_far.gates
  pub paths : HoldPaths c cases so_far.paths

-- ---- what leads to what by it

abbrev pub ways_of : SoFar → (Waves → ℕ → ℕ → Bool) → Ways
ways_of so_far launched = record {
  together = together so_far.paths.parts.items;
  arrival = arrival_at so_far.paths.latest.items;
  launched = launched;
  clocks = marked_in so_far.gates.clocks;
  timed = marked_in so_far.gates.timed;
}

abbrev pub AreLaunches : SoFar → Circuit → (Waves → ℕ → ℕ → Bool) → Type 0
AreLaunches so_far c launched =
    (ws : Waves) → TellsLaunches c (looped_in so_far.paths) ws (launched ws)
