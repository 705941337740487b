-- What it means that rounds have settled: the next round is the same, and the waves permit every
-- run that those at the start do.
use Rattle.std.specs.Prelude.{◌≡◌, ℕ, ◌+◌, ◌*◌, ◌≤◌, Bool, true, false, List, slice_index_or, is_some}
use Rattle.flat_circuit.specs.Circuit.{Circuit, driver_at}
use Rattle.flat_circuit.specs.Run.{Run, IsRun}
use Rattle.fixpoint_engine.specs.Waves.{Waves}
use Rattle.fixpoint_engine.specs.Interface.{PermitRun}
use Rattle.fixpoint_engine.specs.Rounds.{round, SettlesAt, AreSame}
use Rattle.fixpoint_engine.specs.Reach.{reach}

-- the nets of a set that is kept as a mark for each net
abbrev pub marked_in : List Bool → ℕ → Bool
marked_in marks i = slice_index_or marks i false

-- a set of driven nets, whatever room it has
abbrev pub FitActive : Circuit → List Bool → Type 0
FitActive c active = (i : ℕ) → marked_in active i ≡ true → is_some (driver_at c.nets i) ≡ true

-- the waves are those of the first round that the next one equals
pub record AreSettled (c : Circuit) (active : ℕ → Bool) (start : Waves) (limit r : ℕ)
    (settled : Waves) : Type 0 where
  pub settles : SettlesAt (round c active start) limit r
  pub waves : AreSame settled (round c active start r)

-- Each round needs `reach` ticks more until its waves permit a run.
abbrev pub KeepRuns : Circuit → Waves → ℕ → Waves → Type 0
KeepRuns c start r settled =
    (run : Run) (v : ℕ) → IsRun c run → 1 ≤ v → PermitRun c run start v →
    PermitRun c run settled (v + r * reach c)
