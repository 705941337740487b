-- The nets that a search has found, in the order in which it found them.
use Rattle.std.specs.Prelude.{◌≡◌, ℕ, ◌<◌, ◌≤◌, Bool, length}
use Rattle.flat_circuit.specs.Name.{net_at}
use Rattle.fixpoint_engine.specs.Worklist.{Queue, Adds}

-- The nets of a set follow those that were found before.
pub record Extends (set : ℕ → Bool) (old new : Queue) : Type 0 where
  pub adds : Adds set old new
  pub longer : length old.nets ≤ length new.nets
  pub before : (k : ℕ) → k < length old.nets → net_at new.nets k ≡ net_at old.nets k
