-- Marks that are set one net after the other.
use Rattle.std.proofs.Common.{◌≡◌, ℕ, ◌<◌, ◌≤◌, Bool, false, List, length}
use Rattle.fixpoint_engine.specs.Settled.{marked_in}

-- of n marks, those below k are as a test says, and no other is set
pub record MarkedTo (test : ℕ → Bool) (n k : ℕ) (marks : List Bool) : Type 0 where
  pub long : length marks ≡ n
  pub below : (i : ℕ) → i < k → marked_in marks i ≡ test i
  pub above : (i : ℕ) → k ≤ i → marked_in marks i ≡ false
