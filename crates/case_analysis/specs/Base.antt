-- The base: settled waves of rounds that know only the inputs at their start.
use Rattle.std.specs.Prelude.{◌≡◌, ℕ, ◌+◌, ◌*◌, None}
use Rattle.flat_circuit.specs.declared.net.Net.{Net}
use Rattle.flat_circuit.specs.Circuit.{Circuit}
use Rattle.flat_circuit.specs.Run.{Run, IsRun}
use Rattle.fixpoint_engine.specs.Waves.{Waves}
use Rattle.fixpoint_engine.specs.Interface.{MeetsInterface, PermitRun}
use Rattle.fixpoint_engine.specs.Rounds.{round}
use Rattle.fixpoint_engine.specs.Start.{base_start, is_driven}
use Rattle.fixpoint_engine.specs.Settled.{AreSettled}
use Rattle.fixpoint_engine.specs.Reach.{reach}

-- the waves of the base in each round
abbrev pub base_round : Circuit → ℕ → Waves
base_round c = round c (is_driven c) (base_start c)

-- The waves are those of the base, which settles at this round, and within the limit.
abbrev pub IsBase : Circuit → ℕ → ℕ → Waves → Type 0
IsBase c limit r ws = AreSettled c (is_driven c) (base_start c) limit r ws

-- Waves after so many rounds permit every run whose inputs keep their assertions, from so many
-- reaches on.
abbrev pub PermitInputs : Circuit → ℕ → Waves → Type 0
PermitInputs c rounds ws =
    (run : Run) → IsRun c run → MeetsInterface c run → PermitRun c run ws (rounds * reach c + 1)

-- nothing drives either net, and both assert the same
pub record AreAssertedAlike (m n : Net) : Type 0 where
  pub first : m.driver ≡ None
  pub second : n.driver ≡ None
  pub spec : m.spec ≡ n.spec
