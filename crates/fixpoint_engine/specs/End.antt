-- Why rounds gave no waves.
use Rattle.std.specs.Prelude.{◌≡◌, ℕ, ◌<◌, Bool, true, false, List, length, ⊤}
use Rattle.fixpoint_engine.specs.Waves.{Waves}
use Rattle.flat_circuit.specs.Name.{net_at}
use Rattle.fixpoint_engine.specs.declared.rounds.EngineEnd.{EngineEnd}
use Rattle.fixpoint_engine.specs.declared.rounds.EngineEnd.TheVariants.{Unsettled, NoMemory}
use Rattle.fixpoint_engine.specs.Rounds.{IsUnsettled}

-- Rounds end without rest at the limit, by a net that still differs there. Memory may run out at
-- any time.
abbrev pub EndsFor : List ℕ → (ℕ → Waves) → ℕ → EngineEnd → Type 0
EndsFor order rounds limit (Unsettled net round) =
    IsUnsettled order rounds limit net × (round ≡ limit)
EndsFor order rounds limit NoMemory = ⊤

-- the first place of an order whose net is of the set
pub record IsFirstIn (order : List ℕ) (set : ℕ → Bool) (place : ℕ) : Type 0 where
  pub below : place < length order
  pub is : set (net_at order place) ≡ true
  pub first : (k : ℕ) → k < place → set (net_at order k) ≡ false

-- the end that these changed nets are the cause of
abbrev pub EndsAt : List ℕ → (ℕ → Bool) → ℕ → EngineEnd → Type 0
EndsAt order set limit (Unsettled net round) = IsFirstIn order set net × (round ≡ limit)
EndsAt order set limit NoMemory = ⊤
