-- Rounds: from given waves, each of some nets takes what its driver makes of the waves of the round
-- before, all at once.
use Rattle.std.specs.Prelude.{◌≡◌, ◌≢◌, ℕ, zero, suc, ◌<◌, ◌≤◌, Bool, if◌then◌else◌, List, length, Option, Some, None}
use Rattle.step_values.specs.declared.value.Value.{Value}
use Rattle.skew_algebra.specs.Wave.{Wave}
use Rattle.flat_circuit.specs.declared.instance.Instance.{Instance}
use Rattle.flat_circuit.specs.Name.{net_at}
use Rattle.flat_circuit.specs.Circuit.{Circuit, driver}
use Rattle.fixpoint_engine.specs.Waves.{Waves}
use Rattle.fixpoint_engine.specs.Value.{instance_wave}

-- what an instance makes; if there is none, the wave stays as it was
abbrev pub wave_from : Circuit → Waves → Option Instance → Wave Value → Wave Value
wave_from c ws None old = old
wave_from c ws (Some j) old = instance_wave c ws j

-- a net's value, from the waves of all nets
abbrev pub evaluated : Circuit → Waves → ℕ → Wave Value
evaluated c ws i = wave_from c ws (driver c i) (ws i)

-- the round after: the active nets are evaluated, and the others stay as they were
unfoldable pub next : Circuit → (ℕ → Bool) → Waves → Waves
next c active ws i = if active i then evaluated c ws i else ws i

-- round r, from these waves at round 0
unfoldable pub round : Circuit → (ℕ → Bool) → Waves → ℕ → Waves
round c active start zero i = start i
round c active start (suc r) i = next c active (round c active start r) i

-- two rounds are equal
abbrev pub AreSame : Waves → Waves → Type 0
AreSame ws vs = (i : ℕ) → ws i ≡ vs i

-- The rounds settle: r is the first that the next one equals, and within the limit.
pub record SettlesAt (rounds : ℕ → Waves) (limit r : ℕ) : Type 0 where
  pub still : AreSame (rounds (suc r)) (rounds r)
  pub first : (s : ℕ) → s < r → ¬ AreSame (rounds (suc s)) (rounds s)
  pub within : r ≤ limit

-- of the nets in this order, the one at this place is the first whose waves differ
pub record DiffersFirst (order : List ℕ) (ws vs : Waves) (place : ℕ) : Type 0 where
  pub below : place < length order
  pub differs : ws (net_at order place) ≢ vs (net_at order place)
  pub same : (k : ℕ) → k < place → ws (net_at order k) ≡ vs (net_at order k)

-- No round up to the limit is as the next one, and at the limit this net is the first, in the order
-- of names, that still differs.
pub record IsUnsettled (order : List ℕ) (rounds : ℕ → Waves) (limit place : ℕ) : Type 0 where
  pub never : (r : ℕ) → r ≤ limit → ¬ AreSame (rounds (suc r)) (rounds r)
  pub first : DiffersFirst order (rounds limit) (rounds (suc limit)) place
