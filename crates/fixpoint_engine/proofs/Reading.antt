-- The waves of a list of numbers, read one by one.
use Rattle.std.proofs.Common.{◌≡◌, ℕ, zero, suc, ◌<◌, List, [], ◌∷◌, length, get_or, sym, arith}
use Rattle.std.proofs.lemmas.Option.{get_or_from_slice_get}
use Rattle.step_values.specs.declared.value.Value.{Value}
use Rattle.skew_algebra.specs.Wave.{Wave, skewed}
use Rattle.fixpoint_engine.specs.Table.{AreKnown, IsNumber, waves_at}

-- the number of each is known
pub known_read : (table : List (Wave Value)) (ns : List ℕ) (i d : ℕ) → AreKnown table ns → i < length (waves_at table ns) → get_or ns i d < length table
known_read table [] i d known below = absurd (omega arith)
known_read table (n ∷ ns) zero d known below = known.0
known_read table (n ∷ ns) (suc i) d known below = known_read table ns i d known.1 (omega (arith, below))

-- and what the table has by it is the wave of the list
pub wave_read : (table : List (Wave Value)) (ns : List ℕ) (i d : ℕ) (w : Wave Value) → i < length (waves_at table ns) → IsNumber table w (get_or ns i d) →
    w ≡ get_or (waves_at table ns) i (skewed [] 0)
wave_read table [] i d w below at = absurd (omega arith)
wave_read table (n ∷ ns) zero d w below at = sym (get_or_from_slice_get table n w (skewed [] 0) at)
wave_read table (n ∷ ns) (suc i) d w below at = wave_read table ns i d w (omega (arith, below)) at
