-- Tables of waves: lists that only grow, with each wave once; and numbers that stand for waves.
use Rattle.std.specs.Prelude.{◌≡◌, ℕ, ◌<◌, List, [], ◌++◌, length, map, slice_get, slice_index_or, Some}
use Rattle.std.specs.List.{AllByRecursion}
use Rattle.step_values.specs.declared.value.Value.{Value}
use Rattle.skew_algebra.specs.Wave.{Wave, skewed}

-- the new list is the old one with some more after it
abbrev pub Grows : {T : Type 0} → List T → List T → Type 0
Grows {T} old new = (more : List T) × (new ≡ old ++ more)

-- the number of a wave
abbrev pub IsNumber : List (Wave Value) → Wave Value → ℕ → Type 0
IsNumber table w n = slice_get table n ≡ Some w

-- each wave has one number at most
abbrev pub AreDistinct : List (Wave Value) → Type 0
AreDistinct table = (i j : ℕ) (w : Wave Value) → IsNumber table w i → IsNumber table w j → i ≡ j

-- these are numbers of waves
abbrev pub AreKnown : List (Wave Value) → List ℕ → Type 0
AreKnown table numbers = AllByRecursion (λ n. n < length table) numbers

-- the wave of a number
abbrev pub wave_at : List (Wave Value) → ℕ → Wave Value
wave_at table n = slice_index_or table n (skewed [] 0)

-- the waves of some numbers
abbrev pub waves_at : List (Wave Value) → List ℕ → List (Wave Value)
waves_at table numbers = map (wave_at table) numbers
