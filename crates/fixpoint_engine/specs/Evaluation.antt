-- What is remembered of evaluations.
use Rattle.std.specs.Prelude.{ℕ, List}
use Rattle.std.specs.List.{AllByRecursion}
use Rattle.step_values.specs.declared.value.Value.{Value}
use Rattle.skew_algebra.specs.Wave.{Wave}
use Rattle.fixpoint_engine.specs.Table.{AreKnown, IsNumber, waves_at}

-- what a key makes of the waves that it reads
abbrev pub value_of : {K : Type 0} → (K → List ℕ) → (K → List (Wave Value) → Wave Value) →
    List (Wave Value) → K → Wave Value
value_of reads makes table k = makes k (waves_at table (reads k))

-- The key reads waves that the table has, and the number is of what it makes of them.
pub record IsValue {K : Type 0} (reads : K → List ℕ) (makes : K → List (Wave Value) → Wave Value)
    (table : List (Wave Value)) (e : K × ℕ) : Type 0 where
  pub known : AreKnown table (reads e.0)
  pub is : IsNumber table (value_of reads makes table e.0) e.1

-- so it is of each entry
abbrev pub AreValues : {K : Type 0} → (K → List ℕ) → (K → List (Wave Value) → Wave Value) →
    List (Wave Value) → List (K × ℕ) → Type 0
AreValues reads makes table es = AllByRecursion (IsValue reads makes table) es
