-- A settled base and a settled case whose waves are kept in a table, while the table changes.
use Rattle.std.proofs.Common.{◌≡◌, ℕ, List, sym, subst, arith, Option}
use Rattle.step_values.specs.declared.value.Value.{Value}
use Rattle.skew_algebra.specs.Wave.{Wave}
use Rattle.flat_circuit.specs.declared.fault.Fault.{Fault}
use Rattle.flat_circuit.specs.Circuit.{Circuit}
use Rattle.fixpoint_engine.specs.Table.{AreKnown, Grows, waves_at}
use Rattle.fixpoint_engine.proofs.Growing.{known_still, same_waves}
use Rattle.fixpoint_engine.specs.Waves.{Waves}
use Rattle.fixpoint_engine.specs.declared.rounds.EngineEnd.{EngineEnd}
use Rattle.case_analysis.specs.Base.{IsBase}
use Rattle.timing_analysis.specs.declared.case_faults.KnownFaults.{KnownFaults}
use Rattle.timing_analysis.specs.Case.{Listed}
use Rattle.timing_analysis.specs.Ended.{EndsCase}
use Rattle.timing_analysis.specs.Settled.{IsSettledBase, IsBaseIn, IsSettledCase}

-- the base is as it was if its numbers mean the waves that they meant
pub base_again : (c : Circuit) (limit base after : ℕ) (old new : List (Wave Value)) (ns ns' : List ℕ) (known known' : Option KnownFaults) →
    after ≡ base → known' ≡ known → AreKnown new ns' → waves_at new ns' ≡ waves_at old ns →
    IsBaseIn c limit base old ns known → IsBaseIn c limit after new ns' known'
base_again c limit base after old new ns ns' known known' round faults are same is = record {
  are = are;
  settled = subst (λ b. IsSettledBase c limit b (waves_at new ns') known') (sym round)
      (subst (λ k. IsSettledBase c limit base (waves_at new ns') k) (sym faults)
      (subst (λ ws. IsSettledBase c limit base ws known) (sym same) is.settled));
}

-- the limit of the base's rounds may be the round in which it settled
pub own_limit : (c : Circuit) (limit base : ℕ) (ws : Waves) → IsBase c limit base ws → IsBase c base base ws
own_limit c limit base ws is = record {
  settles = record { still = is.settles.still; first = is.settles.first; within = omega arith };
  waves = is.waves;
}

-- so it is in a table that has grown
pub base_grown : (c : Circuit) (limit base : ℕ) (old new : List (Wave Value)) (ns : List ℕ) (known : Option KnownFaults) → Grows old new →
    IsBaseIn c limit base old ns known → IsBaseIn c limit base new ns known
base_grown c limit base old new ns known g is = record {
  are = known_still old new g ns is.are;
  settled = subst (λ ws. IsSettledBase c limit base ws known) (sym (same_waves old new g ns is.are)) is.settled;
}

-- ---- a case from a base whose round is known to be another's

pub case_from : (c : Circuit) (limit base after : ℕ) (listed : Listed) (number rounds tick : ℕ) (ws : List (Wave Value)) (fs : List Fault) → after ≡ base →
    IsSettledCase c limit after listed number rounds tick ws fs → IsSettledCase c limit base listed number rounds tick ws fs
case_from c limit base after listed number rounds tick ws fs same is = subst (λ b. IsSettledCase c limit b listed number rounds tick ws fs) same is

pub ends_from : (c : Circuit) (limit base after : ℕ) (listed : Listed) (end : EngineEnd) → after ≡ base →
    EndsCase c limit after listed end → EndsCase c limit base listed end
ends_from c limit base after listed end same ends = subst (λ b. EndsCase c limit b listed end) same ends
