-- What the answer of settling says: of the rounds that it took, and of the base or the case that it is.
use Rattle.std.proofs.Common.{◌≡◌, ℕ, ◌+◌, ◌<◌, ◌≤◌, Bool, List, IfOk, IfErr}
use Rattle.std.specs.Prelude.{Result, Ok, Err, MatchResult}
use Rattle.scald_base.specs.Time.{period}
use Rattle.flat_circuit.specs.declared.case.CaseValue.{CaseValue}
use Rattle.flat_circuit.specs.Instances.{outputs}
use Rattle.flat_circuit.specs.Circuit.{Circuit, IsCircuit}
use Rattle.fixpoint_engine.specs.Waves.{Waves}
use Rattle.fixpoint_engine.specs.declared.rounds.EngineEnd.{EngineEnd}
use Rattle.fixpoint_engine.specs.declared.rounds.EngineEnd.TheVariants.{NoMemory}
use Rattle.fixpoint_engine.specs.Rounds.{round}
use Rattle.fixpoint_engine.specs.Start.{base_start}
use Rattle.fixpoint_engine.specs.Settled.{AreSettled, KeepRuns}
use Rattle.fixpoint_engine.specs.End.{EndsFor}
use Rattle.fixpoint_engine.specs.Loops.{HasNoLoop}
use Rattle.fixpoint_engine.proofs.Settling.{settles_soon, settles_within}
use Rattle.case_analysis.specs.Base.{PermitInputs}
use Rattle.case_analysis.specs.Case.{IsCone, PermitCase, case_active, case_start}
use Rattle.case_analysis.proofs.Inputs.{inputs_permitted}
use Rattle.case_analysis.proofs.Cases.{as_case, case_permitted}

-- ---- its rounds

pub in_time : {A : Type 0} (result : Result A EngineEnd) (c : Circuit) (active : ℕ → Bool) (first : Waves) (limit : ℕ) (rounds : A → ℕ) (waves : A → Waves) →
    IfOk result (λ s. AreSettled c active first limit (rounds s) (waves s)) → IfOk result (λ s. rounds s ≤ limit)
in_time (Ok s) c active first limit rounds waves settled = settled.settles.within
in_time (Err e) c active first limit rounds waves settled = tt

-- without a loop through listening pins
pub soon : {A : Type 0} (result : Result A EngineEnd) (c : Circuit) (active : ℕ → Bool) (first : Waves) (limit : ℕ) (rounds : A → ℕ) (waves : A → Waves) →
    IsCircuit c → HasNoLoop c → outputs c.instances ≤ limit →
    IfOk result (λ s. AreSettled c active first limit (rounds s) (waves s)) → IfErr result (EndsFor c.order (round c active first) limit) →
    MatchResult result (λ s. rounds s ≤ outputs c.instances) (λ e. e ≡ NoMemory)
soon (Ok s) c active first limit rounds waves known none within settled ends = settles_soon c active first limit (rounds s) known none settled.settles
soon (Err e) c active first limit rounds waves known none within settled ends = settles_within c active first limit e known none within ends

-- ---- the base

pub base_keeps : {A : Type 0} (result : Result A EngineEnd) (c : Circuit) (first : Waves) (rounds : A → ℕ) (waves : A → Waves) → 0 < period c.header → ((i : ℕ) → first i ≡ base_start c i) →
    IfOk result (λ s. KeepRuns c first (rounds s) (waves s)) → IfOk result (λ s. PermitInputs c (rounds s) (waves s))
base_keeps (Ok s) c first rounds waves some start keeps = inputs_permitted c first (waves s) (rounds s) some (λ k i. start i k) keeps
base_keeps (Err e) c first rounds waves some start keeps = tt

-- ---- a case

pub case_keeps : {A : Type 0} (result : Result A EngineEnd) (c : Circuit) (vs : List CaseValue) (cone : ℕ → Bool) (base first : Waves)
    (before : ℕ) (rounds : A → ℕ) (waves : A → Waves) → 0 < period c.header → PermitInputs c before base →
    ((i : ℕ) → first i ≡ case_start c vs cone base i) →
    IfOk result (λ s. KeepRuns c first (rounds s) (waves s)) → IfOk result (λ s. PermitCase c vs (before + rounds s) (waves s))
case_keeps (Ok s) c vs cone base first before rounds waves some inputs start keeps = case_permitted c vs cone base first (waves s) before (rounds s) some inputs start keeps
case_keeps (Err e) c vs cone base first before rounds waves some inputs start keeps = tt

-- What holds of the active nets and of the waves that code begins with holds of those of the case, whatever its cone is
-- written as.
module _ (c : Circuit) (vs : List CaseValue) (marks active : ℕ → Bool) (base first : Waves) (marked : IsCone c vs marks)
    (of : (i : ℕ) → active i ≡ case_active c marks i) (from : (i : ℕ) → first i ≡ case_start c vs marks base i) where
  pub case_settles : {A : Type 0} (result : Result A EngineEnd) (P : (ℕ → Bool) → Waves → A → Type 0) → IfOk result (P active first) →
      IfOk result (λ s. (cone : ℕ → Bool) → IsCone c vs cone → P (case_active c cone) (case_start c vs cone base) s)
  case_settles (Ok s) P holds = as_case c vs marks active base first (λ a f. P a f s) marked of from holds
  case_settles (Err e) P holds = tt

  pub case_ends : {A : Type 0} (result : Result A EngineEnd) (P : (ℕ → Bool) → Waves → EngineEnd → Type 0) → IfErr result (P active first) →
      IfErr result (λ e. (cone : ℕ → Bool) → IsCone c vs cone → P (case_active c cone) (case_start c vs cone base) e)
  case_ends (Ok s) P holds = tt
  case_ends (Err e) P holds = as_case c vs marks active base first (λ a f. P a f e) marked of from holds
