-- What settling from the start of the base gives.
use Rattle.std.proofs.Common.{◌≡◌, ℕ, ◌+◌, ◌*◌, ◌<◌, Bool, refl, sym, subst, arith}
use Rattle.scald_base.specs.Time.{period}
use Rattle.step_values.specs.declared.value.Value.{Value}
use Rattle.step_values.specs.Cell.{values}
use Rattle.skew_algebra.specs.Wave.{Wave}
use Rattle.skew_algebra.specs.Permits.{Permits}
use Rattle.flat_circuit.specs.Circuit.{Circuit, IsCircuit}
use Rattle.flat_circuit.specs.Run.{net_signal}
use Rattle.fixpoint_engine.specs.Waves.{Waves}
use Rattle.fixpoint_engine.specs.Interface.{PermitRun}
use Rattle.fixpoint_engine.specs.Reach.{reach}
use Rattle.fixpoint_engine.specs.Start.{base_start, is_driven}
use Rattle.fixpoint_engine.specs.Settled.{KeepRuns}
use Rattle.fixpoint_engine.proofs.Sound.{round_sound}
use Rattle.case_analysis.specs.Base.{IsBase, PermitInputs}
use Rattle.case_analysis.proofs.Start.{start_permits, start_long}

-- What holds of the active nets and of the waves that code begins with holds of those that are the same.
pub as_same : (active other : ℕ → Bool) (first start : Waves) (P : (ℕ → Bool) → Waves → Type 0) → ((i : ℕ) → active i ≡ other i) → ((i : ℕ) → first i ≡ start i) → P active first → P other start
as_same active other first start P of from holds =
    let nets : active ≡ other = λ k i. of i k in
    let waves : first ≡ start = λ k i. from i k in
    subst (λ (a : ℕ → Bool). P a start) nets (subst (P active) waves holds)

pub as_base : (c : Circuit) (active : ℕ → Bool) (first : Waves) (P : (ℕ → Bool) → Waves → Type 0) → ((i : ℕ) → active i ≡ is_driven c i) → first ≡ base_start c →
    P active first → P (is_driven c) (base_start c)
as_base c active first P driven start holds = as_same active (is_driven c) first (base_start c) P driven (λ i k. start k i) holds

pub inputs_permitted : (c : Circuit) (first settled : Waves) (r : ℕ) → 0 < period c.header → first ≡ base_start c → KeepRuns c first r settled → PermitInputs c r settled
inputs_permitted c first settled r some start keeps run isrun meets =
    let later : 1 + r * reach c ≡ r * reach c + 1 = omega arith in
    subst (PermitRun c run settled) later
    (keeps run 1 isrun (omega arith) (subst (λ (ws : Waves). PermitRun c run ws 1) (sym start) (start_permits c run some meets)))

-- the waves of the settled base permit what its inputs do
pub base_permits : (c : Circuit) (limit r : ℕ) (ws : Waves) → 0 < period c.header → IsCircuit c → IsBase c limit r ws → PermitInputs c r ws
base_permits c limit r ws some known base =
    inputs_permitted c (base_start c) ws r some refl
    (λ run v isrun v1 permits i below.
    subst (λ (w : Wave Value). Permits values w run.ticks (net_signal run i) (v + r * reach c)) (sym (base.waves i))
    (round_sound c (is_driven c) (base_start c) r some known (start_long c) run v isrun v1 permits i below))

-- the base settles at its round, whatever more it might have had
pub settled_base : (c : Circuit) (limit r : ℕ) (ws : Waves) → IsBase c limit r ws → IsBase c r r ws
settled_base c limit r ws base = record {
  settles = record { still = base.settles.still; first = base.settles.first; within = omega arith };
  waves = base.waves;
}
