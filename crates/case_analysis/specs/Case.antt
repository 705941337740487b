-- Cases: nets that keep a value for ever, the nets that this may reach, and the rounds that begin
-- with it.
use Rattle.std.specs.Prelude.{◌≡◌, ◌↔◌, ℕ, ◌+◌, ◌*◌, ◌<◌, ◌==◌, Bool, true, false, ◌&&◌, List, [], length, slice_index_or, Option, Some, None}
use Rattle.std.specs.List.{All, list_any}
use Rattle.scald_base.specs.Time.{Header}
use Rattle.step_values.specs.declared.value.Value.{Value}
use Rattle.skew_algebra.specs.Wave.{Wave}
use Rattle.flat_circuit.specs.declared.case.CaseValue.{CaseValue}
use Rattle.flat_circuit.specs.Circuit.{Circuit}
use Rattle.flat_circuit.specs.Run.{Run, IsRun, net_signal}
use Rattle.pin_waves.specs.Interface.{constant_wave}
use Rattle.flat_circuit.specs.Alike.{value_in}
use Rattle.fixpoint_engine.specs.Waves.{Waves}
use Rattle.fixpoint_engine.specs.Interface.{MeetsInterface, PermitRun}
use Rattle.fixpoint_engine.specs.declared.rounds.EngineEnd.{EngineEnd}
use Rattle.fixpoint_engine.specs.declared.rounds.EngineEnd.TheVariants.{Unsettled, NoMemory}
use Rattle.fixpoint_engine.specs.Rounds.{round}
use Rattle.fixpoint_engine.specs.Start.{unknown_wave, is_driven}
use Rattle.fixpoint_engine.specs.Settled.{AreSettled}
use Rattle.fixpoint_engine.specs.Reach.{reach}
use Rattle.fixpoint_engine.specs.Loops.{Hears}

-- whether a case gives the net a value
abbrev pub is_set : List CaseValue → ℕ → Bool
is_set values i = list_any (λ (v : CaseValue). v.net == i) values

-- the case with a number from 0
abbrev pub case_at : List (List CaseValue) → ℕ → List CaseValue
case_at cases number = slice_index_or cases number []

-- its nets exist
abbrev pub NetsExist : Circuit → List CaseValue → Type 0
NetsExist c values = All (λ (v : CaseValue). v.net < length c.nets) values

-- each of its nets is constant in the run, at its value
abbrev pub IsInCase : List CaseValue → Run → Type 0
IsInCase values run =
    All (λ (v : CaseValue). (t : ℕ) → t < run.ticks → net_signal run v.net t ≡ v.one) values

-- ---- the cone

-- The nets that a case may reach: its own, and each whose driver has a listening pin on one of
-- them.
pub data InCone (c : Circuit) (values : List CaseValue) : ℕ → Type 0 where
  Is_set : {i : ℕ} → is_set values i ≡ true → InCone c values i
  Hears_one : {from i : ℕ} → InCone c values from → Hears c from i → InCone c values i

-- a set of nets is the cone of a case
abbrev pub IsCone : Circuit → List CaseValue → (ℕ → Bool) → Type 0
IsCone c values cone = (i : ℕ) → (cone i ≡ true) ↔ InCone c values i

-- A case has a cone.
pub record HasCone (c : Circuit) (values : List CaseValue) : Type 0 where
  pub cone : ℕ → Bool
  pub is : IsCone c values cone

-- what ends the rounds of a case, unless it is a lack of memory, ends them in a cone
abbrev pub EndsInCone : Circuit → List CaseValue → EngineEnd → Type 0
EndsInCone c values NoMemory = Unit {0}
EndsInCone c values (Unsettled net limit) = HasCone c values

-- ---- its rounds

-- A net of the case has its constant, nothing is known of the rest of the cone, and the other nets
-- keep their waves.
abbrev pub case_wave : Header → Option Bool → Bool → Wave Value → Wave Value
case_wave h (Some one) reached before = constant_wave h one
case_wave h None true before = unknown_wave h
case_wave h None false before = before

abbrev pub case_start : Circuit → List CaseValue → (ℕ → Bool) → Waves → Waves
case_start c values cone base i = case_wave c.header (value_in values i) (cone i) (base i)

-- the driven nets of the cone are active
abbrev pub case_active : Circuit → (ℕ → Bool) → ℕ → Bool
case_active c cone i = cone i && is_driven c i

-- the waves of the case in each round, from those of the base
abbrev pub case_round : Circuit → List CaseValue → (ℕ → Bool) → Waves → ℕ → Waves
case_round c values cone base = round c (case_active c cone) (case_start c values cone base)

-- The waves are those of the case, whose rounds settle at this one, and within the limit.
abbrev pub IsCase : Circuit → List CaseValue → (ℕ → Bool) → Waves → ℕ → ℕ → Waves → Type 0
IsCase c values cone base limit r ws =
    AreSettled c (case_active c cone) (case_start c values cone base) limit r ws

-- Waves after so many rounds of the base and of the case together permit every run of the case
-- whose inputs keep their assertions, from so many reaches on.
abbrev pub PermitCase : Circuit → List CaseValue → ℕ → Waves → Type 0
PermitCase c values rounds ws =
    (run : Run) → IsRun c run → MeetsInterface c run → IsInCase values run →
    PermitRun c run ws (rounds * reach c + 1)
