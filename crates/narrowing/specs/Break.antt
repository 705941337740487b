-- Breaks of a constraint by the ticks that they name.
use Rattle.std.specs.Prelude.{◌≡◌, ℕ, Bool, true, slice_get, Option, Some}
use Rattle.element_kinds.specs.declared.form.Check.{Check}
use Rattle.element_kinds.specs.declared.form.Check.TheVariants.{SetupHold as AboutRise, RiseFall as RiseToFall}
use Rattle.element_kinds.specs.declared.form.Form.{Form}
use Rattle.element_kinds.specs.declared.form.Form.TheVariants.{Gate, Change, Register, Latch as Enabled, Checker}
use Rattle.element_kinds.specs.Kinds.{form_of, closes_of, checks_pulses}
use Rattle.flat_circuit.specs.declared.instance.Instance.{Instance}
use Rattle.flat_circuit.specs.declared.net.Net.{Net}
use Rattle.flat_circuit.specs.Circuit.{Circuit}
use Rattle.flat_circuit.specs.Run.{Choice as Chosen, Run}
use Rattle.point_check.specs.Break.{IsSetupHoldBreak, IsRiseFallBreak, IsMarkBreak, IsNetBreak}
use Rattle.pulse_check.specs.Break.{IsWidthBreak}
use Rattle.narrowing.specs.declared.constraint.Constraint.{Constraint}
use Rattle.narrowing.specs.declared.constraint.Constraint.TheVariants.{Instance as OfInstance, Pulse as OfPulse, Net as OfNet}
use Rattle.narrowing.specs.declared.named.Named.{Named}
use Rattle.narrowing.specs.declared.named.Named.TheVariants.{Edge, High, Pulse, Mark, Step}

-- ---- breaks of an instance

abbrev pub IsCheckBreak : Check → Run → Instance → Chosen → ℕ → Named → Type 0
IsCheckBreak AboutRise run j choice from (Edge rise change) =
    IsSetupHoldBreak run j choice from rise change
IsCheckBreak RiseToFall run j choice from (High rise fall change) =
    IsRiseFallBreak run j choice from rise fall change
IsCheckBreak check run j choice from named = ⊥

abbrev pub IsClosedBreak : Option Bool → Run → Instance → Chosen → ℕ → Named → Type 0
IsClosedBreak (Some closed) run j choice from (Mark tick marked pin) =
    IsMarkBreak run j choice closed from marked pin tick
IsClosedBreak closes run j choice from named = ⊥

-- by the form of a kind
abbrev pub IsFormBreak : Form → Option Bool → Run → Instance → Chosen → ℕ → Named → Type 0
IsFormBreak Gate closes run j choice from named = IsClosedBreak closes run j choice from named
IsFormBreak Change closes run j choice from named = ⊥
IsFormBreak (Register forced) closes run j choice from named = ⊥
IsFormBreak (Enabled forced) closes run j choice from named = ⊥
IsFormBreak (Checker check) closes run j choice from named =
    IsCheckBreak check run j choice from named

abbrev pub IsPulseBreak : Bool → Bool → Run → Instance → Chosen → ℕ → Named → Type 0
IsPulseBreak true high run j choice from (Pulse start end) =
    IsWidthBreak run j choice high from start end
IsPulseBreak measures high run j choice from named = ⊥

-- a break that is said of an instance and its choice is one of the instance of this number
pub record IsAtInstance (c : Circuit) (run : Run) (k : ℕ)
    (IsBreak : Instance → Chosen → Type 0) : Type 0 where
  pub instance : Instance
  pub choice : Chosen
  pub instance_is : slice_get c.instances k ≡ Some instance
  pub choice_is : slice_get run.choices k ≡ Some choice
  pub is : IsBreak instance choice

-- ---- breaks of a constraint

pub record IsAtNet (c : Circuit) (run : Run) (i from tick : ℕ) : Type 0 where
  pub net : Net
  pub driver : ℕ
  pub is : IsNetBreak c run i from net driver tick

abbrev pub IsStepBreak : Circuit → Run → ℕ → ℕ → Named → Type 0
IsStepBreak c run i from (Step tick) = IsAtNet c run i from tick
IsStepBreak c run i from named = ⊥

-- These ticks are named by a break of the constraint, and all of them lie from a given one on.
abbrev pub IsBreakAt : Circuit → Run → Constraint → ℕ → Named → Type 0
IsBreakAt c run (OfInstance k) from named =
    IsAtInstance c run k (λ j choice.
    IsFormBreak (form_of j.kind) (closes_of j.kind) run j choice from named)
IsBreakAt c run (OfPulse k high) from named =
    IsAtInstance c run k (λ j choice.
    IsPulseBreak (checks_pulses j.kind) high run j choice from named)
IsBreakAt c run (OfNet i) from named = IsStepBreak c run i from named
