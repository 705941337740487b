-- Pulses of a run that are narrower than a checker asks for: at ticks of the run, with no period
-- and no wave.
use Rattle.std.specs.Prelude.{◌≡◌, ℕ, ◌+◌, ◌-◌, ◌<◌, ◌≤◌, Bool, true, false, not, slice_get, Some}
use Rattle.scald_base.specs.Signal.{Signal}
use Rattle.element_kinds.specs.declared.kind.Kind.{Kind}
use Rattle.element_kinds.specs.Kinds.{checks_pulses}
use Rattle.flat_circuit.specs.Limits.{high_of, low_of}
use Rattle.flat_circuit.specs.declared.instance.Instance.{Instance}
use Rattle.flat_circuit.specs.Circuit.{Circuit}
use Rattle.flat_circuit.specs.Run.{Run, Choice}
use Rattle.fixpoint_engine.specs.Pins.{StepsFrom, pin_at}

-- the signal steps to the level at one tick and next from it at the other
pub record IsPulse (x : Signal) (level : Bool) (start end : ℕ) : Type 0 where
  pub before : x (start - 1) ≡ not level
  pub ordered : start < end
  pub during : (t : ℕ) → start ≤ t → t < end → x t ≡ level
  pub behind : x end ≡ not level

-- the least width that a checker asks for: of high pulses, or of low ones
abbrev pub limit_of : Instance → Bool → ℕ
limit_of j true = high_of j.limits
limit_of j false = low_of j.limits

-- A pulse at the level, from one tick to another, is narrower than the checker asks for.
pub record IsWidthBreak (run : Run) (j : Instance) (choice : Choice) (level : Bool)
    (from start end : ℕ) : Type 0 where
  pub start_in : StepsFrom run choice 0 from start
  pub end_in : StepsFrom run choice 0 from end
  pub is_pulse : IsPulse (pin_at run j choice 0) level start end
  pub narrow : end < start + limit_of j level

-- There is one. It names the two ticks of its steps.
pub record BreaksWidth (run : Run) (j : Instance) (choice : Choice) (level : Bool) (from : ℕ) :
    Type 0 where
  pub start : ℕ
  pub end : ℕ
  pub at : IsWidthBreak run j choice level from start end

-- by whether its kind measures pulses
abbrev pub BreaksMeasured : Bool → Run → Instance → Choice → Bool → ℕ → Type 0
BreaksMeasured true run j choice level from = BreaksWidth run j choice level from
BreaksMeasured false run j choice level from = ⊥

abbrev pub BreaksKind : Kind → Run → Instance → Choice → Bool → ℕ → Type 0
BreaksKind kind run j choice level from =
    BreaksMeasured (checks_pulses kind) run j choice level from

-- instance k has a pulse at the level that is too narrow, at ticks from a given one on
pub record BreaksPulse (c : Circuit) (run : Run) (k : ℕ) (level : Bool) (from : ℕ) : Type 0 where
  pub instance : Instance
  pub choice : Choice
  pub instance_is : slice_get c.instances k ≡ Some instance
  pub choice_is : slice_get run.choices k ≡ Some choice
  pub breaks : BreaksKind instance.kind run instance choice level from
