-- Where an output may change, some pin may have changed: quiet pins make a quiet output.
use Rattle.std.specs.Prelude.{◌≡◌, ℕ, ◌<◌, ◌≤◌, true, All, List, length, Option}
use Rattle.scald_base.specs.Clock.{back}
use Rattle.scald_base.specs.Time.{Bounds}
use Rattle.step_values.specs.declared.value.Value.{Value}
use Rattle.step_values.specs.Steps.{is_quiet}
use Rattle.step_values.specs.Cell.{values}
use Rattle.skew_algebra.specs.Wave.{Wave, fold, moved}
use Rattle.element_kinds.specs.declared.kind.Kind.{Kind}
use Rattle.element_kinds.specs.declared.form.Form.TheVariants.{Gate}
use Rattle.element_kinds.specs.Kinds.{form_of}
use Rattle.flat_circuit.specs.declared.split.Split.{Split}
use Rattle.flat_circuit.specs.Split.{either_delay}
use Rattle.gate_eval.specs.Meeting.{HaveOnePeriod, period_of}
use Rattle.gate_eval.specs.Instance.{CountsFit, MarkFits, gate_wave, is_gate}
use Rattle.gate_eval.specs.Split.{split_wave}

-- the wave may not change in a slot, however late it comes
abbrev pub IsQuietAt : ℕ → Wave Value → Type 0
IsQuietAt p w = is_quiet (fold values w p) ≡ true

-- nor in any slot from the least of a delay before that slot to the greatest
abbrev pub IsQuietBefore : Bounds → ℕ → Wave Value → Type 0
IsQuietBefore d p w = (o : ℕ) → d.min ≤ o → o ≤ d.max → IsQuietAt (back (length w.cells) p o) w

-- what is late by a delay is quiet where the wave is quiet that much before
abbrev pub LateIsQuiet : Type 0
LateIsQuiet =
    (w : Wave Value) (d : Bounds) (p : ℕ) → 0 < length w.cells → d.min ≤ d.max →
    IsQuietBefore d p w →
    IsQuietAt p (moved values w d)

-- the pins fit the kind
pub record AreFitting (kind : Kind) (waves : List (Wave Value)) (marked : Option ℕ) : Type 0 where
  pub counts : CountsFit kind (length waves) 0
  pub mark : MarkFits kind marked (length waves)
  pub periods : HaveOnePeriod waves
  pub some : 0 < period_of waves

-- A gate or a change function, of one delay, is quiet where all its pins are quiet where it looks.
abbrev pub GatesAreQuiet : Type 0
GatesAreQuiet =
    (kind : Kind) (waves : List (Wave Value)) (marked : Option ℕ) (d : Bounds) (p : ℕ) →
    is_gate kind ≡ true →
    AreFitting kind waves marked → d.min ≤ d.max → All (IsQuietBefore d p) waves →
    IsQuietAt p (gate_wave kind waves marked d)

-- So is a gate of two delays, which looks from the least to the greatest of both.
abbrev pub SplitsAreQuiet : Type 0
SplitsAreQuiet =
    (kind : Kind) (waves : List (Wave Value)) (marked : Option ℕ) (s : Split) (p : ℕ) →
    form_of kind ≡ Gate →
    AreFitting kind waves marked → s.rise.min ≤ s.rise.max → s.fall.min ≤ s.fall.max →
    All (IsQuietBefore (either_delay s) p) waves → IsQuietAt p (split_wave kind waves marked s)
