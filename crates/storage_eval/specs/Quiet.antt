-- Where the output of a register or latch without set and reset may change, a pin that it listens
-- to may have changed.
use Rattle.std.specs.Prelude.{◌≡◌, ◌⊎◌, ℕ, ◌<◌, ◌≤◌, All, List, length}
use Rattle.scald_base.specs.Time.{Bounds}
use Rattle.step_values.specs.declared.value.Value.{Value}
use Rattle.skew_algebra.specs.Wave.{Wave}
use Rattle.element_kinds.specs.declared.kind.Kind.{Kind}
use Rattle.element_kinds.specs.declared.kind.Kind.TheVariants.{Reg, Latch}
use Rattle.gate_eval.specs.Meeting.{HaveOnePeriod, period_of}
use Rattle.gate_eval.specs.Quiet.{IsQuietAt, IsQuietBefore}
use Rattle.storage_eval.specs.Storage.{listening}
use Rattle.storage_eval.specs.Instance.{storage_wave}

-- It is quiet where the pins that it listens to are quiet where it looks. With set and reset it may
-- change though no pin does, if both may be 1.
abbrev pub StorageIsQuiet : Type 0
StorageIsQuiet =
    (kind : Kind) (waves : List (Wave Value)) (d : Bounds) (p : ℕ) → (kind ≡ Reg) ⊎ (kind ≡ Latch) →
    length waves ≡ 2 → HaveOnePeriod waves → 0 < period_of waves → d.min ≤ d.max →
    All (IsQuietBefore d p) (listening kind waves) → IsQuietAt p (storage_wave kind waves d)
