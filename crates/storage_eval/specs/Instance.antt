-- What a register or latch makes of its pins' waves, its delay counted in.
use Rattle.std.specs.Prelude.{List}
use Rattle.scald_base.specs.Time.{Bounds}
use Rattle.step_values.specs.declared.value.Value.{Value}
use Rattle.step_values.specs.Cell.{values}
use Rattle.skew_algebra.specs.Wave.{Wave, moved}
use Rattle.element_kinds.specs.declared.kind.Kind.{Kind}
use Rattle.gate_eval.specs.Meeting.{meeting}
use Rattle.storage_eval.specs.Storage.{listening, storage_value}

-- the wave of the output, before its complement: what the waves at the listening pins make where
-- they meet, and then late by the delay
unfoldable pub storage_wave : Kind → List (Wave Value) → Bounds → Wave Value
storage_wave kind waves d =
    moved values (meeting values (storage_value kind) (listening kind waves)) d
