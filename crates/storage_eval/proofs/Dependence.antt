-- What the wave of a storage element depends on, and its period.
use Rattle.std.proofs.Common.{◌≡◌, List, length, ap, ◌∙◌}
use Rattle.scald_base.specs.Time.{Bounds}
use Rattle.step_values.specs.declared.value.Value.{Value}
use Rattle.step_values.specs.Cell.{values}
use Rattle.skew_algebra.specs.Wave.{Wave, moved}
use Rattle.skew_algebra.proofs.Normal.{length_normal}
use Rattle.skew_algebra.proofs.Moves.{length_later}
use Rattle.element_kinds.specs.declared.kind.Kind.{Kind}
use Rattle.gate_eval.specs.Meeting.{meeting, period_of}
use Rattle.gate_eval.proofs.Meets.{length_meeting}
use Rattle.storage_eval.specs.Storage.{listening, storage_value}
use Rattle.storage_eval.specs.Instance.{storage_wave}
use Rattle.storage_eval.proofs.Heard.{period_listening}

-- the waves at the listening pins alone decide
pub storage_wave_listening : (kind : Kind) (waves others : List (Wave Value)) (d : Bounds) → listening kind waves ≡ listening kind others →
    storage_wave kind waves d ≡ storage_wave kind others d
unfolding storage_wave
storage_wave_listening kind waves others d same = ap (λ heard. moved values (meeting values (storage_value kind) heard) d) same

pub length_storage_wave : (kind : Kind) (waves : List (Wave Value)) (d : Bounds) → length (storage_wave kind waves d).cells ≡ period_of waves
unfolding storage_wave moved
length_storage_wave kind waves d =
    length_normal values _ ∙ length_later values (meeting values (storage_value kind) (listening kind waves)).cells d.min
    ∙ length_meeting values (storage_value kind) (listening kind waves) ∙ period_listening kind waves
