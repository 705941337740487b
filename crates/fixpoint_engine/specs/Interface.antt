-- Runs that are as the drawing says of its inputs, and waves that permit a run.
use Rattle.std.specs.Prelude.{◌≡◌, ℕ, ◌<◌, length, slice_get, Some, None}
use Rattle.step_values.specs.Cell.{values}
use Rattle.skew_algebra.specs.Permits.{Permits}
use Rattle.flat_circuit.specs.declared.net.Net.{Net}
use Rattle.flat_circuit.specs.Circuit.{Circuit}
use Rattle.flat_circuit.specs.Run.{Run, net_signal}
use Rattle.pin_waves.specs.Meets.{Meets}
use Rattle.fixpoint_engine.specs.Waves.{Waves}

-- each undriven net keeps its assertion at all of its ticks
abbrev pub MeetsInterface : Circuit → Run → Type 0
MeetsInterface c run =
    (i : ℕ) (net : Net) → slice_get c.nets i ≡ Some net → net.driver ≡ None →
    Meets c.header net.spec run.ticks (net_signal run i)

-- the waves permit the first n ticks of each net of the run, from tick v on
abbrev pub PermitFront : Circuit → Run → ℕ → Waves → ℕ → Type 0
PermitFront c run n ws v =
    (i : ℕ) → i < length c.nets → Permits values (ws i) n (net_signal run i) v

-- all of its ticks
abbrev pub PermitRun : Circuit → Run → Waves → ℕ → Type 0
PermitRun c run ws v = PermitFront c run run.ticks ws v
