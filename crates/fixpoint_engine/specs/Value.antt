-- What an instance makes of the waves of all nets: the waves at its pins, what its kind makes of
-- them, and its output's complement, in normal form.
use Rattle.std.specs.Prelude.{ℕ, Bool, List, if◌then◌else◌, Option, Some, None}
use Rattle.scald_base.specs.Time.{Bounds}
use Rattle.step_values.specs.declared.value.Value.{Value}
use Rattle.step_values.specs.Cell.{values}
use Rattle.skew_algebra.specs.Wave.{Wave, flipped, normal}
use Rattle.element_kinds.specs.declared.kind.Kind.{Kind}
use Rattle.element_kinds.specs.declared.form.Form.{Form}
use Rattle.element_kinds.specs.declared.form.Form.TheVariants.{Gate, Change, Register, Latch as Enabled, Checker}
use Rattle.element_kinds.specs.Kinds.{by_form}
use Rattle.flat_circuit.specs.declared.instance.Instance.{Instance}
use Rattle.flat_circuit.specs.declared.split.Split.{Split}
use Rattle.flat_circuit.specs.Circuit.{Circuit}
use Rattle.gate_eval.specs.Instance.{gate_wave}
use Rattle.gate_eval.specs.Split.{split_wave}
use Rattle.storage_eval.specs.Instance.{storage_wave}
use Rattle.fixpoint_engine.specs.Waves.{Waves, pin_waves, marked_pin}

-- what a gate makes, late by its one delay or by its two
abbrev pub gate_late : Kind → List (Wave Value) → Option ℕ → Bounds → Option Split → Wave Value
gate_late kind waves marked d None = gate_wave kind waves marked d
gate_late kind waves marked d (Some s) = split_wave kind waves marked s

-- By the form of a kind: only gates may have two delays.
abbrev pub made_in : Form → Kind → List (Wave Value) → Option ℕ → Bounds → Option Split → Wave Value
made_in Gate kind waves marked d split = gate_late kind waves marked d split
made_in Change kind waves marked d split = gate_wave kind waves marked d
made_in (Register forced) kind waves marked d split = storage_wave kind waves d
made_in (Enabled forced) kind waves marked d split = storage_wave kind waves d
made_in (Checker check) kind waves marked d split = gate_wave kind waves marked d

-- What a kind makes of the waves at its pins, its delay or its two delays counted in. A checker has
-- no output, so that nothing asks what it makes.
abbrev pub made_by : Kind → List (Wave Value) → Option ℕ → Bounds → Option Split → Wave Value
made_by kind waves marked d split = by_form (λ form. made_in form kind waves marked d split) kind

-- the complement, if an output is marked so
abbrev pub turned_wave : Bool → Wave Value → Wave Value
turned_wave inverted w = if inverted then flipped values w else w

unfoldable pub instance_wave : Circuit → Waves → Instance → Wave Value
instance_wave c ws j =
    normal values (turned_wave j.out_inverted
    (made_by j.kind (pin_waves c ws j) (marked_pin j) j.delay j.split))
