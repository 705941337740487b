-- Small circuits over a period of sixteen slots, of which examples speak.
use Prim.Native.String.{String}
use Rattle.std.specs.Prelude.{ℕ, ◌==◌, true, false, List, [], ◌∷◌, codes, map, if◌then◌else◌, Option, Some, None}
use Rattle.scald_base.specs.Time.{Bounds, Header}
use Rattle.scald_base.specs.declared.assertion.AssertSpec.{AssertSpec}
use Rattle.scald_base.specs.declared.assertion.AssertSpec.TheVariants.{None as Unasserted, Precision}
use Rattle.vector_names.specs.declared.bits.Target.TheVariants.{Net as OnNet}
use Rattle.step_values.specs.declared.value.Value.{Value}
use Rattle.step_values.specs.declared.value.Value.TheVariants.{Zero, One, S, C, R, F, U}
use Rattle.skew_algebra.specs.Wave.{Wave, skewed}
use Rattle.element_kinds.specs.declared.kind.Kind.{Kind}
use Rattle.element_kinds.specs.declared.form.Check.{Check}
use Rattle.element_kinds.specs.declared.form.Check.TheVariants.{SetupHold as AboutRise, RiseFall as RiseToFall, MinPulse as Widths}
use Rattle.element_kinds.specs.Kinds.{check_of}
use Rattle.flat_circuit.specs.declared.limits.Limits.{Limits}
use Rattle.flat_circuit.specs.declared.limits.Limits.TheVariants.{None as Unlimited, Edges, Pulses}
use Rattle.flat_circuit.specs.declared.instance.Pin.{Pin}
use Rattle.flat_circuit.specs.declared.instance.Instance.{Instance}
use Rattle.flat_circuit.specs.declared.net.Net.{Net}
use Rattle.flat_circuit.specs.declared.split.Split.{Split}
use Rattle.flat_circuit.specs.Circuit.{Circuit}

abbrev pub bounds : ℕ → ℕ → Bounds
bounds least greatest = record { min = least; max = greatest }

-- a `.P` clock comes up to one tick early or late
abbrev pub header : Header
header = record { units = 16; ticks = 1; wire = bounds 0 0; pskew = (1, 1); cskew = (0, 0) }

-- ---- nets

-- an input
abbrev pub input : AssertSpec → Net
input spec = record { name = []; bit = 0; spec = spec; wire = bounds 0 0; driver = None }

-- what an instance drives
abbrev pub driven : ℕ → Net
driven k = record { name = []; bit = 0; spec = Unasserted; wire = bounds 0 0; driver = Some k }

-- a clock that is 1 from one unit to another, with this skew
abbrev pub clock : ℕ → ℕ → ℕ × ℕ → AssertSpec
clock lo hi skew = Precision (record {
  spans = record { lo = lo; hi = hi } ∷ [];
  skew = Some skew;
  low = false;
})

-- ---- instances

abbrev pub pin : ℕ → Pin
pin i = record { target = OnNet i; inverted = false; hold = false }

abbrev pub pin_of_complement : ℕ → Pin
pin_of_complement i = record { target = OnNet i; inverted = true; hold = false }

abbrev pub marked_pin : ℕ → Pin
marked_pin i = record { target = OnNet i; inverted = false; hold = true }

abbrev pub instance : Kind → List Pin → Bounds → Option Split → Limits → Instance
instance kind pins delay split limits =
    record {
      path = [];
      bit = 0;
      kind = kind;
      delay = delay;
      split = split;
      limits = limits;
      pins = pins;
      out = Some (OnNet 1);
      out_inverted = false;
      place = record { line = 4; col = 1 };
    }

abbrev pub element : Kind → Bounds → List Pin → Instance
element kind delay pins = instance kind pins delay None Unlimited

abbrev pub of_two_delays : Kind → Bounds → Bounds → List Pin → Instance
of_two_delays kind rise fall pins = instance kind pins (bounds 0 0)
    (Some (record { rise = rise; fall = fall })) Unlimited

-- the two limits of a checker, by what it checks
abbrev pub limits_by : Option Check → ℕ × ℕ → Limits
limits_by None limits = Unlimited
limits_by (Some AboutRise) limits = Edges limits.0 limits.1
limits_by (Some RiseToFall) limits = Edges limits.0 limits.1
limits_by (Some Widths) limits = Pulses limits.0 limits.1

abbrev pub checker : Kind → ℕ × ℕ → List Pin → Instance
checker kind limits pins = instance kind pins (bounds 0 0) None (limits_by (check_of kind) limits)

abbrev pub circuit : List Net → List Instance → Circuit
circuit nets instances = record { header = header; nets = nets; instances = instances; order = [] }

-- ---- waves

abbrev pub value_of : ℕ → Value
value_of letter =
    if letter == 48 then Zero else if letter == 49 then One else if letter == 83 then S
    else if letter == 67 then C else if letter == 82 then R else if letter == 70 then F else U

-- the letters of a report
abbrev pub wave : String → Wave Value
wave letters = skewed (map value_of (codes letters)) 0

-- as early as that, or up to so many ticks later
abbrev pub late_wave : String → ℕ → Wave Value
late_wave letters skew = skewed (map value_of (codes letters)) skew
