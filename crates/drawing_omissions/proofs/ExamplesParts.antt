-- Pins and instances of small circuits, over a period of eight ticks.
use Rattle.std.specs.Prelude.{ℕ, true, false, List, Option, Some, None}
use Rattle.scald_base.specs.Time.{Header}
use Rattle.vector_names.specs.declared.bits.Target.TheVariants.{Net as OnNet, Constant}
use Rattle.element_kinds.specs.declared.kind.Kind.{Kind}
use Rattle.flat_circuit.specs.declared.instance.Pin.{Pin}
use Rattle.flat_circuit.specs.declared.instance.Instance.{Instance}
use Rattle.flat_circuit.specs.declared.limits.Limits.{Limits}

abbrev pub header : Header
header = record { units = 8; ticks = 1; wire = record { min = 0; max = 0 }; pskew = (0, 0); cskew = (0, 0) }

abbrev pub on : ℕ → Pin
on i = record { target = OnNet i; inverted = false; hold = false }

abbrev pub turned : ℕ → Pin
turned i = record { target = OnNet i; inverted = true; hold = false }

abbrev pub high : Pin
high = record { target = Constant true; inverted = false; hold = false }

abbrev pub instance : List ℕ → Kind → Limits → List Pin → Option ℕ → Instance
instance path kind limits pins None =
    record {
      path = path;
      bit = 0;
      kind = kind;
      delay = record { min = 1; max = 3 };
      split = None;
      limits = limits;
      pins = pins;
      out = None;
      out_inverted = false;
      place = record { line = 4; col = 1 };
    }
instance path kind limits pins (Some i) =
    record {
      path = path;
      bit = 0;
      kind = kind;
      delay = record { min = 1; max = 3 };
      split = None;
      limits = limits;
      pins = pins;
      out = Some (OnNet i);
      out_inverted = false;
      place = record { line = 4; col = 1 };
    }
