-- Tables of runs: small circuits, waveforms written as texts of 0s and 1s with tick 0 first, and
-- for each table one lemma that takes it for the facts that it states.
use Rattle.std.proofs.Common.{◌≡◌, ℕ, ◌+◌, Bool, true, false, not, ◌&&◌, List, [], ◌∷◌, length, map, set, get_or, nat_eq, codes, refl, All, Option, Some, None, Decides}
use Rattle.std.specs.Prelude.{⊤}
use Prim.Native.String.{String}
use Rattle.std.specs.List.{list_all}
use Rattle.std.proofs.lemmas.Bool.Decides.{Decides-and, Decides-not}
use Rattle.scald_base.specs.Time.{Header, Bounds}
use Rattle.scald_base.specs.declared.assertion.AssertSpec.TheVariants.{None as Unasserted}
use Rattle.vector_names.specs.declared.bits.Target.TheVariants.{Net as OnNet, Constant}
use Rattle.element_kinds.specs.declared.kind.Kind.{Kind}
use Rattle.element_kinds.specs.declared.form.Check.{Check}
use Rattle.element_kinds.specs.declared.form.Check.TheVariants.{SetupHold as AboutRise, RiseFall as RiseToFall, MinPulse as Widths}
use Rattle.element_kinds.specs.Kinds.{check_of}
use Rattle.flat_circuit.specs.declared.instance.Pin.{Pin}
use Rattle.flat_circuit.specs.declared.instance.Instance.{Instance}
use Rattle.flat_circuit.specs.declared.limits.Limits.{Limits}
use Rattle.flat_circuit.specs.declared.limits.Limits.TheVariants.{None as Unlimited, Edges, Pulses}
use Rattle.flat_circuit.specs.declared.net.Net.{Net}
use Rattle.flat_circuit.specs.declared.split.Split.{Split}
use Rattle.flat_circuit.specs.Split.{either_delay}
use Rattle.flat_circuit.specs.Circuit.{Circuit}
use Rattle.flat_circuit.specs.Run.{Run, Choice, IsRun}
use Rattle.flat_circuit.proofs.Deciding.{all_tells}
use Rattle.flat_circuit.proofs.RunTest.{is_run, run_tells}

-- ---- small circuits

abbrev pub bounds : ℕ → ℕ → Bounds
bounds min max = record { min = min; max = max }

abbrev pub header : Header
header = record { units = 8; ticks = 1; wire = bounds 0 0; pskew = (0, 0); cskew = (0, 0) }

-- a net with these bounds of its wires
abbrev pub wired : ℕ → ℕ → Option ℕ → Net
wired min max driver = record {
  name = [];
  bit = 0;
  spec = Unasserted;
  wire = bounds min max;
  driver = driver;
}

abbrev pub input : Net
input = wired 0 9 None

abbrev pub driven_by : ℕ → Net
driven_by k = wired 0 9 (Some k)

abbrev pub on : ℕ → Pin
on i = record { target = OnNet i; inverted = false; hold = false }

abbrev pub not_on : ℕ → Pin
not_on i = record { target = OnNet i; inverted = true; hold = false }

abbrev pub constant : Bool → Pin
constant b = record { target = Constant b; inverted = false; hold = false }

abbrev pub not_constant : Bool → Pin
not_constant b = record { target = Constant b; inverted = true; hold = false }

-- an element that drives a net, and a checker
abbrev pub element : Kind → Bounds → List Pin → ℕ → Instance
element kind delay pins out =
    record {
      path = [];
      bit = 0;
      kind = kind;
      delay = delay;
      split = None;
      limits = Unlimited;
      pins = pins;
      out = Some (OnNet out);
      out_inverted = false;
      place = record { line = 1; col = 1 };
    }

abbrev pub two : ℕ → ℕ → ℕ → ℕ → Split
two r R f F = record { rise = bounds r R; fall = bounds f F }

-- an element with two delays, between the least and the greatest of both
abbrev pub split_element : Kind → Split → List Pin → ℕ → Instance
split_element kind s pins out =
    record (element kind (either_delay s) pins out) { split = Some s }

abbrev pub complemented : Instance → Instance
complemented i = record i { out_inverted = true }

-- limits of so many ticks each, by what is checked
abbrev pub limits_by : Option Check → ℕ → Limits
limits_by None n = Unlimited
limits_by (Some AboutRise) n = Edges n n
limits_by (Some RiseToFall) n = Edges n n
limits_by (Some Widths) n = Pulses n n

abbrev pub limits_of : Kind → ℕ → Limits
limits_of kind n = limits_by (check_of kind) n

abbrev pub checker : Kind → List Pin → Instance
checker kind pins =
    record {
      path = [];
      bit = 0;
      kind = kind;
      delay = bounds 0 0;
      split = None;
      limits = limits_of kind 1;
      pins = pins;
      out = None;
      out_inverted = false;
      place = record { line = 1; col = 1 };
    }

abbrev pub circuit : List Net → List Instance → Circuit
circuit nets instances = record { header = header; nets = nets; instances = instances; order = [] }

-- ---- waveforms

abbrev pub bits : String → List Bool
bits text = map (λ digit. nat_eq digit 49) (codes text)

-- the delay of an instance, and those of the wires to its pins
abbrev pub late : ℕ → List ℕ → Choice
late delay wires = record { delay = delay; rise = 0; fall = 0; wires = wires }

-- the same of an instance with two delays
abbrev pub late_by_two : ℕ → ℕ → List ℕ → Choice
late_by_two rise fall wires = record { delay = 0; rise = rise; fall = fall; wires = wires }

abbrev pub ticks_of : List (List Bool) → ℕ
ticks_of [] = 0
ticks_of (first ∷ more) = length first

-- so long as the waveform of the first net
abbrev pub run : List Choice → List String → Run
run choices texts = record {
  ticks = ticks_of (map bits texts);
  choices = choices;
  bits = map bits
      texts;
}

-- with another bit of a net at a tick
abbrev pub changed : Run → ℕ → ℕ → Run
changed r net t =
    let old : List Bool = get_or r.bits net [] in
    record r { bits = set r.bits net (set old t (not (get_or old t false))) }

-- ---- these are runs, and these are none

pub record AreRuns (c : Circuit) (table : List Run) : Type 0 where
  pub each : All (IsRun c) table

pub record AreNone (c : Circuit) (table : List Run) : Type 0 where
  pub each : All (λ r. ¬ (IsRun c r)) table

abbrev pub are_runs : Circuit → List Run → Bool
are_runs c table = list_all (is_run c) table

abbrev pub are_none : Circuit → List Run → Bool
are_none c table = list_all (λ r. not (is_run c r)) table

pub runs : {c : Circuit} {table : List Run} → are_runs c table ≡ true → AreRuns c table
runs {c = c} {table = table} h = record {
  each = (all_tells (is_run c) (IsRun c)
      (run_tells c) table).0 h;
}

none_tells : (c : Circuit) (r : Run) → Decides (not (is_run c r)) (¬ (IsRun c r))
none_tells c r = Decides-not (is_run c r) (run_tells c r)

pub none : {c : Circuit} {table : List Run} → are_none c table ≡ true → AreNone c table
none {c = c} {table = table} h =
    record {
      each = (all_tells (λ r. not (is_run c r)) (λ r. ¬ (IsRun c r)) (none_tells c) table).0
          h;
    }

-- ---- a run, and below its waveforms which bits of a net it fixes

-- From a tick on: if the mark is 1 there is no run with the other bit, and if it is 0 there
-- is one.
abbrev pub FixedFrom : Circuit → Run → ℕ → ℕ → List Bool → Type 0
FixedFrom c r net t [] = ⊤
FixedFrom c r net t (true ∷ marks) =
    (¬ (IsRun c (changed r net t))) × FixedFrom c r net (t + 1) marks
FixedFrom c r net t (false ∷ marks) = IsRun c (changed r net t) × FixedFrom c r net (t + 1) marks

pub record Fixes (c : Circuit) (r : Run) (net : ℕ) (marks : String) : Type 0 where
  pub is_run : IsRun c r
  pub fixed : FixedFrom c r net 0 (bits marks)

abbrev fixed_from : Circuit → Run → ℕ → ℕ → List Bool → Bool
fixed_from c r net t [] = true
fixed_from c r net t (true ∷ marks) =
    not (is_run c (changed r net t)) && fixed_from c r net (t + 1) marks
fixed_from c r net t (false ∷ marks) =
    is_run c (changed r net t) && fixed_from c r net (t + 1) marks

fixed_from_tells : (c : Circuit) (r : Run) (net t : ℕ) (marks : List Bool) →
    Decides (fixed_from c r net t marks) (FixedFrom c r net t marks)
fixed_from_tells c r net t [] = (λ h. tt, λ h. refl)
fixed_from_tells c r net t (true ∷ marks) =
    Decides-and (not (is_run c (changed r net t))) (fixed_from c r net (t + 1) marks)
    (none_tells c (changed r net t)) (fixed_from_tells c r net (t + 1) marks)
fixed_from_tells c r net t (false ∷ marks) =
    Decides-and (is_run c (changed r net t)) (fixed_from c r net (t + 1) marks)
    (run_tells c (changed r net t)) (fixed_from_tells c r net (t + 1) marks)

abbrev pub fixes_test : Circuit → Run → ℕ → String → Bool
fixes_test c r net marks = is_run c r && fixed_from c r net 0 (bits marks)

pub fixes : {c : Circuit} {r : Run} {net : ℕ} {marks : String} → fixes_test c r net marks ≡ true →
    Fixes c r net marks
fixes {c = c} {r = r} {net = net} {marks = marks} h =
    let both : IsRun c r × FixedFrom c r net 0 (bits marks) =
    (Decides-and (is_run c r) (fixed_from c r net 0 (bits marks)) (run_tells c r)
    (fixed_from_tells c r net 0 (bits marks))).0 h in
    record { is_run = both.0; fixed = both.1 }
