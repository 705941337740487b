-- What holds of the runs of each circuit, whatever it is made of: parts of runs are runs, and what
-- no equation names is free.
use Rattle.std.specs.Prelude.{◌≡◌, ℕ, ◌-◌, ◌<◌, min, Bool, true, false, [], map, take, drop, ◌++◌, ◌∷◌, All, slice_get, slice_set, slice_index_or, Some, ◌≢◌}
use Rattle.vector_names.specs.declared.bits.Target.TheVariants.{Net as OnNet}
use Rattle.element_kinds.specs.declared.kind.Kind.{Kind}
use Rattle.element_kinds.specs.declared.form.Form.{Form}
use Rattle.element_kinds.specs.declared.form.Form.TheVariants.{Gate, Change, Register, Latch as Enabled, Checker}
use Rattle.element_kinds.specs.Kinds.{form_of, has_output}
use Rattle.flat_circuit.specs.declared.instance.Pin.{Pin}
use Rattle.flat_circuit.specs.declared.instance.Instance.{Instance}
use Rattle.flat_circuit.specs.Split.{two_delays}
use Rattle.flat_circuit.specs.Circuit.{Circuit}
use Rattle.flat_circuit.specs.Run.{Run, Choice, IsAskedWith, IsRunAt, IsRun}

-- the first ticks of a run, at most so many
abbrev pub front : ℕ → Run → Run
front m run = record run { ticks = min m run.ticks; bits = map (take m) run.bits }

-- a run without so many ticks at its start
abbrev pub later_part : ℕ → Run → Run
later_part m run = record run { ticks = run.ticks - m; bits = map (drop m) run.bits }

-- A run may end at any tick.
abbrev pub FrontsAreRuns : Type 0
FrontsAreRuns = (c : Circuit) (run : Run) (m : ℕ) → IsRun c run → IsRun c (front m run)

-- A run may begin at any tick, so nothing is said of how it begins.
abbrev pub LaterPartsAreRuns : Type 0
LaterPartsAreRuns = (c : Circuit) (run : Run) (m : ℕ) → IsRun c run → IsRun c (later_part m run)

-- with this bit of a net at a tick
abbrev pub with_bit : Run → ℕ → ℕ → Bool → Run
with_bit run net t b = record run {
  bits = slice_set run.bits net
      (slice_set (slice_index_or run.bits net []) t b);
}

-- by the form of a kind
abbrev pub looks_back_by : Form → Bool
looks_back_by Gate = false
looks_back_by Change = true
looks_back_by (Register forced) = true
looks_back_by (Enabled forced) = true
looks_back_by (Checker check) = false

-- the equation names the output at the tick before
abbrev pub looks_back : Kind → Bool
looks_back kind = looks_back_by (form_of kind)

-- No pin of this instance is on the net, unless it is a checker; and if the instance drives the
-- net, its equation is asked at no tick that names the net's bit at this one.
pub record LeavesFree (run : Run) (net t : ℕ) (i : Instance) (choice : Choice) : Type 0 where
  pub unread : has_output i.kind ≡ true → All (λ (p : Pin). p.target ≢ OnNet net) i.pins
  pub unasked : i.out ≡ Some (OnNet net) → (u : ℕ) → u < run.ticks →
      IsAskedWith i.kind i.delay (two_delays i.kind i.split) choice u → u ≢ t
  pub unnamed : i.out ≡ Some (OnNet net) → looks_back i.kind ≡ true → (u : ℕ) → u < run.ticks →
      IsAskedWith i.kind i.delay (two_delays i.kind i.split) choice u → u - 1 ≢ t

-- A bit that no equation names may be either.
abbrev pub UnnamedBitsAreFree : Type 0
UnnamedBitsAreFree = (c : Circuit) (run : Run) (net t : ℕ) (b : Bool) → IsRun c run →
    ((k : ℕ) (i : Instance) (choice : Choice) → slice_get c.instances k ≡ Some i →
    slice_get run.choices k ≡ Some choice →
    LeavesFree run net t i choice) →
    IsRun c (with_bit run net t b)

-- a circuit with one instance more, and a run with a choice for it
abbrev pub with_instance : Circuit → Instance → Circuit
with_instance c i = record c { instances = c.instances ++ i ∷ [] }

abbrev pub with_choice : Run → Choice → Run
with_choice run choice = record run { choices = run.choices ++ choice ∷ [] }

-- A run is a run of all instances but the last in which the last one, too, has its choices in
-- bounds and obeys its equation: so each instance counts, however many there are.
pub record RunsGoByInstances : Type 0 where
  pub more : (c : Circuit) (run : Run) (i : Instance) (choice : Choice) → IsRun c run →
      IsRunAt c run i choice → IsRun (with_instance c i) (with_choice run choice)
  pub fewer : (c : Circuit) (run : Run) (i : Instance) (choice : Choice) →
      IsRun (with_instance c i) (with_choice run choice) → IsRun c run × IsRunAt c run i choice
