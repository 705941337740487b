-- Laws of slacks: a limit is broken exactly if there is a fault.
use Rattle.std.specs.Prelude.{◌≡◌, ◌⊎◌, ◌↔◌, ℕ, ◌*◌, ◌<◌, ◌≤◌, Bool, true, false, List, [], ◌∷◌, length, slice_get, is_some, Some}
use Rattle.std.specs.List.{AllByRecursion}
use Rattle.scald_base.specs.Time.{IsHeader, period}
use Rattle.element_kinds.specs.Kinds.{checks_points, checks_pulses, may_be_marked}
use Rattle.flat_circuit.specs.Limits.{high_of, low_of}
use Rattle.flat_circuit.specs.declared.instance.Instance.{Instance}
use Rattle.flat_circuit.specs.Circuit.{Circuit, IsCircuit}
use Rattle.fixpoint_engine.specs.Waves.{Waves}
use Rattle.point_check.specs.Faults.{instance_fault, net_fault}
use Rattle.pulse_check.specs.Faults.{limited_fault as width_fault}
use Rattle.critical_paths.specs.Event.{Events}
use Rattle.critical_paths.specs.Region.{IsCyclic}
use Rattle.slack_rows.specs.Slack.{Launches, Watch, Finding, is_broken, finding_before, finding_after}
use Rattle.slack_rows.specs.declared.parameter.Word.{Word as Limit}
use Rattle.slack_rows.specs.declared.parameter.Word.TheVariants.{Setup, Hold, High, Low, Gate, Before as GateBefore, After as GateAfter, Assert, From as StableFrom, To as StableTo}
use Rattle.slack_rows.specs.declared.parameter.Subject.{Subject}
use Rattle.slack_rows.specs.declared.parameter.Subject.TheVariants.{Instance as OfInstance, Net as OfNet}
use Rattle.slack_rows.specs.Limit.{finding_in}
use Rattle.slack_rows.specs.Window.{Window}

-- the window lies so that what is before it and after it has ticks, and some tick is in it
pub record IsPlaced (p : ℕ) (w : Window) : Type 0 where
  pub after_start : 2 * p ≤ w.opens
  pub some : w.opens < w.closes
  pub before_end : w.closes < 6 * p

-- a change may come in a window
pub record IsTouched (ev : Events) (w : Window) : Type 0 where
  pub tick : ℕ
  pub after : w.opens < tick
  pub within : tick ≤ w.closes
  pub is : ev tick ≡ true

pub record SomeTick (ev : Events) : Type 0 where
  pub tick : ℕ
  pub is : ev tick ≡ true

-- one of the list is so
abbrev pub SomeOf : {A : Type 0} → (A → Type 0) → List A → Type 0
SomeOf holds [] = ⊥
SomeOf holds (x ∷ xs) = holds x ⊎ SomeOf holds xs

-- data may come where it is not to
abbrev pub IsTouchedWatch : Watch → Type 0
IsTouchedWatch watch = ((watch.never ≡ true) × SomeTick watch.changes)
    ⊎ SomeOf (IsTouched watch.changes) watch.windows

abbrev pub IsBroken : Finding → Type 0
IsBroken finding = is_broken finding.slack ≡ true

-- One of the two slacks is broken exactly if it does, whatever is known of launches.
abbrev pub BrokenWhereTouched : Type 0
BrokenWhereTouched =
    (p : ℕ) (launches : Launches) (watch : Watch) → 2 ≤ p → IsCyclic p watch.changes →
    AllByRecursion (IsPlaced p) watch.windows →
    (IsBroken (finding_before p launches watch) ⊎ IsBroken (finding_after p launches watch))
    ↔ IsTouchedWatch watch

-- ---- faults

-- a limit of a subject is broken in these waves
abbrev pub Breaks : Circuit → Waves → Subject → Limit → Type 0
Breaks c ws subject limit = IsBroken (finding_in c ws subject limit)

-- Delays, limits and pins are those of a circuit, and each net has a wave of the period.
pub record AreWaves (c : Circuit) (ws : Waves) : Type 0 where
  pub circuit : IsCircuit c
  pub header : IsHeader c.header
  pub long : (i : ℕ) → i < length c.nets → length (ws i).cells ≡ period c.header

-- A checker at edges has a fault exactly if its setup or its hold slack is broken.
abbrev pub EdgesBreakWithFaults : Type 0
EdgesBreakWithFaults =
    (c : Circuit) (ws : Waves) (k : ℕ) (j : Instance) → AreWaves c ws →
    slice_get c.instances k ≡ Some j →
    checks_points j.kind ≡ true →
    (is_some (instance_fault c ws k) ≡ true)
    ↔ (Breaks c ws (OfInstance k) Setup ⊎ Breaks c ws (OfInstance k) Hold)

-- A checker of widths has a fault of high pulses exactly if the slack of their width is broken,
-- and so with low ones.
abbrev pub limit_of_level : Bool → Limit
limit_of_level true = High
limit_of_level false = Low

abbrev pub width_of_level : Instance → Bool → ℕ
width_of_level j true = high_of j.limits
width_of_level j false = low_of j.limits

abbrev pub WidthsBreakWithFaults : Type 0
WidthsBreakWithFaults =
    (c : Circuit) (ws : Waves) (k : ℕ) (j : Instance) (level : Bool) → AreWaves c ws →
    slice_get c.instances k ≡ Some j →
    checks_pulses j.kind ≡ true →
    (is_some (width_fault c ws k j level (width_of_level j level)) ≡ true)
    ↔ Breaks c ws (OfInstance k) (limit_of_level level)

-- A marked gate has a hazard exactly if one of its slacks is broken.
abbrev pub MarksBreakWithFaults : Type 0
MarksBreakWithFaults =
    (c : Circuit) (ws : Waves) (k : ℕ) (j : Instance) → AreWaves c ws →
    slice_get c.instances k ≡ Some j →
    may_be_marked j.kind ≡ true →
    (is_some (instance_fault c ws k) ≡ true) ↔
    (Breaks c ws (OfInstance k) Gate
    ⊎ (Breaks c ws (OfInstance k) GateBefore ⊎ Breaks c ws (OfInstance k) GateAfter))

-- A driven net breaks its assertion exactly if one of its slacks is broken.
abbrev pub NetsBreakWithFaults : Type 0
NetsBreakWithFaults =
    (c : Circuit) (ws : Waves) (i : ℕ) → AreWaves c ws → i < length c.nets →
    (is_some (net_fault c ws i) ≡ true) ↔
    (Breaks c ws (OfNet i) Assert ⊎
    (Breaks c ws (OfNet i) StableFrom ⊎ Breaks c ws (OfNet i) StableTo))
