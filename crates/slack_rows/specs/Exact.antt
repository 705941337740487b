-- The slacks of a subject in a case, exactly, those too that go by arrivals: as paths have them that
-- know the arrivals of the case as its waves make them.
use Rattle.std.specs.Prelude.{◌≡◌, ℕ, true, false, List, fold, length, slice_get, Option, Some, None}
use Rattle.scald_base.specs.Time.{period}
use Rattle.element_kinds.specs.declared.form.Check.{Check}
use Rattle.element_kinds.specs.Kinds.{check_of, may_be_marked}
use Rattle.flat_circuit.specs.declared.instance.Instance.{Instance}
use Rattle.flat_circuit.specs.Circuit.{Circuit}
use Rattle.gate_eval.specs.Hold.{closed_bit}
use Rattle.fixpoint_engine.specs.Waves.{Waves, marked_pin}
use Rattle.critical_paths.specs.declared.direction.Direction.TheVariants.{Change}
use Rattle.critical_paths.specs.declared.path.Paths.{Paths}
use Rattle.critical_paths.specs.declared.region.Slots.{Slots}
use Rattle.critical_paths.specs.Event.{Events, events}
use Rattle.critical_paths.specs.Reached.{KnowsArrivals}
use Rattle.critical_paths.specs.Region.{some_event}
use Rattle.slack_rows.specs.declared.held.Held.{Held}
use Rattle.slack_rows.specs.declared.parameter.Subject.{Subject}
use Rattle.slack_rows.specs.declared.parameter.Subject.TheVariants.{Instance as OfInstance}
use Rattle.slack_rows.specs.declared.slack.Slacks.{Slacks}
use Rattle.slack_rows.specs.Held.{AreSlots}
use Rattle.slack_rows.specs.Launched.{opening}
use Rattle.slack_rows.specs.Limit.{is_beside, pin_folds}
use Rattle.slack_rows.specs.Shown.{IsHeldAt}
use Rattle.slack_rows.specs.Sides.{AreAtSlots, AreOfChecker, has_windows, lesser_slacks, no_slacks}
use Rattle.slack_rows.specs.Views.{checks_edges}
use Rattle.slack_rows.specs.Watch.{opens}

-- ---- of a marked gate

-- The changes of a pin, against slots in which none is to come.
pub record AreOfHeld (c : Circuit) (ws : Waves) (first : Paths) (held : Held) (ev : Events)
    (still : Slots) (found : Slacks) : Type 0 where
  pub changes : Slots
  pub changes_are : AreSlots (period c.header) ev changes
  pub are : AreAtSlots c ws first (Some held) Change changes still found

-- a pin beside a marked one, against the slots in which the mark lets it through
pub record AreOfPin (c : Circuit) (ws : Waves) (first : Paths) (j : Instance) (marked place : ℕ)
    (found : Slacks) : Type 0 where
  pub held : Held
  pub is_held : IsHeldAt j place marked (opening (closed_bit j.kind)) held
  pub still : Slots
  pub still_are : AreSlots (period c.header) (opens j.kind (pin_folds c ws j marked)) still
  pub are : AreOfHeld c ws first held (events Change (pin_folds c ws j place)) still found

-- Each place of a pin: nothing can break that of the mark, or of a constant.
pub record AreOfPlace (c : Circuit) (ws : Waves) (first : Paths) (j : Instance) (marked place : ℕ)
    (found : Slacks) : Type 0 where
  pub beside : is_beside j marked place ≡ true → AreOfPin c ws first j marked place found
  pub none : is_beside j marked place ≡ false → found ≡ no_slacks

-- the same by paths that know the arrivals of the case
pub record IsOfPlace (c : Circuit) (ws : Waves) (j : Instance) (marked place : ℕ)
    (found : Slacks) : Type 0 where
  pub first : Paths
  pub knows : KnowsArrivals c ws first
  pub are : AreOfPlace c ws first j marked place found

-- the least of the first so many pins
pub record AreOfPins (c : Circuit) (ws : Waves) (j : Instance) (marked count : ℕ)
    (found : Slacks) : Type 0 where
  pub each : List Slacks
  pub long : length each ≡ count
  pub are : (place : ℕ) (own : Slacks) → slice_get each place ≡ Some own →
      IsOfPlace c ws j marked place own
  pub is : found ≡ fold lesser_slacks no_slacks each

-- ---- of a checker

-- its input about edges, by paths that know the arrivals of the case
pub record IsOfChecker (c : Circuit) (ws : Waves) (j : Instance) (check : Check)
    (found : Slacks) : Type 0 where
  pub first : Paths
  pub paths : Paths
  pub knows : KnowsArrivals c ws first
  pub are : AreOfChecker c ws first paths j check found

-- ---- of a subject

-- Of a gate with a mark, or of a checker whose input may change and that has windows.
pub record AreOfInstance (c : Circuit) (ws : Waves) (j : Instance) (found : Slacks) : Type 0 where
  pub gate : (marked : ℕ) → may_be_marked j.kind ≡ true → marked_pin j ≡ Some marked →
      AreOfPins c ws j marked (length j.pins) found
  pub checker : (check : Check) → may_be_marked j.kind ≡ false → check_of j.kind ≡ Some check →
      checks_edges check ≡ true →
      some_event (period c.header) (events Change (pin_folds c ws j 1)) ≡ true →
      has_windows c ws j check ≡ true → IsOfChecker c ws j check found

-- no slack of a net goes by arrivals
abbrev pub AreOfSubject : Circuit → Waves → Subject → Slacks → Type 0
AreOfSubject c ws subject found =
    (k : ℕ) (j : Instance) → subject ≡ OfInstance k → slice_get c.instances k ≡ Some j →
    AreOfInstance c ws j found

-- of one that may be known
abbrev pub AreOfKnown : Circuit → Waves → Option Subject → Slacks → Type 0
AreOfKnown c ws None found = Unit {0}
AreOfKnown c ws (Some subject) found = AreOfSubject c ws subject found
