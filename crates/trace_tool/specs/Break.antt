-- What breaks in a run first.
use Rattle.std.specs.Prelude.{ℕ, ◌+◌, ◌<◌, ◌⊎◌, true, false, length}
use Rattle.flat_circuit.specs.Name.{net_at}
use Rattle.flat_circuit.specs.Circuit.{Circuit}
use Rattle.flat_circuit.specs.Run.{Run}
use Rattle.flat_circuit.specs.Laws.{front}
use Rattle.point_check.specs.Break.{BreaksInstance, BreaksNet}
use Rattle.pulse_check.specs.Break.{BreaksPulse}
use Rattle.trace_tool.specs.declared.element.Element.{Element}
use Rattle.trace_tool.specs.declared.element.Element.TheVariants.{Instance as OfInstance, Net as OfNet}

-- Something that the element asks for is broken, at ticks that all lie from a given one on.
abbrev pub Breaks : Circuit → Run → ℕ → Element → Type 0
Breaks c run from (OfInstance k) =
    BreaksInstance c run k from ⊎ (BreaksPulse c run k true from ⊎ BreaksPulse c run k false from)
Breaks c run from (OfNet place) =
    (place < length c.order) × BreaksNet c run (net_at c.order place) from

-- The same in the part of the run that ends with this tick: it is broken, and the greatest of the
-- ticks at which it is comes at this one or earlier.
abbrev pub BreaksBy : Circuit → Run → ℕ → ℕ → Element → Type 0
BreaksBy c run from last e = (last < run.ticks) × Breaks c (front (last + 1) run) from e

-- instances in the order of expansion, then nets in name order
abbrev pub Precedes : Element → Element → Type 0
Precedes (OfInstance j) (OfInstance k) = j < k
Precedes (OfInstance j) (OfNet place) = Unit {0}
Precedes (OfNet place) (OfInstance k) = ⊥
Precedes (OfNet place) (OfNet other) = place < other

-- Of the breaks from a tick on, one whose greatest tick is least, and of these the first element's.
pub record BreaksFirst (c : Circuit) (run : Run) (from last : ℕ) (e : Element) : Type 0 where
  pub at : BreaksBy c run from last e
  pub no_sooner : (other : Element) (t : ℕ) → t < last → BreaksBy c run from t other → ⊥
  pub no_other : (other : Element) → Precedes other e → BreaksBy c run from last other → ⊥

-- there is none
abbrev pub BreaksNever : Circuit → Run → ℕ → Type 0
BreaksNever c run from = (e : Element) → Breaks c run from e → ⊥
