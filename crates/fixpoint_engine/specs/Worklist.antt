-- The worklist of a round: the nets that are due in it, each once, and the waves that come of them.
use Rattle.std.specs.Prelude.{◌≡◌, ◌↔◌, ℕ, Bool, true, false, not, ◌||◌, List, length, map, filter, fold, count_by, slice_set, ◌==◌, Option, Some, None}
use Rattle.std.specs.List.{Contains, list_any}
use Rattle.vector_names.specs.declared.bits.Target.{Target}
use Rattle.vector_names.specs.declared.bits.Target.TheVariants.{Net as OnNet, Constant}
use Rattle.step_values.specs.declared.value.Value.{Value}
use Rattle.skew_algebra.specs.Wave.{Wave}
use Rattle.flat_circuit.specs.Instances.{is_on}
use Rattle.flat_circuit.specs.Circuit.{Circuit}
use Rattle.fixpoint_engine.specs.Same.{same_wave}
use Rattle.fixpoint_engine.specs.Waves.{Waves}
use Rattle.fixpoint_engine.specs.Rounds.{evaluated}
use Rattle.fixpoint_engine.specs.Settled.{marked_in}

-- a queue of nets: a list in some order, and a mark for each net that is in it
pub record Queue : Type 0 where
  pub nets : List ℕ
  pub marks : List Bool

-- The marked nets are those of the list, and each stands there once.
pub record IsQueue (q : Queue) : Type 0 where
  pub are : (i : ℕ) → (marked_in q.marks i ≡ true) ↔ Contains q.nets i
  pub once : length q.nets ≡ count_by (λ marked. marked) q.marks

-- The new queue has the nets of the old one and those of a set.
pub record Adds (set : ℕ → Bool) (old new : Queue) : Type 0 where
  pub each_net : length new.marks ≡ length old.marks
  pub marks : (i : ℕ) → marked_in new.marks i ≡ (marked_in old.marks i || set i)

-- a net, and the wave that it is to have
abbrev pub Change : Type 0
Change = ℕ × Wave Value

-- what evaluating these nets changes
abbrev pub changes_of : Circuit → Waves → List ℕ → List Change
changes_of c ws nets =
    filter (λ (ch : Change). not (same_wave ch.1 (ws ch.0))) (map (λ i. (i, evaluated c ws i)) nets)

-- the waves after the changes
abbrev pub changed : List (Wave Value) → List Change → List (Wave Value)
changed waves changes = fold (λ after (ch : Change). slice_set after ch.0 ch.1) waves changes

-- whether a net is one of these
abbrev pub among : List ℕ → ℕ → Bool
among nets i = list_any (λ net. net == i) nets

-- the net that an output drives
abbrev pub output_net : Option Target → Option ℕ
output_net None = None
output_net (Some (OnNet i)) = Some i
output_net (Some (Constant one)) = None

-- whether an output is on the net
abbrev pub drives_in : Option Target → ℕ → Bool
drives_in None i = false
drives_in (Some t) i = is_on i t
