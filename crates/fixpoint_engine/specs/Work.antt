-- Which nets have to be evaluated in a round, and how many evaluations that makes in all.
use Rattle.std.specs.Prelude.{ℕ, zero, suc, ◌+◌, Bool, false, not, ◌&&◌, ◌||◌, List, [], ◌∷◌, length, count_by, Option, Some, None}
use Rattle.std.specs.List.{range_with_len}
use Rattle.vector_names.specs.declared.bits.Target.{Target}
use Rattle.vector_names.specs.declared.bits.Target.TheVariants.{Net as OnNet, Constant}
use Rattle.element_kinds.specs.declared.kind.Kind.{Kind}
use Rattle.flat_circuit.specs.declared.instance.Pin.{Pin}
use Rattle.flat_circuit.specs.declared.instance.Instance.{Instance}
use Rattle.element_kinds.specs.Kinds.{listens}
use Rattle.flat_circuit.specs.Circuit.{Circuit, driver}
use Rattle.fixpoint_engine.specs.Same.{same_wave}
use Rattle.fixpoint_engine.specs.Waves.{Waves}

-- the net's waves in two rounds differ
abbrev pub differs : Waves → Waves → ℕ → Bool
differs ws vs i = not (same_wave (ws i) (vs i))

abbrev pub is_on_any : (ℕ → Bool) → Target → Bool
is_on_any nets (OnNet i) = nets i
is_on_any nets (Constant one) = false

-- whether a listening pin is on one of the nets, of pins whose places count from one on
abbrev pub hears_from : (ℕ → Bool) → Kind → ℕ → List Pin → Bool
hears_from nets kind place [] = false
hears_from nets kind place (p ∷ ps) =
    (listens kind place && is_on_any nets p.target) || hears_from nets kind (place + 1) ps

-- whether an instance listens to one of the nets
abbrev pub hears_in : (ℕ → Bool) → Option Instance → Bool
hears_in nets None = false
hears_in nets (Some j) = hears_from nets j.kind 0 j.pins

-- A net is due in round 1 if it is active, and in a later round if it is active and its
-- driver listens to a net whose waves differ in the two rounds before.
unfoldable pub is_due : Circuit → (ℕ → Bool) → (ℕ → Waves) → ℕ → ℕ → Bool
is_due c active rounds zero i = false
is_due c active rounds (suc zero) i = active i
is_due c active rounds (suc (suc r)) i =
    active i && hears_in (differs (rounds r) (rounds (suc r))) (driver c i)

-- how many nets are due in a round
abbrev pub due_count : Circuit → (ℕ → Bool) → (ℕ → Waves) → ℕ → ℕ
due_count c active rounds r = count_by (is_due c active rounds r) (range_with_len 0 (length c.nets))

-- how many are due in the rounds 1 to r together
unfoldable pub work_to : Circuit → (ℕ → Bool) → (ℕ → Waves) → ℕ → ℕ
work_to c active rounds zero = 0
work_to c active rounds (suc r) = work_to c active rounds r + due_count c active rounds (suc r)
