-- Nets that nothing determines though a pin is on them.
use Rattle.std.specs.Prelude.{◌≡◌, ℕ, ◌==◌, Bool, false, not, ◌&&◌, ◌||◌, List, [], is_some, slice_get, Option, Some, None}
use Rattle.std.specs.List.{filter, list_any}
use Rattle.flat_circuit.specs.declared.case.CaseValue.{CaseValue}
use Rattle.flat_circuit.specs.declared.net.Net.{Net}
use Rattle.flat_circuit.specs.Builder.{is_asserted}
use Rattle.flat_circuit.specs.Circuit.{Circuit}
use Rattle.fixpoint_engine.specs.Settled.{marked_in}
use Rattle.drawing_omissions.specs.Read.{is_read}

-- neither driven nor asserted
abbrev pub is_free : Option Net → Bool
is_free None = false
is_free (Some n) = not (is_some n.driver) && not (is_asserted n.spec)

-- the case gives the net a bit
abbrev pub sets : ℕ → List CaseValue → Bool
sets i values = list_any (λ (v : CaseValue). v.net == i) values

abbrev pub is_set : List (List CaseValue) → ℕ → Bool
is_set cases i = list_any (sets i) cases

-- driven, asserted, or set by a case
abbrev pub is_given : Circuit → List (List CaseValue) → ℕ → Bool
is_given c cases i = not (is_free (slice_get c.nets i)) || is_set cases i

-- none of these, and a pin is on it
abbrev pub is_loose : Circuit → List (List CaseValue) → ℕ → Bool
is_loose c cases i = not (is_given c cases i) && is_read c.instances i

-- all such nets, in the order of names
abbrev pub loose_nets : Circuit → List (List CaseValue) → List ℕ
loose_nets c cases = filter (is_loose c cases) c.order

-- path and base of a net's name
abbrev pub name_in : Option Net → List ℕ
name_in None = []
name_in (Some n) = n.name

abbrev pub name_of : Circuit → ℕ → List ℕ
name_of c i = name_in (slice_get c.nets i)

-- ---- by marks

-- exactly the nets that these cases set are marked
abbrev pub AreSet : List (List CaseValue) → List Bool → Type 0
AreSet cases marks = (i : ℕ) → marked_in marks i ≡ is_set cases i
