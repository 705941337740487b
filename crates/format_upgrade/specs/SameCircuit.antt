-- Flat circuits that are the same, whatever the order in which their nets were named, and places
-- aside.
use Rattle.std.specs.Prelude.{◌≡◌, ℕ, List, ◌∷◌, length, map, Option, Some, None, if◌then◌else◌, Result, Ok, Err}
use Rattle.scald_base.specs.Time.{Bounds}
use Rattle.scald_base.specs.declared.refusal.Refusal.{Refusal}
use Rattle.drawing_tree.specs.Places.{nowhere}
use Rattle.flat_circuit.specs.Name.{Name}
use Rattle.flat_circuit.specs.Builder.{same_name, has_name, spec_of}
use Rattle.macro_expander.specs.Named.{NamedInstance, State}
use Rattle.macro_expander.specs.Cases.{CaseBit}

abbrev pub unplaced_instance : NamedInstance → NamedInstance
unplaced_instance j = record j { place = nowhere }

-- the bounds of the wire of a net
abbrev pub wire_named : List Name → List Bounds → Name → Option Bounds
wire_named (n ∷ ns) (w ∷ ws) name = if same_name name n then Some w else wire_named ns ws name
wire_named _ _ name = None

-- The same header; the same instance and checker bits in the same order; and the same nets, each
-- with the same wire and the same assertion.
pub record SameCircuit (a b : State) : Type 0 where
  pub header : b.header ≡ a.header
  pub instances : map unplaced_instance b.instances ≡ map unplaced_instance a.instances
  pub count : length b.names ≡ length a.names
  pub names : (name : Name) → has_name b.names name ≡ has_name a.names name
  pub wires : (name : Name) → wire_named b.names b.wires name ≡ wire_named a.names a.wires name
  pub assertions : (text : List ℕ) → spec_of b.asserted text ≡ spec_of a.asserted text

-- the same cases, or refused for the same reason
abbrev pub SameCases : Result (List (List CaseBit)) Refusal → Result (List (List CaseBit)) Refusal →
    Type 0
SameCases (Ok a) (Ok b) = b ≡ a
SameCases (Err r) (Err q) = q.kind ≡ r.kind
SameCases _ _ = ⊥
