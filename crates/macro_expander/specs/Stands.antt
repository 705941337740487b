-- A circuit that stands for the flat circuit of a drawing, and how a drawing is refused.
use Rattle.std.specs.Prelude.{◌≡◌, map, ◌⊎◌}
use Rattle.scald_base.specs.declared.refusal.Stop.{Stop}
use Rattle.scald_base.specs.declared.refusal.Stop.TheVariants.{Refused, NoMemory}
use Rattle.flat_circuit.specs.declared.net.Net.{Net}
use Rattle.flat_circuit.specs.Name.{Name}
use Rattle.flat_circuit.specs.Circuit.{Circuit, net_names}
use Rattle.flat_circuit.specs.Builder.{Built, IsBuilt, IsRefusal, spec_of}
use Rattle.drawing_tree.specs.Tree.{Drawing}
use Rattle.macro_expander.specs.declared.expansion.Expansion.{Expansion}
use Rattle.macro_expander.specs.Named.{State}
use Rattle.macro_expander.specs.Outcome.{Gives, Fails}
use Rattle.macro_expander.specs.Flat.{flat}
use Rattle.macro_expander.specs.Numbered.{instance_of, state_of}

-- The same header; exactly the same nets, each once, in the order of their first use; of each the
-- assertion of its base name and the bounds of its wire; and the same instance and checker bits in
-- the same order, each pin and output on the net of the same name or on the same constant. Drivers,
-- readers and name order are those of these nets and instances, as in every circuit.
pub record Stands (s : State) (c : Circuit) : Type 0 where
  pub header : c.header ≡ s.header
  pub names : net_names c.nets ≡ s.names
  pub wires : map (λ (n : Net). n.wire) c.nets ≡ s.wires
  pub assertions : map (λ (n : Net). n.spec) c.nets
      ≡ map (λ (n : Name). spec_of s.asserted n.text) s.names
  pub instances : map (instance_of (net_names c.nets)) c.instances ≡ s.instances

-- What a drawing's circuit is.
pub record IsCircuitOf (d : Drawing) (c : Circuit) : Type 0 where
  pub state : State
  pub expanded : flat d ≡ Gives tt state
  pub stands : Stands state c

-- All statements of the drawing are expanded so.
abbrev pub IsExpansionOf : Drawing → Expansion → Type 0
IsExpansionOf d e = flat d ≡ Gives tt (state_of e)

-- a flat circuit with its nets by numbers
pub record IsNumbered (s : State) (b : Built) : Type 0 where
  pub header : b.header ≡ s.header
  pub names : b.names ≡ s.names
  pub wires : b.wires ≡ s.wires
  pub asserted : b.asserted ≡ s.asserted
  pub instances : map (instance_of b.names) b.instances ≡ s.instances

-- The drawing expands, and its circuit has two drivers of a net or a loop without delay.
pub record BreaksRule (d : Drawing) (stop : Stop) : Type 0 where
  pub state : State
  pub expanded : flat d ≡ Gives tt state
  pub numbered : Built
  pub is_numbered : IsNumbered state numbered
  pub is_built : IsBuilt numbered
  pub broken : IsRefusal numbered stop

-- Expansion is refused, or else a rule of the circuit is broken.
abbrev pub IsStopOf : Drawing → Stop → Type 0
IsStopOf d NoMemory = Unit {0}
IsStopOf d (Refused r) = (flat d ≡ Fails r.kind r.place) ⊎ BreaksRule d (Refused r)
