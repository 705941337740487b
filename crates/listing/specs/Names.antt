-- How the report names the nets and instances of a circuit, by their numbers. What is past the last
-- has no name.
use Rattle.std.specs.Prelude.{ℕ, List, map}
use Rattle.flat_circuit.specs.declared.instance.Instance.{Instance}
use Rattle.flat_circuit.specs.Name.{Name, name_at}
use Rattle.flat_circuit.specs.Circuit.{Circuit, net_names}
use Rattle.listing.specs.Text.{bit_text}

abbrev pub net_text : Circuit → ℕ → List ℕ
net_text c i = bit_text (name_at (net_names c.nets) i)

-- the labels of its scopes and its own, and its position in its width
abbrev pub instance_name : Instance → Name
instance_name j = record { text = j.path; bit = j.bit }

abbrev pub instance_text : Circuit → ℕ → List ℕ
instance_text c k = bit_text (name_at (map instance_name c.instances) k)
