-- Global nets. A global net is one net in all sections where it stands; every other net is its
-- section's own.
use Rattle.std.specs.Prelude.{ℕ, ◌==◌, nat_lt, Bool, false, not, ◌&&◌, List, [], ◌∷◌, is_some, count_by}
use Rattle.std.specs.List.{list_any}
use Rattle.flat_circuit.specs.declared.net.Net.{Net}
use Rattle.flat_circuit.specs.Builder.{same_name}
use Rattle.flat_circuit.specs.Name.{Name}
use Rattle.flat_circuit.specs.Circuit.{Circuit, net_name}

-- a name that begins with a slash is the same in every section
abbrev pub begins_with_slash : List ℕ → Bool
begins_with_slash [] = false
begins_with_slash (byte ∷ rest) = byte == 47

abbrev pub is_global : Net → Bool
is_global net = begins_with_slash net.name

abbrev pub has_name : Name → Net → Bool
has_name name net = same_name name (net_name net)

abbrev pub is_driven : Net → Bool
is_driven net = is_some net.driver

-- the net of this name stands in a section; a section drives it
abbrev pub stands_in : Name → Circuit → Bool
stands_in name c = list_any (has_name name) c.nets

abbrev pub is_driven_in : Name → Circuit → Bool
is_driven_in name c = list_any (λ (net : Net). has_name name net && is_driven net) c.nets

-- A net crosses if one section drives it and it stands in another.
abbrev pub crosses_by : List Circuit → Name → Bool
crosses_by whole name =
    begins_with_slash name.text
    && (list_any (is_driven_in name) whole && nat_lt 1 (count_by (stands_in name) whole))

abbrev pub crosses : List Circuit → Net → Bool
crosses whole net = crosses_by whole (net_name net)

-- It crosses into a section that does not drive it.
abbrev pub crosses_into : List Circuit → Net → Bool
crosses_into whole net = not (is_driven net) && crosses whole net
