-- UNREAD: driven nets without an assertion that no pin is on.
use Rattle.std.specs.Prelude.{ℕ, Bool, false, not, ◌&&◌, List, [], ◌∷◌, codes, is_some, slice_get, if◌then◌else◌, Option, Some, None}
use Rattle.std.specs.List.{flat_map}
use Rattle.flat_circuit.specs.declared.net.Net.{Net}
use Rattle.flat_circuit.specs.Builder.{is_asserted}
use Rattle.flat_circuit.specs.Circuit.{Circuit}
use Rattle.drawing_omissions.specs.Read.{is_read}
use Rattle.listing.specs.Text.{line}
use Rattle.listing.specs.Names.{net_text}

abbrev pub is_plain_output : Option Net → Bool
is_plain_output None = false
is_plain_output (Some n) = is_some n.driver && not (is_asserted n.spec)

unfoldable pub unread_line : Circuit → ℕ → List ℕ
unread_line c i = line (codes "NOTE UNREAD " ∷ net_text c i ∷ [])

abbrev pub is_unread : Circuit → ℕ → Bool
is_unread c i = is_plain_output (slice_get c.nets i) && not (is_read c.instances i)

abbrev pub unread_at : Circuit → ℕ → List (List ℕ)
unread_at c i = if is_unread c i then unread_line c i ∷ [] else []

-- in the order of names
abbrev pub unread : Circuit → List (List ℕ)
unread c = flat_map (unread_at c) c.order
