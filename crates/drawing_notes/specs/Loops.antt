-- LOOP: the loops through gates and change functions.
use Rattle.std.specs.Prelude.{ℕ, Bool, not, ◌&&◌, List, [], ◌∷◌, length, take, codes, decimal, count_by, if◌then◌else◌}
use Rattle.std.specs.List.{flat_map, list_any, range_with_len}
use Rattle.flat_circuit.specs.Name.{net_at}
use Rattle.flat_circuit.specs.Circuit.{Circuit}
use Rattle.listing.specs.Text.{line}
use Rattle.listing.specs.Names.{net_text}
use Rattle.drawing_notes.specs.Paths.{is_looped}

-- how many nets are on the loop of a net
abbrev pub loop_size : Circuit → (ℕ → ℕ → Bool) → ℕ → ℕ
loop_size c together i = count_by (together i) (range_with_len 0 (length c.nets))

unfoldable pub loop_line : Circuit → ℕ → ℕ → List ℕ
loop_line c i size = line (codes "NOTE LOOP " ∷ net_text c i ∷ codes " NETS " ∷ decimal size ∷ [])

-- the net is on a loop that none of these nets is on
abbrev pub is_first : (ℕ → ℕ → Bool) → List ℕ → ℕ → Bool
is_first together before i = is_looped together i && not (list_any (together i) before)

-- by the place of a net in the order of names
abbrev pub loop_at : Circuit → (ℕ → ℕ → Bool) → ℕ → List (List ℕ)
loop_at c together place =
    let i = net_at c.order place in
    if is_first together (take place c.order) i then loop_line c i (loop_size c together i)
    ∷ [] else []

-- each by the first of its nets, in the order of names
abbrev pub loops : Circuit → (ℕ → ℕ → Bool) → List (List ℕ)
loops c together = flat_map (loop_at c together) (range_with_len 0 (length c.order))
