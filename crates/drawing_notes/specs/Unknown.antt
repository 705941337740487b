-- UNKNOWN: nets of which nothing is known in some slot.
use Rattle.std.specs.Prelude.{◌≡◌, ℕ, ◌+◌, Bool, List, [], ◌∷◌, length, codes, decimal, slice_get, if◌then◌else◌, Option, Some, None}
use Rattle.std.specs.List.{filter, flat_map, list_any}
use Rattle.step_values.specs.Steps.{is_unknown}
use Rattle.flat_circuit.specs.Circuit.{Circuit}
use Rattle.fixpoint_engine.specs.Waves.{Waves}
use Rattle.timing_analysis.specs.Case.{Case}
use Rattle.drawing_notes.specs.declared.unknown.Counted.{Counted}
use Rattle.listing.specs.Text.{line}
use Rattle.listing.specs.Names.{net_text}

abbrev pub has_unknown : Waves → ℕ → Bool
has_unknown ws i = list_any is_unknown (ws i).cells

unfoldable pub unknown_line : Circuit → ℕ → ℕ → ℕ → List ℕ
unknown_line c number count first = line (
    codes "NOTE UNKNOWN CASE " ∷ decimal number ∷ codes " NETS " ∷ decimal count ∷ codes " "
    ∷ net_text c first ∷ [])

-- of the case with this number, by such nets in the order of names
abbrev pub unknown_in : Circuit → ℕ → List ℕ → List (List ℕ)
unknown_in c number [] = []
unknown_in c number (first ∷ others) = unknown_line c number (length (first ∷ others)) first ∷ []

abbrev pub unknown_at : Circuit → Case → List (List ℕ)
unknown_at c case = unknown_in c case.listed.number (filter (has_unknown case.waves) c.order)

-- case by case
abbrev pub unknown : Circuit → List Case → List (List ℕ)
unknown c cases = flat_map (unknown_at c) cases

-- ---- counted one after the other

abbrev pub first_or : Option ℕ → ℕ → Option ℕ
first_or None net = Some net
first_or (Some first) net = Some first

-- with a net more, if it counts
abbrev pub and_net : Counted → ℕ → Bool → Counted
and_net counted net counts =
    if counts
    then record { count = counted.count + 1; first = first_or counted.first net }
    else counted

-- so many nets, and the first of them
pub record IsCounted (nets : List ℕ) (counted : Counted) : Type 0 where
  pub count : counted.count ≡ length nets
  pub first : counted.first ≡ slice_get nets 0
