-- SPREAD: names without a range that are spread while their base has other bits.
use Rattle.std.specs.Prelude.{◌≡◌, ℕ, ◌==◌, Bool, false, not, ◌&&◌, List, [], ◌∷◌, codes, decimal, if◌then◌else◌, Option, Some, None}
use Rattle.std.specs.Global.{Vec}
use Rattle.std.specs.List.{flat_map, list_any}
use Rattle.std.specs.Str.{bytes_eq}
use Rattle.flat_circuit.specs.declared.net.Net.{Net}
use Rattle.flat_circuit.specs.Circuit.{Circuit}
use Rattle.drawing_omissions.specs.declared.spread.Finding.{Finding}
use Rattle.drawing_omissions.specs.declared.spread.Finding.TheVariants.{Spread as ASpread, Loop}
use Rattle.drawing_omissions.specs.declared.spread.Spread.{Spread}
use Rattle.listing.specs.Text.{line}

-- a net has this name, path and base, and another bit than 0
abbrev pub is_other_bit : List ℕ → Net → Bool
is_other_bit name n = bytes_eq name n.name && not (n.bit == 0)

abbrev pub has_other_bits : Circuit → List ℕ → Bool
has_other_bits c name = list_any (is_other_bit name) c.nets

unfoldable pub spread_line : Spread → List ℕ
spread_line s = line (
    codes "NOTE SPREAD " ∷ decimal s.place.line ∷ codes ":" ∷ decimal s.place.col ∷ codes " "
    ∷ s.name
    ∷ codes " WIDTH " ∷ decimal s.width ∷ [])

abbrev pub spread_on : Circuit → Spread → List (List ℕ)
spread_on c s = if has_other_bits c s.name then spread_line s ∷ [] else []

abbrev pub spread_at : Circuit → Finding → List (List ℕ)
spread_at c (ASpread s) = spread_on c s
spread_at c (Loop l) = []

-- in the order of expansion
abbrev pub spread : Circuit → List Finding → List (List ℕ)
spread c found = flat_map (spread_at c) found

-- ---- by a set of names

abbrev pub is_among : List (Vec ℕ) → List ℕ → Bool
is_among keys name = list_any (λ (k : Vec ℕ). bytes_eq name k.items) keys

-- exactly the names that have other bits among these nets
abbrev pub AreNames : List Net → List (Vec ℕ) → Type 0
AreNames nets keys = (name : List ℕ) → is_among keys name ≡ list_any (is_other_bit name) nets

abbrev pub is_other_of : Option Net → List ℕ → Bool
is_other_of None name = false
is_other_of (Some n) name = is_other_bit name n
