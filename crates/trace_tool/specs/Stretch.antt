-- The stretches of bits that are variables of their own: bits of one name side by side.
use Rattle.std.specs.Prelude.{◌≡◌, ℕ, zero, suc, ◌+◌, ◌-◌, ◌<◌, ◌==◌, ◌&&◌, Bool, true, false, List, [], ◌∷◌, length, map, if◌then◌else◌}
use Rattle.std.specs.List.{All, flat_map, range_with_len}
use Rattle.std.specs.Str.{bytes_eq}
use Rattle.flat_circuit.specs.Circuit.{Circuit}
use Rattle.trace_tool.specs.declared.stretch.Stretch.{Stretch}
use Rattle.trace_tool.specs.Name.{name_of}

-- the net at a place has the name of the one before it, and the next bit
abbrev pub follows : Circuit → ℕ → Bool
follows c place =
    bytes_eq (name_of c (place - 1)).text (name_of c place).text
    && ((name_of c (place - 1)).bit + 1 == (name_of c place).bit)

-- ---- the stretches in name order

abbrev pub longer : Stretch → ℕ → Stretch
longer s place = record { number = s.number; from = s.from; to = place + 1 }

abbrev pub next : Stretch → ℕ → Stretch
next s place = record { number = s.number + 1; from = place; to = place + 1 }

-- from a stretch on that ends at a place, with so many places after it
abbrev pub cut : Circuit → Stretch → ℕ → ℕ → List Stretch
cut c s place zero = s ∷ []
cut c s place (suc more) =
    if follows c place then cut c (longer s place) (place + 1) more
    else s ∷ cut c (next s place) (place + 1) more

abbrev pub first : Stretch
first = record { number = 0; from = 0; to = 1 }

abbrev pub cut_all : Circuit → ℕ → List Stretch
cut_all c zero = []
cut_all c (suc more) = cut c first 1 more

abbrev pub stretches : Circuit → List Stretch
stretches c = cut_all c (length c.nets)

-- ---- what they are

abbrev pub places : Stretch → List ℕ
places s = range_with_len s.from (s.to - s.from)

-- the bits from the first to the last adjoin
abbrev pub IsOne : Circuit → Stretch → Type 0
IsOne c s = (place : ℕ) → s.from < place → place < s.to → follows c place ≡ true

-- and the first adjoins none before it
abbrev pub Begins : Circuit → Stretch → Type 0
Begins c s = 0 < s.from → follows c s.from ≡ false

-- Each net is in one stretch, each stretch has a net, bits of a stretch adjoin and those of two
-- stretches do not, and stretches are numbered from 0 in name order.
pub record AreStretches (c : Circuit) (ss : List Stretch) : Type 0 where
  pub cover : flat_map places ss ≡ range_with_len 0 (length c.nets)
  pub some : All (λ (s : Stretch). s.from < s.to) ss
  pub adjoin : All (IsOne c) ss
  pub apart : All (Begins c) ss
  pub numbered : map (λ (s : Stretch). s.number) ss ≡ range_with_len 0 (length ss)

abbrev pub StretchesAre : Type 0
StretchesAre = (c : Circuit) → AreStretches c (stretches c)
