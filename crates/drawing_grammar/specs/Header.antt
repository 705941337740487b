-- The header that its written numbers give, and the first of its statements whose numbers are
-- refused.
use Rattle.std.specs.Prelude.{ℕ, ℤ, pos, negsuc, ◌*ℤ◌, int_le, Bool, ◌&&◌, if◌then◌else◌, Option, Some, None, Result, Ok, Err}
use Rattle.scald_base.specs.Time.{Bounds, Header}
use Rattle.scald_base.specs.declared.refusal.Place.{Place}
use Rattle.scald_base.specs.declared.refusal.Refusal.{Refusal}
use Rattle.scald_base.specs.declared.refusal.RefusalKind.TheVariants.{BadHeader}
use Rattle.drawing_grammar.specs.declared.header.NumberPair.{NumberPair}
use Rattle.drawing_grammar.specs.declared.header.WrittenHeader.{WrittenHeader}

-- ---- which numbers may stand in it

-- the number of the language
abbrev pub is_version : ℤ → Bool
is_version n = int_le (pos 1) n && int_le n (pos 2)

-- units and ticks are not 0, and the period is 2 to 4,096 ticks
abbrev pub is_clock : ℤ → ℤ → Bool
is_clock units ticks =
    int_le (pos 1) units && int_le (pos 1) ticks && int_le (pos 2) (units *ℤ ticks)
    && int_le (units *ℤ ticks) (pos 4096)

-- the least is not above the greatest, and that is at most 4,095
abbrev pub is_bounds : ℤ → ℤ → Bool
is_bounds min max = int_le (pos 0) min && int_le min max && int_le max (pos 4095)

abbrev pub is_skew : ℤ → ℤ → Bool
is_skew early late =
    int_le (pos 0) early && int_le early (pos 4095) && int_le (pos 0) late && int_le late (pos 4095)

-- ---- what it says

abbrev pub natural : ℤ → ℕ
natural (pos n) = n
natural (negsuc n) = 0

-- the two numbers, or 0 and 0 if none are written
abbrev pub pair_of : Option NumberPair → ℕ × ℕ
pair_of None = (0, 0)
pair_of (Some pair) = (natural pair.first, natural pair.second)

abbrev pub bounds_of : Option NumberPair → Bounds
bounds_of written = record { min = (pair_of written).0; max = (pair_of written).1 }

abbrev pub header_of : WrittenHeader → Header
header_of w = record {
  units = natural w.clock.first;
  ticks = natural w.clock.second;
  wire = bounds_of w.wire;
  pskew = pair_of w.pskew;
  cskew = pair_of w.cskew;
}

-- ---- where it is refused

abbrev pub refused_at : Place → Refusal
refused_at place = record { kind = BadHeader; place = place }

-- what is said, if the numbers of a statement are good; else the refusal at its first token
abbrev pub judged_statement : {A : Type 0} → Bool → Place → Result A Refusal → Result A Refusal
judged_statement good place said = if good then said else Err (refused_at place)

-- the same for a statement of two numbers, which may be left out
abbrev pub judged_pair : {A : Type 0} → (ℤ → ℤ → Bool) → Option NumberPair → Result A Refusal →
    Result A Refusal
judged_pair test None said = said
judged_pair test (Some pair) said = judged_statement (test pair.first pair.second) pair.place said

-- the header, if the numbers of all its statements are good; else the refusal of the first that
-- has another
abbrev pub judged : WrittenHeader → Result Header Refusal
judged w =
    judged_statement (is_version w.version) w.place
    (judged_statement (is_clock w.clock.first w.clock.second) w.clock.place
    (judged_pair is_bounds w.wire
    (judged_pair is_skew w.pskew
    (judged_pair is_skew w.cskew
    (Ok (header_of w))))))
