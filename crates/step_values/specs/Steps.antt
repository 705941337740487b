-- Values as sets of steps. A step is the bit before and the bit after.
use Rattle.std.specs.Prelude.{ℕ, Bool, true, false, not, ◌&&◌, ◌||◌}
use Rattle.step_values.specs.declared.value.Value.{Value}
use Rattle.step_values.specs.declared.value.Value.TheVariants.{Zero, One, S, C, R, F, U}

-- a set of steps, as a test
abbrev pub Steps : Type 0
Steps = Bool → Bool → Bool

-- the value permits the step
abbrev pub has : Value → Steps
has Zero before after = not before && not after
has One before after = before && after
has S before after = (before && after) || (not before && not after)
has R before after = not before || after
has F before after = before || not after
has C before after = true
has U before after = true

-- The least of 0, 1, S, R, F and C that permits the steps 00, 01, 10, 11 that are there. If all
-- four are, and an argument was unknown, it is U. No value permits no step at all.
abbrev pub cover_of : Bool → Bool → Bool → Bool → Bool → Value
cover_of true true true true true = U
cover_of s00 true true s11 unknown = C
cover_of s00 true false s11 unknown = R
cover_of s00 false true s11 unknown = F
cover_of true false false true unknown = S
cover_of true false false false unknown = Zero
cover_of false false false s11 unknown = One

abbrev pub cover : Steps → Bool → Value
cover steps unknown =
    cover_of (steps false false) (steps false true) (steps true false) (steps true true) unknown

abbrev pub is_unknown : Value → Bool
is_unknown U = true
is_unknown _ = false

-- a value that permits no change
abbrev pub is_quiet : Value → Bool
is_quiet v = not (has v false true) && not (has v true false)

-- The least value above both; nothing is known of it if nothing is known of one of them.
abbrev pub join : Value → Value → Value
join v w =
    cover (λ before after. has v before after || has w before after) (is_unknown v || is_unknown w)

-- the value of the complement
abbrev pub flip : Value → Value
flip Zero = One
flip One = Zero
flip R = F
flip F = R
flip S = S
flip C = C
flip U = U

-- the letter of the report, as its ASCII code
abbrev pub letter_of : Value → ℕ
letter_of Zero = 48
letter_of One = 49
letter_of S = 83
letter_of C = 67
letter_of R = 82
letter_of F = 70
letter_of U = 85
