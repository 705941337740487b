-- How a text is cut into lines, and a line searched for numbers.
use Rattle.std.specs.Prelude.{◌≡◌, ◌≢◌, ℕ, zero, suc, ◌+◌, ◌-◌, ◌*◌, ◌≤◌, ◌==◌, ◌&&◌, min, nat_le, Bool, List, [], ◌∷◌, ◌++◌, length, take, drop, slice_index_or, Option, Some, None, if◌then◌else◌}
use Rattle.std.specs.List.{All}
use Rattle.element_kinds.specs.declared.kind.Kind.{Kind}
use Rattle.element_kinds.specs.declared.form.Form.{Form}
use Rattle.element_kinds.specs.declared.form.Form.TheVariants.{Gate, Change, Register, Latch as Enabled, Checker}
use Rattle.element_kinds.specs.Kinds.{form_of}
use Rattle.flat_circuit.specs.declared.split.Split.{Split}
use Rattle.flat_circuit.specs.declared.instance.Instance.{Instance}
use Rattle.flat_circuit.specs.Split.{two_delays}
use Rattle.listing.specs.Names.{instance_name}
use Rattle.listing.specs.Text.{bit_text}

-- ---- lines

-- the lines of a text after those bytes of a line that is begun; what follows the last byte 10 is
-- none
abbrev pub lines_after : List ℕ → List ℕ → List (List ℕ)
lines_after begun [] = []
lines_after begun (b ∷ bs) =
    if b == 10 then begun ∷ lines_after [] bs else lines_after (begun ++ b ∷ []) bs

abbrev pub lines_of : List ℕ → List (List ℕ)
lines_of text = lines_after [] text

-- a text begins with this line, and the rest follows
pub record StartsWith (text line rest : List ℕ) : Type 0 where
  pub ends : All (λ b. b ≢ 10) line
  pub is : text ≡ line ++ 10 ∷ rest

-- ---- numbers

abbrev pub is_digit : ℕ → Bool
is_digit b = nat_le 48 b && nat_le b 57

-- A number after one more digit. No delay is greater than 4,095, so the greatest ones need not be
-- distinguished.
abbrev pub with_digit : Option ℕ → ℕ → ℕ
with_digit None b = b - 48
with_digit (Some n) b = min (n * 10 + (b - 48)) 65535

abbrev pub closed : Option ℕ → List ℕ
closed None = []
closed (Some n) = n ∷ []

-- the numbers that stand in a text, after a number that is begun
abbrev pub numbers_after : Option ℕ → List ℕ → List ℕ
numbers_after begun [] = closed begun
numbers_after begun (b ∷ bs) =
    if is_digit b
    then numbers_after (Some (with_digit begun b)) bs
    else closed begun ++ numbers_after None bs

abbrev pub numbers_of : List ℕ → List ℕ
numbers_of text = numbers_after None text

-- no delay is greater
abbrev pub AreSmall : List ℕ → Type 0
AreSmall numbers = All (λ n. n ≤ 4095) numbers

-- ---- delays

-- how many delays the line of an instance shows
abbrev pub picks_by : Form → ℕ
picks_by Gate = 1
picks_by Change = 0
picks_by (Register forced) = 1
picks_by (Enabled forced) = 1
picks_by (Checker check) = 0

abbrev pub picks_count : Kind → Option Split → ℕ
picks_count kind None = picks_by (form_of kind)
picks_count kind (Some both) = 2

-- so many delays, as a line shows them
abbrev pub shown : ℕ → ℕ × ℕ → List ℕ
shown count pick = take count (pick.0 ∷ pick.1 ∷ [])

-- and the pick that they show
abbrev pub picked : ℕ → List ℕ → ℕ × ℕ
picked zero found = (0, 0)
picked (suc zero) found = (slice_index_or found 0 0, slice_index_or found 0 0)
picked (suc (suc more)) found = (slice_index_or found 0 0, slice_index_or found 1 0)

-- the pick that a line shows, if these wires' delays follow it
abbrev pub again : Kind → Option Split → ℕ × ℕ → List ℕ → ℕ × ℕ
again kind two pick wires =
    picked (picks_count kind two) (shown (picks_count kind two) pick ++ wires)

-- the delays that the numbers after an instance's name are
abbrev pub IsGuess : Instance → List ℕ → ℕ × ℕ → List ℕ → Type 0
IsGuess i line pick wires =
    let found = numbers_of (drop (length (bit_text (instance_name i))) line) in
    let count = picks_count i.kind (two_delays i.kind i.split) in
    (pick ≡ picked count found) × (wires ≡ drop count found)
