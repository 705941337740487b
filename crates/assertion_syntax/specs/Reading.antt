-- Reading from the front: each function answers what it read and the bytes after it, or nothing.
use Rattle.std.specs.Prelude.{◌≡◌, ℕ, zero, suc, ◌+◌, ◌-◌, ◌*◌, Bool, true, false, ◌&&◌, nat_lt, nat_le, ◌==◌, List, [], ◌∷◌, length, take, drop, codes, Option, Some, None, if◌then◌else◌}
use Rattle.std.specs.List.{prefix_len}
use Rattle.std.specs.Char.{is_ascii_digit}
use Rattle.std.specs.Str.{bytes_eq}
use Rattle.scald_base.specs.declared.assertion.Span.{Span}
use Rattle.scald_base.specs.declared.assertion.ClockSpec.{ClockSpec}
use Rattle.scald_base.specs.declared.assertion.AssertSpec.{AssertSpec}
use Rattle.scald_base.specs.declared.assertion.AssertSpec.TheVariants.{None as Unasserted, Precision, Clock, Stable}
use Rattle.assertion_syntax.specs.declared.name.SignalName.{SignalName}
use Rattle.assertion_syntax.specs.Name.{is_base_byte, well_spaced}

-- A step that reads nothing ends the reading.
infixl 10 ◌>>=◌
abbrev pub ◌>>=◌ : {A B : Type 0} → Option A → (A → Option B) → Option B
None >>= f = None
(Some x) >>= f = f x

-- one way if there is nothing, and another if there is something
abbrev pub either : {A B : Type 0} → Option A → B → (A → B) → B
either None none some = none
either (Some x) none some = some x

-- What a function returned, seen by view, is what reading gives.
abbrev pub Gives : {X Y : Type 0} → (X → Y) → Option X → Option Y → Type 0
Gives view None read = read ≡ None
Gives view (Some x) read = read ≡ Some (view x)

-- this word
unfoldable pub literal_at : List ℕ → List ℕ → Option (List ℕ)
literal_at word rest =
    if bytes_eq (take (length word) rest) word then Some (drop (length word) rest) else None

-- The digits that continue a number. None follows 0, and none follows four digits.
unfoldable pub digits_at : ℕ → List ℕ → Option (ℕ × List ℕ)
digits_at value [] = Some (value, [])
digits_at value (b ∷ rest) =
    if is_ascii_digit b
    then (if nat_lt 0 value && nat_lt value 1000
    then digits_at (value * 10 + (b - 48)) rest else None)
    else Some (value, b ∷ rest)

-- a number of one to four digits, with no digit after it
unfoldable pub number_at : List ℕ → Option (ℕ × List ℕ)
number_at [] = None
number_at (b ∷ rest) = if is_ascii_digit b then digits_at (b - 48) rest else None

-- a number up to a limit
unfoldable pub limited_at : ℕ → List ℕ → Option (ℕ × List ℕ)
limited_at limit rest = do
  number ← number_at rest
  if nat_le number.0 limit then Some (number.0, number.1) else None

-- two numbers up to a limit, with this word between them
unfoldable pub pair_at : ℕ → List ℕ → List ℕ → Option ((ℕ × ℕ) × List ℕ)
pair_at limit between rest = do
  first ← limited_at limit rest
  second_text ← literal_at between first.1
  second ← limited_at limit second_text
  Some ((first.0, second.0), second.1)

unfoldable pub span_at : List ℕ → Option (Span × List ℕ)
span_at rest = do
  pair ← pair_at 4096 (codes "-") rest
  Some (record { lo = pair.0.0; hi = pair.0.1 }, pair.1)

-- one interval or more, up to so many
unfoldable pub spans_at : ℕ → List ℕ → Option (List Span × List ℕ)
spans_at zero rest = None
spans_at (suc most) rest = do
  span ← span_at rest
  either (literal_at (codes ",") span.1) (Some (span.0 ∷ [], span.1)) (λ more_text.
      spans_at most more_text >>= λ more. Some (span.0 ∷ more.0, more.1))

-- a skew in its parentheses
unfoldable pub parted_at : List ℕ → Option ((ℕ × ℕ) × List ℕ)
parted_at rest = do
  skew ← pair_at 4095 (codes ",") rest
  left ← literal_at (codes ")") skew.1
  Some (skew.0, left)

-- a skew if a parenthesis opens
unfoldable pub skew_at : List ℕ → Option (Option (ℕ × ℕ) × List ℕ)
skew_at rest =
    either (literal_at (codes "(") rest) (Some (None, rest)) (λ inside.
    parted_at inside >>= λ skew. Some (Some skew.0, skew.1))

-- the end, and whether an L stands before it
unfoldable pub low_at : List ℕ → Option Bool
low_at rest =
    either (literal_at (codes "L") rest) (if length rest == 0 then Some false else None) (λ left.
    if length left == 0 then Some true else None)

-- what follows a clock's intervals
unfoldable pub edges_at : List ℕ → Option (Option (ℕ × ℕ) × Bool)
edges_at rest = do
  skew ← skew_at rest
  low ← low_at skew.1
  Some (skew.0, low)

unfoldable pub clock_at : List ℕ → Option ClockSpec
clock_at rest = do
  spans ← spans_at (length rest) rest
  edges ← edges_at spans.1
  Some (record { spans = spans.0; skew = edges.0; low = edges.1 })

unfoldable pub stable_at : List ℕ → Option (List Span)
stable_at rest =
    if length rest == 0 then Some []
    else spans_at (length rest) rest >>= λ spans. if length spans.1 == 0 then Some spans.0 else None

-- what follows a base
unfoldable pub assertion_at : List ℕ → Option AssertSpec
assertion_at rest =
    if length rest == 0 then Some Unasserted
    else either (literal_at (codes " .P") rest)
    (either (literal_at (codes " .C") rest)
    (either (literal_at (codes " .S") rest) None (λ stable. stable_at stable >>= λ spans.
    Some (Stable spans)))
    (λ clock. clock_at clock >>= λ spec. Some (Clock spec)))
    (λ precision. clock_at precision >>= λ spec. Some (Precision spec))

-- where the base ends: at the end of the text, or one byte before the first that is of no base
abbrev pub base_len : List ℕ → ℕ
base_len rest = let n = prefix_len is_base_byte rest in if n == length rest then n else n - 1

unfoldable pub base_at : List ℕ → Option (List ℕ × List ℕ)
base_at rest =
    let n = base_len rest in
    if nat_le n 64 && well_spaced false (take n rest) then Some (take n rest, drop n rest) else None

-- whether a slash stands in front
unfoldable pub global_at : List ℕ → Bool × List ℕ
global_at text = either (literal_at (codes "/") text) (false, text) (λ rest. (true, rest))

-- the whole text
unfoldable pub name_at : List ℕ → Option SignalName
name_at text = do
  base ← base_at (global_at text).1
  spec ← assertion_at base.1
  Some (record { base = base.0; global = (global_at text).0; spec = spec })
