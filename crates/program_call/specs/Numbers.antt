-- Numbers in words.
use Rattle.std.specs.Prelude.{ℕ, ◌&&◌, nat_le, List, length, take, drop, codes, decimal, Option, Some, None, if◌then◌else◌}
use Rattle.std.specs.Str.{bytes_eq}
use Rattle.scald_lex.specs.Bytes.{value_of}

-- the most rounds that may be asked for
abbrev pub most_rounds : ℕ
most_rounds = 10000000

-- what follows a front
abbrev pub after_front : List ℕ → List ℕ → Option (List ℕ)
after_front front word =
    if bytes_eq (take (length front) word) front then Some (drop (length front) word) else None

-- the number of 1 to the most whose decimal text this is
unfoldable pub number_in : ℕ → List ℕ → Option ℕ
number_in most digits =
    if bytes_eq digits (decimal (value_of digits))
    && (nat_le 1 (value_of digits) && nat_le (value_of digits) most)
    then Some (value_of digits) else None

abbrev pub number_after : ℕ → Option (List ℕ) → Option ℕ
number_after most None = None
number_after most (Some digits) = number_in most digits

-- the N of `rounds=N`
abbrev pub rounds_of : List ℕ → Option ℕ
rounds_of word = number_after most_rounds (after_front (codes "rounds=") word)
