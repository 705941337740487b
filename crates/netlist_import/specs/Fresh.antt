-- Names that differ from those before them in one place.
use Rattle.std.specs.Prelude.{◌≡◌, ℕ, ◌<◌, false, zero, suc, ◌+◌, ◌-◌, Bool, not, ◌&&◌, nat_le, List, [], ◌∷◌, ◌++◌, length, take, codes, decimal, if◌then◌else◌}
use Rattle.std.specs.List.{list_any, AllByRecursion}
use Rattle.std.specs.Str.{bytes_eq}
use Rattle.scald_base.specs.Word.{longest_word}

abbrev pub is_new : List (List ℕ) → List ℕ → Bool
is_new taken name = not (list_any (bytes_eq name) taken)

-- the name, cut so that `_` and the number fit after it
abbrev pub numbered : List ℕ → ℕ → List ℕ
numbered name n = take (longest_word - length (codes "_" ++ decimal n)) name ++ codes "_"
    ++ decimal n

-- the most bytes of a name that stay before a number of one digit
abbrev pub stem_length : ℕ
stem_length = 62

-- the first number from this one on that passes, of so many
unfoldable pub least_from : (ℕ → Bool) → ℕ → ℕ → ℕ
least_from passes n zero = n
least_from passes n (suc more) = if passes n then n else least_from passes (n + 1) more

-- The least number that makes a name new. Of one more numbers than there are names, one does.
abbrev pub least_number : List (List ℕ) → List ℕ → ℕ
least_number taken name = least_from (λ n. is_new taken (numbered name n)) 0 (length taken)

-- the name that is wanted, or if it is too long or taken, the first with a number that is new
unfoldable pub fresh : List (List ℕ) → List ℕ → List ℕ
fresh taken name =
    if nat_le (length name) longest_word && is_new taken name then name
    else numbered name (least_number taken name)

-- the names of one place, each new among those before it
unfoldable pub names_after : List (List ℕ) → List (List ℕ) → List (List ℕ)
names_after taken [] = []
names_after taken (name ∷ names) = fresh taken name ∷ names_after (taken ++ fresh taken name ∷ [])
    names

-- No number below this one makes the name new.
pub record AreTaken (taken : List (List ℕ)) (name : List ℕ) (n : ℕ) : Type 0 where
  pub each : (k : ℕ) → k < n → is_new taken (numbered name k) ≡ false

-- Nor does one make any name with this front new. A front has 62 bytes at most, which stay before
-- each number of one digit.
pub record IsTried (taken : List (List ℕ)) (tried : List ℕ × ℕ) : Type 0 where
  pub each : (name : List ℕ) (k : ℕ) → take stem_length name ≡ tried.0 → k < tried.1 →
      is_new taken (numbered name k) ≡ false

abbrev pub AreTried : List (List ℕ) → List (List ℕ × ℕ) → Type 0
AreTried taken next = AllByRecursion (IsTried taken) next
