-- Words of a text: a letter, then letters, digits and underscores.
use Rattle.std.specs.Prelude.{◌≡◌, ℕ, ◌≤◌, Bool, true, false, ◌&&◌, ◌||◌, ◌==◌, nat_le, List, [], ◌∷◌, length, codes}
use Rattle.std.specs.List.{list_any, list_all}
use Rattle.std.specs.Str.{bytes_eq}

abbrev pub is_digit : ℕ → Bool
is_digit b = nat_le 48 b && nat_le b 57

abbrev pub is_letter : ℕ → Bool
is_letter b = (nat_le 65 b && nat_le b 90) || (nat_le 97 b && nat_le b 122)

-- what may stand in a word after its first letter
abbrev pub is_word_byte : ℕ → Bool
is_word_byte b = is_letter b || is_digit b || b == 95

abbrev pub begins_word : List ℕ → Bool
begins_word [] = false
begins_word (b ∷ bs) = is_letter b && list_all is_word_byte bs

-- the most bytes of a word
abbrev pub longest_word : ℕ
longest_word = 64

pub record IsWord (word : List ℕ) : Type 0 where
  pub form : begins_word word ≡ true
  pub short : length word ≤ longest_word

-- words that are no labels, kinds, macros, parameters, constants, variables or names of drawings
abbrev pub reserved_words : List (List ℕ)
reserved_words =
    codes "SCALD" ∷ codes "CLOCK" ∷ codes "WIRE" ∷ codes "PSKEW" ∷ codes "CSKEW" ∷ codes "MACRO"
    ∷ codes "DRAWING"
    ∷ codes "CASE" ∷ codes "IF" ∷ codes "THEN" ∷ codes "ELSE" ∷ codes "END" ∷ codes "ZERO"
    ∷ codes "ONE" ∷ []

abbrev pub is_reserved : List ℕ → Bool
is_reserved word = list_any (bytes_eq word) reserved_words
