-- How names of a netlist are spelled in this language.
use Rattle.std.specs.Prelude.{ℕ, Bool, false, not, ◌==◌, ◌||◌, List, [], ◌∷◌, ◌++◌, map, codes, decimal, if◌then◌else◌}
use Rattle.std.specs.List.{list_any}
use Rattle.std.specs.Str.{bytes_eq}
use Rattle.scald_base.specs.Word as word
use Rattle.element_kinds.specs.Kinds.{kind_names}

-- the name without the backslash in front
abbrev pub after_backslash : List ℕ → List ℕ
after_backslash [] = []
after_backslash (b ∷ bs) = if b == 92 then bs else b ∷ bs

-- Letters, digits and `_` stay, and each other byte becomes `_`.
abbrev pub word_byte : ℕ → ℕ
word_byte b = if word.is_word_byte b then b else 95

-- In the name of a net `$` and `#` stay too, and a point becomes `$`.
abbrev pub base_byte : ℕ → ℕ
base_byte b = if b == 36 || b == 35 then b else if b == 46 then 36 else word_byte b

abbrev pub begins_with_letter : List ℕ → Bool
begins_with_letter [] = false
begins_with_letter (b ∷ bs) = word.is_letter b

abbrev pub is_reserved : List ℕ → Bool
is_reserved name = list_any (λ reserved. bytes_eq reserved name) word.reserved_words

-- the name of a primitive
abbrev pub is_primitive : List ℕ → Bool
is_primitive name = list_any (bytes_eq name) kind_names

abbrev pub marked : Bool → List ℕ → List ℕ
marked is_marked name = if is_marked then codes "n" ++ name else name

-- no word, or one that stands for something else
abbrev pub is_taken : List ℕ → Bool
is_taken name = not (begins_with_letter name) || is_reserved name

-- What does not begin with a letter, or is reserved, gets `n` in front.
abbrev pub free : List ℕ → List ℕ
free name = marked (is_taken name) name

-- The word of a macro is not the name of a primitive either.
abbrev pub free_kind : List ℕ → List ℕ
free_kind name = marked (is_taken name || is_primitive name) name

-- the word that a label or a port is called by
abbrev pub word_of : List ℕ → List ℕ
word_of name = free (map word_byte (after_backslash name))

-- the word that a macro is called by
abbrev pub kind_word_of : List ℕ → List ℕ
kind_word_of name = free_kind (map word_byte (after_backslash name))

-- the base that a net that is no port is called by
abbrev pub base_of : List ℕ → List ℕ
base_of name = free (map base_byte (after_backslash name))

-- a letter or a word and a number
abbrev pub counted : List ℕ → ℕ → List ℕ
counted name n = name ++ decimal n
