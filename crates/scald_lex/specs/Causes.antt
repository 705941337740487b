-- Why no token can be taken if a text goes on with these bytes. Each cause is said of the bytes
-- alone, without pieces.
use Rattle.std.specs.Prelude.{◌≡◌, ℕ, ◌<◌, ◌==◌, Bool, true, List, [], ◌∷◌, ◌++◌, codes, length, ⊤}
use Rattle.std.specs.List.{list_any, list_all}
use Rattle.scald_base.specs.Word.{is_digit, begins_word}
use Rattle.scald_lex.specs.Bytes.{is_name_byte, value_of}

-- a tabulator, the end of a line or a carriage return
abbrev pub is_break : ℕ → Bool
is_break b = list_any (λ s. b == s) (9 ∷ 10 ∷ 13 ∷ [])

-- The text ends here, or it breaks off what stands on the line.
abbrev pub BreaksOff : List ℕ → Type 0
BreaksOff [] = ⊤
BreaksOff (b ∷ bs) = is_break b ≡ true

-- A name that is not closed: after its quote stand bytes of a name, and then a break or the end.
pub record IsOpenName (rest : List ℕ) : Type 0 where
  pub inside : List ℕ
  pub behind : List ℕ
  pub parts : rest ≡ 34 ∷ (inside ++ behind)
  pub printable : list_all is_name_byte inside ≡ true
  pub breaks : BreaksOff behind

-- a word of more than 64 bytes
pub record IsLongWord (rest : List ℕ) : Type 0 where
  pub word : List ℕ
  pub behind : List ℕ
  pub parts : rest ≡ word ++ behind
  pub form : begins_word word ≡ true
  pub long : 64 < length word

-- a number that is too large
pub record IsLargeNumber (rest : List ℕ) : Type 0 where
  pub digits : List ℕ
  pub behind : List ℕ
  pub parts : rest ≡ digits ++ behind
  pub some : 0 < length digits
  pub all : list_all is_digit digits ≡ true
  pub large : 9223372036854775807 < value_of digits

-- the printable bytes with which no token begins
abbrev pub is_stray : ℕ → Bool
is_stray b = list_any (λ s. b == s) (codes "#$%'.?@\\^_`|~")

pub record BeginsStray (rest : List ℕ) : Type 0 where
  pub first : ℕ
  pub behind : List ℕ
  pub parts : rest ≡ first ∷ behind
  pub stray : is_stray first ≡ true

-- one of these
pub data HasCause (rest : List ℕ) : Type 0 where
  open_name : IsOpenName rest → HasCause rest
  long_word : IsLongWord rest → HasCause rest
  large_number : IsLargeNumber rest → HasCause rest
  stray_byte : BeginsStray rest → HasCause rest
