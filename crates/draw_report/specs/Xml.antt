-- XML, as far as pictures go: elements, each with its attributes and what is between its tags, and
-- texts. What a reader makes of bytes, by the rules of XML 1.0.
use Rattle.std.specs.Prelude.{ℕ, ◌==◌, ◌&&◌, ◌||◌, not, nat_le, Bool, false, List, [], ◌∷◌, ◌++◌, codes, IsTrue}
use Rattle.std.specs.List.{list_all, list_any}
use Rattle.std.specs.Str.{bytes_eq}

pub record Attribute : Type 0 where
  pub name : List ℕ
  pub value : List ℕ

mutual
  pub data Tree : Type 0 where
    Tag : List ℕ → List Attribute → Trees → Tree
    Bytes : List ℕ → Tree

  pub data Trees : Type 0 where
    none : Trees
    tree : Tree → Trees → Trees

-- ---- bytes

abbrev pub is_letter : ℕ → Bool
is_letter b = (nat_le 65 b && nat_le b 90) || (nat_le 97 b && nat_le b 122)

abbrev pub is_letter_or_digit : ℕ → Bool
is_letter_or_digit b = is_letter b || (nat_le 48 b && nat_le b 57)

-- a letter, and then letters and digits
abbrev pub is_name : List ℕ → Bool
is_name [] = false
is_name (b ∷ bs) = is_letter b && list_all is_letter_or_digit bs

-- a byte that has a shape
abbrev pub is_printable : ℕ → Bool
is_printable b = nat_le 32 b && nat_le b 126

-- what may stand in a value as it is: neither `&`, `<` nor `>`, and not the quote that ends it
abbrev pub is_plain : ℕ → Bool
is_plain b =
    is_printable b && ((not (b == 38) && not (b == 60)) && (not (b == 62) && not (b == 34)))

-- and in a text: quotes and line ends too
abbrev pub is_plain_text : ℕ → Bool
is_plain_text b = is_plain b || ((b == 34) || (b == 10))

pub data IsEntity : List ℕ → ℕ → Type 0 where
  amp : IsEntity (codes "&amp;") 38
  lt : IsEntity (codes "&lt;") 60
  gt : IsEntity (codes "&gt;") 62
  quot : IsEntity (codes "&quot;") 34

-- ---- reading

-- A text, in which these bytes may stand as they are, stands for bytes.
pub data ReadsText (is_own : ℕ → Bool) : List ℕ → List ℕ → Type 0 where
  no_text : ReadsText is_own [] []
  plain : (b : ℕ) (text bytes : List ℕ) → IsTrue (is_own b) → ReadsText is_own text bytes →
      ReadsText is_own (b ∷ text) (b ∷ bytes)
  entity : (e : List ℕ) (b : ℕ) (text bytes : List ℕ) → IsEntity e b →
      ReadsText is_own text bytes → ReadsText is_own (e ++ text) (b ∷ bytes)

abbrev pub is_named : List ℕ → Attribute → Bool
is_named name a = bytes_eq a.name name

-- Attributes: no name stands twice.
pub data ReadsAttributes : List ℕ → List Attribute → Type 0 where
  no_attribute : ReadsAttributes [] []
  one_more : (name value bytes text : List ℕ) (others : List Attribute) → IsTrue (is_name name) →
      IsTrue (not (list_any (is_named name) others)) → ReadsText is_plain value bytes →
      ReadsAttributes text others →
      ReadsAttributes
      (codes " " ++ (name ++ (codes "=\"" ++ (value ++ (codes "\"" ++ text)))))
      (record { name = name; value = bytes } ∷ others)

-- The bytes are read as these elements and texts.
pub data Reads : List ℕ → Trees → Type 0 where
  nothing : Reads [] none
  text : (front bytes rest : List ℕ) (others : Trees) → ReadsText is_plain_text front bytes →
      Reads rest others → Reads (front ++ rest) (tree (Bytes bytes) others)
  empty : (tag attributes rest : List ℕ) (as_ : List Attribute) (others : Trees) →
      IsTrue (is_name tag) → ReadsAttributes attributes as_ → Reads rest others →
      Reads (codes "<" ++ (tag ++ (attributes ++ (codes "/>" ++ rest))))
      (tree (Tag tag as_ none) others)
  element : (tag attributes inside rest : List ℕ) (as_ : List Attribute) (within others : Trees) →
      IsTrue (is_name tag) → ReadsAttributes attributes as_ → Reads inside within →
      Reads rest others →
      Reads (codes "<" ++ (tag ++ (attributes ++ (codes ">" ++ (inside
      ++ (codes "</" ++ (tag ++ (codes ">" ++ rest)))))))) (tree (Tag tag as_ within) others)

-- One element, and the end of its line.
pub record IsDocument (text : List ℕ) : Type 0 where
  pub tag : List ℕ
  pub attributes : List Attribute
  pub within : Trees
  pub reads : Reads text (tree (Tag tag attributes within) (tree (Bytes (10 ∷ [])) none))
