-- Lines, and what stands of them if memory ran out. A text is the list of its bytes.
use Rattle.std.specs.Prelude.{◌≡◌, ℕ, List, [], ◌∷◌, ◌++◌, codes, decimal}
use Rattle.std.specs.List.{concat}
use Rattle.flat_circuit.specs.Name.{Name}

-- texts one after another, and byte 10 at the end
abbrev pub line : List (List ℕ) → List ℕ
line texts = concat texts ++ 10 ∷ []

-- one bit of what has this name
abbrev pub bit_text : Name → List ℕ
bit_text name = concat (name.text ∷ codes "<" ∷ decimal name.bit ∷ codes ">" ∷ [])

-- What was there stays, followed by a part of the text, from the text's start on.
pub record HasPart (old new text : List ℕ) : Type 0 where
  pub part : List ℕ
  pub rest : List ℕ
  pub added : new ≡ old ++ part
  pub is : part ++ rest ≡ text
