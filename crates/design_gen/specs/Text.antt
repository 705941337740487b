-- Lines. A text is the list of its bytes.
use Rattle.std.specs.Prelude.{ℕ, List, [], ◌∷◌, ◌++◌}
use Rattle.std.specs.List.{concat}

-- texts one after another, and byte 10 at the end
abbrev pub line : List (List ℕ) → List ℕ
line texts = concat texts ++ 10 ∷ []
