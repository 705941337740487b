-- The sections of a text: it is cut at its lines that are exactly `=====`.
use Rattle.std.specs.Prelude.{ℕ, ◌==◌, Bool, List, [], ◌∷◌, ◌++◌, codes, if◌then◌else◌, ◌||◌}
use Rattle.std.specs.Str.{bytes_eq}

-- a last line, which no byte 10 ends, if there is one
abbrev pub unended : List ℕ → List (List ℕ)
unended [] = []
unended (byte ∷ line) = (byte ∷ line) ∷ []

-- The lines of a text, each with the byte 10 that ends it, after the front of a line. What follows
-- the last byte 10 is a line too, if it is not empty.
abbrev pub lines_after : List ℕ → List ℕ → List (List ℕ)
lines_after line [] = unended line
lines_after line (byte ∷ text) =
    if byte == 10
    then (line ++ byte ∷ []) ∷ lines_after [] text
    else lines_after (line ++ byte ∷ []) text

abbrev pub lines : List ℕ → List (List ℕ)
lines text = lines_after [] text

-- the line that ends a section and begins the next
abbrev pub is_separator : List ℕ → Bool
is_separator line = bytes_eq line (codes "=====\n") || bytes_eq line (codes "=====")

-- A section goes on up to a separator, after which another begins, be it empty.
abbrev pub cut_after : List ℕ → List (List ℕ) → List (List ℕ)
cut_after section [] = section ∷ []
cut_after section (line ∷ rest) =
    if is_separator line
    then section ∷ cut_after [] rest
    else cut_after (section ++ line) rest

abbrev pub sections_of : List ℕ → List (List ℕ)
sections_of text = cut_after [] (lines text)
