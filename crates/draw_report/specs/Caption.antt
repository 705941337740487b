-- The lines below a picture. Each part of a line without two spaces side by side is a text of its
-- own, in its column, and so stands where it does in a text of even width.
use Rattle.std.specs.Prelude.{ℕ, suc, ◌+◌, ◌-◌, ◌*◌, ◌^◌, ◌≤◌, ◌==◌, ◌&&◌, ◌||◌, not, Bool, List, [], ◌∷◌, ◌++◌, length, take, drop, slice_index, if◌then◌else◌}
use Rattle.std.specs.List.{All, flat_map, range_with_len}
use Rattle.draw_report.specs.Element.{Break, Chars, Line, Node, Number, labelled}

abbrev pub is_space : List ℕ → ℕ → Bool
is_space line place = slice_index line place == 32

-- a part begins at a place: no space is there, and none or two before it, up to the line's begin
abbrev pub begins : List ℕ → ℕ → Bool
begins line place =
    not (is_space line place)
    && ((place == 0) || (is_space line (place - 1) && ((place == 1) || is_space line (place - 2))))

-- how long the part is with which a text begins: up to two spaces, or one at its end
abbrev pub part_length : List ℕ → ℕ
part_length [] = 0
part_length (b ∷ []) = if b == 32 then 0 else 1
part_length (b ∷ c ∷ bs) = if (b == 32) && (c == 32) then 0 else suc (part_length (c ∷ bs))

abbrev pub part_at : List ℕ → ℕ → List ℕ
part_at line place = take (part_length (drop place line)) (drop place line)

abbrev pub part_text : ℕ → List ℕ → ℕ → List Node
part_text y line place =
    if begins line place
    then labelled Line ((Number (60 + 72 * place) ∷ []) ∷ (Number y ∷ []) ∷ [])
    (Chars (part_at line place) ∷ []) ∷ Break ∷ []
    else []

-- a line at a height
abbrev pub line_nodes : ℕ → List ℕ → List Node
line_nodes y line = flat_map (part_text y line) (range_with_len 0 (length line))

-- lines, each 165 below the one before it
abbrev pub caption_nodes : ℕ → List (List ℕ) → List Node
caption_nodes y [] = []
caption_nodes y (line ∷ lines) = line_nodes (y + 165) line ++ caption_nodes (y + 165) lines

-- each is short enough for its columns to be counted
abbrev pub AreShort : List (List ℕ) → Type 0
AreShort lines = All (λ (line : List ℕ). length line ≤ 2 ^ 32) lines
