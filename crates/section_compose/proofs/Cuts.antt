-- A text read line by line: what a loop over it has of its lines and of its sections.
use Rattle.std.proofs.Common.{◌≡◌, ℕ, suc, ◌+◌, ◌-◌, ◌<◌, ◌≤◌, false, cond, List, [], ◌∷◌}
use Rattle.std.proofs.Common.{◌++◌, length, get_or, take, drop, map, refl, sym, ap, ◌∙◌, arith}
use Rattle.std.proofs.lemmas.Bool.{eq-eqb, ne_eqb}
use Rattle.std.proofs.lemmas.List.{drop_all, drop-drop}
use Rattle.std.proofs.Math.Seq.{drop-cons, take-add}
use Rattle.section_compose.specs.declared.cut.Piece.{Piece}
use Rattle.section_compose.specs.Cut.{cut_after, is_separator, lines, lines_after, unended}
use Rattle.section_compose.specs.Pieces.{bytes_from, piece_of}

-- ---- bytes between places

-- up to a place, and on from it
pub bytes_join : (text : List ℕ) (from at end : ℕ) → from ≤ at → at ≤ end →
    bytes_from text from end ≡ bytes_from text from at ++ bytes_from text at end
bytes_join text from at end low high =
    ap (λ (n : ℕ). take n (drop from text)) (let e : end - from ≡ (at - from) + (end - at) = omega arith in e)
    ∙ take-add (at - from) (end - at) (drop from text)
    ∙ ap (λ (rest : List ℕ). bytes_from text from at ++ take (end - at) rest)
    (drop-drop (at - from) from text ∙ ap (λ (n : ℕ). drop n text) (let e : from + (at - from) ≡ at = omega arith in e))

bytes_none : (text : List ℕ) (at : ℕ) → bytes_from text at at ≡ []
bytes_none text at = ap (λ (n : ℕ). take n (drop at text)) (let e : at - at ≡ 0 = omega arith in e)

-- one byte more
bytes_more : (text : List ℕ) (from at b : ℕ) → from ≤ at → at < length text → b ≡ get_or text at 0 →
    bytes_from text from (at + 1) ≡ bytes_from text from at ++ b ∷ []
bytes_more text from at b low within is =
    bytes_join text from at (at + 1) low (omega arith)
    ∙ ap (λ (bytes : List ℕ). bytes_from text from at ++ bytes)
    (ap (λ (n : ℕ). take n (drop at text)) (let e : at + 1 - at ≡ 1 = omega arith in e)
    ∙ ap (take 1) (drop-cons text at 0 within)
    ∙ ap (λ (x : ℕ). x ∷ []) (sym is))

-- ---- lines

-- the rest of a text after the front of a line
byte_next : (text line : List ℕ) (at b : ℕ) → at < length text → b ≡ get_or text at 0 →
    lines_after line (drop at text) ≡ lines_after line (b ∷ drop (at + 1) text)
byte_next text line at b within is =
    ap (lines_after line)
    (drop-cons text at 0 within
    ∙ (λ k. sym is k ∷ drop ((let e : suc at ≡ at + 1 = omega arith in e) k) text))

-- A byte other than 10 belongs to the line.
pub line_goes_on : (text : List ℕ) (from at b : ℕ) → from ≤ at → at < length text → b ≡ get_or text at 0 →
    (b ≡ 10 → ⊥) →
    lines_after (bytes_from text from at) (drop at text) ≡ lines_after (bytes_from text from (at + 1)) (drop (at + 1) text)
line_goes_on text from at b low within is other =
    byte_next text (bytes_from text from at) at b within is
    ∙ ap (λ ends. cond ends ((bytes_from text from at ++ b ∷ []) ∷ lines_after [] (drop (at + 1) text))
    (lines_after (bytes_from text from at ++ b ∷ []) (drop (at + 1) text))) (ne_eqb b 10 other)
    ∙ ap (λ (line : List ℕ). lines_after line (drop (at + 1) text)) (sym (bytes_more text from at b low within is))

-- A byte 10 ends it.
pub line_ends : (text : List ℕ) (from at b : ℕ) → from ≤ at → at < length text → b ≡ get_or text at 0 →
    b ≡ 10 →
    lines_after (bytes_from text from at) (drop at text) ≡ bytes_from text from (at + 1) ∷ lines (drop (at + 1) text)
line_ends text from at b low within is ends =
    byte_next text (bytes_from text from at) at b within is
    ∙ ap (λ ends. cond ends ((bytes_from text from at ++ b ∷ []) ∷ lines_after [] (drop (at + 1) text))
    (lines_after (bytes_from text from at ++ b ∷ []) (drop (at + 1) text))) (eq-eqb b 10 ends)
    ∙ ap (λ (line : List ℕ). line ∷ lines (drop (at + 1) text)) (sym (bytes_more text from at b low within is))

some_line : (line : List ℕ) → 0 < length line → unended line ≡ line ∷ []
some_line [] some = absurd (omega arith)
some_line (b ∷ line) some = refl

-- A line goes to the end of the text if no byte 10 ends it.
pub line_is_last : (text line : List ℕ) (at : ℕ) → length text ≤ at → 0 < length line →
    lines_after line (drop at text) ≡ line ∷ lines (drop at text)
line_is_last text line at past some =
    ap (lines_after line) (drop_all at text past)
    ∙ some_line line some
    ∙ ap (λ (rest : List ℕ). line ∷ lines rest) (sym (drop_all at text past))

-- ---- sections

-- the sections that have ended, and those that begin with what is read of the last
abbrev pub sections_from : List ℕ → List Piece → ℕ → ℕ → List (List ℕ)
sections_from text pieces from at =
    map (piece_of text) pieces ++ cut_after (bytes_from text from at) (lines (drop at text))

-- A line that is no separator belongs to the section.
pub section_goes_on : (text : List ℕ) (pieces : List Piece) (from at end : ℕ) → from ≤ at → at ≤ end →
    lines (drop at text) ≡ bytes_from text at end ∷ lines (drop end text) →
    is_separator (bytes_from text at end) ≡ false →
    sections_from text pieces from at ≡ sections_from text pieces from end
section_goes_on text pieces from at end low high first other =
    ap (λ (sections : List (List ℕ)). map (piece_of text) pieces ++ sections)
    (ap (cut_after (bytes_from text from at)) first
    ∙ ap (λ ends. cond ends (bytes_from text from at ∷ cut_after [] (lines (drop end text)))
    (cut_after (bytes_from text from at ++ bytes_from text at end) (lines (drop end text)))) other
    ∙ ap (λ (section : List ℕ). cut_after section (lines (drop end text))) (sym (bytes_join text from at end low high)))
