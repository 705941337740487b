-- Rows stay as they were when items are appended, and the new row has the new items.
use Rattle.std.proofs.Common.{◌≡◌, ◌-◌, ◌≤◌, List, [], ◌∷◌, ◌++◌, length, map, get_or, take, drop, All, refl, ap, arith, ◌∙◌, length-append, length-drop}
use Rattle.std.proofs.lemmas.List.{map-append, take-append-le, drop-append-le, drop_at, take_all}
use Rattle.std.proofs.lemmas.List.Elements.{All-head, All-tail, All-map, All-take, All-drop}
use Rattle.clause_check.specs.declared.rows.Span.{Span}
use Rattle.clause_check.specs.Rows.{row_at, EndsWithin}

row_kept : {T : Type 0} (xs ys : List T) (span : Span) →
    EndsWithin (length xs) span → row_at (xs ++ ys) span ≡ row_at xs span
row_kept xs ys span h =
    let begins : span.start ≤ length xs = omega (arith, h.ordered, h.within) in
    let ends : span.end - span.start ≤ length (drop span.start xs) =
    omega (arith, h.ordered, h.within, length-drop span.start xs) in
    ap (take (span.end - span.start)) (drop-append-le span.start xs ys begins)
    ∙ take-append-le (span.end - span.start) (drop span.start xs) ys ends

rows_kept : {T : Type 0} (xs ys : List T) (spans : List Span) →
    All (EndsWithin (length xs)) spans → map (row_at (xs ++ ys)) spans ≡ map (row_at xs) spans
rows_kept xs ys [] h = refl
rows_kept xs ys (s ∷ ss) h =
    let first = row_kept xs ys s (All-head (EndsWithin (length xs)) s ss h) in
    let rest = rows_kept xs ys ss (All-tail (EndsWithin (length xs)) s ss h) in
    cc (first, rest)

row_new : {T : Type 0} (xs ys : List T) →
    take (length (xs ++ ys) - length xs) (drop (length xs) (xs ++ ys)) ≡ ys
row_new xs ys =
    ap (take (length (xs ++ ys) - length xs)) (drop_at xs ys (length xs) refl)
    ∙ take_all (length (xs ++ ys) - length xs) ys (omega (arith, length-append xs ys))

-- a row that is appended
pub pushed : {T : Type 0} (xs row : List T) (spans : List Span) →
    All (EndsWithin (length xs)) spans →
    map (row_at (xs ++ row)) (spans ++ record { start = length xs; end = length (xs ++ row) } ∷ [])
    ≡ map (row_at xs) spans ++ row ∷ []
pushed xs row spans h =
    map-append (row_at (xs ++ row)) spans
    (record { start = length xs; end = length (xs ++ row) } ∷ [])
    ∙ cc (rows_kept xs row spans h, row_new xs row)

-- What holds of every item holds of those of each row.
pub rows_all : {T : Type 0} (P : T → Type 0) (xs : List T) (spans : List Span) →
    All P xs → All (All P) (map (row_at xs) spans)
rows_all P xs spans h =
    All-map (All P) (row_at xs) spans
    (λ k d within.
    let s = get_or spans k d in
    All-take P (s.end - s.start) (drop s.start xs) (All-drop P s.start xs h))
