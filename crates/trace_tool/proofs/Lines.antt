-- The lines of a trace by their places.
use Rattle.std.proofs.Common.{◌≡◌, ◌≢◌, ℕ, zero, suc, ◌+◌, ◌<◌, ◌≤◌, List, [], ◌∷◌, ◌++◌, length, map, refl, arith, zero-add, ap, ◌∙◌, Some, None}
use Rattle.std.specs.Prelude.{slice_get, option_map}
use Rattle.std.specs.List.{range_with_len}
use Rattle.std.proofs.lemmas.List.{length-map, length-append}
use Rattle.std.proofs.lemmas.List.FromFn.{get_or-range_with_len, length-range_with_len}
use Rattle.std.proofs.lemmas.Option.{slice_get-get_or, slice_get-map, slice_get_past, slice_get_within}
use Rattle.flat_circuit.specs.Circuit.{Circuit}
use Rattle.trace_tool.specs.declared.line.Line.{Line}
use Rattle.trace_tool.specs.declared.line.Line.TheVariants.{Delays, Bits, End}
use Rattle.trace_tool.specs.Trace.{line_order}

-- ---- one list after another

pub get_front : {X : Type 0} (xs ys : List X) (i : ℕ) → i < length xs → slice_get (xs ++ ys) i ≡ slice_get xs i
get_front [] ys i h = absurd (omega arith)
get_front (x ∷ xs) ys zero h = refl
get_front (x ∷ xs) ys (suc i) h = get_front xs ys i (omega arith)

pub get_behind : {X : Type 0} (xs ys : List X) (i n : ℕ) → n ≡ length xs + i → slice_get (xs ++ ys) n ≡ slice_get ys i
get_behind [] ys i n is = let same : n ≡ i = omega arith in ap (slice_get ys) same
get_behind (x ∷ xs) ys i zero is = absurd (omega arith)
get_behind (x ∷ xs) ys i (suc n) is = get_behind xs ys i n (omega arith)

pub get_range : (n i : ℕ) → i < n → slice_get (range_with_len 0 n) i ≡ Some i
get_range n i h =
    let long = length-range_with_len 0 n in
    slice_get-get_or (range_with_len 0 n) i 0 (omega arith)
    ∙ ap (λ (k : ℕ). Some k) (get_or-range_with_len 0 n i 0 h ∙ zero-add i)

-- ---- which lines there are

abbrev delays_lines : Circuit → List Line
delays_lines c = map (λ k. Delays k) (range_with_len 0 (length c.instances))

abbrev bits_lines : Circuit → List Line
bits_lines c = map (λ n. Bits n) c.order

delays_long : (c : Circuit) → length (delays_lines c) ≡ length c.instances
delays_long c =
    length-map (range_with_len 0 (length c.instances)) (λ k. Delays k) ∙ length-range_with_len 0 (length c.instances)

bits_long : (c : Circuit) → length (bits_lines c) ≡ length c.order
bits_long c = length-map c.order (λ n. Bits n)

pub line_at_delays : (c : Circuit) (k place : ℕ) → place ≡ suc k → k < length c.instances →
    slice_get (line_order c) place ≡ Some (Delays k)
line_at_delays c k place is below =
    let long = delays_long c in
    ap (slice_get (line_order c)) is
    ∙ get_front (delays_lines c) (bits_lines c ++ End ∷ []) k (omega arith)
    ∙ slice_get-map (λ k. Delays k) (range_with_len 0 (length c.instances)) k
    ∙ ap (option_map (λ k. Delays k)) (get_range (length c.instances) k below)

-- after the instances
behind_delays : (c : Circuit) (at place : ℕ) → place ≡ suc (length c.instances + at) →
    slice_get (line_order c) place ≡ slice_get (bits_lines c ++ End ∷ []) at
behind_delays c at place is =
    let long = delays_long c in
    ap (slice_get (line_order c)) is
    ∙ get_behind (delays_lines c) (bits_lines c ++ End ∷ []) at (length c.instances + at) (omega arith)

pub line_at_bits : (c : Circuit) (at place n : ℕ) → place ≡ suc (length c.instances + at) →
    slice_get c.order at ≡ Some n → slice_get (line_order c) place ≡ Some (Bits n)
line_at_bits c at place n is has =
    let within : at < length c.order = slice_get_within c.order at n has in
    let long = bits_long c in
    behind_delays c at place is ∙ get_front (bits_lines c) (End ∷ []) at (omega arith)
    ∙ slice_get-map (λ n. Bits n) c.order at ∙ ap (option_map (λ n. Bits n)) has

pub line_at_end : (c : Circuit) (place : ℕ) → place ≡ suc (length c.instances + length c.order) →
    slice_get (line_order c) place ≡ Some End
line_at_end c place is =
    let long = bits_long c in
    behind_delays c (length c.order) place is
    ∙ get_behind (bits_lines c) (End ∷ []) 0 (length c.order) (omega arith)

none_past : {X : Type 0} (xs : List X) (i : ℕ) → slice_get xs i ≡ None → length xs ≤ i
none_past [] i none = omega arith
none_past (x ∷ xs) zero none = cc
none_past (x ∷ xs) (suc i) none = let past = none_past xs i none in omega arith

pub line_count_is : (c : Circuit) → length (line_order c) ≡ length c.instances + length c.order + 2
line_count_is c =
    let first = delays_long c in
    let second = bits_long c in
    let whole = length-append (delays_lines c) (bits_lines c ++ End ∷ []) in
    let last = length-append (bits_lines c) (End ∷ []) in
    omega arith

-- past the last
pub no_line : (c : Circuit) (place at : ℕ) → place ≡ suc (length c.instances + at) → slice_get c.order at ≡ None →
    at ≢ length c.order → slice_get (line_order c) place ≡ None
no_line c place at is none other =
    let count = line_count_is c in
    let past = none_past c.order at none in
    slice_get_past (line_order c) place (omega (arith, past, other))
