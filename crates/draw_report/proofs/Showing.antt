-- The paths of a row, read back, spell its wave.
use Rattle.std.proofs.Common.{◌≡◌, ℕ, ◌+◌, ◌*◌, ◌/◌, ◌%◌, ◌<◌, ◌≤◌, ◌^◌, Bool, true, false, List, [], ◌∷◌, ◌++◌, length, map, take, replicate, decimal, refl, arith, ap, ap₂, ◌∙◌, length-append}
use Rattle.std.specs.Prelude.{codes, if◌then◌else◌, ◌||◌, ◌==◌}
use Rattle.std.specs.List.{flat_map, list_all, prefix_len, take_while}
use Rattle.std.proofs.lemmas.Bool.{and_parts}
use Rattle.std.proofs.lemmas.Bool.Decides.{nat_tests}
use Rattle.std.proofs.lemmas.Fmt.{decimal_by_steps}
use Rattle.std.proofs.lemmas.List.{length-replicate, take_at}
use Rattle.std.proofs.lemmas.List.Folds.{list_all-append}
use Rattle.std.proofs.lemmas.List.FromFn.{length-map-range_with_len}
use Rattle.std.proofs.lemmas.Nat.{div-mul-add, div_below, mul-lt}
use Rattle.scald_base.specs.Word.{is_digit}
use Rattle.scald_lex.specs.Bytes.{value_of}
use Rattle.scald_lex.proofs.Values.{value_after_more}
use Rattle.step_values.specs.declared.value.Value.{Value}
use Rattle.step_values.specs.declared.value.Value.TheVariants.{Zero, One, S, C, R, F, U}
use Rattle.step_values.specs.Steps.{letter_of}
use Rattle.listing.specs.Run.{Run, runs, spelled}
use Rattle.listing.proofs.Runs.{runs_are}
use Rattle.draw_report.specs.declared.run.Placed.{Placed}
use Rattle.draw_report.specs.declared.shape.Stroke.{Stroke}
use Rattle.draw_report.specs.declared.view.View.{View}
use Rattle.draw_report.specs.Element.{Byte, Chars, Number, Word, legible_words, tree_of}
use Rattle.draw_report.specs.Shape.{down, shape, up}
use Rattle.draw_report.specs.View.{IsView, scale}
use Rattle.draw_report.specs.Wave.{cell_at, placed, run_path, window}
use Rattle.draw_report.specs.Shown.{RowShowsWave, moved_by, shown_by, value_of_class}

-- ---- numbers that are read back

record IsNumeral (n : ℕ) (digits : List ℕ) : Type 0 where
  all : list_all is_digit digits ≡ true
  value : value_of digits ≡ n

digit : (n : ℕ) → n < 10 → is_digit (48 + n) ≡ true
digit n h = grind (arith, nat_tests)

one_numeral : (n : ℕ) → n < 10 → IsNumeral n ((48 + n) ∷ [])
one_numeral n h = record { all = rw (digit n h) refl; value = omega arith }

more_numeral : (n : ℕ) (ds : List ℕ) → 10 ≤ n → IsNumeral (n / 10) ds →
    IsNumeral n (ds ++ ((48 + n % 10) ∷ []))
more_numeral n ds h k = record {
  all = rw (list_all-append is_digit ds ((48 + n % 10) ∷ []), k.all, digit (n % 10) (omega arith))
      refl;
  value = let v = k.value in let e = value_after_more 0 ds (48 + n % 10) in omega arith;
}

is_numeral : (n : ℕ) → n < 2 ^ 64 → IsNumeral n (decimal n)
is_numeral n h = decimal_by_steps IsNumeral one_numeral more_numeral n h

-- a front of digits, and no digit after it
front : (ds rest : List ℕ) → list_all is_digit ds ≡ true → prefix_len is_digit rest ≡ 0 →
    prefix_len is_digit (ds ++ rest) ≡ length ds
front [] rest all ends = ends
front (b ∷ bs) rest all ends =
    let parts = and_parts (is_digit b) (list_all is_digit bs) all in
    rw parts.0 (ap (λ (n : ℕ). 1 + n) (front bs rest parts.1 ends) ∙ omega arith)

taken : (ds rest : List ℕ) → list_all is_digit ds ≡ true → prefix_len is_digit rest ≡ 0 →
    take_while is_digit (ds ++ rest) ≡ ds
taken ds rest all ends =
    ap (λ (n : ℕ). take n (ds ++ rest)) (front ds rest all ends) ∙ take_at ds rest (length ds) refl

-- ---- the data of a path

no_move : (b : ℕ) → is_digit b ≡ true → ((b == 104) || (b == 108)) ≡ false
no_move b h = grind (arith, nat_tests)

-- digits move nothing
skipped : (ds rest : List ℕ) → list_all is_digit ds ≡ true → moved_by (ds ++ rest) ≡ moved_by rest
skipped [] rest all = refl
skipped (b ∷ bs) rest all =
    let parts = and_parts (is_digit b) (list_all is_digit bs) all in
    ap (λ (t : Bool). if t then value_of (take_while is_digit (bs ++ rest))
    else moved_by (bs ++ rest))
    (no_move b parts.0)
    ∙ skipped bs rest parts.1

-- after the place comes what moves, and then the number
moves : (x w : ℕ) (opens rest : List ℕ) → x < 2 ^ 64 → w < 2 ^ 64 →
    ((t : List ℕ) → moved_by (opens ++ t) ≡ value_of (take_while is_digit t)) →
    prefix_len is_digit rest ≡ 0 →
    moved_by (77 ∷ (decimal x ++ (opens ++ (decimal w ++ rest)))) ≡ w
moves x w opens rest place wide begins ends =
    let number = is_numeral w wide in
    skipped (decimal x) (opens ++ (decimal w ++ rest)) (is_numeral x place).all
    ∙ begins (decimal w ++ rest)
    ∙ ap value_of (taken (decimal w) rest number.all ends)
    ∙ number.value

module _ (s : Stroke) (place : s.x < 2 ^ 64) (wide : s.width < 2 ^ 64) where
  -- what follows the first width of a box, and of a ramp
  abbrev box_rest : List Word → List ℕ
  box_rest words =
      legible_words (Chars (codes "v160h-") ∷ Number s.width ∷ Chars (codes "z") ∷ words)

  box_moves : (words : List Word) →
      moved_by (77 ∷ (decimal s.x ++ (codes " 40h" ++ (decimal s.width ++ box_rest words))))
      ≡ s.width
  box_moves words = moves s.x s.width (codes " 40h") (box_rest words) place wide (λ t. refl) refl

  up_moves : (words : List Word) →
      moved_by (legible_words (Chars (codes "M") ∷ Number s.x ∷ Chars (codes " 200l")
      ∷ Number s.width
      ∷ Chars (codes " -160") ∷ words)) ≡ s.width
  up_moves words =
      moves s.x s.width (codes " 200l") (legible_words (Chars (codes " -160") ∷ words)) place wide
      (λ t. refl) refl

  down_moves : (words : List Word) →
      moved_by (legible_words (Chars (codes "M") ∷ Number s.x ∷ Chars (codes " 40l")
      ∷ Number s.width
      ∷ Chars (codes " 160") ∷ words)) ≡ s.width
  down_moves words =
      moves s.x s.width (codes " 40l") (legible_words (Chars (codes " 160") ∷ words)) place wide
      (λ t. refl) refl

  shape_moves : (v : Value) (single : Bool) → s.is_single ≡ single →
      moved_by (legible_words (shape v s)) ≡ s.width
  shape_moves Zero single is =
      moves s.x s.width (codes " 200h") [] place wide (λ t. refl) refl
  shape_moves One single is =
      moves s.x s.width (codes " 40h") [] place wide (λ t. refl) refl
  shape_moves S single is = box_moves []
  shape_moves U single is = box_moves []
  shape_moves R true is = rw is (up_moves [])
  shape_moves R false is = rw is (box_moves (up s))
  shape_moves F true is = rw is (down_moves [])
  shape_moves F false is = rw is (box_moves (down s))
  shape_moves C true is = rw is (down_moves (up s))
  shape_moves C false is = rw is (box_moves [])

-- ---- a run

class_is : (v : Value) →
    value_of_class (legible_words (Chars (codes "v") ∷ Byte (letter_of v) ∷ [])) ≡ v
class_is Zero = refl
class_is One = refl
class_is S = refl
class_is C = refl
class_is R = refl
class_is F = refl
class_is U = refl

turned : (k w : ℕ) → 1 ≤ k → (k * w) / k ≡ w
turned k w some =
    (let e : k * w ≡ w * k + 0 = omega arith in ap (λ (n : ℕ). n / k) e) ∙ div-mul-add w k 0 some

-- the first slot and the width are small enough to be written
small : (k n : ℕ) → k ≤ 9600 → n < 2 ^ 30 → k * n < 2 ^ 64
small k n few less =
    let below = mul-lt k n 9601 (2 ^ 30) (omega (arith, few)) less in
    omega (arith, below)

run_shown : (k : ℕ) (p : Placed) → 1 ≤ k → k ≤ 9600 → p.from < 2 ^ 30 → p.width < 2 ^ 30 →
    shown_by k (tree_of (run_path k p)) ≡ replicate p.width p.value
run_shown k p some few from wide =
    let s : Stroke = record { x = k * p.from; width = k * p.width; is_single = p.width == 1 } in
    let moved = shape_moves s (small k p.from few from) (small k p.width few wide) p.value
    (p.width == 1) refl in
    ap₂ (λ (n : ℕ) (v : Value). replicate n v)
    (ap (λ (n : ℕ). n / k) moved ∙ turned k p.width some) (class_is p.value)

-- ---- the runs of a window

runs_shown : (k : ℕ) → 1 ≤ k → k ≤ 9600 → (from : ℕ) (rs : List Run) →
    from + length (spelled rs) < 2 ^ 30 →
    flat_map (shown_by k) (map tree_of (map (run_path k) (placed from rs))) ≡ spelled rs
runs_shown k some few from [] less = refl
runs_shown k some few from (r ∷ rs) less =
    let p : Placed = record { value = r.value; from = from; width = r.width } in
    let long : length (spelled (r ∷ rs)) ≡ r.width + length (spelled rs) =
    length-append (replicate r.width r.value) (spelled rs)
    ∙ ap (λ (n : ℕ). n + length (spelled rs)) (length-replicate r.width r.value) in
    ap₂ (λ (xs ys : List Value). xs ++ ys)
    (run_shown k p some few (omega (arith, less, long)) (omega (arith, less, long)))
    (runs_shown k some few (from + r.width) rs (omega (arith, less, long)))

scale_few : (v : View) → IsView v → scale v ≤ 9600
scale_few v is = grind (arith, nat_tests, is.slots, div_below 9600 v.count 9601 is.slots)

scale_some : (v : View) → IsView v → 1 ≤ scale v
scale_some v is = grind (arith, nat_tests, is.slots)

pub row_shows_wave : RowShowsWave
row_shows_wave v cells is =
    let spell = (runs_are (window cells v.first v.count)).spell in
    let long : length (spelled (runs (window cells v.first v.count))) ≡ v.count =
    ap length spell ∙ length-map-range_with_len (λ (j : ℕ). cell_at cells (v.first + j)) 0
    v.count in
    let few = is.few in
    runs_shown (scale v) (scale_some v is) (scale_few v is) 0
    (runs (window cells v.first v.count)) (omega (arith, long, few))
    ∙ spell
