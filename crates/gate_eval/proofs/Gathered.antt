-- Waves that code has gathered, against the waves of the pins.
use Rattle.std.proofs.Common.{◌≡◌, ℕ, zero, suc, ◌+◌, ◌<◌, List, [], ◌∷◌, length, map, get_or, refl, sym, ap, ◌∙◌, arith}
use Rattle.std.specs.List.{All}
use Rattle.std.proofs.lemmas.Simd.{map-map}
use Rattle.std.proofs.lemmas.List.{get_or-map, length-map}
use Rattle.std.proofs.lemmas.List.Elements.{All-same, All-map, All-head, All-tail, All-weaker}
use Rattle.wave_core.specs.Cell.{Cells}
use Rattle.wave_core.specs.Slots.{slots_from, slots}
use Rattle.wave_core.proofs.Slots.{get_or_slots, length_slots}
use Rattle.skew_algebra.specs.Wave.{Wave, cell_at, fold, folded}
use Rattle.gate_eval.specs.Meeting.{cells_in, folds_in, period_of, HaveOnePeriod}

slots_from_same : {T : Type 0} (n i : ℕ) (f h : ℕ → T) → ((j : ℕ) → j < i + n → f j ≡ h j) → slots_from n i f ≡ slots_from n i h
slots_from_same zero i f h e = refl
slots_from_same (suc n) i f h e =
    let first : f i ≡ h i = e i (omega arith) in
    let rest : slots_from n (i + 1) f ≡ slots_from n (i + 1) h = slots_from_same n (i + 1) f h (λ j below. e j (omega arith)) in
    λ j. first j ∷ rest j

pub slots_same : {T : Type 0} (n : ℕ) (f h : ℕ → T) → ((j : ℕ) → j < n → f j ≡ h j) → slots n f ≡ slots n h
slots_same n f h e = slots_from_same n 0 f h (λ j below. e j (omega arith))

-- what is made of lists that are the same
same_made : {A B C D : Type 0} (h : C → D) (f : A → C) (g : B → C) (xs : List A) (ys : List B) → map f xs ≡ map g ys →
    map (λ x. h (f x)) xs ≡ map (λ y. h (g y)) ys
same_made h f g xs ys e = sym (map-map h f xs) ∙ ap (map h) e ∙ map-map h g ys

All_unmapped : {A B : Type 0} (P : B → Type 0) (f : A → B) (xs : List A) → All P (map f xs) → All (λ x. P (f x)) xs
All_unmapped P f xs h i d below =
    let long : length (map f xs) ≡ length xs = length-map xs f in
    let at : get_or (map f xs) i (f d) ≡ f (get_or xs i d) = get_or-map f xs i d (f d) below in
    rw at at (h i (f d) (omega arith))

pub period_first : {T P : Type 0} (pins : List P) (first : P) (wave : P → Wave T) → 0 < length pins →
    period_of (map wave pins) ≡ length (wave (get_or pins 0 first)).cells
period_first [] first wave some = absurd (omega arith)
period_first (p ∷ ps) first wave some = refl

pub some_period : {T P : Type 0} (pins : List P) (wave : P → Wave T) → 0 < length pins → ((p : P) → 0 < length (wave p).cells) → 0 < period_of (map wave pins)
some_period [] wave some long = absurd (omega arith)
some_period (p ∷ ps) wave some long = long p

-- the period of any pin is that of all
pub period_any : {T P : Type 0} (pins : List P) (i : ℕ) (pin : P) (wave : P → Wave T) → i < length pins → HaveOnePeriod (map wave pins) →
    length (wave (get_or pins i pin)).cells ≡ period_of (map wave pins)
period_any pins i pin wave below one = All_unmapped (λ (w : Wave _). length w.cells ≡ period_of (map wave pins)) wave pins one i pin below

pub all_below : {T P : Type 0} (pins : List P) (slot : ℕ) (wave : P → Wave T) → HaveOnePeriod (map wave pins) → slot < period_of (map wave pins) →
    All (λ q. slot < length (wave q).cells) pins
all_below pins slot wave one below =
    All-weaker (λ q. length (wave q).cells ≡ period_of (map wave pins)) (λ q. slot < length (wave q).cells) (λ q h. omega arith) pins
    (All_unmapped (λ (w : Wave _). length w.cells ≡ period_of (map wave pins)) wave pins one)

pub all_long : {T P : Type 0} (pins : List P) (period : ℕ) (wave : P → Wave T) → HaveOnePeriod (map wave pins) → period ≡ period_of (map wave pins) →
    All (λ q. length (wave q).cells ≡ period) pins
all_long pins period wave one is =
    All-weaker (λ q. length (wave q).cells ≡ period_of (map wave pins)) (λ q. length (wave q).cells ≡ period) (λ q h. h ∙ sym is) pins
    (All_unmapped (λ (w : Wave _). length w.cells ≡ period_of (map wave pins)) wave pins one)

module _ {T A P : Type 0} (k : Cells T) (waves : List A) (pins : List P) (cells : A → List T) (wave : P → Wave T) where
  -- the waves without their skews
  pub own_cells : (slot : ℕ) → map cells waves ≡ map (λ q. (wave q).cells) pins → map (λ u. cell_at k (cells u) slot) waves ≡ cells_in k (map wave pins) slot
  own_cells slot e =
      same_made (λ (l : List T). cell_at k l slot) cells (λ q. (wave q).cells) waves pins e
      ∙ sym (map-map (λ (w : Wave T). cell_at k w.cells slot) wave pins)

  pub own_long : (period : ℕ) → map cells waves ≡ map (λ q. (wave q).cells) pins → period_of (map wave pins) ≡ period → HaveOnePeriod (map wave pins) →
      All (λ u. length (cells u) ≡ period) waves
  own_long period e is one =
      All_unmapped (λ (l : List T). length l ≡ period) cells waves
      (All-same (λ (l : List T). length l ≡ period) (map cells waves) (map (λ q. (wave q).cells) pins) e
      (All-map (λ (l : List T). length l ≡ period) (λ q. (wave q).cells) pins
      (All-weaker (λ q. length (wave q).cells ≡ period_of (map wave pins)) (λ q. length (wave q).cells ≡ period) (λ q h. h ∙ is) pins
      (All_unmapped (λ (w : Wave T). length w.cells ≡ period_of (map wave pins)) wave pins one))))

  pub folded_long : (period : ℕ) → map cells waves ≡ map (λ q. folded k (wave q)) pins → period_of (map wave pins) ≡ period → HaveOnePeriod (map wave pins) →
      All (λ u. length (cells u) ≡ period) waves
  folded_long period e is one =
      All_unmapped (λ (l : List T). length l ≡ period) cells waves
      (All-same (λ (l : List T). length l ≡ period) (map cells waves) (map (λ q. folded k (wave q)) pins) e
      (All-map (λ (l : List T). length l ≡ period) (λ q. folded k (wave q)) pins
      (All-weaker (λ q. length (wave q).cells ≡ period_of (map wave pins)) (λ q. length (folded k (wave q)) ≡ period)
      (λ q h. length_slots (length (wave q).cells) (fold k (wave q)) ∙ h ∙ is) pins
      (All_unmapped (λ (w : Wave T). length w.cells ≡ period_of (map wave pins)) wave pins one))))

  folds_of : (slot : ℕ) (ps : List P) → All (λ q. slot < length (wave q).cells) ps → map (λ q. cell_at k (folded k (wave q)) slot) ps ≡ map (λ q. fold k (wave q) slot) ps
  folds_of slot [] below = refl
  folds_of slot (p ∷ ps) below =
      let first : cell_at k (folded k (wave p)) slot ≡ fold k (wave p) slot =
      get_or_slots (length (wave p).cells) slot (fold k (wave p)) k.any (All-head (λ q. slot < length (wave q).cells) p ps below) in
      let rest : map (λ q. cell_at k (folded k (wave q)) slot) ps ≡ map (λ q. fold k (wave q) slot) ps =
      folds_of slot ps (All-tail (λ q. slot < length (wave q).cells) p ps below) in
      λ j. first j ∷ rest j

  -- the waves with their skews folded in
  pub folded_cells : (slot : ℕ) → map cells waves ≡ map (λ q. folded k (wave q)) pins → HaveOnePeriod (map wave pins) → slot < period_of (map wave pins) →
      map (λ u. cell_at k (cells u) slot) waves ≡ folds_in k (map wave pins) slot
  folded_cells slot e one below =
      same_made (λ (l : List T). cell_at k l slot) cells (λ q. folded k (wave q)) waves pins e
      ∙ folds_of slot pins
      (All-weaker (λ q. length (wave q).cells ≡ period_of (map wave pins)) (λ q. slot < length (wave q).cells) (λ q h. omega arith) pins
      (All_unmapped (λ (w : Wave T). length w.cells ≡ period_of (map wave pins)) wave pins one))
      ∙ sym (map-map (λ w. fold k w slot) wave pins)

  -- the image, by slots and by folds
  pub own_image : (image : List T → T) (period : ℕ) → map cells waves ≡ map (λ q. (wave q).cells) pins → period_of (map wave pins) ≡ period →
      slots period (λ p. image (map (λ u. cell_at k (cells u) p) waves)) ≡ slots (period_of (map wave pins)) (λ p. image (cells_in k (map wave pins) p))
  own_image image period e is =
      slots_same period (λ p. image (map (λ u. cell_at k (cells u) p) waves)) (λ p. image (cells_in k (map wave pins) p)) (λ p below. ap image (own_cells p e))
      ∙ ap (λ (n : ℕ). slots n (λ p. image (cells_in k (map wave pins) p))) (sym is)

  pub folded_image : (image : List T → T) (period : ℕ) → map cells waves ≡ map (λ q. folded k (wave q)) pins → period_of (map wave pins) ≡ period →
      HaveOnePeriod (map wave pins) →
      slots period (λ p. image (map (λ u. cell_at k (cells u) p) waves)) ≡ slots (period_of (map wave pins)) (λ p. image (folds_in k (map wave pins) p))
  folded_image image period e is one =
      slots_same period (λ p. image (map (λ u. cell_at k (cells u) p) waves)) (λ p. image (folds_in k (map wave pins) p))
      (λ p below. ap image (folded_cells p e one (omega arith)))
      ∙ ap (λ (n : ℕ). slots n (λ p. image (folds_in k (map wave pins) p))) (sym is)
