-- What a scan of the pins has found so far.
use Rattle.std.proofs.Common.{◌≡◌, ℕ, ◌+◌, Bool, true, false, List, [], ◌∷◌, ◌++◌, length, map, take, drop, get_or, refl, sym, ap, ◌∙◌, Some, None, ◌<◌, add-one}
use Rattle.std.proofs.lemmas.List.{take_more, take-append-drop, map-append}
use Rattle.std.proofs.lemmas.List.Elements.{filter-append}
use Rattle.std.proofs.Math.Seq.{drop-cons}
use Rattle.wave_core.specs.Cell.{Cells}
use Rattle.wave_core.specs.Slots.{slots}
use Rattle.skew_algebra.specs.Wave.{Wave, skewed, is_steady}
use Rattle.gate_eval.specs.Meeting.{cells_in, folds_in, period_of, movers, kept_skew, meeting_by, meeting}
use Rattle.gate_eval.proofs.Movers.{movers_moving}

-- one item more, by what stands for it
pub map_next : {A B : Type 0} (f : A → B) (xs : List A) (i : ℕ) (x : A) (ys : List B) (y : B) → i < length xs → x ≡ get_or xs i x → ys ≡ map f (take i xs) → y ≡ f x →
    ys ++ y ∷ [] ≡ map f (take (i + 1) xs)
map_next f xs i x ys y below is so_far here =
    (λ j. so_far j ++ here j ∷ [])
    ∙ sym (map-append f (take i xs) (x ∷ []))
    ∙ ap (λ z. map f (take i xs ++ z ∷ [])) is
    ∙ ap (map f) (sym (take_more xs i x below))

-- a list in three parts
parts : {A : Type 0} (xs : List A) (i : ℕ) (x : A) → i < length xs → x ≡ get_or xs i x → xs ≡ take i xs ++ (x ∷ drop (i + 1) xs)
parts xs i x below is =
    sym (take-append-drop i xs)
    ∙ ap (λ l. take i xs ++ l) (drop-cons xs i x below ∙ (λ j. sym is j ∷ drop (sym (add-one i) j) xs))

-- at most one wave moves so far, and this is its skew
pub record Keeps {T : Type 0} (found : List (Wave T)) (moves : Bool) (skew : ℕ) : Type 0 where
  pub none : moves ≡ false → (found ≡ []) × (skew ≡ 0)
  pub one : moves ≡ true → (w : Wave T) × (found ≡ w ∷ []) × (w.skew ≡ skew)

module _ {T P : Type 0} (k : Cells T) (wave : P → Wave T) (pins : List P) (i : ℕ) (pin : P) (below : i < length pins) (is : pin ≡ get_or pins i pin) where
  -- a second one that moves
  pub kept_two : (skew : ℕ) → is_steady k (wave pin).cells ≡ false → Keeps (movers k (map wave (take i pins))) true skew →
      None ≡ kept_skew (movers k (map wave pins))
  kept_two skew moves h =
      let p = h.one refl in
      let rest : List (Wave T) = movers k (map wave (drop (i + 1) pins)) in
      let e : movers k (map wave pins) ≡ (p.0 ∷ []) ++ (wave pin ∷ movers k (map wave (drop (i + 1) pins))) =
      ap (λ l. movers k (map wave l)) (parts pins i pin below is)
      ∙ ap (movers k) (map-append wave (take i pins) (pin ∷ drop (i + 1) pins))
      ∙ filter-append _ (map wave (take i pins)) (wave pin ∷ map wave (drop (i + 1) pins))
      ∙ (λ j. p.1 j ++ movers_moving k (wave pin) (map wave (drop (i + 1) pins)) moves j) in
      sym (ap kept_skew e)

pub meeting_one : {T : Type 0} (k : Cells T) (image : List T → T) (waves : List (Wave T)) (skew : ℕ) → Some skew ≡ kept_skew (movers k waves) →
    skewed (slots (period_of waves) (λ p. image (cells_in k waves p))) skew ≡ meeting k image waves
unfolding meeting
meeting_one k image waves skew e = ap (meeting_by k image waves) e

pub meeting_more : {T : Type 0} (k : Cells T) (image : List T → T) (waves : List (Wave T)) → None ≡ kept_skew (movers k waves) →
    skewed (slots (period_of waves) (λ p. image (folds_in k waves p))) 0 ≡ meeting k image waves
unfolding meeting
meeting_more k image waves e = ap (meeting_by k image waves) e
