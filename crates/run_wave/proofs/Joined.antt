-- A wave beside itself some slots later, if the later one begins again once.
use Rattle.std.proofs.Common.{◌≡◌, ℕ, ◌-◌, ◌%◌, ◌<◌, ◌≤◌, List, [], ◌∷◌, ◌++◌, length, take, drop, refl, sym, ap, ◌∙◌, arith}
use Rattle.std.specs.Prelude.{replicate}
use Rattle.std.specs.List.{zip}
use Rattle.std.proofs.lemmas.List.{append_assoc, take-append-drop}
use Rattle.scald_base.proofs.Back.{mod_small}
use Rattle.wave_core.specs.Cell.{Cells}
use Rattle.wave_core.specs.Slots.{later}
use Rattle.run_wave.proofs.Turned.{turned, length_cut}
use Rattle.run_wave.proofs.Zipped.{zip_next}

-- of a longer list no more is taken than there are slots
zip_longer : {A B : Type 0} (xs : List A) (ys zs : List B) → length xs ≤ length ys → zip xs (ys ++ zs) ≡ zip xs ys
zip_longer [] ys zs within = refl
zip_longer (x ∷ xs) [] zs within = absurd (omega (arith, within))
zip_longer {A} {B} (x ∷ xs) (y ∷ ys) zs within = ap (λ (l : List (A × B)). (x, y) ∷ l) (zip_longer xs ys zs (omega (arith, within)))

module _ {T : Type 0} where
  -- What is left of the later list when it began in the middle, and then begins again: the front is as
  -- long as the list at most, and its rest is not read.
  pub joined_start : (k : Cells T) (xs end : List T) (slots by : ℕ) → slots ≡ length xs → 0 < by → by < slots → end ≡ drop (slots - by) xs →
      zip xs (end ++ xs) ≡ zip xs (later k xs by)
  joined_start k xs end slots by long some below is =
      let small : slots - by % slots ≡ slots - by = ap (λ (m : ℕ). slots - m) (mod_small by slots below) in
      let first : drop (slots - by) xs ++ take (slots - by) xs ≡ later k xs by =
      sym (ap (λ (m : ℕ). drop m xs ++ take m xs) small) ∙ turned k xs slots by long (omega (arith, some, below, long)) in
      let whole : length xs ≤ length (drop (slots - by) xs ++ take (slots - by) xs) =
      let cut = length_cut xs (slots - by) (omega (arith, long)) in omega (arith, cut) in
      ap (λ (l : List T). zip xs (l ++ xs)) is
      ∙ ap (λ (l : List T). zip xs (drop (slots - by) xs ++ l)) (sym (take-append-drop (slots - by) xs))
      ∙ ap (zip xs) (sym (append_assoc (drop (slots - by) xs) (take (slots - by) xs) (drop (slots - by) xs)))
      ∙ zip_longer xs (drop (slots - by) xs ++ take (slots - by) xs) (drop (slots - by) xs) whole
      ∙ ap (zip xs) first

  -- one run on in both
  pub joined_next : (w : ℕ) (x y : T) (now now' end end' xs : List T) → now ≡ replicate w x ++ now' → end ≡ replicate w y ++ end' →
      zip now (end ++ xs) ≡ replicate w (x, y) ++ zip now' (end' ++ xs)
  joined_next w x y now now' end end' xs e e' =
      zip_next w x y now now' (end ++ xs) (end' ++ xs) e (ap (λ (l : List T). l ++ xs) e' ∙ append_assoc (replicate w y) end' xs)

  -- at the turn nothing is left of the later list but the list from its beginning on
  pub joined_turn : (now end xs begun : List T) → length now ≤ length xs → length end ≡ 0 → begun ≡ xs →
      zip now (end ++ xs) ≡ zip now (begun ++ xs)
  joined_turn now [] xs begun within none is =
      sym (zip_longer now xs xs within) ∙ ap (λ (l : List T). zip now (l ++ xs)) (sym is)
  joined_turn now (e ∷ end) xs begun within none is = absurd (omega (arith, none))
