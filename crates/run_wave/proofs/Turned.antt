-- Lists of cells by their slots, and a wave that is turned by cutting its list in two.
use Rattle.std.proofs.Common.{◌≡◌, ℕ, zero, suc, ◌+◌, ◌-◌, ◌*◌, ◌%◌, ◌<◌, ◌≤◌, ◌⊎◌, inl, inr, List, [], ◌∷◌, ◌++◌, length, get_or, take, drop, refl, sym, ap, ◌∙◌, arith, subst}
use Rattle.std.specs.Prelude.{replicate}
use Rattle.std.proofs.lemmas.Bool.{cases_lt}
use Rattle.std.proofs.lemmas.List.{length-append, length-take, length-drop, drop_all, take_all, get_or-append_right, get_or-take, get_or-drop}
use Rattle.std.proofs.Math.Nat.{add-mul-mod_self_right, mod-eq_of_lt}
use Rattle.scald_base.proofs.Back.{back_sub, back_zero}
use Rattle.wave_core.specs.Cell.{Cells}
use Rattle.wave_core.specs.Slots.{slots_from, slots, earlier, later, fold_at, folded}

module _ {T : Type 0} where
  is_slots_from : (n i : ℕ) (f : ℕ → T) (xs : List T) (d : T) → length xs ≡ n → ((j : ℕ) → j < n → get_or xs j d ≡ f (i + j)) → xs ≡ slots_from n i f
  is_slots_from zero i f [] d e h = refl
  is_slots_from zero i f (x ∷ xs) d e h = absurd (omega (arith, e))
  is_slots_from (suc n) i f [] d e h = absurd (omega (arith, e))
  is_slots_from (suc n) i f (x ∷ xs) d e h =
      let at : i + 0 ≡ i = omega arith in
      let first : x ≡ f i = h 0 (omega arith) ∙ ap f at in
      let rest : xs ≡ slots_from n (i + 1) f = is_slots_from n (i + 1) f xs d (omega (arith, e))
      (λ j below. h (suc j) (omega arith) ∙ (let there : i + suc j ≡ i + 1 + j = omega arith in ap f there)) in
      λ k. first k ∷ rest k

  -- a list is told by the cell of each slot
  pub is_slots : (n : ℕ) (f : ℕ → T) (xs : List T) (d : T) → length xs ≡ n → ((j : ℕ) → j < n → get_or xs j d ≡ f j) → xs ≡ slots n f
  is_slots n f xs d e h = is_slots_from n 0 f xs d e (λ j below. h j below ∙ (let at : j ≡ 0 + j = omega arith in ap f at))

  replicate_from : (n i : ℕ) (c : T) → replicate n c ≡ slots_from n i (λ p. c)
  replicate_from zero i c = refl
  replicate_from (suc n) i c = ap (λ (l : List T). c ∷ l) (replicate_from n (i + 1) c)

  -- a wave of one cell
  pub replicate_slots : (n : ℕ) (c : T) → replicate n c ≡ slots n (λ p. c)
  replicate_slots n c = replicate_from n 0 c

  pub get_or_append_left : (xs ys : List T) (i : ℕ) (d : T) → i < length xs → get_or (xs ++ ys) i d ≡ get_or xs i d
  get_or_append_left [] ys i d below = absurd (omega arith)
  get_or_append_left (x ∷ xs) ys zero d below = refl
  get_or_append_left (x ∷ xs) ys (suc i) d below = get_or_append_left xs ys i d (omega arith)

  -- the cell of a slot after the cut has moved to the front
  at_cut : (xs : List T) (a s : ℕ) (d : T) → a ≤ length xs → s < length xs → get_or (drop a xs ++ take a xs) s d ≡ get_or xs ((s + a) % length xs) d
  at_cut xs a s d within below = go (cases_lt s (length xs - a))
    where
      front : length (drop a xs) ≡ length xs - a
      front = length-drop a xs

      go : (s < length xs - a) ⊎ (length xs - a ≤ s) → get_or (drop a xs ++ take a xs) s d ≡ get_or xs ((s + a) % length xs) d
      go (inl before) =
          let there : a + s ≡ (s + a) % length xs = (let turn : a + s ≡ s + a = omega arith in turn) ∙ sym (mod-eq_of_lt (omega arith)) in
          get_or_append_left (drop a xs) (take a xs) s d (omega (arith, front)) ∙ get_or-drop a xs s d ∙ ap (λ (i : ℕ). get_or xs i d) there
      go (inr after) =
          let place : ℕ = s - (length xs - a) in
          let less : s - (length xs - a) < length xs = omega arith in
          let whole : s + a ≡ s - (length xs - a) + 1 * length xs = omega arith in
          let there : s - (length xs - a) ≡ (s + a) % length xs =
          sym (mod-eq_of_lt less) ∙ sym (add-mul-mod_self_right (s - (length xs - a)) 1 (length xs)) ∙ ap (λ (z : ℕ). z % length xs) (sym whole) in
          get_or-append_right (drop a xs) (take a xs) (length xs - a) s d front after
          ∙ get_or-take a xs (s - (length xs - a)) d (omega arith) ∙ ap (λ (i : ℕ). get_or xs i d) there

  pub length_cut : (xs : List T) (a : ℕ) → a ≤ length xs → length (drop a xs ++ take a xs) ≡ length xs
  length_cut xs a within =
      let l = length-append (drop a xs) (take a xs) in
      let front = length-drop a xs in
      let behind = length-take a xs in
      omega (arith, l, front, behind)

  turned_list : (k : Cells T) (xs : List T) (by : ℕ) → 0 < length xs →
      drop (length xs - by % length xs) xs ++ take (length xs - by % length xs) xs ≡ later k xs by
  unfolding earlier
  turned_list k xs by some =
      let a : ℕ = length xs - by % length xs in
      is_slots (length xs) (λ s. earlier k xs s by) (drop (length xs - by % length xs) xs ++ take (length xs - by % length xs) xs) k.any
      (length_cut xs (length xs - by % length xs) (omega arith))
      (λ s below. at_cut xs (length xs - by % length xs) s k.any (omega arith) below
      ∙ ap (λ (i : ℕ). get_or xs i k.any) (back_sub (length xs) s by some))

  -- the same by the period as code has it
  pub turned : (k : Cells T) (xs : List T) (period by : ℕ) → period ≡ length xs → 0 < length xs →
      drop (period - by % period) xs ++ take (period - by % period) xs ≡ later k xs by
  turned k xs period by e some =
      subst (λ (n : ℕ). drop (n - by % n) xs ++ take (n - by % n) xs ≡ later k xs by) (sym e) (turned_list k xs by some)

  -- by no slot later, or by a whole period
  pub unturned : (k : Cells T) (xs : List T) (period by : ℕ) → period ≡ length xs → 0 < length xs → period - by % period ≡ period → xs ≡ later k xs by
  unturned k xs period by e some whole =
      sym (take_all period xs (omega (arith, e)))
      ∙ ap (λ (l : List T). l ++ take period xs) (sym (drop_all period xs (omega (arith, e))))
      ∙ ap (λ (n : ℕ). drop n xs ++ take n xs) (sym whole)
      ∙ turned k xs period by e some

  -- a wave that is cut and put together so
  pub turned_cells : (k : Cells T) (xs none front whole : List T) (period by : ℕ) → period ≡ length xs → 0 < length xs → none ≡ [] →
      front ≡ none ++ drop (period - by % period) xs → whole ≡ front ++ take (period - by % period) xs → whole ≡ later k xs by
  turned_cells k xs none front whole period by e some empty e' e'' =
      e'' ∙ ap (λ (l : List T). l ++ take (period - by % period) xs) (e' ∙ ap (λ (l : List T). l ++ drop (period - by % period) xs) empty)
      ∙ turned k xs period by e some

  -- a fold over no slots before
  pub folded_none : (k : Cells T) (xs : List T) → 0 < length xs → xs ≡ folded k xs 0
  unfolding earlier
  folded_none k xs some =
      is_slots (length xs) (fold_at k xs 0) xs k.any refl
      (λ j below. ap (λ (i : ℕ). get_or xs i k.any) (sym (back_zero (length xs) j ∙ mod-eq_of_lt below)))
