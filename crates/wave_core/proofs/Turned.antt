-- Waves that come later, as two parts of their list, and over two periods.
use Rattle.std.proofs.Common.{◌≡◌, ℕ, zero, suc, ◌+◌, ◌-◌, ◌*◌, ◌%◌, ◌<◌, ◌≤◌, ◌⊎◌, inl, inr, Bool, true, List, [], ◌∷◌, ◌++◌, length, get_or, take, drop, sym, ap, ◌∙◌, arith}
use Rattle.std.specs.List.{list_all}
use Rattle.std.proofs.lemmas.List.{length-append, length-take, length-drop, get_or-take, get_or-drop, get_or_append_left, get_or-append_right, ext_get_or}
use Rattle.std.proofs.lemmas.Bool.{and_parts}
use Rattle.scald_base.specs.Clock.{back}
use Rattle.scald_base.proofs.Back.{back_sub, back_lt, back_zero, back_mod, period_later, mod_small}
use Rattle.wave_core.specs.Cell.{Cells, IsLawful}
use Rattle.wave_core.specs.Slots.{earlier, later, join_to, fold_at, folded}
use Rattle.wave_core.specs.Fold.{line}
use Rattle.wave_core.proofs.Slots.{length_slots, get_or_slots}

below_or : (i n : ℕ) → (i < n) ⊎ (n ≤ i)
below_or i zero = inr (omega arith)
below_or zero (suc n) = inl (omega arith)
below_or (suc i) (suc n) = elim (below_or i n) [ inl l ↦ inl (omega arith) | inr l ↦ inr (omega arith) ]

module _ {T : Type 0} where
  pub taken : (n m : ℕ) (xs ys : List T) → n ≡ m → xs ≡ ys → take n xs ≡ take m ys
  taken n m xs ys e is = λ i. take (e i) (is i)

  -- the end of a list before its beginning
  turned_at : (cells : List T) (begin i : ℕ) (d : T) → begin ≤ length cells → i < length cells →
      get_or (drop begin cells ++ take begin cells) i d ≡ get_or cells ((i + begin) % length cells) d
  turned_at cells begin i d within below = elim (below_or i (length cells - begin)) [
    | inl near ↦
        get_or_append_left (drop begin cells) (take begin cells) d i (let n = length-drop begin cells in omega arith)
        ∙ get_or-drop begin cells i d
        ∙ ap (λ (z : ℕ). get_or cells z d) (let e : begin + i ≡ i + begin = omega arith in e ∙ sym (mod_small (i + begin) (length cells) (omega arith)))
    | inr far ↦
        get_or-append_right (drop begin cells) (take begin cells) (length cells - begin) i d (length-drop begin cells) far
        ∙ get_or-take begin cells (i - (length cells - begin)) d (omega arith)
        ∙ ap (λ (z : ℕ). get_or cells z d)
        (sym (mod_small (i - (length cells - begin)) (length cells) (omega arith))
        ∙ sym (period_later (length cells) (i - (length cells - begin)))
        ∙ ap (λ (z : ℕ). z % length cells) (let e : i - (length cells - begin) + length cells ≡ i + begin = omega arith in e))
  ]

module _ {T : Type 0} (k : Cells T) where
  -- what code puts together
  pub turned_later : (cells : List T) (period by begin : ℕ) → period ≡ length cells → 0 < length cells → begin ≡ period - by % period →
      drop begin cells ++ take begin cells ≡ later k cells by
  unfolding earlier
  turned_later cells period by begin long some is =
      let begin_is : begin ≡ length cells - by % length cells = is ∙ (λ i. long i - by % long i) in
      let within : begin ≤ length cells = omega arith in
      let size : length (drop begin cells ++ take begin cells) ≡ length cells =
      length-append (drop begin cells) (take begin cells) ∙ (λ i. length-drop begin cells i + length-take begin cells i) ∙ omega arith in
      ext_get_or k.any (drop begin cells ++ take begin cells) (later k cells by)
      (size ∙ sym (length_slots (length cells) (λ p. earlier k cells p by)))
      (λ i below.
      let near : i < length cells = omega (arith, size) in
      turned_at cells begin i k.any within near
      ∙ ap (λ (z : ℕ). get_or cells ((i + z) % length cells) k.any) begin_is
      ∙ ap (λ (z : ℕ). get_or cells z k.any) (back_sub (length cells) i by some)
      ∙ sym (get_or_slots (length cells) i (λ p. earlier k cells p by) k.any near))

  earlier_again : (cells : List T) (t by : ℕ) → length cells ≤ t → earlier k cells (t - length cells) by ≡ earlier k cells t by
  unfolding earlier
  earlier_again cells t by within =
      let e : t - length cells + length cells ≡ t = omega arith in
      ap (λ (z : ℕ). get_or cells z k.any)
      (sym (back_mod (length cells) (t - length cells) by)
      ∙ ap (λ (z : ℕ). back (length cells) z by) (sym (period_later (length cells) (t - length cells)) ∙ ap (λ (z : ℕ). z % length cells) e)
      ∙ back_mod (length cells) t by)

  pub line_later : (cells : List T) (by : ℕ) → later k cells by ++ later k cells by ≡ line k cells by
  unfolding line
  line_later cells by =
      let one : length (later k cells by) ≡ length cells = length_slots (length cells) (λ p. earlier k cells p by) in
      let size : length (later k cells by ++ later k cells by) ≡ 2 * length cells =
      length-append (later k cells by) (later k cells by) ∙ (λ i. one i + one i) ∙ omega arith in
      ext_get_or k.any (later k cells by ++ later k cells by) (line k cells by)
      (size ∙ sym (length_slots (2 * length cells) (λ t. earlier k cells t by)))
      (λ i below.
      let near : i < 2 * length cells = omega (arith, size) in
      elim (below_or i (length cells)) [
        | inl first ↦
            get_or_append_left (later k cells by) (later k cells by) k.any i (omega (arith, one))
            ∙ get_or_slots (length cells) i (λ p. earlier k cells p by) k.any first
        | inr second ↦
            get_or-append_right (later k cells by) (later k cells by) (length cells) i k.any one second
            ∙ get_or_slots (length cells) (i - length cells) (λ p. earlier k cells p by) k.any (omega arith)
            ∙ earlier_again cells i by second
      ]
      ∙ sym (get_or_slots (2 * length cells) i (λ t. earlier k cells t by) k.any near))

  pub line_at : (cells l : List T) (by t : ℕ) (c : T) → l ≡ line k cells by → t < 2 * length cells → c ≡ get_or l t c → c ≡ earlier k cells t by
  unfolding line
  line_at cells l by t c is below at =
      at ∙ ap (λ l. get_or l t c) is ∙ get_or_slots (2 * length cells) t (λ t. earlier k cells t by) c below

  pub length_line : (cells l : List T) (by : ℕ) → l ≡ line k cells by → length l ≡ 2 * length cells
  unfolding line
  length_line cells l by is = ap length is ∙ length_slots (2 * length cells) (λ t. earlier k cells t by)

  -- ---- waves that are their own folds

  pub folded_none : (cells : List T) → folded k cells 0 ≡ cells
  unfolding earlier
  folded_none cells =
      let long : length (folded k cells 0) ≡ length cells = length_slots (length cells) (fold_at k cells 0) in
      ext_get_or k.any (folded k cells 0) cells long
      (λ i below.
      let near : i < length cells = omega (arith, long) in
      get_or_slots (length cells) i (fold_at k cells 0) k.any near
      ∙ ap (λ (z : ℕ). get_or cells z k.any) (back_zero (length cells) i ∙ mod_small i (length cells) near))

  all_at : (test : T → Bool) (cells : List T) (i : ℕ) (d : T) → list_all test cells ≡ true → i < length cells → test (get_or cells i d) ≡ true
  all_at test [] i d h below = absurd (omega arith)
  all_at test (v ∷ vs) zero d h below = (and_parts (test v) (list_all test vs) h).0
  all_at test (v ∷ vs) (suc i) d h below = all_at test vs i d (and_parts (test v) (list_all test vs) h).1 (omega arith)

  module _ (laws : IsLawful k) where
    join_to_one : (f : ℕ → T) (v : T) (n : ℕ) → ((i : ℕ) → f i ≡ v) → join_to k f n ≡ v
    join_to_one f v zero e = e 0
    join_to_one f v (suc n) e = (λ i. k.join (join_to_one f v n e i) (e (suc n) i)) ∙ laws.join_absorbs v

    pub folded_one : (cells : List T) (test : T → Bool) (v : T) (n : ℕ) → 0 < length cells → ((c : T) → test c ≡ true → c ≡ v) → list_all test cells ≡ true →
        folded k cells n ≡ cells
    unfolding earlier
    folded_one cells test v n some same h =
        ext_get_or k.any (folded k cells n) cells (length_slots (length cells) (fold_at k cells n))
        (λ i below.
        let near : i < length cells = let e = length_slots (length cells) (fold_at k cells n) in omega (arith, e) in
        get_or_slots (length cells) i (fold_at k cells n) k.any near
        ∙ join_to_one (λ o. earlier k cells i o) v n
        (λ o. same (get_or cells (back (length cells) i o) k.any) (all_at test cells (back (length cells) i o) k.any h (back_lt (length cells) i o some)))
        ∙ sym (same (get_or cells i k.any) (all_at test cells i k.any h near)))
