-- Waves that permit a signal, moved, complemented, folded and brought to their normal form.
use Rattle.std.proofs.Common.{◌≡◌, ℕ, ◌+◌, ◌-◌, ◌%◌, ◌<◌, ◌≤◌, min, Bool, true, not, List, length, get_or, Some, sym, ap, ◌∙◌, arith, map, subst}
use Rattle.std.specs.Prelude.{slice_get}
use Rattle.std.proofs.lemmas.Option.{get_or_from_slice_get}
use Rattle.std.proofs.lemmas.List.{get_or-map, length-map}
use Rattle.std.proofs.lemmas.Bool.{cond_both}
use Rattle.std.proofs.Math.Nat.{mod-lt, mod-le, mod-eq_of_lt}
use Rattle.scald_base.specs.Signal.{Signal}
use Rattle.scald_base.specs.Time.{Bounds}
use Rattle.scald_base.specs.Clock.{back}
use Rattle.wave_core.specs.Cell.{Cells, IsLawful}
use Rattle.wave_core.specs.Slots.{slots, earlier, later, fold_at}
use Rattle.scald_base.proofs.Back.{back_lt, back_zero, back_later, back_back, back_mod, back_period}
use Rattle.wave_core.proofs.Fold.{join_to_same}
use Rattle.wave_core.proofs.Slots.{length_slots, earlier_slots}
use Rattle.skew_algebra.specs.Wave.{Wave, skewed, fold, folded, all_equal, is_steady, joined, normal, moved, flipped}
use Rattle.skew_algebra.specs.Permits.{Permits, Keeps, KeepsFlipped, KeepsMoved}
use Rattle.skew_algebra.proofs.Cells.{equal_at, join_to_has, joined_has}

module _ {T : Type 0} (k : Cells T) where
  -- ---- the laws of `back`, at a list of cells

  earlier_later : (cells : List T) (t m o : ℕ) → 0 < length cells → earlier k cells (t + m) (m + o) ≡ earlier k cells t o
  unfolding earlier
  earlier_later cells t m o some = ap (λ (z : ℕ). get_or cells z k.any) (back_later (length cells) t m o some)

  pub earlier_earlier : (cells : List T) (t m o : ℕ) → earlier k cells (back (length cells) t m) o ≡ earlier k cells t (m + o)
  unfolding earlier
  earlier_earlier cells t m o = ap (λ (z : ℕ). get_or cells z k.any) (back_back (length cells) t m o)

  pub earlier_period : (cells : List T) (t o : ℕ) → earlier k cells t (o % length cells) ≡ earlier k cells t o
  unfolding earlier
  earlier_period cells t o = ap (λ (z : ℕ). get_or cells z k.any) (back_period (length cells) t o)

  pub earlier_mod : (cells : List T) (t o : ℕ) → earlier k cells (t % length cells) o ≡ earlier k cells t o
  unfolding earlier
  earlier_mod cells t o = ap (λ (z : ℕ). get_or cells z k.any) (back_mod (length cells) t o)

  -- a slot's own cell
  pub here_cell : (cells : List T) (t : ℕ) (c : T) → t < length cells → slice_get cells t ≡ Some c → c ≡ earlier k cells t 0
  unfolding earlier
  here_cell cells t c below is =
      sym (get_or_from_slice_get cells t c k.any is)
      ∙ ap (λ (z : ℕ). get_or cells z k.any) (sym (back_zero (length cells) t ∙ mod-eq_of_lt below))

  pub earlier_turned : (cells : List T) (m t o : ℕ) → 0 < length cells → earlier k (later k cells m) t o ≡ earlier k cells t (o + m)
  earlier_turned cells m t o some =
      earlier_slots k (length cells) (λ p. earlier k cells p m) t o some ∙ earlier_earlier cells t o m

  pub length_later : (cells : List T) (m : ℕ) → length (later k cells m) ≡ length cells
  length_later cells m = length_slots (length cells) (λ p. earlier k cells p m)

  pub fold_at_mod : (cells : List T) (n t : ℕ) → fold_at k cells n (t % length cells) ≡ fold_at k cells n t
  fold_at_mod cells n t =
      join_to_same k (λ o. earlier k cells (t % length cells) o) (λ o. earlier k cells t o) n (λ o l. earlier_mod cells t o)

  pub earlier_folded : (w : Wave T) (t : ℕ) → 0 < length w.cells → earlier k (folded k w) t 0 ≡ fold k w t
  earlier_folded w t some =
      earlier_slots k (length w.cells) (fold k w) t 0 some ∙ ap (fold k w) (back_zero (length w.cells) t) ∙ fold_at_mod w.cells w.skew t

  -- ---- waves that permit a signal

  pub Permits_after : (w : Wave T) (n v u : ℕ) (x : Signal) → v ≤ u → Permits k w n x v → Permits k w n x u
  Permits_after w n v u x l p =
      record { offset = p.offset; within = p.within; steps = λ t t1 tv tn. p.steps t t1 (omega arith) tn }

  -- no offset of a period or more is needed
  pub Permits_capped : (cells : List T) (skew : ℕ) → 0 < length cells → Keeps k (skewed cells skew) (skewed cells (min skew (length cells - 1)))
  Permits_capped cells skew some n v x s =
      record {
        offset = s.offset % length cells;
        within = let e : s.offset ≤ skew = s.within in omega (arith, mod-lt s.offset some, mod-le s.offset (length cells));
        steps = λ t t1 tv tn. ap (λ c. k.has c (x (t - 1)) (x t)) (earlier_period cells t s.offset) ∙ s.steps t t1 tv tn;
      }

  -- y shows x, so many ticks later
  pub Permits_later : (w : Wave T) (d : Bounds) → 0 < length w.cells →
      KeepsMoved k w (skewed (later k w.cells d.min) (w.skew + (d.max - d.min))) d
  Permits_later w d some n m v u delay x y p low high v1 uv mn shows =
      record {
        offset = p.offset + (delay - d.min);
        within = let e : p.offset ≤ w.skew = p.within in omega arith;
        steps = λ t t1 tu tm.
            let s : k.has (earlier k w.cells (t - delay) p.offset) (x (t - delay - 1)) (x (t - delay)) ≡ true =
            p.steps (t - delay) (omega arith) (omega arith) (omega arith) in
            let far : p.offset + (delay - d.min) + d.min ≡ delay + p.offset = omega arith in
            let here : t ≡ t - delay + delay = omega arith in
            let cell : earlier k (later k w.cells d.min) t (p.offset + (delay - d.min)) ≡ earlier k w.cells (t - delay) p.offset =
            earlier_turned w.cells d.min t (p.offset + (delay - d.min)) some
            ∙ ap (λ (z : ℕ). earlier k w.cells t z) far
            ∙ ap (λ (z : ℕ). earlier k w.cells z (delay + p.offset)) here
            ∙ earlier_later w.cells (t - delay) delay p.offset some in
            let now : y t ≡ x (t - delay) = shows t (omega arith) tm in
            let one : t - 1 - delay ≡ t - delay - 1 = omega arith in
            let before : y (t - 1) ≡ x (t - delay - 1) = shows (t - 1) (omega arith) (omega arith) ∙ ap x one in
            (λ i. k.has (cell i) (before i) (now i)) ∙ s;
      }

  module _ (laws : IsLawful k) where
    -- a wave permits no step that its fold does not
    pub fold_has : (w : Wave T) (n v t : ℕ) (x : Signal) → Permits k w n x v → 1 ≤ t → v ≤ t → t < n → k.has (fold k w t) (x (t - 1)) (x t) ≡ true
    fold_has w n v t x p t1 tv tn =
        join_to_has k laws (λ o. earlier k w.cells t o) w.skew p.offset (x (t - 1)) (x t) p.within (p.steps t t1 tv tn)

    pub Permits_folded : (w : Wave T) → 0 < length w.cells → Keeps k w (skewed (folded k w) 0)
    Permits_folded w some n v x p =
        record {
          offset = 0;
          within = omega arith;
          steps = λ t t1 tv tn. ap (λ c. k.has c (x (t - 1)) (x t)) (earlier_folded w t some) ∙ fold_has w n v t x p t1 tv tn;
        }

    earlier_joined : (cells : List T) (t o : ℕ) (before after : Bool) → 0 < length cells →
        k.has (earlier k cells t o) before after ≡ true → k.has (joined k cells) before after ≡ true
    unfolding earlier
    earlier_joined cells t o before after some h =
        joined_has k laws cells (back (length cells) t o) before after (back_lt (length cells) t o some) h

    earlier_equal : (cells : List T) (t o o' : ℕ) → 0 < length cells → all_equal k cells ≡ true → earlier k cells t o ≡ earlier k cells t o'
    unfolding earlier
    earlier_equal cells t o o' some h =
        equal_at k laws cells (back (length cells) t o) (back (length cells) t o') h (back_lt (length cells) t o some) (back_lt (length cells) t o' some)

    Permits_joined : (w : Wave T) → 0 < length w.cells → Keeps k w (skewed (slots (length w.cells) (λ p. joined k w.cells)) 0)
    Permits_joined w some n v x p =
        record {
          offset = 0;
          within = omega arith;
          steps = λ t t1 tv tn.
              ap (λ c. k.has c (x (t - 1)) (x t)) (earlier_slots k (length w.cells) (λ p. joined k w.cells) t 0 some)
              ∙ earlier_joined w.cells t p.offset (x (t - 1)) (x t) some (p.steps t t1 tv tn);
        }

    Permits_equal : (cells : List T) (skew : ℕ) → 0 < length cells → all_equal k cells ≡ true → Keeps k (skewed cells skew) (skewed cells 0)
    Permits_equal cells skew some h n v x p =
        record {
          offset = 0;
          within = omega arith;
          steps = λ t t1 tv tn. ap (λ c. k.has c (x (t - 1)) (x t)) (earlier_equal cells t 0 p.offset some h) ∙ p.steps t t1 tv tn;
        }

    pub Permits_normal : (w : Wave T) → 0 < length w.cells → Keeps k w (normal k w)
    unfolding normal
    Permits_normal w some n v x p =
        cond_both (is_steady k w.cells) _ _ (λ (r : Wave T). Permits k r n x v) (λ q. Permits_joined w some n v x p)
        (λ q. cond_both (all_equal k w.cells) 0 (min w.skew (length w.cells - 1)) (λ (s : ℕ). Permits k (skewed w.cells s) n x v)
        (λ e. Permits_equal w.cells w.skew some e n v x p)
        (λ e. Permits_capped w.cells w.skew some n v x p))

    pub Permits_moved : (w : Wave T) (d : Bounds) → 0 < length w.cells → KeepsMoved k w (moved k w d) d
    unfolding moved
    Permits_moved w d some n m v u delay x y p low high v1 uv mn shows =
        Permits_normal (skewed (later k w.cells d.min) (w.skew + (d.max - d.min)))
        (let l : length (later k w.cells d.min) ≡ length w.cells = length_later w.cells d.min in omega (arith, l, some))
        m u y (Permits_later w d some n m v u delay x y p low high v1 uv mn shows)

    pub Permits_flipped : (w : Wave T) → 0 < length w.cells → KeepsFlipped k w (flipped k w)
    unfolding earlier
    Permits_flipped w some n v x p =
        record {
          offset = p.offset;
          within = p.within;
          steps = λ t t1 tv tn.
              let cell : get_or (map k.flip w.cells) (back (length (map k.flip w.cells)) t p.offset) k.any ≡ k.flip (get_or w.cells (back (length w.cells) t p.offset) k.any) =
              ap (λ (l : ℕ). get_or (map k.flip w.cells) (back l t p.offset) k.any) (length-map w.cells k.flip)
              ∙ get_or-map k.flip w.cells (back (length w.cells) t p.offset) k.any k.any (back_lt (length w.cells) t p.offset some) in
              ap (λ c. k.has c (not (x (t - 1))) (not (x t))) cell
              ∙ laws.flip_has (get_or w.cells (back (length w.cells) t p.offset) k.any) (x (t - 1)) (x t) ∙ p.steps t t1 tv tn;
        }

  -- the same wave by another name
  pub keeps_by : (w u r : Wave T) → r ≡ u → Keeps k w u → Keeps k w r
  keeps_by w u r e h n v x p = subst (λ (z : Wave T). Permits k z n x v) (sym e) (h n v x p)

  pub keeps_flipped_by : (w u r : Wave T) → r ≡ u → KeepsFlipped k w u → KeepsFlipped k w r
  keeps_flipped_by w u r e h n v x p = subst (λ (z : Wave T). Permits k z n (λ t. not (x t)) v) (sym e) (h n v x p)

  pub keeps_moved_by : (w u r : Wave T) (d : Bounds) → r ≡ u → KeepsMoved k w u d → KeepsMoved k w r d
  keeps_moved_by w u r d e h n m v u' delay x y p low high v1 uv mn shows =
      subst (λ (z : Wave T). Permits k z m y u') (sym e) (h n m v u' delay x y p low high v1 uv mn shows)
