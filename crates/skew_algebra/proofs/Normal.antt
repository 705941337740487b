-- The normal form.
use Rattle.std.proofs.Common.{◌≡◌, ℕ, ◌+◌, ◌-◌, ◌<◌, min, true, false, List, length, map, refl, sym, ap, ◌∙◌, arith, cond}
use Rattle.std.proofs.lemmas.List.{length-map}
use Rattle.std.proofs.lemmas.Bool.{cond_both, cond-true, cond-false, true≢false}
use Rattle.scald_base.specs.Time.{Bounds}
use Rattle.wave_core.specs.Cell.{Cells, IsLawful}
use Rattle.wave_core.specs.Slots.{slots, later}
use Rattle.wave_core.proofs.Slots.{get_or_slots, length_slots}
use Rattle.skew_algebra.specs.Wave.{Wave, skewed, all_equal, is_steady, joined, normal, IsNormal, moved, flipped}
use Rattle.skew_algebra.proofs.Cells.{equal_from, steady_flipped, equal_flipped}

module _ {T : Type 0} (k : Cells T) where
  pub normal_steady : (w : Wave T) → is_steady k w.cells ≡ true → normal k w ≡ skewed (slots (length w.cells) (λ p. joined k w.cells)) 0
  unfolding normal
  normal_steady w q = cond-true (is_steady k w.cells) _ _ q

  pub normal_moving : (w : Wave T) → is_steady k w.cells ≡ false →
      normal k w ≡ skewed w.cells (cond (all_equal k w.cells) 0 (min w.skew (length w.cells - 1)))
  unfolding normal
  normal_moving w q = cond-false (is_steady k w.cells) _ _ q

  -- a move, by the cells and the bounds that code has
  pub moved_by : (w : Wave T) (cells : List T) (low high : ℕ) (d : Bounds) → low ≡ d.min → high ≡ d.max → cells ≡ later k w.cells low →
      normal k (skewed cells (w.skew + (high - low))) ≡ moved k w d
  unfolding moved
  moved_by w cells low high d is is' turned =
      ap (λ l. normal k (skewed l (w.skew + (high - low)))) turned
      ∙ (λ i. normal k (skewed (later k w.cells (is i)) (w.skew + (is' i - is i))))

  module _ (laws : IsLawful k) where
    pub uniform_equal : (n : ℕ) (c : T) → all_equal k (slots n (λ p. c)) ≡ true
    uniform_equal n c =
        equal_from k laws (slots n (λ p. c)) c
        (λ i below. let l : length (slots n (λ p. c)) ≡ n = length_slots n (λ p. c) in
        get_or_slots n i (λ p. c) k.any (omega (arith, l, below)))

    -- one cell in each slot
    pub uniform_normal : (n : ℕ) (c : T) → 0 < n → IsNormal k (skewed (slots n (λ p. c)) 0)
    uniform_normal n c some = record {
      steady = λ q. uniform_equal n c;
      equal = λ e. refl;
      short = let l : length (slots n (λ p. c)) ≡ n = length_slots n (λ p. c) in omega (arith, l);
    }

    pub moving_normal : (w : Wave T) → 0 < length w.cells → is_steady k w.cells ≡ false →
        IsNormal k (skewed w.cells (cond (all_equal k w.cells) 0 (min w.skew (length w.cells - 1))))
    moving_normal w some q = record {
      steady = λ s. absurd (true≢false (sym s ∙ q));
      equal = λ e. cond-true (all_equal k w.cells) 0 (min w.skew (length w.cells - 1)) e;
      short = cond_both (all_equal k w.cells) 0 (min w.skew (length w.cells - 1)) (λ (s : ℕ). s < length w.cells) (λ e. some) (λ e. omega arith);
    }

    pub flipped_normal : (w : Wave T) → IsNormal k w → IsNormal k (flipped k w)
    flipped_normal w p =
        let some : 0 < length w.cells = let s : w.skew < length w.cells = p.short in omega (arith, s) in
        record {
          steady = λ q. equal_flipped k laws w.cells some ∙ p.steady (sym (steady_flipped k laws w.cells) ∙ q);
          equal = λ e. p.equal (sym (equal_flipped k laws w.cells some) ∙ e);
          short = let l : length (map k.flip w.cells) ≡ length w.cells = length-map w.cells k.flip in let s : w.skew < length w.cells = p.short in omega (arith, l, s);
        }

  pub length_normal : (w : Wave T) → length (normal k w).cells ≡ length w.cells
  unfolding normal
  length_normal w =
      cond_both (is_steady k w.cells) _ _ (λ (r : Wave T). length r.cells ≡ length w.cells)
      (λ q. length_slots (length w.cells) (λ p. joined k w.cells)) (λ q. refl)
