-- The run that a slot is in: its cell is the slot's, and where it ends the next cell is another.
use Rattle.std.proofs.Common.{◌≡◌, ◌≢◌, ℕ, zero, suc, ◌+◌, ◌-◌, ◌<◌, ◌≤◌, ◌⊎◌, inl, inr, List, [], ◌∷◌, ◌++◌, length, get_or, take, drop, Some, refl, sym, ap, ◌∙◌, arith}
use Rattle.std.specs.Prelude.{replicate, slice_get, unwrap_or}
use Rattle.std.proofs.lemmas.Bool.{cases_lt}
use Rattle.std.proofs.lemmas.List.{take_all}
use Rattle.run_wave.specs.declared.run.Run.{Run}
use Rattle.run_wave.specs.Run.{cells_of, BeginsWithout, IsRuns}
use Rattle.wave_core.specs.Slots.{SameUntil}
use Rattle.run_wave.proofs.Marks.{slice_get_behind}
use Rattle.run_wave.proofs.Runs.{cells_of_ahead, cells_of_parts, length_cells_of_more, slots_within}

module _ {T : Type 0} where
  slice_get_first : (w n : ℕ) (c : T) (xs : List T) → n < w → slice_get (replicate w c ++ xs) n ≡ Some c
  slice_get_first zero n c xs below = absurd (omega arith)
  slice_get_first (suc w) zero c xs below = refl
  slice_get_first (suc w) (suc n) c xs below = slice_get_first w n c xs (omega arith)

  -- the cell of a slot in run i
  pub in_run : (rs : List (Run T)) (i slot : ℕ) (r : Run T) → i < length rs → r ≡ get_or rs i r → length (cells_of (take i rs)) ≤ slot →
      slot < length (cells_of (take (i + 1) rs)) → slice_get (cells_of rs) slot ≡ Some r.cell
  in_run rs i slot r below is begun behind =
      let more = length_cells_of_more rs i r below is in
      ap (λ (l : List T). slice_get l slot) (cells_of_parts rs i)
      ∙ slice_get_behind (cells_of (take i rs)) (cells_of (drop i rs)) slot begun
      ∙ ap (λ (l : List T). slice_get l (slot - length (cells_of (take i rs)))) (cells_of_ahead rs i r below is)
      ∙ slice_get_first r.width (slot - length (cells_of (take i rs))) r.cell (cells_of (drop (i + 1) rs)) (omega (arith, more))

  -- the cell of the slot after run i
  begins_other : (rs : List (Run T)) (c : T) → BeginsWithout c rs → IsRuns rs → slice_get (cells_of rs) 0 ≢ Some c
  begins_other [] c other h e = cc
  begins_other (r ∷ rs) c other h e =
      let first : slice_get (cells_of (r ∷ rs)) 0 ≡ Some r.cell = slice_get_first r.width 0 r.cell (cells_of rs) h.0 in
      other (sym (ap (λ o. unwrap_or o c) (sym first ∙ e)))

  other_behind : (rs : List (Run T)) (i : ℕ) (r : Run T) → i < length rs → r ≡ get_or rs i r → IsRuns rs →
      slice_get (cells_of (drop (i + 1) rs)) 0 ≢ Some r.cell
  other_behind [] i r below is h e = absurd (omega arith)
  other_behind (s ∷ rs) zero r below is h e =
      let same : r.cell ≡ s.cell = ap (λ (z : Run T). z.cell) is in
      begins_other rs s.cell h.1.0 h.1.1 (e ∙ ap Some same)
  other_behind (s ∷ rs) (suc i) r below is h e =
      let rest : suc (i + 1) ≡ suc i + 1 = omega arith in
      other_behind rs i r (omega arith) is h.1.1 (ap (λ (n : ℕ). slice_get (cells_of (drop n (s ∷ rs))) 0) rest ∙ e)

  ends_at : (rs : List (Run T)) (i slot end : ℕ) (r : Run T) → i < length rs → r ≡ get_or rs i r → IsRuns rs →
      length (cells_of (take i rs)) ≤ slot → slot < end → end ≡ length (cells_of (take (i + 1) rs)) → SameUntil (cells_of rs) slot end
  ends_at rs i slot end r below is runs begun behind last =
      let more = length_cells_of_more rs i r below is in
      let all = slots_within rs i r below is in
      let here : slice_get (cells_of rs) slot ≡ Some r.cell = in_run rs i slot r below is begun (omega (arith, behind, last)) in
      record {
        behind = behind;
        within = omega (arith, more, all, last);
        same = λ p from before. in_run rs i p r below is (omega (arith, begun, from)) (omega (arith, before, last)) ∙ sym here;
        other = λ inside e.
            let next : slice_get (cells_of rs) end ≡ slice_get (cells_of (drop (i + 1) rs)) 0 =
            ap (λ (l : List T). slice_get l end) (cells_of_parts rs (i + 1))
            ∙ slice_get_behind (cells_of (take (i + 1) rs)) (cells_of (drop (i + 1) rs)) end (omega (arith, last))
            ∙ ap (slice_get (cells_of (drop (i + 1) rs))) (omega (arith, last)) in
            other_behind rs i r below is runs (sym next ∙ e ∙ here);
      }

  pub item : (rs : List (Run T)) (i : ℕ) → i < length rs → (r : Run T) × (r ≡ get_or rs i r)
  item [] i below = absurd (omega arith)
  item (r ∷ rs) zero below = (r, refl)
  item (r ∷ rs) (suc i) below = item rs i (omega arith)

  -- the slot where run i ends, from a slot that is in it
  pub run_ends : (rs : List (Run T)) (i slot end : ℕ) → i < length rs → IsRuns rs → length (cells_of (take i rs)) ≤ slot → slot < end →
      end ≡ length (cells_of (take (i + 1) rs)) → SameUntil (cells_of rs) slot end
  run_ends rs i slot end below runs begun behind last =
      let r = item rs i below in
      ends_at rs i slot end r.0 below r.1 runs begun behind last

  -- the run after so many, which end before the last slot
  pub run_is_there : (rs : List (Run T)) (runs slot : ℕ) → slot < length (cells_of rs) → slot ≡ length (cells_of (take runs rs)) → runs < length rs
  run_is_there rs runs slot below ended = go (cases_lt runs (length rs))
    where
      go : (runs < length rs) ⊎ (length rs ≤ runs) → runs < length rs
      go (inl there) = there
      go (inr past) =
          let all : length (cells_of (take runs rs)) ≡ length (cells_of rs) = ap (λ (l : List (Run T)). length (cells_of l)) (take_all runs rs past) in
          absurd (omega (arith, below, ended, all))
