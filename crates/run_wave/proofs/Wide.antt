-- A fold over no more slots than the narrowest run has: each slot sees two runs at most, and the first and the last cell that it sees tell them.
use Rattle.std.proofs.Common.{◌≡◌, ℕ, zero, suc, ◌+◌, ◌-◌, ◌%◌, ◌<◌, ◌≤◌, ◌⊎◌, inl, inr, List, [], ◌∷◌, length, get_or, map, take, refl, sym, ap, ◌∙◌, arith}
use Rattle.std.specs.List.{All, zip}
use Rattle.std.proofs.lemmas.Bool.{cases_lt}
use Rattle.std.proofs.lemmas.List.{take_all}
use Rattle.std.proofs.lemmas.Option.{get_or_from_slice_get}
use Rattle.scald_base.specs.Clock.{back}
use Rattle.scald_base.proofs.Back.{back_later, back_lt, back_sooner, back_zero, mod_small, period_later}
use Rattle.wave_core.specs.Cell.{Cells, IsLawful}
use Rattle.wave_core.specs.Slots.{earlier, fold_at, folded, join_to, later}
use Rattle.run_wave.specs.declared.run.Run.{Run}
use Rattle.run_wave.specs.Run.{cells_of}
use Rattle.run_wave.proofs.Doubled.{above_all, above_both, above_each, slots_from_same, zipped_from}
use Rattle.run_wave.proofs.Runs.{length_cells_of_more, length_cells_of_take, length_next}
use Rattle.run_wave.proofs.Search.{in_run, item}
use Rattle.run_wave.proofs.Turned.{folded_none}

-- a slot some slots before another, counted on from one before both
sooner : (period p n i : ℕ) → 0 < period → i ≤ n → back period p i ≡ (back period p n + (n - i)) % period
sooner period p n i some within =
    sym (back_later period p (n - i) i some)
    ∙ (let e : n - i + i ≡ n + 0 = omega arith in ap (back period (p + (n - i))) e)
    ∙ sym (back_sooner period p n (n - i) 0)
    ∙ back_zero period (back period p n + (n - i))

-- a slot of the next period
turned_on : (period t : ℕ) → period ≤ t → t < period + period → t % period ≡ t - period
turned_on period t from within =
    let e : t ≡ t - period + period = omega arith in
    ap (λ (z : ℕ). z % period) e ∙ period_later period (t - period) ∙ mod_small (t - period) period (omega arith)

module _ {T : Type 0} where
  -- the run that a slot is in
  record At (rs : List (Run T)) (slot : ℕ) : Type 0 where
    place : ℕ
    there : place < length rs
    begun : length (cells_of (take place rs)) ≤ slot
    behind : slot < length (cells_of (take (place + 1) rs))

  run_at : (rs : List (Run T)) (slot : ℕ) → slot < length (cells_of rs) → At rs slot
  run_at [] slot below = let none : length (cells_of {T = T} []) ≡ 0 = refl in absurd (omega (arith, below, none))
  run_at (r ∷ rs) slot below = go (cases_lt slot r.width) (λ within. run_at rs (slot - r.width) within)
    where
      whole : length (cells_of (r ∷ rs)) ≡ r.width + length (cells_of rs)
      whole = length_next (cells_of (r ∷ rs)) (cells_of rs) r.width r.cell refl

      front : (i : ℕ) → length (cells_of (take (suc i) (r ∷ rs))) ≡ r.width + length (cells_of (take i rs))
      front i = length_next (cells_of (take (suc i) (r ∷ rs))) (cells_of (take i rs)) r.width r.cell refl

      go : (slot < r.width) ⊎ (r.width ≤ slot) → (slot - r.width < length (cells_of rs) → At rs (slot - r.width)) → At (r ∷ rs) slot
      go (inl here) found = record {
        place = 0;
        there = omega arith;
        begun = (let none : length (cells_of (take 0 (r ∷ rs))) ≡ 0 = refl in omega (arith, none));
        behind = (let one = front 0 in omega (arith, one, here));
      }
      go (inr after) found =
          let rest = found (omega (arith, below, whole, after)) in
          let place = rest.place in
          let there = rest.there in
          let begun = rest.begun in
          let behind = rest.behind in
          let next : suc (rest.place + 1) ≡ suc rest.place + 1 = omega arith in
          let more : length (cells_of (take (suc rest.place + 1) (r ∷ rs))) ≡ r.width + length (cells_of (take (rest.place + 1) rs)) =
          ap (λ (n : ℕ). length (cells_of (take n (r ∷ rs)))) (sym next) ∙ front (rest.place + 1) in
          let before = front rest.place in
          record {
            place = suc rest.place;
            there = omega (arith, there);
            begun = omega (arith, before, begun, after);
            behind = omega (arith, more, behind, after);
          }

  -- the cell of a slot in a run
  cell_in : (rs : List (Run T)) (place slot : ℕ) (r : Run T) (d : T) → place < length rs → r ≡ get_or rs place r → length (cells_of (take place rs)) ≤ slot →
      slot < length (cells_of (take (place + 1) rs)) → get_or (cells_of rs) slot d ≡ r.cell
  cell_in rs place slot r d there is begun behind = get_or_from_slice_get (cells_of rs) slot r.cell d (in_run rs place slot r there is begun behind)

  abbrev Wide : ℕ → List (Run T) → Type 0
  Wide n rs = All (λ (r : Run T). n ≤ r.width) rs

  abbrev cell_on : List T → ℕ → T → T
  cell_on xs t d = get_or xs (t % length xs) d

  -- Of the slots from one on, as many as each run has and one more, each has the cell of the first or of the last.
  forward : (rs : List (Run T)) (n q j : ℕ) (d : T) → Wide n rs → n < length (cells_of rs) → q < length (cells_of rs) → j ≤ n →
      (cell_on (cells_of rs) (q + j) d ≡ get_or (cells_of rs) q d) ⊎ (cell_on (cells_of rs) (q + j) d ≡ cell_on (cells_of rs) (q + n) d)
  forward rs n q j d wide short below within = go (cases_lt (q + j) end)
    where
      xs : List T
      xs = cells_of rs

      at : At rs q
      at = run_at rs q below

      end : ℕ
      end = length (cells_of (take (at.place + 1) rs))

      inside : end ≤ length (cells_of rs)
      inside = length_cells_of_take rs (at.place + 1)

      same : (t u : ℕ) → t % length (cells_of rs) ≡ u → cell_on (cells_of rs) t d ≡ get_or (cells_of rs) u d
      same t u e = ap (λ (z : ℕ). get_or (cells_of rs) z d) e

      -- two slots of one run
      both : (place t u : ℕ) → place < length rs → length (cells_of (take place rs)) ≤ t → t < length (cells_of (take (place + 1) rs)) →
          length (cells_of (take place rs)) ≤ u → u < length (cells_of (take (place + 1) rs)) → get_or (cells_of rs) t d ≡ get_or (cells_of rs) u d
      both place t u there from to from' to' =
          let r = item rs place there in
          cell_in rs place t r.0 d there r.1 from to ∙ sym (cell_in rs place u r.0 d there r.1 from' to')

      -- where a run ends that begins in a slot
      reaches : (place : ℕ) → place < length rs → length (cells_of (take place rs)) + n ≤ length (cells_of (take (place + 1) rs))
      reaches place there =
          let r = item rs place there in
          let long = length_cells_of_more rs place r.0 there r.1 in
          let some : n ≤ (get_or rs place r.0).width = wide place r.0 there in
          let is : r.0.width ≡ (get_or rs place r.0).width = ap (λ (z : Run T). z.width) r.1 in
          omega (arith, long, some, is)

      next : (at.place + 1 < length rs) ⊎ (length rs ≤ at.place + 1) → end ≤ q + j →
          cell_on (cells_of rs) (q + j) d ≡ cell_on (cells_of rs) (q + n) d
      next (inl there) past =
          let behind = at.behind in
          let far = reaches (at.place + 1) there in
          let all = length_cells_of_take rs (at.place + 1 + 1) in
          let one : q + j < length (cells_of (take (at.place + 1 + 1) rs)) = omega (arith, behind, far, within) in
          let last : q + n < length (cells_of (take (at.place + 1 + 1) rs)) = omega (arith, behind, far) in
          same (q + j) (q + j) (mod_small (q + j) (length (cells_of rs)) (omega (arith, one, all)))
          ∙ both (at.place + 1) (q + j) (q + n) there past one (omega (arith, past, within)) last
          ∙ sym (same (q + n) (q + n) (mod_small (q + n) (length (cells_of rs)) (omega (arith, last, all))))
      next (inr none) past =
          let whole : end ≡ length (cells_of rs) = ap (λ (l : List (Run T)). length (cells_of l)) (take_all (at.place + 1) rs none) in
          let there = at.there in
          let first : 0 < length rs = omega (arith, there) in
          let zero_before : length (cells_of (take 0 rs)) ≡ 0 = refl in
          let far = reaches 0 first in
          let one : q + j - length (cells_of rs) < length (cells_of (take (0 + 1) rs)) = omega (arith, far, below, within, zero_before, past, whole) in
          let last : q + n - length (cells_of rs) < length (cells_of (take (0 + 1) rs)) = omega (arith, far, below, zero_before, past, whole, within) in
          same (q + j) (q + j - length (cells_of rs)) (turned_on (length (cells_of rs)) (q + j) (omega (arith, past, whole)) (omega (arith, below, within, short)))
          ∙ both 0 (q + j - length (cells_of rs)) (q + n - length (cells_of rs)) first (omega (arith, zero_before)) one (omega (arith, zero_before)) last
          ∙ sym (same (q + n) (q + n - length (cells_of rs)) (turned_on (length (cells_of rs)) (q + n) (omega (arith, past, whole, within)) (omega (arith, below, short))))

      go : (q + j < end) ⊎ (end ≤ q + j) →
          (cell_on (cells_of rs) (q + j) d ≡ get_or (cells_of rs) q d) ⊎ (cell_on (cells_of rs) (q + j) d ≡ cell_on (cells_of rs) (q + n) d)
      go (inl before) =
          let begun = at.begun in
          inl (same (q + j) (q + j) (mod_small (q + j) (length (cells_of rs)) (omega (arith, before, inside)))
          ∙ both at.place (q + j) q at.there (omega (arith, begun)) before at.begun at.behind)
      go (inr past) = inr (next (cases_lt (at.place + 1) (length rs)) past)

module _ {T : Type 0} (k : Cells T) (laws : IsLawful k) where
  -- The join of some cells, each of which is the first or the last of them.
  ends_joined : (f : ℕ → T) (n : ℕ) → ((i : ℕ) → i ≤ n → (f i ≡ f 0) ⊎ (f i ≡ f n)) → k.join (f 0) (f n) ≡ join_to k f n
  ends_joined f n either =
      above_both k laws (k.join (f 0) (f n)) (join_to k f n)
      (above_all k laws f n (k.join (f 0) (f n)) (λ i within. one i (either i within)))
      (laws.join_least (f 0) (f n) (join_to k f n) (above_each k laws f n 0 (omega arith)) (above_each k laws f n n (omega arith)))
    where
      one : (i : ℕ) → (f i ≡ f 0) ⊎ (f i ≡ f n) → k.join (k.join (f 0) (f n)) (f i) ≡ k.join (f 0) (f n)
      one i (inl e) = ap (k.join (k.join (f 0) (f n))) e ∙ laws.join_above_left (f 0) (f n)
      one i (inr e) = ap (k.join (k.join (f 0) (f n))) e ∙ laws.join_above_right (f 0) (f n)

  seen : (rs : List (Run T)) (n p i : ℕ) → Wide n rs → n < length (cells_of rs) → i ≤ n →
      (earlier k (cells_of rs) p i ≡ earlier k (cells_of rs) p 0) ⊎ (earlier k (cells_of rs) p i ≡ earlier k (cells_of rs) p n)
  unfolding earlier
  seen rs n p i wide short within =
      turn (forward rs n q (n - i) k.any wide short (back_lt (length (cells_of rs)) p n some) (omega arith))
    where
      some : 0 < length (cells_of rs)
      some = omega (arith, short)

      q : ℕ
      q = back (length (cells_of rs)) p n

      here : earlier k (cells_of rs) p i ≡ cell_on (cells_of rs) (q + (n - i)) k.any
      here = ap (λ (z : ℕ). get_or (cells_of rs) z k.any) (sooner (length (cells_of rs)) p n i some within)

      last : earlier k (cells_of rs) p 0 ≡ cell_on (cells_of rs) (q + n) k.any
      last = ap (λ (z : ℕ). get_or (cells_of rs) z k.any) (sooner (length (cells_of rs)) p n 0 some (omega arith) ∙ (let e : n - 0 ≡ n = omega arith in ap (λ (z : ℕ). (q + z) % length (cells_of rs)) e))

      turn : (cell_on (cells_of rs) (q + (n - i)) k.any ≡ get_or (cells_of rs) q k.any) ⊎ (cell_on (cells_of rs) (q + (n - i)) k.any ≡ cell_on (cells_of rs) (q + n) k.any) →
          (earlier k (cells_of rs) p i ≡ earlier k (cells_of rs) p 0) ⊎ (earlier k (cells_of rs) p i ≡ earlier k (cells_of rs) p n)
      turn (inl first) = inr (here ∙ first)
      turn (inr end) = inl (here ∙ end ∙ sym last)

  pub wide_folded : (rs : List (Run T)) (n : ℕ) → Wide n rs → n < length (cells_of rs) →
      map (λ (q : T × T). k.join q.0 q.1) (zip (cells_of rs) (later k (cells_of rs) n)) ≡ folded k (cells_of rs) n
  wide_folded rs n wide short =
      ap (λ (l : List T). map (λ (q : T × T). k.join q.0 q.1) (zip l (later k (cells_of rs) n))) (folded_none k (cells_of rs) (omega (arith, short)))
      ∙ zipped_from (length (cells_of rs)) 0 (fold_at k (cells_of rs) 0) (λ p. earlier k (cells_of rs) p n) k.join
      ∙ slots_from_same (length (cells_of rs)) 0 (λ p. k.join (fold_at k (cells_of rs) 0 p) (earlier k (cells_of rs) p n)) (fold_at k (cells_of rs) n)
      (λ p. ends_joined (λ o. earlier k (cells_of rs) p o) n (λ i within. seen rs n p i wide short within))
