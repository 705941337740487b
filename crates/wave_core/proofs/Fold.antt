-- Joins over ranges of slots.
use Rattle.std.proofs.Common.{◌≡◌, ℕ, zero, suc, ◌+◌, ◌-◌, ◌<◌, ◌≤◌, List, length, get_or, refl, sym, ap, ◌∙◌, arith}
use Rattle.scald_base.specs.Clock.{back}
use Rattle.wave_core.specs.Cell.{Cells, IsLawful}
use Rattle.wave_core.specs.Slots.{earlier, join_to, fold_at}
use Rattle.wave_core.specs.Fold.{span, tail, tails}
use Rattle.scald_base.proofs.Back.{back_later}
use Rattle.wave_core.proofs.Slots.{get_or_slots, length_slots}

module _ {T : Type 0} (k : Cells T) where
  pub join_to_same : (f h : ℕ → T) (n : ℕ) → ((i : ℕ) → i ≤ n → f i ≡ h i) → join_to k f n ≡ join_to k h n
  join_to_same f h zero e = e 0 (omega arith)
  join_to_same f h (suc n) e =
      let before : join_to k f n ≡ join_to k h n = join_to_same f h n (λ i l. e i (omega arith)) in
      let last : f (suc n) ≡ h (suc n) = e (suc n) (omega arith) in
      λ i. k.join (before i) (last i)

  module _ (laws : IsLawful k) where
    -- a join with its own last cell
    pub with_last : (f : ℕ → T) (n : ℕ) → k.join (join_to k f n) (f n) ≡ join_to k f n
    with_last f zero = laws.join_absorbs (f 0)
    with_last f (suc n) = laws.join_above_right (join_to k f n) (f (suc n))

    -- a range in two parts
    pub join_to_split : (f : ℕ → T) (m n t : ℕ) → t ≡ m + n + 1 → k.join (join_to k f m) (join_to k (λ i. f (m + 1 + i)) n) ≡ join_to k f t
    join_to_split f m zero t e =
        let at : m + 1 + 0 ≡ suc m = omega arith in
        let whole : suc m ≡ t = omega (arith, e) in
        ap (λ (j : ℕ). k.join (join_to k f m) (f j)) at ∙ ap (join_to k f) whole
    join_to_split f m (suc n) t e =
        let at : m + 1 + suc n ≡ suc (m + n + 1) = omega arith in
        let whole : suc (m + n + 1) ≡ t = omega (arith, e) in
        let parts : k.join (join_to k f m) (join_to k (λ i. f (m + 1 + i)) n) ≡ join_to k f (m + n + 1) = join_to_split f m n (m + n + 1) refl in
        sym (laws.join_regroups (join_to k f m) (join_to k (λ i. f (m + 1 + i)) n) (f (m + 1 + suc n)))
        ∙ ap (λ c. k.join c (f (m + 1 + suc n))) parts
        ∙ ap (λ (j : ℕ). k.join (join_to k f (m + n + 1)) (f j)) at
        ∙ ap (join_to k f) whole

    -- a range backwards
    pub join_to_turned : (f : ℕ → T) (n : ℕ) → join_to k (λ i. f (n - i)) n ≡ join_to k f n
    join_to_turned f zero = refl
    join_to_turned f (suc n) =
        let parts : k.join (f (suc n - 0)) (join_to k (λ i. f (suc n - (0 + 1 + i))) n) ≡ join_to k (λ i. f (suc n - i)) (suc n) =
        join_to_split (λ i. f (suc n - i)) 0 n (suc n) (omega arith) in
        let rest : join_to k (λ i. f (suc n - (0 + 1 + i))) n ≡ join_to k (λ i. f (n - i)) n =
        join_to_same (λ i. f (suc n - (0 + 1 + i))) (λ i. f (n - i)) n
        (λ i l. let e : suc n - (0 + 1 + i) ≡ n - i = omega arith in ap f e) in
        let first : f (suc n - 0) ≡ f (suc n) = let e : suc n - 0 ≡ suc n = omega arith in ap f e in
        let turned : join_to k (λ i. f (suc n - (0 + 1 + i))) n ≡ join_to k f n = rest ∙ join_to_turned f n in
        sym parts ∙ (λ i. k.join (first i) (turned i)) ∙ laws.join_turns (f (suc n)) (join_to k f n)

    pub span_split : (cells : List T) (back a m b n t : ℕ) → b ≡ a + (m + 1) → t ≡ m + n + 1 →
        k.join (span k cells back a m) (span k cells back b n) ≡ span k cells back a t
    unfolding span
    span_split cells back a m b n t at e =
        let second : join_to k (λ j. earlier k cells (b + j) back) n ≡ join_to k (λ j. earlier k cells (a + (m + 1 + j)) back) n =
        join_to_same (λ j. earlier k cells (b + j) back) (λ j. earlier k cells (a + (m + 1 + j)) back) n
        (λ j l. let s : b + j ≡ a + (m + 1 + j) = omega (arith, at) in ap (λ (z : ℕ). earlier k cells z back) s) in
        ap (λ c. k.join (join_to k (λ j. earlier k cells (a + j) back) m) c) second
        ∙ join_to_split (λ j. earlier k cells (a + j) back) m n t e

    pub span_whole : (cells : List T) (n p : ℕ) → 0 < length cells → span k cells n p n ≡ fold_at k cells n p
    unfolding span earlier
    span_whole cells n p pos =
        join_to_same (λ j. earlier k cells (p + j) n) (λ j. earlier k cells p (n - j)) n
        (λ j l. let s : n ≡ j + (n - j) = omega arith in
        ap (λ (o : ℕ). get_or cells (back (length cells) (p + j) o) k.any) s
        ∙ ap (λ (i : ℕ). get_or cells i k.any) (back_later (length cells) p j (n - j) pos))
        ∙ join_to_turned (λ o. earlier k cells p o) n

  pub span_one : (cells : List T) (back a : ℕ) → earlier k cells a back ≡ span k cells back a 0
  unfolding span
  span_one cells back a = let e : a ≡ a + 0 = omega arith in ap (λ (z : ℕ). earlier k cells z back) e

  pub span_next : (cells : List T) (back a n b : ℕ) → b ≡ a + (n + 1) →
      k.join (span k cells back a n) (earlier k cells b back) ≡ span k cells back a (n + 1)
  unfolding span
  span_next cells back a n b at =
      let e : b ≡ a + suc n = omega (arith, at) in
      let whole : suc n ≡ n + 1 = omega arith in
      ap (λ (z : ℕ). k.join (join_to k (λ j. earlier k cells (a + j) back) n) (earlier k cells z back)) e
      ∙ ap (join_to k (λ j. earlier k cells (a + j) back)) whole

  -- ---- the tails of a block

  pub tail_last : (cells : List T) (back from : ℕ) → earlier k cells (from + back) back ≡ tail k cells back from 0
  tail_last cells back from =
      let e : from + back ≡ from + (back - 0) = omega arith in
      ap (λ (z : ℕ). earlier k cells z back) e ∙ span_one cells back (from + (back - 0))

  pub tails_at : (cells : List T) (back from n : ℕ) (d : T) → n ≤ back → get_or (tails k cells back from) n d ≡ tail k cells back from n
  unfolding tails
  tails_at cells back from n d below = get_or_slots (back + 1) n (tail k cells back from) d (omega arith)

  pub length_tails : (cells : List T) (back from : ℕ) → length (tails k cells back from) ≡ back + 1
  unfolding tails
  length_tails cells back from = length_slots (back + 1) (tail k cells back from)

  module _ (laws : IsLawful k) where
    pub tail_first : (cells : List T) (back from n : ℕ) → n < back →
        k.join (earlier k cells (from + (back - (n + 1))) back) (tail k cells back from n) ≡ tail k cells back from (n + 1)
    tail_first cells back from n below =
        let at : from + (back - n) ≡ from + (back - (n + 1)) + (0 + 1) = omega arith in
        let e : n + 1 ≡ 0 + n + 1 = omega arith in
        ap (λ c. k.join c (tail k cells back from n)) (span_one cells back (from + (back - (n + 1))))
        ∙ span_split laws cells back (from + (back - (n + 1))) 0 (from + (back - n)) n (n + 1) at e

    -- the fold of a block's first slot
    pub fold_first : (cells : List T) (back from : ℕ) → 0 < length cells → tail k cells back from back ≡ fold_at k cells back from
    fold_first cells back from pos =
        let e : from + (back - back) ≡ from = omega arith in
        ap (λ (z : ℕ). span k cells back z back) e ∙ span_whole laws cells back from pos

    -- the fold of another of its slots
    pub fold_rest : (cells : List T) (back from slot : ℕ) → 0 < length cells → from < slot → slot ≤ from + back →
        k.join (tail k cells back from (from + back - slot)) (span k cells back (from + (back + 1)) (slot - (from + 1))) ≡ fold_at k cells back slot
    fold_rest cells back from slot pos after within =
        let m : ℕ = from + back - slot in
        let begin : from + (back - (from + back - slot)) ≡ slot = omega arith in
        let at : from + (back + 1) ≡ slot + (from + back - slot + 1) = omega arith in
        let e : back ≡ from + back - slot + (slot - (from + 1)) + 1 = omega arith in
        ap (λ (z : ℕ). k.join (span k cells back z (from + back - slot)) (span k cells back (from + (back + 1)) (slot - (from + 1)))) begin
        ∙ span_split laws cells back slot (from + back - slot) (from + (back + 1)) (slot - (from + 1)) back at e
        ∙ span_whole laws cells back slot pos

    -- the same, by what code finds in its list of tails
    pub first_of_block : (cells ts : List T) (back from : ℕ) (c : T) → 0 < length cells → ts ≡ tails k cells back from →
        c ≡ get_or ts back c → c ≡ fold_at k cells back from
    first_of_block cells ts back from c pos is at =
        at ∙ ap (λ l. get_or l back c) is ∙ tails_at cells back from back c (omega arith) ∙ fold_first cells back from pos

    pub other_of_block : (cells ts : List T) (back from slot : ℕ) (c joined r : T) → 0 < length cells → from < slot → slot ≤ from + back →
        ts ≡ tails k cells back from → c ≡ get_or ts (from + back - slot) c →
        joined ≡ span k cells back (from + (back + 1)) (slot - (from + 1)) → r ≡ k.join c joined → r ≡ fold_at k cells back slot
    other_of_block cells ts back from slot c joined r pos after within is at ahead joins =
        let own : c ≡ tail k cells back from (from + back - slot) =
        at ∙ ap (λ l. get_or l (from + back - slot) c) is ∙ tails_at cells back from (from + back - slot) c (omega arith) in
        joins ∙ (λ i. k.join (own i) (ahead i)) ∙ fold_rest cells back from slot pos after within

  pub ahead_next : (cells : List T) (back from slot : ℕ) (joined e r : T) → from < slot →
      joined ≡ span k cells back (from + (back + 1)) (slot - (from + 1)) → e ≡ earlier k cells (slot + (back + 1)) back →
      r ≡ k.join joined e → r ≡ span k cells back (from + (back + 1)) (slot + 1 - (from + 1))
  ahead_next cells back from slot joined e r after ahead is joins =
      let at : slot + (back + 1) ≡ from + (back + 1) + (slot - (from + 1) + 1) = omega arith in
      let n : slot - (from + 1) + 1 ≡ slot + 1 - (from + 1) = omega arith in
      joins ∙ (λ i. k.join (ahead i) (is i)) ∙ span_next cells back (from + (back + 1)) (slot - (from + 1)) (slot + (back + 1)) at
      ∙ ap (span k cells back (from + (back + 1))) n
