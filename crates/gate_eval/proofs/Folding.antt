-- Slots in a row in which a wave may hold the same, however late it comes.
use Rattle.std.proofs.Common.{◌≡◌, ℕ, zero, suc, ◌+◌, ◌-◌, ◌%◌, ◌<◌, ◌≤◌, List, length, map, take, get_or, refl, sym, ap, ◌∙◌, arith}
use Rattle.std.proofs.lemmas.List.{take_all}
use Rattle.std.proofs.lemmas.Simd.{map-map}
use Rattle.scald_base.specs.Clock.{back}
use Rattle.scald_base.proofs.Back.{back_zero, back_sub, back_sooner, back_later, mod_small}
use Rattle.wave_core.specs.Cell.{Cells, IsLawful}
use Rattle.wave_core.specs.Slots.{SameUntil, earlier, join_to, fold_at}
use Rattle.wave_core.proofs.Fold.{join_to_same, with_last}
use Rattle.step_values.specs.declared.value.Value.{Value}
use Rattle.step_values.specs.Cell.{values}
use Rattle.step_values.specs.Lawful.{values_lawful}
use Rattle.skew_algebra.specs.Wave.{Wave, cell_at, fold}
use Rattle.gate_eval.specs.Meeting.{folds_in}
use Rattle.gate_eval.proofs.Few.{same_value}

module _ {T : Type 0} (k : Cells T) (laws : IsLawful k) where
  -- a join with its own first cell
  with_first : (h : ℕ → T) (n : ℕ) → k.join (h 0) (join_to k h n) ≡ join_to k h n
  with_first h zero = laws.join_absorbs (h 0)
  with_first h (suc n) = sym (laws.join_regroups (h 0) (join_to k h n) (h (suc n))) ∙ ap (λ c. k.join c (h (suc n))) (with_first h n)

  -- one cell more in front
  in_front : (h : ℕ → T) (n : ℕ) → k.join (h 0) (join_to k (λ i. h (suc i)) n) ≡ join_to k h (suc n)
  in_front h zero = refl
  in_front h (suc n) =
      sym (laws.join_regroups (h 0) (join_to k (λ i. h (suc i)) n) (h (suc (suc n))))
      ∙ ap (λ c. k.join c (h (suc (suc n)))) (in_front h n)

  -- a cell is gained at one end and lost at the other, each the same as its neighbour
  join_moved : (h : ℕ → T) (n : ℕ) → h 0 ≡ h 1 → h (suc n) ≡ h n → join_to k h n ≡ join_to k (λ i. h (suc i)) n
  join_moved h n first last =
      sym (ap (k.join (join_to k h n)) last ∙ with_last k laws h n)
      ∙ sym (in_front h n)
      ∙ ap (λ c. k.join c (join_to k (λ i. h (suc i)) n)) first
      ∙ with_first (λ i. h (suc i)) n

  before_next : (cells : List T) (p o : ℕ) → 0 < length cells → earlier k cells (p + 1) (suc o) ≡ earlier k cells p o
  unfolding earlier
  before_next cells p o some =
      let e : suc o ≡ 1 + o = omega arith in
      ap (λ (z : ℕ). get_or cells z k.any) (ap (back (length cells) (p + 1)) e ∙ back_later (length cells) p 1 o some)

  -- the fold of the next slot
  fold_next : (cells : List T) (n p : ℕ) → 0 < length cells → earlier k cells (p + 1) 0 ≡ earlier k cells p 0 → earlier k cells (p + 1) n ≡ earlier k cells p n →
      fold_at k cells n (p + 1) ≡ fold_at k cells n p
  fold_next cells n p some coming leaving =
      join_moved (λ o. earlier k cells (p + 1) o) n (coming ∙ sym (before_next cells p 0 some)) (before_next cells p n some ∙ sym leaving)
      ∙ join_to_same k (λ o. earlier k cells (p + 1) (suc o)) (λ o. earlier k cells p o) n (λ o l. before_next cells p o some)

  -- the folds of slots in a row
  fold_run : (cells : List T) (n slot d : ℕ) (first last : T) → 0 < length cells → ((j : ℕ) → j < d → earlier k cells (slot + j) 0 ≡ last) →
      ((j : ℕ) → j < d → earlier k cells (slot + j) n ≡ first) → (j : ℕ) → j < d → fold_at k cells n (slot + j) ≡ fold_at k cells n slot
  fold_run cells n slot d first last some coming leaving zero below = let e : slot + 0 ≡ slot = omega arith in ap (fold_at k cells n) e
  fold_run cells n slot d first last some coming leaving (suc j) below =
      let e : slot + suc j ≡ slot + j + 1 = omega arith in
      let now : j < d = omega (arith, below) in
      ap (fold_at k cells n) e
      ∙ fold_next cells n (slot + j) some
      (ap (λ (z : ℕ). earlier k cells z 0) (sym e) ∙ coming (suc j) below ∙ sym (coming j now))
      (ap (λ (z : ℕ). earlier k cells z n) (sym e) ∙ leaving (suc j) below ∙ sym (leaving j now))
      ∙ fold_run cells n slot d first last some coming leaving j now

-- a slot and those before it, by the cells of the list
cell_before : (cells : List Value) (slot first skew j : ℕ) → first ≡ back (length cells) slot skew → first + j < length cells →
    earlier values cells (slot + j) skew ≡ cell_at values cells (first + j)
unfolding earlier
cell_before cells slot first skew j is below =
    let e : skew + 0 ≡ skew = omega arith in
    ap (λ (z : ℕ). get_or cells z values.any)
    (sym (ap (λ (z : ℕ). back (length cells) (z + j) 0) is ∙ back_sooner (length cells) slot skew j 0 ∙ ap (back (length cells) (slot + j)) e)
    ∙ back_zero (length cells) (first + j) ∙ mod_small (first + j) (length cells) below)

-- up to the next change of the cell that comes in, and of the one that goes out
pub same_fold : (w : Wave Value) (period slot first coming leaving p : ℕ) → period ≡ length w.cells → slot < length w.cells → w.skew < length w.cells →
    first ≡ (slot + (period - w.skew)) % period → SameUntil w.cells slot coming → SameUntil w.cells first leaving →
    slot ≤ p → p < coming → p < slot + (leaving - first) → fold values w p ≡ fold values w slot
same_fold w period slot first coming leaving p long inside short is enters leaves after before before' =
    let small : w.skew % length w.cells ≡ w.skew = mod_small w.skew (length w.cells) short in
    let from : first ≡ back (length w.cells) slot w.skew =
    is ∙ ap (λ (z : ℕ). (slot + (z - w.skew)) % z) long
    ∙ ap (λ (z : ℕ). (slot + (length w.cells - z)) % length w.cells) (sym small)
    ∙ back_sub (length w.cells) slot w.skew (omega (arith, inside)) in
    let here : slot ≡ back (length w.cells) slot 0 = sym (back_zero (length w.cells) slot ∙ mod_small slot (length w.cells) inside) in
    let enters_within : coming ≤ length w.cells = enters.within in
    let leaves_within : leaving ≤ length w.cells = leaves.within in
    let whole : slot + (p - slot) ≡ p = omega (arith, after) in
    ap (fold values w) (sym whole)
    ∙ fold_run values values_lawful w.cells w.skew slot (p - slot + 1) (cell_at values w.cells first) (cell_at values w.cells slot) (omega (arith, inside))
    (λ j l. let near : slot + j < coming = omega (arith, l, after, before) in
    cell_before w.cells slot slot 0 j here (omega (arith, near, enters_within)) ∙ same_value w.cells slot coming (slot + j) enters (omega arith) near)
    (λ j l. let near : first + j < leaving = omega (arith, l, after, before') in
    cell_before w.cells slot first w.skew j from (omega (arith, near, leaves_within)) ∙ same_value w.cells first leaving (first + j) leaves (omega arith) near)
    (p - slot) (omega arith)

-- the same of all pins
pub same_folds : {P : Type 0} (pins : List P) (i slot p : ℕ) (wave : P → Wave Value) → length pins ≤ i →
    map (λ q. fold values (wave q) p) (take i pins) ≡ map (λ q. fold values (wave q) slot) (take i pins) →
    folds_in values (map wave pins) p ≡ folds_in values (map wave pins) slot
same_folds pins i slot p wave all same =
    let every : take i pins ≡ pins = take_all i pins all in
    map-map (λ w. fold values w p) wave pins
    ∙ sym (ap (map (λ q. fold values (wave q) p)) every)
    ∙ same
    ∙ ap (map (λ q. fold values (wave q) slot)) every
    ∙ sym (map-map (λ w. fold values w slot) wave pins)
