-- Places from a slot on, round the period, whose cells stay the same up to a change.
use Rattle.std.proofs.Common.{◌≡◌, ℕ, zero, suc, ◌+◌, ◌-◌, ◌%◌, ◌<◌, ◌≤◌, ◌⊎◌, inl, inr, Bool, List, length, slice_get, slice_index_or, Some, min, sym, ap, ◌∙◌, subst, arith}
use Rattle.std.proofs.lemmas.Bool.{cases_lt}
use Rattle.std.proofs.lemmas.Option.{get_or_from_slice_get}
use Rattle.std.proofs.Math.Nat.{mod-add-mod}
use Rattle.scald_base.proofs.Back.{back_zero, mod_small}
use Rattle.wave_core.specs.Cell.{Cells, IsLawful}
use Rattle.wave_core.specs.Slots.{SameUntil, cell_round, earlier, join_to, join_round, Gives}
use Rattle.wave_core.proofs.Fold.{with_last}

module _ {T : Type 0} (k : Cells T) (cells : List T) where
  -- a slot of the period, counted on over its end
  pub round_cell : (period t slot : ℕ) (c : T) → period ≡ length cells → slot ≡ t % period → slice_get cells slot ≡ Some c → cell_round k cells t ≡ c
  unfolding earlier
  round_cell period t slot c long is there =
      let at : slice_get cells (t % length cells) ≡ Some c = ap (slice_get cells) (ap (λ (p : ℕ). t % p) (sym long) ∙ sym is) ∙ there in
      ap (λ (z : ℕ). slice_index_or cells z k.any) (back_zero (length cells) t) ∙ get_or_from_slice_get cells (t % length cells) c k.any at

  -- a place up to the change
  pub same_cell : (period from place slot end p : ℕ) (c : T) → period ≡ length cells → slot ≡ (from + place) % period → slice_get cells slot ≡ Some c →
      SameUntil cells slot end → place ≤ p → p < place + (end - slot) → cell_round k cells (from + p) ≡ c
  same_cell period from place slot end p c long is there same after before =
      let within : slot + (p - place) < end = omega (arith, before, after) in
      let small : slot + (p - place) < period = let all = same.within in omega (arith, within, all, long) in
      let whole : from + place + (p - place) ≡ from + p = omega (arith, after) in
      let turned : slot + (p - place) ≡ (from + p) % period =
      sym (mod_small (slot + (p - place)) period small)
      ∙ ap (λ (z : ℕ). (z + (p - place)) % period) is
      ∙ mod-add-mod (from + place) period (p - place)
      ∙ ap (λ (z : ℕ). z % period) whole in
      round_cell period (from + p) (slot + (p - place)) c long turned (same.same (slot + (p - place)) (omega arith) within ∙ there)

  module _ (test : T → Bool → Type 0) where
    -- what a test gives of one cell, it gives up to the change
    pub gives_more : (answer : Bool) (period from first place slot end : ℕ) (c : T) → period ≡ length cells → slot ≡ (from + place) % period →
        slice_get cells slot ≡ Some c → SameUntil cells slot end → test c answer → Gives k cells test from first place answer →
        Gives k cells test from first (place + (end - slot)) answer
    gives_more answer period from first place slot end c long is there same given so_far p after before = go (cases_lt p place)
      where
        go : (p < place) ⊎ (place ≤ p) → test (cell_round k cells (from + p)) answer
        go (inl sooner) = so_far p after sooner
        go (inr later) =
            subst (λ (v : T). test v answer) (sym (same_cell period from place slot end p c long is there same later before)) given

-- ---- joins

module _ {T : Type 0} (k : Cells T) (laws : IsLawful k) where
  -- with more of the same cells
  join_same : (f : ℕ → T) (n d : ℕ) → ((i : ℕ) → i ≤ d → f (n + i) ≡ f n) → join_to k f (n + d) ≡ join_to k f n
  join_same f n zero same = let e : n + 0 ≡ n = omega arith in ap (join_to k f) e
  join_same f n (suc d) same =
      let e : n + suc d ≡ suc (n + d) = omega arith in
      let last : f (suc (n + d)) ≡ f n = ap f (sym e) ∙ same (suc d) (omega arith) in
      let before : join_to k f (n + d) ≡ join_to k f n = join_same f n d (λ i l. same i (omega (arith, l))) in
      ap (join_to k f) e ∙ (λ i. k.join (before i) (last i)) ∙ with_last k laws f n

  -- the first cells up to the change
  pub join_begun : (cells : List T) (period from end count : ℕ) (c : T) → period ≡ length cells → from < length cells → slice_get cells from ≡ Some c →
      SameUntil cells from end → 0 < count → c ≡ join_round k cells from (min (end - from) count - 1)
  join_begun cells period from end count c long inside there same some =
      let is : from ≡ (from + 0) % period = let e : from ≡ from + 0 = omega arith in e ∙ sym (mod_small (from + 0) period (omega (arith, long, inside))) in
      let behind : from < end = same.behind in
      let at : (i : ℕ) → i < end - from → cell_round k cells (from + i) ≡ c =
      λ i l. same_cell k cells period from 0 from end i c long is there same (omega arith) (omega (arith, l)) in
      let d : ℕ = min (end - from) count - 1 in
      let whole : 0 + (min (end - from) count - 1) ≡ min (end - from) count - 1 = omega arith in
      sym (at 0 (omega (arith, behind)))
      ∙ sym (join_same (λ i. cell_round k cells (from + i)) 0 (min (end - from) count - 1)
      (λ i l. let e : 0 + i ≡ i = omega arith in
      ap (λ (z : ℕ). cell_round k cells (from + z)) e ∙ at i (omega (arith, l, some, behind)) ∙ sym (at 0 (omega (arith, behind)))))
      ∙ ap (join_round k cells from) whole

  -- and the next ones
  pub join_more : (cells : List T) (period from place slot end count : ℕ) (all c joined : T) → period ≡ length cells → slot ≡ (from + place) % period →
      slice_get cells slot ≡ Some c → SameUntil cells slot end → 0 < place → place < count → all ≡ join_round k cells from (min place count - 1) →
      joined ≡ k.join all c → joined ≡ join_round k cells from (min (place + (end - slot)) count - 1)
  join_more cells period from place slot end count all c joined long is there same some more so_far joins =
      let f : ℕ → T = λ i. cell_round k cells (from + i) in
      let behind : slot < end = same.behind in
      let at : (i : ℕ) → place ≤ i → i < place + (end - slot) → cell_round k cells (from + i) ≡ c =
      λ i after before. same_cell k cells period from place slot end i c long is there same after before in
      let here : cell_round k cells (from + place) ≡ c = at place (omega arith) (omega (arith, behind)) in
      let last : min place count - 1 ≡ place - 1 = omega (arith, more) in
      let next : suc (place - 1) ≡ place = omega (arith, some) in
      let d : place + (min (place + (end - slot)) count - 1 - place) ≡ min (place + (end - slot)) count - 1 = omega (arith, more, behind) in
      joins
      ∙ (λ i. k.join ((so_far ∙ ap (join_round k cells from) last) i) ((sym here ∙ ap (λ (z : ℕ). cell_round k cells (from + z)) (sym next)) i))
      ∙ ap (join_round k cells from) next
      ∙ sym (join_same (λ i. cell_round k cells (from + i)) place (min (place + (end - slot)) count - 1 - place)
      (λ i l. at (place + i) (omega arith) (omega (arith, l, more, behind)) ∙ sym here))
      ∙ ap (join_round k cells from) d
