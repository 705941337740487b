-- Lists of cells that are all quiet, or all the same.
use Rattle.std.proofs.Common.{inl, inr, ◌≡◌, ℕ, zero, suc, ◌-◌, ◌<◌, ◌≤◌, Bool, true, false, ◌&&◌, List, [], ◌∷◌, length, get_or, map, refl, sym, ap, ◌∙◌, arith}
use Rattle.std.specs.List.{list_all}
use Rattle.std.proofs.lemmas.List.{get_or-map}
use Rattle.std.proofs.lemmas.Bool.{and_parts, and_from, cases_eq}
use Rattle.wave_core.specs.Cell.{Cells, IsLawful}
use Rattle.wave_core.specs.Slots.{join_to}
use Rattle.skew_algebra.specs.Wave.{cell_at, all_equal, is_steady, joined}

pub all_at : {T : Type 0} (test : T → Bool) (cells : List T) (i : ℕ) (d : T) → list_all test cells ≡ true → i < length cells → test (get_or cells i d) ≡ true
all_at test [] i d h below = absurd (omega arith)
all_at test (v ∷ vs) zero d h below = (and_parts (test v) (list_all test vs) h).0
all_at test (v ∷ vs) (suc i) d h below = all_at test vs i d (and_parts (test v) (list_all test vs) h).1 (omega arith)

pub all_from : {T : Type 0} (test : T → Bool) (cells : List T) (d : T) → ((i : ℕ) → i < length cells → test (get_or cells i d) ≡ true) → list_all test cells ≡ true
all_from test [] d h = refl
all_from test (v ∷ vs) d h =
    and_from (test v) (list_all test vs) (h 0 (omega arith)) (all_from test vs d (λ i below. h (suc i) (omega arith)))

-- one test for another
pub all_same : {T : Type 0} (test other : T → Bool) (cells : List T) → ((v : T) → test v ≡ other v) → list_all test cells ≡ list_all other cells
all_same test other [] e = refl
all_same test other (v ∷ vs) e = let rest : list_all test vs ≡ list_all other vs = all_same test other vs e in λ i. e v i && rest i

pub all_map : {T : Type 0} (test : T → Bool) (f : T → T) (cells : List T) → list_all test (map f cells) ≡ list_all (λ v. test (f v)) cells
all_map test f [] = refl
all_map test f (v ∷ vs) = ap (λ b. test (f v) && b) (all_map test f vs)

pub same_list : {T : Type 0} (xs ys : List T) (d : T) → length xs ≡ length ys → ((i : ℕ) → i < length xs → get_or xs i d ≡ get_or ys i d) → xs ≡ ys
same_list [] [] d long e = refl
same_list [] (y ∷ ys) d long e = absurd (omega arith)
same_list (x ∷ xs) [] d long e = absurd (omega arith)
same_list (x ∷ xs) (y ∷ ys) d long e =
    let head : x ≡ y = e 0 (omega arith) in
    let rest : xs ≡ ys = same_list xs ys d (omega arith) (λ i below. e (suc i) (omega arith)) in
    λ i. head i ∷ rest i

module _ {T : Type 0} (k : Cells T) (laws : IsLawful k) where
  -- in a wave of one cell any slot is as good
  pub equal_at : (cells : List T) (i j : ℕ) → all_equal k cells ≡ true → i < length cells → j < length cells → cell_at k cells i ≡ cell_at k cells j
  equal_at cells i j h below below' =
      sym (laws.same_is (cell_at k cells 0) (cell_at k cells i) (all_at (k.same (cell_at k cells 0)) cells i k.any h below))
      ∙ laws.same_is (cell_at k cells 0) (cell_at k cells j) (all_at (k.same (cell_at k cells 0)) cells j k.any h below')

  pub equal_from : (cells : List T) (v : T) → ((i : ℕ) → i < length cells → cell_at k cells i ≡ v) → all_equal k cells ≡ true
  equal_from cells v e =
      all_from (k.same (cell_at k cells 0)) cells k.any
      (λ i below. let s : cell_at k cells i ≡ cell_at k cells 0 = e i below ∙ sym (e 0 (omega arith)) in
      ap (k.same (cell_at k cells 0)) s ∙ laws.same_self (cell_at k cells 0))

  -- a join permits what each of its cells does
  pub join_to_has : (f : ℕ → T) (n i : ℕ) (before after : Bool) → i ≤ n → k.has (f i) before after ≡ true → k.has (join_to k f n) before after ≡ true
  join_to_has f zero i before after l h = let e : i ≡ 0 = omega arith in ap (λ (z : ℕ). k.has (f z) before after) (sym e) ∙ h
  join_to_has f (suc n) i before after l h = elim (cases_eq i (suc n)) [
    | inl e ↦ laws.join_has_right (join_to k f n) (f (suc n)) before after (ap (λ (z : ℕ). k.has (f z) before after) (sym e) ∙ h)
    | inr ne ↦ laws.join_has_left (join_to k f n) (f (suc n)) before after (join_to_has f n i before after (omega arith) h)
  ]

  pub joined_has : (cells : List T) (i : ℕ) (before after : Bool) → i < length cells → k.has (cell_at k cells i) before after ≡ true →
      k.has (joined k cells) before after ≡ true
  joined_has cells i before after below h = join_to_has (cell_at k cells) (length cells - 1) i before after (omega arith) h

  -- ---- complements

  pub flip_same : (v w : T) → k.same (k.flip v) (k.flip w) ≡ k.same v w
  flip_same v w = by (k.same (k.flip v) (k.flip w)) (k.same v w) refl refl
    where
      by : (a b : Bool) → k.same (k.flip v) (k.flip w) ≡ a → k.same v w ≡ b → k.same (k.flip v) (k.flip w) ≡ k.same v w
      by true true e e' = e ∙ sym e'
      by false false e e' = e ∙ sym e'
      by true false e e' =
          let s : v ≡ w = sym (laws.flip_returns v) ∙ ap k.flip (laws.same_is (k.flip v) (k.flip w) e) ∙ laws.flip_returns w in
          e ∙ sym (ap (λ z. k.same v z) (sym s) ∙ laws.same_self v)
      by false true e e' =
          let s : v ≡ w = laws.same_is v w e' in
          ap (λ z. k.same (k.flip v) (k.flip z)) (sym s) ∙ laws.same_self (k.flip v) ∙ sym e'

  pub steady_flipped : (cells : List T) → is_steady k (map k.flip cells) ≡ is_steady k cells
  steady_flipped cells = all_map k.quiet k.flip cells ∙ all_same (λ v. k.quiet (k.flip v)) k.quiet cells laws.flip_quiet

  pub equal_flipped : (cells : List T) → 0 < length cells → all_equal k (map k.flip cells) ≡ all_equal k cells
  equal_flipped cells some =
      let first : cell_at k (map k.flip cells) 0 ≡ k.flip (cell_at k cells 0) = get_or-map k.flip cells 0 k.any k.any some in
      ap (λ v. list_all (k.same v) (map k.flip cells)) first
      ∙ all_map (k.same (k.flip (cell_at k cells 0))) k.flip cells
      ∙ all_same (λ v. k.same (k.flip (cell_at k cells 0)) (k.flip v)) (k.same (cell_at k cells 0)) cells (λ v. flip_same (cell_at k cells 0) v)
