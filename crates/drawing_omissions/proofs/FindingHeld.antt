-- The first number that passes a test.
use Rattle.std.proofs.Common.{◌≡◌, ℕ, zero, suc, ◌+◌, ◌<◌, ◌≤◌, Bool, true, false, cond, ◌==◌, List, length, Some, None, ◌⊎◌, inl, inr, refl, sym, ap, ◌∙◌, arith}
use Rattle.std.specs.List.{find, range_with_len}
use Rattle.std.proofs.lemmas.Bool.{and_from, cases_lt, eq-eqb}
use Rattle.flat_circuit.specs.declared.case.CaseValue.{CaseValue}
use Rattle.drawing_omissions.specs.Same.{are_in, case_at, is_same_at}

cases_le : (k a : ℕ) → a ≤ k → (a + 1 ≤ k) ⊎ (k ≡ a)
cases_le k a le = elim (cases_lt a k) [ inl less ↦ inl (omega (arith, less)) | inr ge ↦ inr (omega (arith, le, ge)) ]

pub none_passes : (p : ℕ → Bool) (a n : ℕ) → ((i : ℕ) → a ≤ i → i < a + n → p i ≡ false) → find p (range_with_len a n) ≡ None
none_passes p a zero h = refl
none_passes p a (suc n) h =
    ap (λ b. cond b (Some a) (find p (range_with_len (a + 1) n))) (h a (omega arith) (omega arith))
    ∙ none_passes p (a + 1) n (λ i below above. h i (omega (arith, below)) (omega (arith, above)))

pub first_passes : (p : ℕ → Bool) (a n k : ℕ) → a ≤ k → k < a + n → p k ≡ true → ((i : ℕ) → a ≤ i → i < k → p i ≡ false) → find p (range_with_len a n) ≡ Some k
first_passes p a zero k le lt passes before = absurd (omega (arith, le, lt))
first_passes p a (suc n) k le lt passes before = elim (cases_le k a le) [
  | inl more ↦
      ap (λ b. cond b (Some a) (find p (range_with_len (a + 1) n))) (before a (omega arith) (omega (arith, more)))
      ∙ first_passes p (a + 1) n k more (omega (arith, lt)) passes (λ i below above. before i (omega (arith, below)) above)
  | inr same ↦ ap (λ b. cond b (Some a) (find p (range_with_len (a + 1) n))) (ap p (sym same) ∙ passes) ∙ ap Some (sym same)
]

-- ---- cases

pub same_here : (cases : List (List CaseValue)) (k j : ℕ) (own other : List CaseValue) → own ≡ case_at cases k → other ≡ case_at cases j → length own ≡ length other →
    are_in own other ≡ true → is_same_at cases k j ≡ true
same_here cases k j own other a b long all =
    and_from (length (case_at cases k) == length (case_at cases j)) (are_in (case_at cases k) (case_at cases j))
    (eq-eqb (length (case_at cases k)) (length (case_at cases j)) (ap length (sym a) ∙ long ∙ ap length b))
    (ap (λ l. are_in l (case_at cases j)) (sym a) ∙ ap (are_in own) (sym b) ∙ all)
