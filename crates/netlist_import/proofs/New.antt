-- The least number that makes a name new.
use Rattle.std.proofs.Common.{◌≡◌, ℕ, zero, suc, ◌+◌, ◌<◌, ◌≤◌, ◌^◌, Bool, true, false, List, length, refl, sym, subst, ◌∙◌, inl, inr, arith}
use Rattle.std.specs.Prelude.{not}
use Rattle.std.proofs.lemmas.Bool.{cases_lt}
use Rattle.std.specs.List.{list_any}
use Rattle.std.specs.Str.{bytes_eq}
use Rattle.netlist_import.specs.Fresh.{is_new, least_from, least_number, numbered, AreTaken}
use Rattle.netlist_import.proofs.Digits.{numbered_apart}
use Rattle.netlist_import.proofs.Counts.{as_many}

pub was_taken : (b : Bool) → not b ≡ false → b ≡ true
was_taken true e = refl
was_taken false e = absurd (cc)

-- The numbers of names that are taken are at most as many as the names.
pub taken_within : (taken : List (List ℕ)) (name : List ℕ) (n : ℕ) → n ≤ 2 ^ 64 →
    AreTaken taken name n → n ≤ length taken
taken_within taken name n h all =
    as_many (numbered name) (2 ^ 64) (numbered_apart name) taken n h
    (λ k less. was_taken (list_any (bytes_eq (numbered name k)) taken) (all.each k less))

-- one number more
pub taken_more : (taken : List (List ℕ)) (name : List ℕ) (n : ℕ) → AreTaken taken name n →
    is_new taken (numbered name n) ≡ false →
    AreTaken taken name (n + 1)
taken_more taken name n all e = record {
  each = λ k less.
      elim (cases_lt k n) [
        | inl h ↦ all.each k h
        | inr h ↦ let same : k
            ≡ n = omega arith in rw same e
      ];
}

-- The search ends at the first number that passes, or after so many.
found_at : (p : ℕ → Bool) (n m fuel : ℕ) → m ≤ fuel → ((k : ℕ) → n ≤ k → k < n + m → p k ≡ false) →
    (m < fuel → p (n + m) ≡ true) → least_from p n fuel ≡ n + m
unfolding least_from
found_at p n zero zero h none some = omega arith
found_at p n (suc m) zero h none some = absurd (omega arith)
found_at p n zero (suc fuel) h none some =
    let same : n + 0 ≡ n = omega arith in
    let e : p n ≡ true = subst (λ (x : ℕ). p x ≡ true) same (some (omega arith)) in
    rw e (sym same)
found_at p n (suc m) (suc fuel) h none some =
    let e = none n (omega arith) (omega arith) in
    let same : n + suc m ≡ n + 1 + m = omega arith in
    let more = found_at p (n + 1) m fuel (omega arith)
    (λ k low high. none k (omega arith) (omega arith))
    (λ less. subst (λ (x : ℕ). p x ≡ true) same (some (omega arith))) in
    rw e (more ∙ sym same)

-- the number that is found where all below it are taken
pub least_is : (taken : List (List ℕ)) (name : List ℕ) (n : ℕ) → n ≤ length taken →
    AreTaken taken name n →
    (n < length taken → is_new taken (numbered name n) ≡ true) → n ≡ least_number taken name
least_is taken name n h all some =
    let same : n ≡ 0 + n = omega arith in
    same ∙ sym (found_at (λ k. is_new taken (numbered name k)) 0 n (length taken) h
    (λ k low high. all.each k (omega arith))
    (λ less. subst (λ (x : ℕ). is_new taken (numbered name x) ≡ true) same (some less)))

-- No more numbers can be taken than there are names.
pub new_past : (taken : List (List ℕ)) (name : List ℕ) → length taken < 2 ^ 64 →
    AreTaken taken name (length taken) →
    is_new taken (numbered name (length taken)) ≡ true
new_past taken name small all = at (is_new taken (numbered name (length taken))) refl
  where
    at : (b : Bool) → is_new taken (numbered name (length taken)) ≡ b →
        is_new taken (numbered name (length taken)) ≡ true
    at true e = e
    at false e =
        let more = taken_within taken name (length taken + 1) (omega arith)
        (taken_more taken name (length taken) all e) in
        absurd (omega arith)
