-- One of a list is so.
use Rattle.std.proofs.Common.{inl, inr, ◌≡◌, ℕ, zero, suc, ◌+◌, ◌<◌, ◌≤◌, Bool, true, false, cond, refl, sym, ap, subst, ◌∙◌, arith, List, [], ◌∷◌, map}
use Rattle.std.specs.Prelude.{filter}
use Rattle.std.specs.List.{range_with_len}
use Rattle.std.proofs.lemmas.Bool.{cases_eq}
use Rattle.slack_rows.specs.Laws.{SomeOf}

module _ {A B : Type 0} (P : B → Type 0) (f : A → B) where
  pub some_mapped : (xs : List A) → SomeOf (λ x. P (f x)) xs → SomeOf P (map f xs)
  some_mapped [] none = none
  some_mapped (x ∷ xs) (inl here) = inl here
  some_mapped (x ∷ xs) (inr more) = inr (some_mapped xs more)

  pub mapped_some : (xs : List A) → SomeOf P (map f xs) → SomeOf (λ x. P (f x)) xs
  mapped_some [] none = none
  mapped_some (x ∷ xs) (inl here) = inl here
  mapped_some (x ∷ xs) (inr more) = inr (mapped_some xs more)

-- a number of a range that passes, and of which it holds
pub record SomePassing (P : ℕ → Type 0) (test : ℕ → Bool) (i n : ℕ) : Type 0 where
  pub number : ℕ
  pub from : i ≤ number
  pub below : number < i + n
  pub passes : test number ≡ true
  pub holds : P number

module _ (P : ℕ → Type 0) (test : ℕ → Bool) where
  rest : (i n : ℕ) (b : Bool) → SomeOf P (filter test (range_with_len (i + 1) n)) →
      SomeOf P (cond b (i ∷ filter test (range_with_len (i + 1) n)) (filter test (range_with_len (i + 1) n)))
  rest i n true some = inr some
  rest i n false some = some

  here : (i n : ℕ) → test i ≡ true → P i → SomeOf P (filter test (range_with_len i (suc n)))
  here i n passes holds = by (test i) passes
    where
      by : (b : Bool) → b ≡ true →
          SomeOf P (cond b (i ∷ filter test (range_with_len (i + 1) n)) (filter test (range_with_len (i + 1) n)))
      by true is = inl holds
      by false is = absurd (cc)

  pub some_passing : (i n : ℕ) → SomePassing P test i n → SomeOf P (filter test (range_with_len i n))
  some_passing i zero some =
      let from = some.from in
      let below = some.below in
      absurd (omega (arith, from, below))
  some_passing i (suc n) some = elim (cases_eq i some.number) [
    | inl same ↦ here i n (ap test same ∙ some.passes) (subst P (sym same) some.holds)
    | inr other ↦
        let from = some.from in
        let below = some.below in
        rest i n (test i) (some_passing (i + 1) n record {
          number = some.number;
          from = omega (arith, from, other);
          below = omega (arith, below);
          passes = some.passes;
          holds = some.holds;
        })
  ]

  pub passing_some : (i n : ℕ) → SomeOf P (filter test (range_with_len i n)) → SomePassing P test i n
  passing_some i zero none = absurd none
  passing_some i (suc n) some = by (test i) refl some (λ more. passing_some (i + 1) n more)
    where
      later : SomePassing P test (i + 1) n → SomePassing P test i (suc n)
      later found =
          let from = found.from in
          let below = found.below in
          record {
            number = found.number;
            from = omega (arith, from);
            below = omega (arith, below);
            passes = found.passes;
            holds = found.holds;
          }

      by : (b : Bool) → test i ≡ b →
          SomeOf P (cond b (i ∷ filter test (range_with_len (i + 1) n)) (filter test (range_with_len (i + 1) n))) →
          (SomeOf P (filter test (range_with_len (i + 1) n)) → SomePassing P test (i + 1) n) → SomePassing P test i (suc n)
      by true is (inl holds) rest = record { number = i; from = omega arith; below = omega arith; passes = is; holds = holds }
      by true is (inr more) rest = later (rest more)
      by false is more rest = later (rest more)
