-- A list whose items change one after another, each by its place.
use Rattle.std.proofs.Common.{◌≡◌, ◌≢◌, ℕ, ◌+◌, ◌<◌, ◌≤◌, List, length, get_or, refl, sym, ap, ◌∙◌, arith, inl, inr}
use Rattle.std.proofs.Math.ListN.{set}
use Rattle.std.proofs.lemmas.Bool.{cases_eq}
use Rattle.std.proofs.lemmas.List.{get_or-set_same, get_or-set_other, length-set}

module _ {X : Type 0} (none : X) (change : ℕ → X → X) (old : List X) where
  -- the items before a place have changed, and no others
  pub record SteppedTo (n : ℕ) (now : List X) : Type 0 where
    pub long : length now ≡ length old
    pub before : (k : ℕ) → k < n → get_or now k none ≡ change k (get_or old k none)
    pub after : (k : ℕ) → n ≤ k → get_or now k none ≡ get_or old k none

  pub stepped_start : SteppedTo 0 old
  stepped_start = record {
    long = refl;
    before = λ k below. absurd (omega (arith, below));
    after = λ k past. refl;
  }

  pub stepped_put : (n : ℕ) (now new : List X) (x : X) → n < length old →
      x ≡ change n (get_or now n none) → new ≡ set now n x → SteppedTo n now → SteppedTo (n + 1) new
  stepped_put n now new x exists changed put is = record {
    long = ap length put ∙ length-set now n x ∙ is.long;
    before = λ k below. elim (cases_eq k n) [
      | inl same ↦
          ap (λ m. get_or new m none) same
          ∙ ap (λ (xs : List X). get_or xs n none) put ∙ get_or-set_same now n x none inside
          ∙ changed ∙ ap (change n) (is.after n (omega arith))
          ∙ sym (ap (λ m. change m (get_or old m none)) same)
      | inr other ↦ elsewhere k other ∙ is.before k (omega (arith, below, other))
    ];
    after = λ k past. elsewhere k (λ same. omega (arith, past, same)) ∙ is.after k (omega (arith, past));
  }
    where
      inside : n < length now
      inside = let long = is.long in omega (arith, exists, long)

      elsewhere : (k : ℕ) → k ≢ n → get_or new k none ≡ get_or now k none
      elsewhere k other =
          ap (λ (xs : List X). get_or xs k none) put ∙ get_or-set_other now n k x none other
