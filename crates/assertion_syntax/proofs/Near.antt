-- The first two of a row of ticks that pass a test and are near one another.
use Rattle.std.proofs.Common.{◌≡◌, ℕ, ◌+◌, ◌-◌, ◌<◌, ◌≤◌, Bool, true, false, Option, Some, None, inl, inr, arith}
use Rattle.std.proofs.lemmas.Bool.{both_ways, cases_eq, leb-true, leb-false}
use Rattle.assertion_syntax.specs.Slots.{is_near, AreNear}

-- none of the first n ticks passes
abbrev NonePasses : (ℕ → Bool) → ℕ → Type 0
NonePasses test n = (i : ℕ) → i < n → test i ≡ true → ⊥

-- it passes, and none of the ticks between it and n does
pub record IsLast (test : ℕ → Bool) (n last : ℕ) : Type 0 where
  pub below : last < n
  pub passes : test last ≡ true
  pub greatest : (i : ℕ) → i < n → test i ≡ true → i ≤ last

abbrev LastPass : (ℕ → Bool) → ℕ → Option ℕ → Type 0
LastPass test n None = NonePasses test n
LastPass test n (Some last) = IsLast test n last

-- No two of the first n are near, and this is the last that passes.
pub record NoneNear (test : ℕ → Bool) (reach : ℕ) (last : Option ℕ) (n : ℕ) : Type 0 where
  pub last_is : LastPass test n last
  pub apart : (i j : ℕ) → i < j → j < n → test i ≡ true → test j ≡ true → i + reach < j

pub at_start : (test : ℕ → Bool) (reach : ℕ) → NoneNear test reach None 0
at_start test reach = record { last_is = λ i l e. absurd (omega arith); apart = λ i j l l' e e'. absurd (omega arith) }

pub passed_over : (test : ℕ → Bool) (reach : ℕ) (last : Option ℕ) (n : ℕ) → NoneNear test reach last n → test n ≡ false → NoneNear test reach last (n + 1)
passed_over test reach last n so e = record {
  last_is = still last so.last_is;
  apart = λ i j l l' ei ej. so.apart i j l (below j l' ej) ei ej;
}
  where
    below : (i : ℕ) → i < n + 1 → test i ≡ true → i < n
    below i l ei = elim (cases_eq i n) [
      | inl same ↦ absurd (both_ways (test n) e (rw same at ei))
      | inr other ↦ omega arith
    ]

    still : (o : Option ℕ) → LastPass test n o → LastPass test (n + 1) o
    still None none = λ i l ei. none i (below i l ei) ei
    still (Some k) is = record { below = (let b : k < n = is.below in omega arith); passes = is.passes; greatest = λ i l ei. is.greatest i (below i l ei) ei }

-- an earlier one is not near, as the last is not
far : (test : ℕ → Bool) (reach : ℕ) (last : Option ℕ) (n : ℕ) → LastPass test n last → is_near last n reach ≡ false → (i : ℕ) → i < n → test i ≡ true → i + reach < n
far test reach None n none e i l ei = absurd (none i l ei)
far test reach (Some k) n is e i l ei =
    let before : i ≤ k = is.greatest i l ei in
    let beyond : reach < n - k = leb-false (n - k) reach e in
    omega arith

pub one_more : (test : ℕ → Bool) (reach : ℕ) (last : Option ℕ) (n : ℕ) → NoneNear test reach last n → test n ≡ true → is_near last n reach ≡ false → NoneNear test reach (Some n) (n + 1)
one_more test reach last n so now beyond = record {
  last_is = record { below = omega arith; passes = now; greatest = λ i l ei. omega arith };
  apart = λ i j l l' ei ej. elim (cases_eq j n) [
    | inl same ↦ rw same (far test reach last n so.last_is beyond i (omega arith) ei)
    | inr other ↦ so.apart i j l (omega arith) ei ej
  ];
}

pub near_found : (test : ℕ → Bool) (reach : ℕ) (last : Option ℕ) (n whole : ℕ) → NoneNear test reach last n → n < whole → test n ≡ true → is_near last n reach ≡ true → AreNear test reach whole
near_found test reach None n whole so within now near = absurd cc
near_found test reach (Some k) n whole so within now near =
    let below : k < n = so.last_is.below in
    let by : n - k ≤ reach = leb-true (n - k) reach near in
    record { first = k; second = n; ordered = below; within = within; near = omega arith; at_first = so.last_is.passes; at_second = now }

pub none_near : (test : ℕ → Bool) (reach : ℕ) (last : Option ℕ) (n : ℕ) → NoneNear test reach last n → ¬ AreNear test reach n
none_near test reach last n so near =
    let far' : near.first + reach < near.second = so.apart near.first near.second near.ordered near.within near.at_first near.at_second in
    let by : near.second ≤ near.first + reach = near.near in
    omega arith
