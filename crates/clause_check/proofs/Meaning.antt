-- What a caller concludes from refuted clauses, about whatever its variables stand for.
--
-- Where a variable stands for a bit of a run, the meaning is an assignment for each run, and the
-- caller keeps `all_hold (meaning run) clauses ≡ true` while it appends clauses (`hold_push`). Then
-- no run is left (`refuted_bits`). Where a variable stands for a fact, it keeps `AllSay (meaning
-- run) clauses` (std's `All-push`), and `refuted_facts` says the same. The facts need not be
-- decidable.
use Rattle.std.proofs.Common.{◌≡◌, ℕ, zero, suc, ◌+◌, ◌<◌, ◌≤◌, Bool, true, false, not, ◌||◌, ◌==◌, List, [], ◌∷◌, ◌++◌, ◌⊎◌, inl, inr, refl, ap, sym, subst, arith, ◌∙◌, MatchBool, if◌then◌else◌}
use Rattle.std.proofs.lemmas.Bool.{false≢true, and_from}
use Rattle.std.proofs.lemmas.Bool.Decides.{eqb_tells}
use Rattle.std.proofs.Math.Numerals.{add-one}
use Rattle.std.proofs.lemmas.List.Folds.{list_all-append}
use Rattle.std.proofs.lemmas.List.Elements.{All-head, All-tail}
use Rattle.clause_check.specs.declared.literal.Literal.{Literal}
use Rattle.clause_check.specs.Clauses.{literal_holds, clause_holds, all_hold, Refuted}
use Rattle.clause_check.specs.Meaning.{OneSays, AllSay}

-- Refuted clauses do not all hold under any assignment, such as what a run gives their variables.
pub refuted_bits : (clauses : List (List Literal)) → Refuted clauses →
    (bits : ℕ → Bool) → all_hold bits clauses ≡ true → ⊥
refuted_bits clauses refuted bits hold = false≢true (sym (refuted bits) ∙ hold)

-- One clause more.
pub hold_push : (bits : ℕ → Bool) (clauses : List (List Literal)) (clause : List Literal) →
    all_hold bits clauses ≡ true → clause_holds bits clause ≡ true →
    all_hold bits (clauses ++ clause ∷ []) ≡ true
hold_push bits clauses clause hold holds =
    list_all-append (clause_holds bits) clauses (clause ∷ [])
    ∙ and_from (all_hold bits clauses) (all_hold bits (clause ∷ [])) hold
    (and_from (clause_holds bits clause) true holds refl)

-- The bit tells whether the fact holds.
abbrev Tells : (ℕ → Type 0) → (ℕ → Bool) → ℕ → Type 0
Tells means bits x = MatchBool (bits x) (means x) (¬ means x)

-- bits that tell of every variable below a number
abbrev Told : (ℕ → Type 0) → ℕ → Type 0
Told means n = (bits : ℕ → Bool) × ((x : ℕ) → x < n → Tells means bits x)

-- A fact either holds or does not, as far as a contradiction goes.
either : (A : Type 0) → ((A ⊎ (¬ A)) → ⊥) → ⊥
either A none = none (inr (λ a. none (inl a)))

told_more : (means : ℕ → Type 0) (n : ℕ) → Told means n → (b : Bool) →
    MatchBool b (means n) (¬ means n) →
    Told means (n + 1)
told_more means n told b here = (bits, tells)
  where
    bits : ℕ → Bool
    bits x = if x == n then b else told.0 x

    tells : (x : ℕ) → x < n + 1 → Tells means bits x
    tells x within =
        let At : Bool → Type 0 = λ bit. MatchBool bit (means x) (¬ means x) in
        elim (eqb_tells x n) [
          | inl w ↦
              let same : bits x ≡ b = ap (λ t. if t then b else told.0 x) w.0 in
              subst At (sym same) (subst (λ y. MatchBool b (means y) (¬ means y)) (sym w.1) here)
          | inr w ↦
              let same : bits x ≡ told.0 x = ap (λ t. if t then b else told.0 x) w.0 in
              subst At (sym same) (told.1 x (omega (arith, w.1)))
        ]

told_either : (means : ℕ → Type 0) (n : ℕ) → Told means n → (means n) ⊎ (¬ means n) →
    Told means (n + 1)
told_either means n told (inl fact) = told_more means n told true fact
told_either means n told (inr none) = told_more means n told false none

told_below : (means : ℕ → Type 0) (n : ℕ) → (Told means n → ⊥) → ⊥
told_below means zero none = none (λ _. false, λ x within. absurd (omega arith))
told_below means (suc n) none =
    told_below means n (λ told. either (means n) (λ known.
    none (subst (Told means) (add-one n) (told_either means n told known))))

-- numbers above each variable of a clause, and of clauses
above : List Literal → ℕ
above [] = 0
above (l ∷ ls) = (l.variable + 1) + above ls

above_all : List (List Literal) → ℕ
above_all [] = 0
above_all (c ∷ cs) = above c + above_all cs

or_right : (a b : Bool) → b ≡ true → (a || b) ≡ true
or_right true b h = refl
or_right false b h = h

so : (value bit : Bool) (A : Type 0) → MatchBool bit A (¬ A) → MatchBool value A (¬ A) →
    (if value then bit else not bit) ≡ true
so true true A told said = refl
so true false A told said = absurd (told said)
so false true A told said = absurd (said told)
so false false A told said = refl

module _ (means : ℕ → Type 0) (n : ℕ) (told : Told means n) where
  clause_is_so : (clause : List Literal) → above clause ≤ n → OneSays means clause →
      clause_holds told.0 clause ≡ true
  unfolding above
  clause_is_so [] within says = absurd says
  clause_is_so (l ∷ ls) within (inl says) =
      let here = told.1 l.variable (omega arith) in
      ap (λ b. b || clause_holds told.0 ls)
      (so l.value (told.0 l.variable) (means l.variable) here says)
  clause_is_so (l ∷ ls) within (inr says) =
      or_right (literal_holds told.0 l) (clause_holds told.0 ls)
      (clause_is_so ls (omega arith) says)

  all_are_so : (clauses : List (List Literal)) → above_all clauses ≤ n → AllSay means clauses →
      all_hold told.0 clauses ≡ true
  unfolding above_all
  all_are_so [] within say = refl
  all_are_so (c ∷ cs) within say =
      and_from (clause_holds told.0 c) (all_hold told.0 cs)
      (clause_is_so c (omega arith) (All-head (OneSays means) c cs say))
      (all_are_so cs (omega arith) (All-tail (OneSays means) c cs say))

-- What refuted clauses say is not all so, whatever facts their variables stand for.
pub refuted_facts : (clauses : List (List Literal)) → Refuted clauses →
    (means : ℕ → Type 0) → AllSay means clauses → ⊥
refuted_facts clauses refuted means say =
    told_below means (above_all clauses) (λ told.
    refuted_bits clauses refuted told.0
    (all_are_so means (above_all clauses) told clauses (omega arith) say))
