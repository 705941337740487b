-- A watch, in two parts: a change that is never to come, and those in windows.
use Rattle.std.proofs.Common.{inl, inr, ◌≡◌, ◌⊎◌, ◌↔◌, ℕ, ◌≤◌, Bool, true, false, ◌&&◌, cond, refl, arith, List, [], ◌∷◌, map}
use Rattle.std.specs.List.{AllByRecursion}
use Rattle.std.proofs.lemmas.Bool.{and_from, and_parts}
use Rattle.critical_paths.specs.Region.{IsCyclic, some_event}
use Rattle.slack_rows.specs.Slack.{Free, NoNumber, Launches, Finding, Watch, least, finding_after, finding_alone, finding_before}
use Rattle.slack_rows.specs.Limit.{in_windows, finding_never}
use Rattle.slack_rows.specs.Laws.{IsBroken, IsPlaced, IsTouchedWatch, SomeOf, SomeTick}
use Rattle.slack_rows.proofs.Broken.{least_breaks, least_broken}
use Rattle.slack_rows.proofs.Watched.{broken_where_touched, in_some_slot, some_tick}

-- ---- one watch

abbrev pub PartsBreak : ℕ → Launches → Watch → Type 0
PartsBreak p launches watch =
    IsBroken (finding_never p watch)
    ⊎ (IsBroken (finding_before p launches (in_windows watch)) ⊎ IsBroken (finding_after p launches (in_windows watch)))

module _ (p : ℕ) (launches : Launches) (watch : Watch) (long : 2 ≤ p) (cyclic : IsCyclic p watch.changes)
    (placed : AllByRecursion (IsPlaced p) watch.windows) where
  never_breaks : watch.never ≡ true → SomeTick watch.changes → IsBroken (finding_never p watch)
  never_breaks never some = by (watch.never && some_event p watch.changes)
      (and_from watch.never (some_event p watch.changes) never (in_some_slot p watch.changes cyclic long some.tick some.tick (omega (arith, long)) some.is))
    where
      by : (b : Bool) → b ≡ true → IsBroken (cond b (finding_alone NoNumber) (finding_alone Free))
      by true is = refl
      by false is = absurd (cc)

  broken_never : IsBroken (finding_never p watch) → (watch.never ≡ true) × SomeTick watch.changes
  broken_never broken = by (watch.never && some_event p watch.changes) refl broken
    where
      by : (b : Bool) → (watch.never && some_event p watch.changes) ≡ b → IsBroken (cond b (finding_alone NoNumber) (finding_alone Free)) →
          (watch.never ≡ true) × SomeTick watch.changes
      by true is broken =
          let parts = and_parts watch.never (some_event p watch.changes) is in
          (parts.0, some_tick p watch.changes cyclic long parts.1)
      by false is none = absurd (cc)

  pub parts_break : IsTouchedWatch watch ↔ PartsBreak p launches watch
  parts_break =
      let breaks = broken_where_touched p launches (in_windows watch) long cyclic placed in (
        λ touched. elim touched [
          | inl never ↦ inl (never_breaks never.0 never.1)
          | inr some ↦ inr (breaks.1 (inr some))
        ],
        λ broken. elim broken [
          | inl never ↦ inl (broken_never never)
          | inr windows ↦ elim (breaks.0 windows) [ inl none ↦ absurd (cc (none.0)) | inr some ↦ inr some ]
        ],
      )

-- ---- several

module _ {A : Type 0} (P Q : A → Type 0) where
  pub some_first : (xs : List A) → SomeOf P xs → SomeOf (λ x. P x ⊎ Q x) xs
  some_first [] none = none
  some_first (x ∷ xs) (inl here) = inl (inl here)
  some_first (x ∷ xs) (inr more) = inr (some_first xs more)

  pub some_second : (xs : List A) → SomeOf Q xs → SomeOf (λ x. P x ⊎ Q x) xs
  some_second [] none = none
  some_second (x ∷ xs) (inl here) = inl (inr here)
  some_second (x ∷ xs) (inr more) = inr (some_second xs more)

  pub some_either : (xs : List A) → SomeOf (λ x. P x ⊎ Q x) xs → SomeOf P xs ⊎ SomeOf Q xs
  some_either [] none = absurd none
  some_either (x ∷ xs) (inl (inl here)) = inl (inl here)
  some_either (x ∷ xs) (inl (inr here)) = inr (inl here)
  some_either (x ∷ xs) (inr more) = elim (some_either xs more) [ inl some ↦ inl (inr some) | inr some ↦ inr (inr some) ]

-- the least of what is told is broken exactly where one is
pub least_iff : {A : Type 0} (at : A → Finding) (xs : List A) → IsBroken (least (map at xs)) ↔ SomeOf (λ x. IsBroken (at x)) xs
least_iff at xs = (
  λ broken. elim (least_broken at (finding_alone Free) xs broken) [ inl none ↦ absurd (cc) | inr some ↦ some ],
  λ some. least_breaks at (finding_alone Free) xs (inr some),
)
