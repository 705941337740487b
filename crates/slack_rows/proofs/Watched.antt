-- A watch is broken exactly where data may change in one of its windows, or at all where it is never to.
use Rattle.std.proofs.Common.{inl, inr, ◌≡◌, ◌⊎◌, ℕ, zero, suc, ◌+◌, ◌-◌, ◌<◌, ◌≤◌, Bool, true, false, not, ◌&&◌, ◌||◌, cond, refl, sym, ap, ◌∙◌, arith, List, [], ◌∷◌, map, Option, Some, None}
use Rattle.std.specs.Prelude.{ℤ, is_some, is_none}
use Rattle.std.specs.List.{AllByRecursion}
use Rattle.std.proofs.lemmas.Bool.{cases_lt}
use Rattle.slack_rows.specs.Slack.{Free, Launches, Finding, Watch, is_broken, before_window, after_window, is_met, least, finding_alone, finding_by, without_number, finding_before, finding_after}
use Rattle.critical_paths.specs.Event.{Events}
use Rattle.critical_paths.specs.Region.{IsCyclic, first_from, some_event, all_events}
use Rattle.slack_rows.specs.Window.{Window}
use Rattle.slack_rows.specs.Laws.{BrokenWhereTouched, IsBroken, IsPlaced, IsTouched, IsTouchedWatch, SomeOf, SomeTick}
use Rattle.critical_paths.proofs.Searches.{first_is, first_none, first_up_to}
use Rattle.critical_paths.proofs.Runs.{not_true}
use Rattle.slack_rows.proofs.Broken.{least_breaks, least_broken}
use Rattle.slack_rows.proofs.Windows.{before_touches, after_touches, touched_breaks}

module _ (p : ℕ) (ev : Events) (cyclic : IsCyclic p ev) (long : 2 ≤ p) where
  a_period_before : (t : ℕ) → p ≤ t → ev t ≡ ev (t - p)
  a_period_before t deep = let at : t ≡ t - p + p = omega (arith, deep) in ap ev at ∙ cyclic (t - p)

  -- events in all slots are at every tick
  pub every : all_events p ev ≡ true → (n t : ℕ) → t < p + n → ev t ≡ true
  every all zero t below = by (first_from (λ u. not (ev u)) p 0) refl all
    where
      by : (o : Option ℕ) → first_from (λ u. not (ev u)) p 0 ≡ o → is_none o ≡ true → ev t ≡ true
      by None is none = opened (ev t) (first_none (λ u. not (ev u)) p 0 is t (omega arith) (omega (arith, below)))
        where
          opened : (b : Bool) → not b ≡ false → b ≡ true
          opened true e = refl
          opened false e = absurd (cc)
      by (Some u) is none = absurd (cc)
  every all (suc n) t below = elim (cases_lt t (p + n)) [
    | inl less ↦ every all n t less
    | inr more ↦ a_period_before t (omega (arith, more)) ∙ every all n (t - p) (omega (arith, below, more, long))
  ]

  -- where not all have one, some slot has none
  pub some_gap : all_events p ev ≡ false → (z : ℕ) × (ev z ≡ false) × (z < p)
  some_gap all = by (first_from (λ u. not (ev u)) p 0) refl all
    where
      by : (o : Option ℕ) → first_from (λ u. not (ev u)) p 0 ≡ o → is_none o ≡ false → (z : ℕ) × (ev z ≡ false) × (z < p)
      by None is none = absurd (cc)
      by (Some z) is none =
          let found = first_is (λ u. not (ev u)) p 0 z is in
          let below = found.below in
          (z, not_true (ev z) found.passes, omega (arith, below))

  -- an event at a tick is one in a slot
  pub in_some_slot : (n t : ℕ) → t < p + n → ev t ≡ true → some_event p ev ≡ true
  in_some_slot zero t below here =
      let found = first_up_to ev p 0 t (omega arith) (omega (arith, below)) here in
      ap (λ (o : Option ℕ). is_some o) found.is
  in_some_slot (suc n) t below here = elim (cases_lt t (p + n)) [
    | inl less ↦ in_some_slot n t less here
    | inr more ↦ in_some_slot n (t - p) (omega (arith, below, more, long)) (sym (a_period_before t (omega (arith, more))) ∙ here)
  ]

  pub some_tick : some_event p ev ≡ true → SomeTick ev
  some_tick some = by (first_from ev p 0) refl some
    where
      by : (o : Option ℕ) → first_from ev p 0 ≡ o → is_some o ≡ true → SomeTick ev
      by None is none = absurd (cc)
      by (Some t) is none = let found = first_is ev p 0 t is in record { tick = t; is = found.passes }

-- ---- what breaks

-- without a number of the wave it is broken
number_breaks : (never : Bool) (way : Option ℤ) → is_broken (without_number never way) ≡ true
number_breaks true way = refl
number_breaks false None = refl
number_breaks false (Some n) = refl

-- it is never to change; or a change may come in every slot, and there is a window; or a window is broken
data Cause (never : Bool) (all : Bool) (at : Window → Finding) (windows : List Window) : Type 0 where
  by_never : never ≡ true → Cause never all at windows
  by_all : (w : Window) (more : List Window) → all ≡ true → windows ≡ w ∷ more → Cause never all at windows
  by_window : SomeOf (λ w. is_broken (at w).slack ≡ true) windows → Cause never all at windows

cause : (way : Option ℤ) (never all some : Bool) (at : Window → Finding) (windows : List Window) →
    IsBroken (cond (some && is_met windows never) (cond (all || never) (finding_alone (without_number never way)) (least (map at windows))) (finding_alone Free)) →
    (some ≡ true) × Cause never all at windows
cause way never all false at windows broken = absurd (cc)
cause way true all true at windows broken = (refl, by_never refl)
cause way false all true at [] broken = absurd (cc)
cause way false true true at (w ∷ windows) broken = (refl, by_all w windows refl refl)
cause way false false true at (w ∷ windows) broken = elim (least_broken at (finding_alone Free) (w ∷ windows) broken) [
  | inl none ↦ absurd (cc)
  | inr some ↦ (refl, by_window some)
]

some_of : {A : Type 0} (P Q : A → Type 0) (placed : A → Type 0) → ((a : A) → placed a → P a → Q a) → (xs : List A) → AllByRecursion placed xs → SomeOf P xs → SomeOf Q xs
some_of P Q placed turn [] all none = none
some_of P Q placed turn (x ∷ xs) all (inl here) = inl (turn x all.0 here)
some_of P Q placed turn (x ∷ xs) all (inr more) = inr (some_of P Q placed turn xs all.1 more)

either_of : {A : Type 0} (P Q R : A → Type 0) (placed : A → Type 0) → ((a : A) → placed a → R a → P a ⊎ Q a) → (xs : List A) → AllByRecursion placed xs → SomeOf R xs → SomeOf P xs ⊎ SomeOf Q xs
either_of P Q R placed turn [] all none = inl none
either_of P Q R placed turn (x ∷ xs) all (inl here) = elim (turn x all.0 here) [ inl a ↦ inl (inl a) | inr b ↦ inr (inl b) ]
either_of P Q R placed turn (x ∷ xs) all (inr more) = elim (either_of P Q R placed turn xs all.1 more) [ inl a ↦ inl (inr a) | inr b ↦ inr (inr b) ]

not_empty : {A : Type 0} (P : A → Type 0) (ws : List Window) (never : Bool) (Q : Window → Type 0) → SomeOf Q ws → is_met ws never ≡ true
not_empty P [] never Q none = absurd none
not_empty P (w ∷ ws) true Q some = refl
not_empty P (w ∷ ws) false Q some = refl

module _ (p : ℕ) (launches : Launches) (watch : Watch) (long : 2 ≤ p) (cyclic : IsCyclic p watch.changes) (placed : AllByRecursion (IsPlaced p) watch.windows) where
  abbrev ev : Events
  ev = watch.changes

  abbrev before : Window → Finding
  before w = before_window p ev launches w

  abbrev after : Window → Finding
  after w = after_window p ev launches w

  touched_by : (way : Option ℤ) (at : Window → Finding) → ((w : Window) → IsPlaced p w → is_broken (at w).slack ≡ true → IsTouched ev w) →
      IsBroken (finding_by at way p watch) → IsTouchedWatch watch
  touched_by way at touches broken =
      by (cause way watch.never (all_events p ev) (some_event p ev) at watch.windows broken)
    where
      here : (ws : List Window) (w : Window) (more : List Window) → ws ≡ w ∷ more → AllByRecursion (IsPlaced p) ws → all_events p ev ≡ true → SomeOf (IsTouched ev) ws
      here [] w more is all every_slot = absurd (cc)
      here (v ∷ ws) w more is all every_slot =
          let some = all.0.some in
          inl record {
            tick = v.opens + 1;
            after = omega arith;
            within = omega (arith, some);
            is = every p ev cyclic long every_slot (v.opens + 1) (v.opens + 1) (omega (arith, long));
          }

      by : (some_event p ev ≡ true) × Cause watch.never (all_events p ev) at watch.windows → IsTouchedWatch watch
      by (some, by_never never) = inl (never, some_tick p ev cyclic long some)
      by (some, by_all w more all is) = inr (here watch.windows w more is placed all)
      by (some, by_window found) = inr (some_of (λ w. is_broken (at w).slack ≡ true) (IsTouched ev) (IsPlaced p) touches watch.windows placed found)

  breaks_never : watch.never ≡ true → SomeTick ev → (way : Option ℤ) (at : Window → Finding) → IsBroken (finding_by at way p watch)
  breaks_never never some way at =
      let event = in_some_slot p ev cyclic long some.tick some.tick (omega (arith, long)) some.is in
      by (some_event p ev) event (all_events p ev) watch.never never
    where
      by : (a : Bool) → a ≡ true → (b n : Bool) → n ≡ true →
          IsBroken (cond (a && is_met watch.windows n) (cond (b || n) (finding_alone (without_number n way)) (least (map at watch.windows))) (finding_alone Free))
      by false h b n h' = absurd (cc)
      by true h b false h' = absurd (cc)
      by true h true true h' = refl
      by true h false true h' = refl

  breaks_some : SomeOf (IsTouched ev) watch.windows → IsBroken (finding_before p launches watch) ⊎ IsBroken (finding_after p launches watch)
  breaks_some found =
      by (some_event p ev) (some_slot watch.windows found) (all_events p ev) refl (is_met watch.windows watch.never) (not_empty (IsTouched ev) watch.windows watch.never (IsTouched ev) found) watch.never
    where
      some_slot : (ws : List Window) → SomeOf (IsTouched ev) ws → some_event p ev ≡ true
      some_slot [] none = absurd none
      some_slot (w ∷ ws) (inl touched) = in_some_slot p ev cyclic long touched.tick touched.tick (omega (arith, long)) touched.is
      some_slot (w ∷ ws) (inr more) = some_slot ws more

      by : (a : Bool) → a ≡ true → (b : Bool) → all_events p ev ≡ b → (m : Bool) → m ≡ true → (n : Bool) →
          IsBroken (cond (a && m) (cond (b || n) (finding_alone (without_number n launches.last_way)) (least (map before watch.windows))) (finding_alone Free))
          ⊎ IsBroken (cond (a && m) (cond (b || n) (finding_alone (without_number n launches.first_way)) (least (map after watch.windows))) (finding_alone Free))
      by false h b is m h' n = absurd (cc)
      by true h b is false h' n = absurd (cc)
      by true h true is true h' n = inl (number_breaks n launches.last_way)
      by true h false is true h' true = inl refl
      by true h false is true h' false =
          let (z, none, below) = some_gap p ev cyclic long is in
          elim (either_of (λ w. is_broken (before w).slack ≡ true) (λ w. is_broken (after w).slack ≡ true) (IsTouched ev) (IsPlaced p)
          (λ w at touched. touched_breaks p ev cyclic long launches w z none below at touched) watch.windows placed found) [
            | inl some ↦ inl (least_breaks before (finding_alone Free) watch.windows (inr some))
            | inr some ↦ inr (least_breaks after (finding_alone Free) watch.windows (inr some))
          ]

pub broken_where_touched : BrokenWhereTouched
broken_where_touched p launches watch long cyclic placed = (
  λ broken. elim broken [
    | inl before ↦ touched_by p launches watch long cyclic placed launches.last_way (before_window p watch.changes launches)
        (λ w at. before_touches p watch.changes cyclic long launches w at.some) before
    | inr after ↦ touched_by p launches watch long cyclic placed launches.first_way (after_window p watch.changes launches)
        (λ w at. after_touches p watch.changes cyclic long launches w at.some) after
  ],
  λ touched. elim touched [
    | inl never ↦ inl (breaks_never p launches watch long cyclic placed never.0 never.1 launches.last_way (before_window p watch.changes launches))
    | inr some ↦ breaks_some p launches watch long cyclic placed some
  ],
)
