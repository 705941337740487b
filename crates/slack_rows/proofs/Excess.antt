-- A net makes a step that its assertion does not permit exactly where one of its slacks is broken.
use Rattle.std.proofs.Common.{inl, inr, ◌≡◌, ◌⊎◌, ◌↔◌, ℕ, zero, suc, ◌+◌, ◌<◌, ◌≤◌, Bool, true, false, not, ◌&&◌, ◌||◌, cond, refl, sym, ap, subst, ◌∙◌, arith, List, [], ◌∷◌, ◌++◌, map, Option, Some, None}
use Rattle.std.specs.Prelude.{is_none, is_some}
use Rattle.std.specs.List.{list_any, range_with_len}
use Rattle.std.proofs.lemmas.Bool.{and_from, or_left, or_parts, or_right}
use Rattle.scald_base.specs.Clock.{back}
use Rattle.step_values.specs.declared.value.Value.{Value}
use Rattle.step_values.specs.Steps.{has}
use Rattle.gate_eval.proofs.Found.{first_some_some}
use Rattle.point_check.specs.Window.{Folds}
use Rattle.point_check.specs.Assertion.{exceeds, first_excess}
use Rattle.point_check.proofs.Firsts.{first_some_is}
use Rattle.critical_paths.specs.declared.direction.Direction.{Direction}
use Rattle.critical_paths.specs.declared.direction.Direction.TheVariants.{Rise, Fall, Change}
use Rattle.critical_paths.specs.Event.{Events, events, moves}
use Rattle.critical_paths.specs.Region.{IsCyclic}
use Rattle.critical_paths.proofs.Runs.{not_true}
use Rattle.slack_rows.specs.Slack.{Finding, Watch, least, no_launches, finding_after, finding_before, finding_of}
use Rattle.slack_rows.specs.Limit.{in_windows, steps_outside, finding_never, finding_outside}
use Rattle.slack_rows.specs.Laws.{IsBroken, SomeOf}
use Rattle.slack_rows.proofs.Touching.{IsMet, met_touches, touched_met, watch_about}
use Rattle.slack_rows.proofs.Parts.{PartsBreak, least_iff, parts_break, some_either, some_first, some_second}
use Rattle.slack_rows.proofs.Checkers.{all_placed}
use Rattle.slack_rows.specs.Window.{extent_of}
use Rattle.slack_rows.proofs.Gates.{one_place}

-- ---- lists

map_same : (l : List Finding) → map (λ finding. finding) l ≡ l
map_same [] = refl
map_same (finding ∷ l) = ap (λ rest. finding ∷ rest) (map_same l)

least_list : (l : List Finding) → IsBroken (least l) ↔ SomeOf IsBroken l
least_list l = subst (λ m. IsBroken (least m) ↔ SomeOf IsBroken l) (map_same l) (least_iff (λ finding. finding) l)

module _ {A : Type 0} (P : A → Type 0) where
  some_before : (xs ys : List A) → SomeOf P xs → SomeOf P (xs ++ ys)
  some_before [] ys none = absurd none
  some_before (x ∷ xs) ys (inl here) = inl here
  some_before (x ∷ xs) ys (inr more) = inr (some_before xs ys more)

  some_after : (xs ys : List A) → SomeOf P ys → SomeOf P (xs ++ ys)
  some_after [] ys some = some
  some_after (x ∷ xs) ys some = inr (some_after xs ys some)

  some_of_both : (xs ys : List A) → SomeOf P (xs ++ ys) → SomeOf P xs ⊎ SomeOf P ys
  some_of_both [] ys some = inr some
  some_of_both (x ∷ xs) ys (inl here) = inl (inl here)
  some_of_both (x ∷ xs) ys (inr more) = elim (some_of_both xs ys more) [ inl some ↦ inl (inr some) | inr some ↦ inr some ]

some_turned : {A : Type 0} (P Q : A → Type 0) → ((x : A) → P x → Q x) → (xs : List A) → SomeOf P xs → SomeOf Q xs
some_turned P Q turn [] none = none
some_turned P Q turn (x ∷ xs) (inl here) = inl (turn x here)
some_turned P Q turn (x ∷ xs) (inr more) = inr (some_turned P Q turn xs more)

map_some_of : {A B : Type 0} (P : B → Type 0) (f : A → B) (xs : List A) → SomeOf (λ x. P (f x)) xs → SomeOf P (map f xs)
map_some_of P f [] none = none
map_some_of P f (x ∷ xs) (inl here) = inl here
map_some_of P f (x ∷ xs) (inr more) = inr (map_some_of P f xs more)

some_of_map : {A B : Type 0} (P : B → Type 0) (f : A → B) (xs : List A) → SomeOf P (map f xs) → SomeOf (λ x. P (f x)) xs
some_of_map P f [] none = none
some_of_map P f (x ∷ xs) (inl here) = inl here
some_of_map P f (x ∷ xs) (inr more) = inr (some_of_map P f xs more)

-- ---- what one permits and the other does not

either : (a b : Bool) → (a || b) ≡ true → (a ≡ true) ⊎ (b ≡ true)
either true b is = inl refl
either false b is = inr is

rise_exceeds : (v w : Value) → has v false true ≡ true → has w false true ≡ false → exceeds v w ≡ true
rise_exceeds v w here none =
    or_left ((has v false false && not (has w false false)) || (has v false true && not (has w false true)))
    ((has v true false && not (has w true false)) || (has v true true && not (has w true true)))
    (or_right (has v false false && not (has w false false)) (has v false true && not (has w false true))
    (and_from (has v false true) (not (has w false true)) here (ap not none)))

fall_exceeds : (v w : Value) → has v true false ≡ true → has w true false ≡ false → exceeds v w ≡ true
fall_exceeds v w here none =
    or_right ((has v false false && not (has w false false)) || (has v false true && not (has w false true)))
    ((has v true false && not (has w true false)) || (has v true true && not (has w true true)))
    (or_left (has v true false && not (has w true false)) (has v true true && not (has w true true))
    (and_from (has v true false) (not (has w true false)) here (ap not none)))

moves_exceed : (d : Direction) (v w : Value) → moves d (has v) ≡ true → moves d (has w) ≡ false → exceeds v w ≡ true
moves_exceed Rise v w here none = rise_exceeds v w here none
moves_exceed Fall v w here none = fall_exceeds v w here none
moves_exceed Change v w here none =
    let parts = or_parts (has w false true) (has w true false) none in
    elim (either (has v false true) (has v true false) here) [
      | inl rise ↦ rise_exceeds v w rise parts.0
      | inr fall ↦ fall_exceeds v w fall parts.1
    ]

pub record IsExceeded (p : ℕ) (found wide : Folds) : Type 0 where
  pub slot : ℕ
  pub below : slot < p
  pub is : exceeds (found slot) (wide slot) ≡ true

some_is : {A : Type 0} (o : Option A) → is_none o ≡ false → is_some o ≡ true
some_is None none = absurd (cc)
some_is (Some x) some = refl

kept : (b : Bool) (i j : ℕ) → cond b (Some i) None ≡ Some j → b ≡ true
kept true i j is = refl
kept false i j is = absurd (cc)

module _ (p : ℕ) (found wide : Folds) where
  pub excess_exceeded : is_some (first_excess p found wide) ≡ true → IsExceeded p found wide
  excess_exceeded some = by (first_excess p found wide) refl some
    where
      by : (o : Option ℕ) → first_excess p found wide ≡ o → is_some o ≡ true → IsExceeded p found wide
      by None is none = absurd (cc)
      by (Some s) is some =
          let first = first_some_is (λ t. cond (exceeds (found t) (wide t)) (Some t) None) p 0 s is in
          let below = first.below in
          record { slot = first.at; below = omega (arith, below); is = kept (exceeds (found first.at) (wide first.at)) first.at s first.is }

  pub exceeded_excess : IsExceeded p found wide → is_some (first_excess p found wide) ≡ true
  exceeded_excess e =
      let below = e.below in
      some_is (first_excess p found wide)
      (first_some_some (λ t. cond (exceeds (found t) (wide t)) (Some t) None) p 0 e.slot (omega arith) (omega (arith, below))
      (ap (λ (b : Bool). is_none (cond b (Some e.slot) None)) e.is))

-- ---- steps outside

abbrev pub outside : Folds → Folds → ℕ → Bool
outside found wide t =
    (has (found t) false true && not (has (wide t) false true)) || (has (found t) true false && not (has (wide t) true false))

pub record IsOutside (p : ℕ) (found wide : Folds) : Type 0 where
  pub slot : ℕ
  pub below : slot < p
  pub is : outside found wide slot ≡ true

any_within : (test : ℕ → Bool) (n i p : ℕ) → i + n ≤ p → list_any test (range_with_len i n) ≡ true → (t : ℕ) × (t < p) × (test t ≡ true)
any_within test zero i p most none = absurd (cc)
any_within test (suc n) i p most some =
    by (either (test i) (list_any test (range_with_len (i + 1) n)) some) (λ more. any_within test n (i + 1) p (omega (arith, most)) more)
  where
    by : ((test i ≡ true) ⊎ (list_any test (range_with_len (i + 1) n) ≡ true)) →
        (list_any test (range_with_len (i + 1) n) ≡ true → (t : ℕ) × (t < p) × (test t ≡ true)) → (t : ℕ) × (t < p) × (test t ≡ true)
    by (inl here) rest = (i, omega (arith, most), here)
    by (inr more) rest = rest more

-- ---- by the directions of an assertion

module _ (p : ℕ) (long : 2 ≤ p) (found wide : Folds) (found_cyclic : (t : ℕ) → found (t + p) ≡ found t)
    (wide_cyclic : (t : ℕ) → wide (t + p) ≡ wide t) where
  abbrev forbidden : Direction → Events
  forbidden d t = not (moves d (has (wide t)))

  abbrev changes : Direction → Events
  changes d = events d found

  forbidden_cyclic : (d : Direction) → IsCyclic p (forbidden d)
  forbidden_cyclic d t = ap (λ v. not (moves d (has v))) (wide_cyclic t)

  changes_cyclic : (d : Direction) → IsCyclic p (changes d)
  changes_cyclic d t = ap (λ v. moves d (has v)) (found_cyclic t)

  abbrev pub IsMetBy : Direction → Type 0
  IsMetBy d = IsMet p (extent_of 1 0) (forbidden d) (changes d)

  abbrev watch : Direction → Watch
  watch d = watch_about p (extent_of 1 0) (forbidden d) (changes d)

  pub step_met : (d : Direction) (t : ℕ) → t < p → moves d (has (found t)) ≡ true → moves d (has (wide t)) ≡ false → IsMetBy d
  step_met d t below here none =
      record {
        tick = t;
        below = below;
        edge = ap not none;
        place = 0;
        within = omega arith;
        change = ap (changes d) (one_place p t below) ∙ here;
      }

  met_exceeds : (d : Direction) → IsMetBy d → IsExceeded p found wide
  met_exceeds d met =
      let within = met.within in
      let first : met.place ≡ 0 = omega (arith, within) in
      record {
        slot = met.tick;
        below = met.below;
        is = moves_exceed d (found met.tick) (wide met.tick)
            (ap (changes d) (sym (ap (λ (place : ℕ). back p (met.tick + 1 + place) 1) first ∙ one_place p met.tick met.below)) ∙ met.change)
            (not_true (moves d (has (wide met.tick))) met.edge);
      }

  abbrev Parts : Direction → Type 0
  Parts d = PartsBreak p no_launches (watch d)

  met_breaks : (d : Direction) → IsMetBy d → Parts d
  met_breaks d met =
      (parts_break p no_launches (watch d) long (changes_cyclic d) (all_placed p (forbidden d) (extent_of 1 0) (omega arith) (omega (arith, long)))).0
      (met_touches p long (forbidden d) (changes d) (forbidden_cyclic d) (changes_cyclic d) (extent_of 1 0) (omega (arith, long)) met)

  breaks_met : (d : Direction) → Parts d → IsMetBy d
  breaks_met d parts =
      touched_met p long (forbidden d) (changes d) (forbidden_cyclic d) (changes_cyclic d) (extent_of 1 0) (omega (arith, long)) (omega arith)
      ((parts_break p no_launches (watch d) long (changes_cyclic d) (all_placed p (forbidden d) (extent_of 1 0) (omega arith) (omega (arith, long)))).1 parts)

  -- what is told by each direction
  abbrev never : Direction → Finding
  never d = finding_of 0 d (finding_never p (watch d))

  abbrev before : Direction → Finding
  before d = finding_of 0 d (finding_before p no_launches (in_windows (watch d)))

  abbrev after : Direction → Finding
  after d = finding_of 0 d (finding_after p no_launches (in_windows (watch d)))

  abbrev level : Finding
  level = finding_outside (steps_outside p found wide) (first_excess p found wide)

  abbrev pub BreakBy : List Direction → Type 0
  BreakBy ds =
      (is_some (first_excess p found wide) ≡ true)
      ↔ (IsBroken (least (map never ds ++ level ∷ [])) ⊎ (IsBroken (least (map before ds)) ⊎ IsBroken (least (map after ds))))

  parts_finding : (ds : List Direction) → SomeOf Parts ds →
      IsBroken (least (map never ds ++ level ∷ [])) ⊎ (IsBroken (least (map before ds)) ⊎ IsBroken (least (map after ds)))
  parts_finding ds parts =
      elim (some_either (λ d. IsBroken (never d)) (λ d. IsBroken (before d) ⊎ IsBroken (after d)) ds parts) [
        | inl some ↦ inl ((least_list (map never ds ++ level ∷ [])).1
            (some_before IsBroken (map never ds) (level ∷ []) (map_some_of IsBroken never ds some)))
        | inr windows ↦ inr (elim (some_either (λ d. IsBroken (before d)) (λ d. IsBroken (after d)) ds windows) [
          | inl some ↦ inl ((least_iff before ds).1 some)
          | inr some ↦ inr ((least_iff after ds).1 some)
        ])
      ]

  level_broken : (b : Bool) (o : Option ℕ) → is_some o ≡ true → b ≡ false → IsBroken (finding_outside b o)
  level_broken true o some is = absurd (cc)
  level_broken false None none is = absurd (cc)
  level_broken false (Some t) some is = refl

  broken_level : (b : Bool) (o : Option ℕ) → IsBroken (finding_outside b o) → is_some o ≡ true
  broken_level true o none = absurd (cc)
  broken_level false None none = absurd (cc)
  broken_level false (Some t) broken = refl

  pub excess_breaks : (ds : List Direction) → ((t : ℕ) → t < p → outside found wide t ≡ true → SomeOf IsMetBy ds) → BreakBy ds
  excess_breaks ds covers = (
    λ some. finding some (steps_outside p found wide) refl,
    λ broken. elim broken [
      | inl assert ↦ elim (some_of_both IsBroken (map never ds) (level ∷ []) ((least_list (map never ds ++ level ∷ [])).0 assert)) [
        | inl some ↦ met_excess (some_turned Parts IsMetBy breaks_met ds
            (some_first (λ d. IsBroken (never d)) (λ d. IsBroken (before d) ⊎ IsBroken (after d)) ds (some_of_map IsBroken never ds some)))
        | inr last ↦ elim last [
          | inl here ↦ broken_level (steps_outside p found wide) (first_excess p found wide) here
          | inr none ↦ absurd none
        ]
      ]
      | inr windows ↦ met_excess (some_turned Parts IsMetBy breaks_met ds
          (some_second (λ d. IsBroken (never d)) (λ d. IsBroken (before d) ⊎ IsBroken (after d)) ds (elim windows [
            | inl some ↦ some_first (λ d. IsBroken (before d)) (λ d. IsBroken (after d)) ds ((least_iff before ds).0 some)
            | inr some ↦ some_second (λ d. IsBroken (before d)) (λ d. IsBroken (after d)) ds ((least_iff after ds).0 some)
          ])))
    ],
  )
    where
      met_of : (ds : List Direction) → SomeOf IsMetBy ds → IsExceeded p found wide
      met_of [] none = absurd none
      met_of (d ∷ ds) (inl met) = met_exceeds d met
      met_of (d ∷ ds) (inr more) = met_of ds more

      met_excess : SomeOf IsMetBy ds → is_some (first_excess p found wide) ≡ true
      met_excess some = exceeded_excess p found wide (met_of ds some)

      finding : is_some (first_excess p found wide) ≡ true → (b : Bool) → steps_outside p found wide ≡ b →
          IsBroken (least (map never ds ++ level ∷ [])) ⊎ (IsBroken (least (map before ds)) ⊎ IsBroken (least (map after ds)))
      finding some true is =
          let (t, below, here) = any_within (outside found wide) p 0 p (omega arith) is in
          parts_finding ds (some_turned IsMetBy Parts met_breaks ds (covers t below here))
      finding some false is =
          inl ((least_list (map never ds ++ level ∷ [])).1 (some_after IsBroken (map never ds) (level ∷ [])
          (inl (level_broken (steps_outside p found wide) (first_excess p found wide) some is))))
