-- The least of several is broken exactly where one of them is.
use Rattle.std.proofs.Common.{inl, inr, ◌≡◌, ◌⊎◌, Bool, true, false, cond, refl, sym, ◌∙◌, List, [], ◌∷◌, map}
use Rattle.slack_rows.specs.Slack.{Slack, Finding, is_fewer, is_less, is_broken, least_from}
use Rattle.slack_rows.specs.Laws.{SomeOf}

-- ---- the least

pub less_breaks : (a b : Slack) → is_less a b ≡ true → is_broken b ≡ true → is_broken a ≡ true
less_breaks a b less broken = by (is_broken a) refl
  where
    by : (x : Bool) → is_broken a ≡ x → is_broken a ≡ true
    by true is = is
    by false is =
        let no : is_less a b ≡ false =
        (λ i. cond (is i) (cond (broken i) (is_fewer a b) true) (cond (broken i) false (is_fewer a b))) in
        absurd (cc (sym no ∙ less))

pub more_breaks : (a b : Slack) → is_less a b ≡ false → is_broken a ≡ true → is_broken b ≡ true
more_breaks a b more broken = by (is_broken b) refl
  where
    by : (x : Bool) → is_broken b ≡ x → is_broken b ≡ true
    by true is = is
    by false is =
        let yes : is_less a b ≡ true =
        (λ i. cond (broken i) (cond (is i) (is_fewer a b) true) (cond (is i) false (is_fewer a b))) in
        absurd (cc (sym yes ∙ more))

module _ {A : Type 0} (at : A → Finding) where
  abbrev pub BrokenAt : A → Type 0
  BrokenAt w = is_broken (at w).slack ≡ true

  -- where the first is broken, or one of the others is, the least is
  pub least_breaks : (best : Finding) (windows : List A) → (is_broken best.slack ≡ true) ⊎ SomeOf BrokenAt windows →
      is_broken (least_from best (map at windows)).slack ≡ true
  least_breaks best [] (inl broken) = broken
  least_breaks best [] (inr none) = absurd none
  least_breaks best (v ∷ windows) found =
      by (is_less (at v).slack best.slack) refl found (λ next some. least_breaks next windows some)
    where
      by : (b : Bool) → is_less (at v).slack best.slack ≡ b → (is_broken best.slack ≡ true) ⊎ SomeOf BrokenAt (v ∷ windows) →
          ((next : Finding) → (is_broken next.slack ≡ true) ⊎ SomeOf BrokenAt windows → is_broken (least_from next (map at windows)).slack ≡ true) →
          is_broken (cond b (least_from (at v) (map at windows)) (least_from best (map at windows))).slack ≡ true
      by true is (inl broken) rest = rest (at v) (inl (less_breaks (at v).slack best.slack is broken))
      by true is (inr (inl broken)) rest = rest (at v) (inl broken)
      by true is (inr (inr more)) rest = rest (at v) (inr more)
      by false is (inl broken) rest = rest best (inl broken)
      by false is (inr (inl broken)) rest = rest best (inl (more_breaks (at v).slack best.slack is broken))
      by false is (inr (inr more)) rest = rest best (inr more)

  -- where the least is broken, the first is or one of the others
  pub least_broken : (best : Finding) (windows : List A) → is_broken (least_from best (map at windows)).slack ≡ true →
      (is_broken best.slack ≡ true) ⊎ SomeOf BrokenAt windows
  least_broken best [] broken = inl broken
  least_broken best (v ∷ windows) broken =
      by (is_less (at v).slack best.slack) broken (λ next is. least_broken next windows is)
    where
      by : (b : Bool) → is_broken (cond b (least_from (at v) (map at windows)) (least_from best (map at windows))).slack ≡ true →
          ((next : Finding) → is_broken (least_from next (map at windows)).slack ≡ true → (is_broken next.slack ≡ true) ⊎ SomeOf BrokenAt windows) →
          (is_broken best.slack ≡ true) ⊎ SomeOf BrokenAt (v ∷ windows)
      by true is rest = elim (rest (at v) is) [ inl first ↦ inr (inl first) | inr more ↦ inr (inr more) ]
      by false is rest = elim (rest best is) [ inl first ↦ inl first | inr more ↦ inr (inr more) ]
