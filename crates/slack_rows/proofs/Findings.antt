-- What is told of the least of several, one after another.
use Rattle.std.proofs.Common.{◌≡◌, ℕ, ◌+◌, Bool, true, false, cond, refl, sym, ap, subst, ◌∙◌, zero-add, List, [], ◌∷◌, ◌++◌, map, Option, Some, None}
use Rattle.std.specs.Prelude.{filter}
use Rattle.std.specs.List.{range_with_len}
use Rattle.std.proofs.lemmas.List.{map-append}
use Rattle.vector_names.proofs.Ranges.{range_more}
use Rattle.critical_paths.specs.declared.direction.Direction.{Direction}
use Rattle.critical_paths.specs.declared.direction.Direction.TheVariants.{Change}
use Rattle.critical_paths.specs.Event.{Events}
use Rattle.slack_rows.specs.Limit.{least_still, finding_still}
use Rattle.slack_rows.specs.declared.slack.Finding.{Finding as Found}
use Rattle.slack_rows.specs.Slack.{Free, Finding, is_less, least, least_from, lesser, finding_alone, finding_of}
use Rattle.slack_rows.specs.Views.{Tells, lesser_found, slack_finding}
use Rattle.slack_rows.proofs.Kept.{filter_more}

-- ---- two

pub finding_slack : (p : ℕ) (found : Option Found) (finding : Finding) → Tells p found finding → slack_finding found ≡ finding.slack
finding_slack p None finding tells = sym tells
finding_slack p (Some f) finding tells = ap (λ (t : Finding). t.slack) (sym tells.is)

pub tells_lesser : (p : ℕ) (best found : Option Found) (a b : Finding) → Tells p best a → Tells p found b → Tells p (lesser_found best found) (lesser a b)
tells_lesser p best found a b first second =
    by (is_less (slack_finding found) (slack_finding best)) (is_less b.slack a.slack)
    (λ i. is_less (finding_slack p found b second i) (finding_slack p best a first i))
  where
    by : (x y : Bool) → x ≡ y → Tells p (cond x found best) (cond y b a)
    by true true same = second
    by false false same = first
    by true false same = absurd (cc)
    by false true same = absurd (cc)

-- by this pin and this direction
pub lesser_of : (pin : ℕ) (direction : Direction) (a b : Finding) → lesser (finding_of pin direction a) (finding_of pin direction b) ≡ finding_of pin direction (lesser a b)
lesser_of pin direction a b = by (is_less b.slack a.slack)
  where
    by : (x : Bool) → cond x (finding_of pin direction b) (finding_of pin direction a) ≡ finding_of pin direction (cond x b a)
    by true = refl
    by false = refl

-- ---- several

pub least_from_more : (best : Finding) (findings : List Finding) (finding : Finding) →
    least_from best (findings ++ finding ∷ []) ≡ lesser (least_from best findings) finding
least_from_more best [] finding = refl
least_from_more best (first ∷ findings) finding =
    by (is_less first.slack best.slack) (least_from_more first findings finding) (least_from_more best findings finding)
  where
    by : (b : Bool) → least_from first (findings ++ finding ∷ []) ≡ lesser (least_from first findings) finding →
        least_from best (findings ++ finding ∷ []) ≡ lesser (least_from best findings) finding →
        cond b (least_from first (findings ++ finding ∷ [])) (least_from best (findings ++ finding ∷ []))
        ≡ lesser (cond b (least_from first findings) (least_from best findings)) finding
    by true one other = one
    by false one other = other

pub least_more : (findings : List Finding) (finding : Finding) → least (findings ++ finding ∷ []) ≡ lesser (least findings) finding
least_more findings finding = least_from_more (finding_alone Free) findings finding

-- of one thing more
pub least_map_more : {A : Type 0} (at : A → Finding) (xs : List A) (x : A) → least (map at (xs ++ x ∷ [])) ≡ lesser (least (map at xs)) (at x)
least_map_more at xs x = ap least (map-append at xs (x ∷ [])) ∙ least_more (map at xs) (at x)

-- of one number more, where it passes
pub least_passing_more : (at : ℕ → Finding) (test : ℕ → Bool) (n : ℕ) →
    least (map at (filter test (range_with_len 0 (n + 1))))
    ≡ cond (test n) (lesser (least (map at (filter test (range_with_len 0 n)))) (at n)) (least (map at (filter test (range_with_len 0 n))))
least_passing_more at test n =
    ap (λ (xs : List ℕ). least (map at (filter test xs))) (range_more 0 n n (zero-add n))
    ∙ ap (λ (xs : List ℕ). least (map at xs)) (filter_more test (range_with_len 0 n) n)
    ∙ by (test n)
  where
    append_none : (xs : List ℕ) → xs ++ [] ≡ xs
    append_none [] = refl
    append_none (x ∷ xs) = ap (λ (ys : List ℕ). x ∷ ys) (append_none xs)

    by : (b : Bool) → least (map at (filter test (range_with_len 0 n) ++ cond b (n ∷ []) []))
        ≡ cond b (lesser (least (map at (filter test (range_with_len 0 n)))) (at n)) (least (map at (filter test (range_with_len 0 n))))
    by true = least_map_more at (filter test (range_with_len 0 n)) n
    by false = ap (λ (xs : List ℕ). least (map at xs)) (append_none (filter test (range_with_len 0 n)))

-- ---- quiet slots about the slots of a clock

module _ (p : ℕ) (still : ℕ → Option ℕ) (clock : Events) where
  abbrev so_far : ℕ → Finding
  so_far n = least (map (λ t. finding_still (still t)) (filter clock (range_with_len 0 n)))

  pub still_more : (slot : ℕ) (best found next : Option Found) → clock slot ≡ true → Tells p best (finding_of 1 Change (so_far slot)) →
      Tells p found (finding_of 1 Change (finding_still (still slot))) → next ≡ lesser_found best found → Tells p next (finding_of 1 Change (so_far (slot + 1)))
  still_more slot best found next passes before here is =
      subst (λ (o : Option Found). Tells p o (finding_of 1 Change (so_far (slot + 1)))) (sym is)
      (subst (λ (finding : Finding). Tells p (lesser_found best found) finding)
      (lesser_of 1 Change (so_far slot) (finding_still (still slot))
      ∙ ap (finding_of 1 Change)
      (sym (least_passing_more (λ t. finding_still (still t)) clock slot
      ∙ ap (λ (b : Bool). cond b (lesser (so_far slot) (finding_still (still slot))) (so_far slot)) passes)))
      (tells_lesser p best found (finding_of 1 Change (so_far slot)) (finding_of 1 Change (finding_still (still slot))) before here))

  pub still_same : (slot : ℕ) (best next : Option Found) → clock slot ≡ false → Tells p best (finding_of 1 Change (so_far slot)) →
      next ≡ best → Tells p next (finding_of 1 Change (so_far (slot + 1)))
  still_same slot best next stays before is =
      subst (λ (o : Option Found). Tells p o (finding_of 1 Change (so_far (slot + 1)))) (sym is)
      (subst (λ (finding : Finding). Tells p best finding)
      (ap (finding_of 1 Change)
      (sym (least_passing_more (λ t. finding_still (still t)) clock slot
      ∙ ap (λ (b : Bool). cond b (lesser (so_far slot) (finding_still (still slot))) (so_far slot)) stays)))
      before)

  pub still_end : (slot : ℕ) (best : Option Found) → slot ≡ p → Tells p best (finding_of 1 Change (so_far slot)) →
      Tells p best (finding_of 1 Change (least_still still p clock))
  still_end slot best at known = subst (λ (n : ℕ). Tells p best (finding_of 1 Change (so_far n))) at known
