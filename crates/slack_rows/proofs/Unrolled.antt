-- Regions of several periods are those of one, moved by whole periods.
use Rattle.std.proofs.Common.{◌≡◌, ℕ, zero, suc, ◌+◌, ◌-◌, ◌*◌, Bool, true, false, not, ◌&&◌, cond, refl, ap, ◌∙◌, arith, List, [], ◌∷◌, ◌++◌, map, Option, Some, None}
use Rattle.std.specs.Prelude.{filter, unwrap_or}
use Rattle.std.specs.List.{range_with_len}
use Rattle.std.specs.Option.{option_map}
use Rattle.std.proofs.lemmas.List.{map-append}
use Rattle.std.proofs.lemmas.List.Elements.{filter-append}
use Rattle.critical_paths.specs.Event.{Events, is_first, is_last}
use Rattle.critical_paths.specs.Region.{IsCyclic, Region, first_from, region_from, regions, regions_from}
use Rattle.slack_rows.proofs.Cycles.{periods_on}

-- so many ticks later
abbrev pub moved_region : ℕ → Region → Region
moved_region s r = record { first = s + r.first; last = s + r.last }

-- ---- ranges

range_from : (a b n : ℕ) → a ≡ b → range_with_len a n ≡ range_with_len b n
range_from a b n same = ap (λ (i : ℕ). range_with_len i n) same

pub range_both : (a m n : ℕ) → range_with_len a (m + n) ≡ range_with_len a m ++ range_with_len (a + m) n
range_both a zero n =
    let none : 0 + n ≡ n = omega arith in
    let at : a ≡ a + 0 = omega arith in
    ap (λ (k : ℕ). range_with_len a k) none ∙ range_from a (a + 0) n at
range_both a (suc m) n =
    let more : suc m + n ≡ suc (m + n) = omega arith in
    let at : a + 1 + m ≡ a + suc m = omega arith in
    ap (λ (k : ℕ). range_with_len a k) more
    ∙ ap (λ (xs : List ℕ). a ∷ xs) (range_both (a + 1) m n)
    ∙ ap (λ (xs : List ℕ). (a ∷ range_with_len (a + 1) m) ++ xs) (range_from (a + 1 + m) (a + suc m) n at)

-- ---- moved

module _ (s : ℕ) (test : ℕ → Bool) (same : (t : ℕ) → test (s + t) ≡ test t) where
  filter_later : (i n : ℕ) → filter test (range_with_len (s + i) n) ≡ map (λ (t : ℕ). s + t) (filter test (range_with_len i n))
  filter_later i zero = refl
  filter_later i (suc n) =
      let at : s + i + 1 ≡ s + (i + 1) = omega arith in
      by (test i) (same i) (ap (filter test) (range_from (s + i + 1) (s + (i + 1)) n at) ∙ filter_later (i + 1) n)
    where
      by : (b : Bool) → test (s + i) ≡ b → filter test (range_with_len (s + i + 1) n) ≡ map (λ (t : ℕ). s + t) (filter test (range_with_len (i + 1) n)) →
          cond (test (s + i)) ((s + i) ∷ filter test (range_with_len (s + i + 1) n)) (filter test (range_with_len (s + i + 1) n))
          ≡ map (λ (t : ℕ). s + t) (cond b (i ∷ filter test (range_with_len (i + 1) n)) (filter test (range_with_len (i + 1) n)))
      by true is rest =
          ap (λ (b : Bool). cond b ((s + i) ∷ filter test (range_with_len (s + i + 1) n)) (filter test (range_with_len (s + i + 1) n))) is
          ∙ ap (λ (xs : List ℕ). (s + i) ∷ xs) rest
      by false is rest =
          ap (λ (b : Bool). cond b ((s + i) ∷ filter test (range_with_len (s + i + 1) n)) (filter test (range_with_len (s + i + 1) n))) is ∙ rest

  first_later : (n t : ℕ) → first_from test n (s + t) ≡ option_map (λ (x : ℕ). s + x) (first_from test n t)
  first_later zero t = refl
  first_later (suc n) t =
      let at : s + t + 1 ≡ s + (t + 1) = omega arith in
      by (test t) (same t) (ap (λ (u : ℕ). first_from test n u) at ∙ first_later n (t + 1))
    where
      by : (b : Bool) → test (s + t) ≡ b → first_from test n (s + t + 1) ≡ option_map (λ (x : ℕ). s + x) (first_from test n (t + 1)) →
          cond (test (s + t)) (Some (s + t)) (first_from test n (s + t + 1))
          ≡ option_map (λ (x : ℕ). s + x) (cond b (Some t) (first_from test n (t + 1)))
      by true is rest = ap (λ (b : Bool). cond b (Some (s + t)) (first_from test n (s + t + 1))) is
      by false is rest = ap (λ (b : Bool). cond b (Some (s + t)) (first_from test n (s + t + 1))) is ∙ rest

or_later : (s t : ℕ) (o : Option ℕ) → unwrap_or (option_map (λ (x : ℕ). s + x) o) (s + t) ≡ s + unwrap_or o t
or_later s t None = refl
or_later s t (Some x) = refl

module _ (p : ℕ) (ev : Events) (cyclic : IsCyclic p ev) (k : ℕ) where
  later_event : (t : ℕ) → ev (k * p + t) ≡ ev t
  later_event t = let turned : k * p + t ≡ t + k * p = omega arith in ap ev turned ∙ periods_on p ev cyclic k t

  later_first : (t : ℕ) → is_first p ev (k * p + t) ≡ is_first p ev t
  later_first t =
      let at : k * p + t + (p - 1) ≡ k * p + (t + (p - 1)) = omega arith in
      (λ i. later_event t i && not (ev (k * p + t + (p - 1))))
      ∙ (λ i. ev t && not ((ap ev at ∙ later_event (t + (p - 1))) i))

  later_last : (t : ℕ) → is_last ev (k * p + t) ≡ is_last ev t
  later_last t =
      let at : k * p + t + 1 ≡ k * p + (t + 1) = omega arith in
      (λ i. later_event t i && not (ev (k * p + t + 1)))
      ∙ (λ i. ev t && not ((ap ev at ∙ later_event (t + 1)) i))

  later_region : (t : ℕ) → region_from p ev (k * p + t) ≡ moved_region (k * p) (region_from p ev t)
  later_region t =
      ap (λ (last : ℕ). let r : Region = record { first = k * p + t; last = last } in r)
      (ap (λ (o : Option ℕ). unwrap_or o (k * p + t)) (first_later (k * p) (is_last ev) later_last p t)
      ∙ or_later (k * p) t (first_from (is_last ev) p t))

  later_all : (ts : List ℕ) → map (region_from p ev) (map (λ (t : ℕ). k * p + t) ts) ≡ map (moved_region (k * p)) (map (region_from p ev) ts)
  later_all [] = refl
  later_all (t ∷ ts) =
      ap (λ (r : Region). r ∷ map (region_from p ev) (map (λ (u : ℕ). k * p + u) ts)) (later_region t)
      ∙ ap (λ (rs : List Region). moved_region (k * p) (region_from p ev t) ∷ rs) (later_all ts)

  pub regions_later : regions_from p ev p (k * p) ≡ map (moved_region (k * p)) (regions p ev)
  regions_later =
      let at : k * p ≡ k * p + 0 = omega arith in
      ap (map (region_from p ev)) (ap (filter (is_first p ev)) (range_from (k * p) (k * p + 0) p at) ∙ filter_later (k * p) (is_first p ev) later_first 0 p)
      ∙ later_all (filter (is_first p ev) (range_with_len 0 p))

  -- one period more
  pub regions_more : regions_from p ev (k * p + p) 0 ≡ regions_from p ev (k * p) 0 ++ map (moved_region (k * p)) (regions p ev)
  regions_more =
      let at : 0 + k * p ≡ k * p = omega arith in
      ap (λ (ts : List ℕ). map (region_from p ev) (filter (is_first p ev) ts))
      (range_both 0 (k * p) p ∙ ap (λ (xs : List ℕ). range_with_len 0 (k * p) ++ xs) (range_from (0 + k * p) (k * p) p at))
      ∙ ap (map (region_from p ev)) (filter-append (is_first p ev) (range_with_len 0 (k * p)) (range_with_len (k * p) p))
      ∙ map-append (region_from p ev) (filter (is_first p ev) (range_with_len 0 (k * p))) (filter (is_first p ev) (range_with_len (k * p) p))
      ∙ ap (λ (rs : List Region). regions_from p ev (k * p) 0 ++ rs) regions_later
