-- The narrowest pulse is the last of those that are found one after another, each narrower than the one before.
use Rattle.std.proofs.Common.{inl, inr, ◌≡◌, ℕ, zero, suc, ◌+◌, ◌<◌, ◌≤◌, Bool, true, false, cond, refl, sym, ap, subst, ◌∙◌, arith, List, Option, Some, None}
use Rattle.std.specs.Prelude.{filter_map, nat_lt}
use Rattle.std.specs.List.{cons_option, range_with_len}
use Rattle.std.specs.Option.{option_or}
use Rattle.std.proofs.lemmas.Bool.{cases_eq, cases_lt}
use Rattle.gate_eval.specs.Hold.{first_some}
use Rattle.gate_eval.proofs.Held.{first_some_none}
use Rattle.pulse_check.specs.Pulse.{Slots, first_narrow, narrow_at}
use Rattle.slack_rows.specs.Pulse.{Pulse, narrower, narrowest, narrowest_of}
use Rattle.slack_rows.proofs.Windows.{lt_false, lt_true}
use Rattle.slack_rows.proofs.Widths.{IsNarrow, narrow_least, narrow_parts}

-- ---- the first that is found

-- it is found somewhere, and nowhere before
record IsFirstFound (f : ℕ → Option Pulse) (n i : ℕ) (x : Pulse) : Type 0 where
  pub at : ℕ
  pub above : i ≤ at
  pub below : at < i + n
  pub is : f at ≡ Some x
  pub before : (k : ℕ) → i ≤ k → k < at → f k ≡ None

first_found : (f : ℕ → Option Pulse) (n i : ℕ) (x : Pulse) → first_some f n i ≡ Some x → IsFirstFound f n i x
first_found f zero i x is = absurd (cc)
first_found f (suc n) i x is = by (f i) refl is (λ rest. first_found f n (i + 1) x rest)
  where
    by : (o : Option Pulse) → f i ≡ o → option_or o (first_some f n (i + 1)) ≡ Some x →
        (first_some f n (i + 1) ≡ Some x → IsFirstFound f n (i + 1) x) → IsFirstFound f (suc n) i x
    by (Some y) here is rest =
        record {
          at = i;
          above = omega arith;
          below = omega arith;
          is = here ∙ is;
          before = λ k from less. absurd (omega (arith, from, less));
        }
    by None here is rest =
        let found = rest is in
        let above = found.above in
        let below = found.below in
        record {
          at = found.at;
          above = omega (arith, above);
          below = omega (arith, below);
          is = found.is;
          before = λ k from less. elim (cases_eq k i) [
            | inl same ↦ ap f same ∙ here
            | inr other ↦ found.before k (omega (arith, from, other)) less
          ];
        }

-- ---- the narrowest of a list

abbrev listed : (ℕ → Option Pulse) → ℕ → ℕ → List Pulse
listed found i n = filter_map found (range_with_len i n)

-- none is narrower
nothing_narrower : (pulse : Pulse) (o : Option Pulse) → ((other : Pulse) → o ≡ Some other → pulse.1 ≤ other.1) → narrower pulse o ≡ Some pulse
nothing_narrower pulse None none = refl
nothing_narrower pulse (Some other) none =
    let most = none other refl in
    ap (λ (b : Bool). cond b (Some other) (Some pulse)) (lt_false other.1 pulse.1 most)

narrower_later : (pulse other : Pulse) → other.1 < pulse.1 → narrower pulse (Some other) ≡ Some other
narrower_later pulse other less = ap (λ (b : Bool). cond b (Some other) (Some pulse)) (lt_true other.1 pulse.1 less)

module _ (found : ℕ → Option Pulse) where
  all_wide : (w n i : ℕ) → ((k : ℕ) (q : Pulse) → i ≤ k → k < i + n → found k ≡ Some q → w ≤ q.1) →
      (q : Pulse) → narrowest_of (listed found i n) ≡ Some q → w ≤ q.1
  all_wide w zero i wide q is = absurd (cc)
  all_wide w (suc n) i wide q is =
      by (found i) refl is (λ r more. all_wide w n (i + 1) (λ k s from below there. wide k s (omega (arith, from)) (omega (arith, below)) there) r more)
    where
      either_of : (here : Pulse) → found i ≡ Some here → (o : Option Pulse) → narrowest_of (listed found (i + 1) n) ≡ o → narrower here o ≡ Some q →
          ((r : Pulse) → narrowest_of (listed found (i + 1) n) ≡ Some r → w ≤ r.1) → w ≤ q.1
      either_of here there None rest_is is rest =
          let same : here ≡ q = cc in
          subst (λ (r : Pulse). w ≤ r.1) same (wide i here (omega arith) (omega arith) there)
      either_of here there (Some other) rest_is is rest = less (nat_lt other.1 here.1) is
        where
          less : (b : Bool) → cond b (Some other) (Some here) ≡ Some q → w ≤ q.1
          less true is = let same : other ≡ q = cc in subst (λ (r : Pulse). w ≤ r.1) same (rest other rest_is)
          less false is =
              let same : here ≡ q = cc in
              subst (λ (r : Pulse). w ≤ r.1) same (wide i here (omega arith) (omega arith) there)

      by : (o : Option Pulse) → found i ≡ o → narrowest_of (cons_option o (listed found (i + 1) n)) ≡ Some q →
          ((r : Pulse) → narrowest_of (listed found (i + 1) n) ≡ Some r → w ≤ r.1) → w ≤ q.1
      by None there is rest = rest q is
      by (Some here) there is rest = either_of here there (narrowest_of (listed found (i + 1) n)) refl is rest

  -- the one that none is narrower than, and those before it are wider
  pub narrowest_is : (pulse : Pulse) (n i a : ℕ) → i ≤ a → a < i + n → found a ≡ Some pulse →
      ((k : ℕ) (q : Pulse) → i ≤ k → k < i + n → found k ≡ Some q → pulse.1 ≤ q.1) →
      ((k : ℕ) (q : Pulse) → i ≤ k → k < a → found k ≡ Some q → pulse.1 < q.1) →
      narrowest_of (listed found i n) ≡ Some pulse
  narrowest_is pulse zero i a from below here wide wider = absurd (omega (arith, from, below))
  narrowest_is pulse (suc n) i a from below here wide wider = elim (cases_eq a i) [
    | inl same ↦
        ap (λ (o : Option Pulse). narrowest_of (cons_option o (listed found (i + 1) n))) (ap found (sym same) ∙ here)
        ∙ nothing_narrower pulse (narrowest_of (listed found (i + 1) n))
        (all_wide pulse.1 n (i + 1) (λ k q above under there. wide k q (omega (arith, above)) (omega (arith, under)) there))
    | inr other ↦
        by (found i) refl
        (narrowest_is pulse n (i + 1) a (omega (arith, from, other)) (omega (arith, below)) here
        (λ k q above under there. wide k q (omega (arith, above)) (omega (arith, under)) there)
        (λ k q above less there. wider k q (omega (arith, above)) less there))
        (omega (arith, from, other))
  ]
    where
      by : (o : Option Pulse) → found i ≡ o → narrowest_of (listed found (i + 1) n) ≡ Some pulse → i < a →
          narrowest_of (cons_option o (listed found (i + 1) n)) ≡ Some pulse
      by None there rest less = rest
      by (Some q) there rest less =
          ap (narrower q) rest ∙ narrower_later q pulse (wider i q (omega arith) less there)

  pub narrowest_none : (n i : ℕ) → ((k : ℕ) → i ≤ k → k < i + n → found k ≡ None) → narrowest_of (listed found i n) ≡ None
  narrowest_none zero i none = refl
  narrowest_none (suc n) i none =
      ap (λ (o : Option Pulse). narrowest_of (cons_option o (listed found (i + 1) n))) (none i (omega arith) (omega arith))
      ∙ narrowest_none n (i + 1) (λ k from below. none k (omega (arith, from)) (omega (arith, below)))

-- ---- pulses below a limit

module _ (p : ℕ) (level : Bool) (wave : Slots) where
  narrow_of : (limit a : ℕ) (pulse : Pulse) → a < p → narrow_at level wave limit a ≡ Some pulse → (most : ℕ) → pulse.1 < most →
      (w : ℕ) × (narrow_at level wave most a ≡ Some (a, w)) × (w ≤ pulse.1)
  narrow_of limit a pulse below is most less =
      let parts = narrow_parts p level wave limit a pulse below is in
      let n : IsNarrow p level wave most = record {
        start = a;
        below = below;
        begins = parts.4;
        width = pulse.1;
        some = parts.2;
        narrow = less;
        wide = parts.5;
      } in
      let least = narrow_least p level wave most most n (omega arith) in
      (least.width, least.is, least.most)

  -- a pulse that is found below one limit is found below any that is greater than it
  same_pulse : (limit a most : ℕ) (pulse : Pulse) → a < p → narrow_at level wave limit a ≡ Some pulse → limit ≤ most → narrow_at level wave most a ≡ Some pulse
  same_pulse limit a most pulse below is less =
      let parts = narrow_parts p level wave limit a pulse below is in
      let start : pulse.0 ≡ a = parts.1 in
      let narrow : pulse.1 < limit = parts.3 in
      let (w, found, up_to) = narrow_of limit a pulse below is most (omega (arith, narrow, less)) in
      let (v, again, down_to) = narrow_of most a (a, w) below found limit (omega (arith, up_to, narrow)) in
      let one : pulse ≡ (a, v) = cc in
      let width : pulse.1 ≡ v = ap (λ (q : Pulse). q.1) one in
      let same : w ≡ pulse.1 = omega (arith, up_to, down_to, width) in
      found ∙ ap (λ (q : Pulse). Some q) (pair_is a w pulse start same)
    where
      pair_is : (a w : ℕ) (pulse : Pulse) → pulse.0 ≡ a → w ≡ pulse.1 → (let q : Pulse = (a, w) in q) ≡ pulse
      pair_is a w pulse first second = λ i. (sym first i, second i)

  -- what is not found below a limit is as wide
  as_wide : (limit a : ℕ) (q : Pulse) → a < p → narrow_at level wave limit a ≡ None → narrow_at level wave p a ≡ Some q → limit ≤ q.1
  as_wide limit a q below none is = elim (cases_lt q.1 limit) [
    | inl less ↦ let (w, found, up_to) = narrow_of p a q below is limit less in absurd (cc (sym none ∙ found))
    | inr more ↦ more
  ]

  pub record IsLastFound (limit : ℕ) (pulse : Pulse) : Type 0 where
    pub width : pulse.1 ≡ limit
    pub some : 1 ≤ limit
    pub less : limit < p
    pub below : pulse.0 < p
    pub is : narrow_at level wave p pulse.0 ≡ Some pulse
    pub earlier : (k : ℕ) (q : Pulse) → k < pulse.0 → narrow_at level wave p k ≡ Some q → pulse.1 < q.1

  -- what was found last, and the limit below which to look
  abbrev pub IsNarrowestBelow : ℕ → Option Pulse → Type 0
  IsNarrowestBelow limit None = limit ≡ p
  IsNarrowestBelow limit (Some pulse) = IsLastFound limit pulse

  limit_most : (limit : ℕ) (best : Option Pulse) → IsNarrowestBelow limit best → limit ≤ p
  limit_most limit None known = omega (arith, known)
  limit_most limit (Some pulse) known = let less = known.less in omega (arith, less)

  pub limit_within : (limit : ℕ) (best : Option Pulse) → IsNarrowestBelow limit best → limit ≤ p
  limit_within limit best known = limit_most limit best known

  pub record IsNext (limit : ℕ) (pulse : Pulse) : Type 0 where
    pub known : IsLastFound pulse.1 pulse
    pub less : pulse.1 < limit

  pub next_found : (limit : ℕ) (best : Option Pulse) (pulse : Pulse) → IsNarrowestBelow limit best → first_narrow p level wave limit ≡ Some pulse → IsNext limit pulse
  next_found limit best pulse known is =
      let most = limit_most limit best known in
      let found = first_found (narrow_at level wave limit) p 0 pulse is in
      let at_below = found.below in
      let below : found.at < p = omega (arith, at_below) in
      let parts = narrow_parts p level wave limit found.at pulse below found.is in
      let start : pulse.0 ≡ found.at = parts.1 in
      let narrow : pulse.1 < limit = parts.3 in
      let some : 1 ≤ pulse.1 = parts.2 in
      record {
        known = record {
          width = refl;
          some = some;
          less = omega (arith, narrow, most);
          below = omega (arith, start, below);
          is = ap (narrow_at level wave p) start ∙ same_pulse limit found.at p pulse below found.is most;
          earlier = λ k q sooner there.
              let wide = as_wide limit k q (omega (arith, sooner, start, below)) (found.before k (omega arith) (omega (arith, sooner, start))) there in
              omega (arith, wide, narrow);
        };
        less = narrow;
      }

  -- where none is narrower
  pub none_left : (limit : ℕ) (best : Option Pulse) → IsNarrowestBelow limit best → first_narrow p level wave limit ≡ None → narrowest p level wave ≡ best
  none_left limit None known none =
      narrowest_none (narrow_at level wave p) p 0
      (λ k from below. ap (λ (l : ℕ). narrow_at level wave l k) (sym known) ∙ first_some_none (narrow_at level wave limit) p 0 k none from below)
  none_left limit (Some pulse) known none =
      let width = known.width in
      let below = known.below in
      narrowest_is (narrow_at level wave p) pulse p 0 pulse.0 (omega arith) (omega (arith, below)) known.is
      (λ k q from under there.
      let wide = as_wide limit k q (omega (arith, under)) (first_some_none (narrow_at level wave limit) p 0 k none from under) there in
      omega (arith, wide, width))
      (λ k q from sooner there. known.earlier k q sooner there)
