-- A checker of widths has a fault exactly where the slack of its pulses is broken.
use Rattle.std.proofs.Common.{inl, inr, ◌≡◌, ◌↔◌, ℕ, zero, suc, ◌+◌, ◌-◌, ◌<◌, ◌≤◌, Bool, true, false, ◌&&◌, cond, refl, sym, ap, subst, ◌∙◌, arith, List, Option, Some, None}
use Rattle.std.specs.Prelude.{◌==◌, ℤ, pos, ◌-ℤ◌, int_le, int_lt, nat_lt, filter_map, is_none, is_some}
use Rattle.std.specs.List.{cons_option, range_with_len}
use Rattle.std.specs.Option.{option_map, option_or}
use Rattle.std.proofs.lemmas.Bool.{and_parts, cases_eq, eqb-true}
use Rattle.std.proofs.lemmas.Int.{ints}
use Rattle.gate_eval.specs.Hold.{first_some}
use Rattle.gate_eval.proofs.Found.{first_some_some}
use Rattle.pulse_check.specs.Pulse.{Slots, first_narrow, least_width, may_be_wide, may_begin, narrow_at}
use Rattle.point_check.proofs.Firsts.{first_some_is}
use Rattle.slack_rows.specs.Pulse.{Pulse, narrower, narrowest, narrowest_of, finding_pulse, width_of}
use Rattle.slack_rows.specs.Slack.{is_broken}
use Rattle.slack_rows.specs.Laws.{IsBroken}
use Rattle.slack_rows.proofs.Windows.{below_zero, false_lt, not_below_zero, true_lt}

-- a pulse that may be so narrow
pub record IsNarrow (p : ℕ) (level : Bool) (wave : Slots) (limit : ℕ) : Type 0 where
  pub start : ℕ
  pub below : start < p
  pub begins : may_begin level (wave start) ≡ true
  pub width : ℕ
  pub some : 1 ≤ width
  pub narrow : width < limit
  pub wide : may_be_wide level wave start width ≡ true

some_is : {A : Type 0} (o : Option A) → is_none o ≡ false → is_some o ≡ true
some_is None none = absurd (cc)
some_is (Some x) some = refl

kept : (b : Bool) (i j : ℕ) → cond b (Some i) None ≡ Some j → (b ≡ true) × (i ≡ j)
kept true i j is = (refl, cc)
kept false i j is = absurd (cc)

-- the first width is no greater
record FirstWidth (test : ℕ → Bool) (n i w : ℕ) : Type 0 where
  pub first : ℕ
  pub is : first_some (λ width. cond (test width) (Some width) None) n i ≡ Some first
  pub most : first ≤ w

first_width : (test : ℕ → Bool) (n i w : ℕ) → i ≤ w → w < i + n → test w ≡ true → FirstWidth test n i w
first_width test zero i w from below here = absurd (omega (arith, from, below))
first_width test (suc n) i w from below here =
    by (test i) refl (λ other. first_width test n (i + 1) w (omega (arith, from, other)) (omega (arith, below)) here)
  where
    by : (b : Bool) → test i ≡ b → ((i < w) → FirstWidth test n (i + 1) w) → FirstWidth test (suc n) i w
    by true is rest =
        record {
          first = i;
          is = ap (λ (b : Bool). option_or (cond b (Some i) None) (first_some (λ width. cond (test width) (Some width) None) n (i + 1))) is;
          most = from;
        }
    by false is rest = elim (cases_eq i w) [
      | inl same ↦ absurd (cc (sym is ∙ ap test same ∙ here))
      | inr other ↦
          let found = rest (omega (arith, from, other)) in
          record {
            first = found.first;
            is = ap (λ (b : Bool). option_or (cond b (Some i) None) (first_some (λ width. cond (test width) (Some width) None) n (i + 1))) is ∙ found.is;
            most = found.most;
          }
    ]

-- nothing is left of a pulse, where anything is said of it
abbrev pub IsSwallowed : Option ℤ → Type 0
IsSwallowed left = (n : ℤ) → left ≡ Some n → int_le n (pos 0) ≡ true

module _ (p : ℕ) (level : Bool) (wave : Slots) where
  -- ---- the search of a limit

  pub narrow_parts : (limit a : ℕ) (pulse : Pulse) → a < p → narrow_at level wave limit a ≡ Some pulse → IsNarrow p level wave limit × (pulse.0 ≡ a) × (1 ≤ pulse.1) × (pulse.1 < limit) × (may_begin level (wave a) ≡ true) × (may_be_wide level wave a pulse.1 ≡ true)
  narrow_parts limit a pulse below is = by (may_begin level (wave a)) refl is
    where
      width_by : (o : Option ℕ) → least_width level wave limit a ≡ o → option_map (λ width. let pair : Pulse = (a, width) in pair) o ≡ Some pulse → may_begin level (wave a) ≡ true →
          IsNarrow p level wave limit × (pulse.0 ≡ a) × (1 ≤ pulse.1) × (pulse.1 < limit) × (may_begin level (wave a) ≡ true) × (may_be_wide level wave a pulse.1 ≡ true)
      width_by None none is begins = absurd (cc)
      width_by (Some width) found is begins =
          let first = first_some_is (λ w. cond (may_be_wide level wave a w) (Some w) None) (limit - 1) 1 width found in
          let at_is = kept (may_be_wide level wave a first.at) first.at width first.is in
          let same : first.at ≡ width = at_is.1 in
          let above = first.above in
          let under = first.below in
          let pair : pulse ≡ (a, width) = cc in
          let wide : may_be_wide level wave a width ≡ true = ap (may_be_wide level wave a) (sym same) ∙ at_is.0 in
          let some : 1 ≤ width = omega (arith, above, same) in
          let narrow : width < limit = omega (arith, under, same) in (
            record { start = a; below = below; begins = begins; width = width; some = some; narrow = narrow; wide = wide },
            ap (λ (q : Pulse). q.0) pair,
            subst (λ (q : Pulse). 1 ≤ q.1) (sym pair) some,
            subst (λ (q : Pulse). q.1 < limit) (sym pair) narrow,
            begins,
            subst (λ (q : Pulse). may_be_wide level wave a q.1 ≡ true) (sym pair) wide,
          )

      by : (b : Bool) → may_begin level (wave a) ≡ b → cond b (option_map (λ width. let pair : Pulse = (a, width) in pair) (least_width level wave limit a)) None ≡ Some pulse →
          IsNarrow p level wave limit × (pulse.0 ≡ a) × (1 ≤ pulse.1) × (pulse.1 < limit) × (may_begin level (wave a) ≡ true) × (may_be_wide level wave a pulse.1 ≡ true)
      by true begins is = width_by (least_width level wave limit a) refl is begins
      by false begins none = absurd (cc)

  pub first_is_narrow : (limit : ℕ) → is_some (first_narrow p level wave limit) ≡ true → IsNarrow p level wave limit
  first_is_narrow limit some = by (first_narrow p level wave limit) refl some
    where
      by : (o : Option (ℕ × ℕ)) → first_narrow p level wave limit ≡ o → is_some o ≡ true → IsNarrow p level wave limit
      by None is none = absurd (cc)
      by (Some pulse) is some =
          let found = first_some_is (narrow_at level wave limit) p 0 pulse is in
          let below = found.below in
          (narrow_parts limit found.at pulse (omega (arith, below)) found.is).0

  -- the least width from the start of a narrow pulse
  pub record Least (limit w a : ℕ) : Type 0 where
    pub width : ℕ
    pub is : narrow_at level wave limit a ≡ Some (a, width)
    pub most : width ≤ w

  pub narrow_least : (limit most : ℕ) (n : IsNarrow p level wave limit) → limit ≤ most → Least most n.width n.start
  narrow_least limit most n less =
      let some = n.some in
      let narrow = n.narrow in
      let found = first_width (may_be_wide level wave n.start) (most - 1) 1 n.width some (omega (arith, narrow, less)) n.wide in
      record {
        width = found.first;
        is = ap (λ (b : Bool). cond b (option_map (λ width. let pair : Pulse = (n.start, width) in pair) (least_width level wave most n.start)) None) n.begins
            ∙ ap (option_map (λ width. let pair : Pulse = (n.start, width) in pair)) found.is;
        most = found.most;
      }

  pub narrow_is_first : (limit : ℕ) → IsNarrow p level wave limit → is_some (first_narrow p level wave limit) ≡ true
  narrow_is_first limit n =
      let below = n.below in
      let least = narrow_least limit limit n (omega arith) in
      some_is (first_narrow p level wave limit)
      (first_some_some (narrow_at level wave limit) p 0 n.start (omega arith) (omega (arith, below)) (ap (λ (o : Option (ℕ × ℕ)). is_none o) least.is))

  -- ---- the narrowest

  record NoWider (o : Option Pulse) (w : ℕ) : Type 0 where
    pub pulse : Pulse
    pub is : o ≡ Some pulse
    pub most : pulse.1 ≤ w

  narrower_first : (pulse : Pulse) (o : Option Pulse) → NoWider (narrower pulse o) pulse.1
  narrower_first pulse None = record { pulse = pulse; is = refl; most = omega arith }
  narrower_first pulse (Some other) = by (nat_lt other.1 pulse.1) refl
    where
      by : (b : Bool) → nat_lt other.1 pulse.1 ≡ b → NoWider (cond b (Some other) (Some pulse)) pulse.1
      by true less = record { pulse = other; is = refl; most = let under = true_lt other.1 pulse.1 less in omega (arith, under) }
      by false more = record { pulse = pulse; is = refl; most = omega arith }

  narrower_rest : (pulse : Pulse) (o : Option Pulse) (w : ℕ) → NoWider o w → NoWider (narrower pulse o) w
  narrower_rest pulse None w found = absurd (cc (found.is))
  narrower_rest pulse (Some other) w found = by (nat_lt other.1 pulse.1) refl
    where
      same : found.pulse ≡ other
      same = let is = found.is in cc

      under : other.1 ≤ w
      under = subst (λ (q : Pulse). q.1 ≤ w) same found.most

      by : (b : Bool) → nat_lt other.1 pulse.1 ≡ b → NoWider (cond b (Some other) (Some pulse)) w
      by true less = record { pulse = other; is = refl; most = under }
      by false more = record { pulse = pulse; is = refl; most = let over = false_lt other.1 pulse.1 more in omega (arith, over, under) }

  consed : (o : Option Pulse) (l : List Pulse) (w : ℕ) → NoWider (narrowest_of l) w → NoWider (narrowest_of (cons_option o l)) w
  consed None l w found = found
  consed (Some pulse) l w found = narrower_rest pulse (narrowest_of l) w found

  consed_here : (o : Option Pulse) (l : List Pulse) (pulse : Pulse) → o ≡ Some pulse → NoWider (narrowest_of (cons_option o l)) pulse.1
  consed_here None l pulse is = absurd (cc)
  consed_here (Some other) l pulse is =
      let same : other ≡ pulse = cc in
      subst (λ (q : Pulse). NoWider (narrower other (narrowest_of l)) q.1) same (narrower_first other (narrowest_of l))

  in_range : (limit n i a : ℕ) (pulse : Pulse) → i ≤ a → a < i + n → narrow_at level wave limit a ≡ Some pulse →
      NoWider (narrowest_of (filter_map (narrow_at level wave limit) (range_with_len i n))) pulse.1
  in_range limit zero i a pulse from below is = absurd (omega (arith, from, below))
  in_range limit (suc n) i a pulse from below is = elim (cases_eq a i) [
    | inl same ↦ consed_here (narrow_at level wave limit i) (filter_map (narrow_at level wave limit) (range_with_len (i + 1) n)) pulse
        (ap (narrow_at level wave limit) (sym same) ∙ is)
    | inr other ↦ consed (narrow_at level wave limit i) (filter_map (narrow_at level wave limit) (range_with_len (i + 1) n)) pulse.1
        (in_range limit n (i + 1) a pulse (omega (arith, from, other)) (omega (arith, below)) is)
  ]

  record FoundIn (limit i n : ℕ) (pulse : Pulse) : Type 0 where
    pub start : ℕ
    pub below : start < i + n
    pub is : narrow_at level wave limit start ≡ Some pulse

  from_range : (limit n i : ℕ) (pulse : Pulse) → narrowest_of (filter_map (narrow_at level wave limit) (range_with_len i n)) ≡ Some pulse → FoundIn limit i n pulse
  from_range limit zero i pulse is = absurd (cc)
  from_range limit (suc n) i pulse is = by (narrow_at level wave limit i) refl is (λ q more. from_range limit n (i + 1) q more)
    where
      later : (q : Pulse) → FoundIn limit (i + 1) n q → q ≡ pulse → FoundIn limit i (suc n) pulse
      later q found same =
          let below = found.below in
          record { start = found.start; below = omega (arith, below); is = found.is ∙ ap Some same }

      either_of : (here : Pulse) → narrow_at level wave limit i ≡ Some here → (o : Option Pulse) →
          narrowest_of (filter_map (narrow_at level wave limit) (range_with_len (i + 1) n)) ≡ o → narrower here o ≡ Some pulse →
          ((q : Pulse) → narrowest_of (filter_map (narrow_at level wave limit) (range_with_len (i + 1) n)) ≡ Some q → FoundIn limit (i + 1) n q) → FoundIn limit i (suc n) pulse
      either_of here there None rest_is is rest = record { start = i; below = omega arith; is = there ∙ is }
      either_of here there (Some other) rest_is is rest = less (nat_lt other.1 here.1) is
        where
          less : (b : Bool) → cond b (Some other) (Some here) ≡ Some pulse → FoundIn limit i (suc n) pulse
          less true is = let same : other ≡ pulse = cc in later other (rest other rest_is) same
          less false is = record { start = i; below = omega arith; is = there ∙ is }

      by : (o : Option Pulse) → narrow_at level wave limit i ≡ o →
          narrowest_of (cons_option o (filter_map (narrow_at level wave limit) (range_with_len (i + 1) n))) ≡ Some pulse →
          ((q : Pulse) → narrowest_of (filter_map (narrow_at level wave limit) (range_with_len (i + 1) n)) ≡ Some q → FoundIn limit (i + 1) n q) → FoundIn limit i (suc n) pulse
      by None there is rest = later pulse (rest pulse is) refl
      by (Some here) there is rest = either_of here there (narrowest_of (filter_map (narrow_at level wave limit) (range_with_len (i + 1) n))) refl is rest

  -- ---- what is told

  broken_narrow : (limit : ℕ) (pulse : Pulse) (left : Option ℤ) → int_lt (width_of pulse limit left -ℤ pos limit) (pos 0) ≡ true → pulse.1 < limit
  broken_narrow limit pulse None broken = not_below_zero pulse.1 limit broken
  broken_narrow limit pulse (Some n) broken = by ((pulse.1 == 1) && nat_lt 1 limit) refl broken
    where
      by : (b : Bool) → ((pulse.1 == 1) && nat_lt 1 limit) ≡ b → int_lt (cond b n (pos pulse.1) -ℤ pos limit) (pos 0) ≡ true → pulse.1 < limit
      by true is broken =
          let parts = and_parts (pulse.1 == 1) (nat_lt 1 limit) is in
          let one : pulse.1 ≡ 1 = eqb-true pulse.1 1 parts.0 in
          let more : 1 < limit = true_lt 1 limit parts.1 in
          omega (arith, one, more)
      by false is broken = not_below_zero pulse.1 limit broken

  negative : (n : ℤ) (limit : ℕ) → int_le n (pos 0) ≡ true → 1 ≤ limit → int_lt (n -ℤ pos limit) (pos 0) ≡ true
  negative n limit most some = grind (arith, ints)

  narrow_broken : (limit : ℕ) (pulse : Pulse) (left : Option ℤ) → IsSwallowed left → pulse.1 < limit → int_lt (width_of pulse limit left -ℤ pos limit) (pos 0) ≡ true
  narrow_broken limit pulse None swallowed narrow = below_zero pulse.1 limit narrow
  narrow_broken limit pulse (Some n) swallowed narrow = by ((pulse.1 == 1) && nat_lt 1 limit)
    where
      by : (b : Bool) → int_lt (cond b n (pos pulse.1) -ℤ pos limit) (pos 0) ≡ true
      by true = negative n limit (swallowed n refl) (omega (arith, narrow))
      by false = below_zero pulse.1 limit narrow

  pub width_breaks : (limit : ℕ) (left : Option ℤ) → IsSwallowed left → limit ≤ p →
      (is_some (first_narrow p level wave limit) ≡ true) ↔ IsBroken (finding_pulse limit left (narrowest p level wave))
  width_breaks limit left swallowed short =
      (λ some. finding (first_is_narrow limit some), λ broken. found (narrowest p level wave) refl broken)
    where
      finding : IsNarrow p level wave limit → IsBroken (finding_pulse limit left (narrowest p level wave))
      finding n =
          let below = n.below in
          let narrow = n.narrow in
          let least = narrow_least limit p n short in
          let most = least.most in
          let no_wider = in_range p p 0 n.start (n.start, least.width) (omega arith) (omega (arith, below)) least.is in
          let under = no_wider.most in
          ap (λ (o : Option Pulse). is_broken (finding_pulse limit left o).slack) no_wider.is
          ∙ narrow_broken limit no_wider.pulse left swallowed (omega (arith, narrow, most, under))

      found : (o : Option Pulse) → narrowest p level wave ≡ o → IsBroken (finding_pulse limit left o) → is_some (first_narrow p level wave limit) ≡ true
      found None is none = absurd (cc)
      found (Some pulse) is broken =
          let narrow = broken_narrow limit pulse left broken in
          let there = from_range p p 0 pulse is in
          let below = there.below in
          let parts = narrow_parts p there.start pulse (omega (arith, below)) there.is in
          narrow_is_first limit record {
            start = there.start;
            below = omega (arith, below);
            begins = parts.4;
            width = pulse.1;
            some = parts.2;
            narrow = narrow;
            wide = parts.5;
          }
