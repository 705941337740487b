-- How a search finds the nets behind others, and that it ends with all of them.
use Rattle.std.specs.Prelude.{nat_lt, ◌&&◌}
use Rattle.std.proofs.Common.{◌≡◌, ℕ, zero, suc, ◌+◌, ◌<◌, ◌≤◌, ◌==◌, ◌||◌, Bool, true, false, true≢false, List, [], ◌∷◌, ◌++◌, length, take, drop, get_or, sym, refl, ap, subst, ◌∙◌, add-one, zero-add, arith, inl, inr, slice_get, Some, None}
use Rattle.std.specs.List.{Contains}
use Rattle.std.proofs.lemmas.Bool.{cases_eq, cases_lt, eqb-true, lt-ltb, ltb-true, or_cases, or_left, or_right}
use Rattle.std.proofs.lemmas.List.{append_assoc, drop_more, get_or_default}
use Rattle.std.proofs.lemmas.Option.{slice_get_within, get_or_from_slice_get}
use Rattle.element_kinds.specs.declared.kind.Kind.{Kind}
use Rattle.flat_circuit.specs.declared.instance.Pin.{Pin}
use Rattle.flat_circuit.specs.Circuit.{Circuit, driver}
use Rattle.flat_circuit.specs.Instances.{is_on}
use Rattle.flat_circuit.specs.Name.{net_at}
use Rattle.fixpoint_engine.specs.Settled.{marked_in}
use Rattle.fixpoint_engine.specs.Worklist.{IsQueue, Queue}
use Rattle.case_analysis.specs.Found.{Extends}
use Rattle.case_analysis.proofs.Coning.{found_marked}
use Rattle.narrowing.specs.declared.cone.Through.{Through}
use Rattle.narrowing.specs.Cone.{Behind, IsBehind, any_leads, fed, fed_by, first, is_first, leads, net_of_target, nets_of_pins}

-- ---- sets that are added one after the other

or_both : (a b c : Bool) → ((a || b) || c) ≡ (a || (b || c))
or_both true b c = refl
or_both false b c = refl

or_none : (a : Bool) → (a || false) ≡ a
or_none true = refl
or_none false = refl

pub extends_more : (set more both : ℕ → Bool) (q r s : Queue) → Extends set q r → Extends more r s →
    ((i : ℕ) → both i ≡ (set i || more i)) → Extends both q s
extends_more set more both q r s one two same = record {
  adds = record {
    each_net = two.adds.each_net ∙ one.adds.each_net;
    marks = λ i.
        two.adds.marks i ∙ ap (λ (b : Bool). b || more i) (one.adds.marks i)
        ∙ or_both (marked_in q.marks i) (set i) (more i)
        ∙ ap (λ (b : Bool). marked_in q.marks i || b) (sym (same i));
  };
  longer = let first_longer = one.longer in let then_longer = two.longer in
      omega (arith, first_longer, then_longer);
  before = λ k below.
      let longer = one.longer in
      two.before k (omega (arith, below, longer)) ∙ one.before k below;
}

pub extends_none : (q : Queue) → Extends (λ i. false) q q
extends_none q = record {
  adds = record { each_net = refl; marks = λ i. sym (or_none (marked_in q.marks i)) };
  longer = omega arith;
  before = λ k below. refl;
}

-- ---- the nets of pins

-- one pin more, of those that are left
pub pins_more : (ps : List Pin) (k : ℕ) (p : Pin) (old new all : List ℕ) → k < length ps →
    old ++ nets_of_pins (drop k ps) ≡ all → new ≡ old ++ net_of_target (get_or ps k p).target →
    new ++ nets_of_pins (drop (k + 1) ps) ≡ all
pins_more ps k p old new all below before added =
    let rest = nets_of_pins (drop (k + 1) ps) in
    ap (λ (l : List ℕ). l ++ rest) added ∙ append_assoc old (net_of_target (get_or ps k p).target) rest
    ∙ ap (λ (qs : List Pin). old ++ nets_of_pins qs) (sym (drop_more ps k p below)) ∙ before

-- ---- pins that lead on

leads_next : (through : Through) (kind : Kind) (i s n : ℕ) (ps : List Pin) (d : Pin) → n < length ps →
    any_leads through kind i s (take (suc n) ps)
    ≡ (any_leads through kind i s (take n ps) || (leads through kind (s + n) && is_on i (get_or ps n d).target))
leads_next through kind i s n [] d below = absurd (omega (arith, below))
leads_next through kind i s zero (p ∷ ps) d below =
    let same : s ≡ s + 0 = omega arith in
    or_none (leads through kind s && is_on i p.target)
    ∙ ap (λ (m : ℕ). leads through kind m && is_on i p.target) same
leads_next through kind i s (suc n) (p ∷ ps) d below =
    let same : s + 1 + n ≡ s + suc n = omega arith in
    ap (λ (b : Bool). (leads through kind s && is_on i p.target) || b)
    (leads_next through kind i (s + 1) n ps d (omega (arith, below))
    ∙ ap (λ (m : ℕ). any_leads through kind i (s + 1) (take n ps) || (leads through kind m && is_on i (get_or ps n d).target))
    same)
    ∙ sym (or_both (leads through kind s && is_on i p.target) (any_leads through kind i (s + 1) (take n ps))
    (leads through kind (s + suc n) && is_on i (get_or ps n d).target))

pub leads_more : (through : Through) (kind : Kind) (i n : ℕ) (ps : List Pin) (d : Pin) (on : Bool) → n < length ps →
    on ≡ leads through kind n →
    any_leads through kind i 0 (take (n + 1) ps)
    ≡ (any_leads through kind i 0 (take n ps) || (on && is_on i (get_or ps n d).target))
leads_more through kind i n ps d on below is =
    ap (λ (m : ℕ). any_leads through kind i 0 (take m ps)) (add-one n)
    ∙ leads_next through kind i 0 n ps d below
    ∙ ap (λ (b : Bool). any_leads through kind i 0 (take n ps) || (b && is_on i (get_or ps n d).target))
    (ap (leads through kind) (zero-add n) ∙ sym is)

-- ---- the first nets

first_bits : (lt e m a : Bool) → (e ≡ true → lt ≡ true) →
    ((m || (lt && a)) || e) ≡ (m || (lt && (a || e)))
first_bits lt e true a h = refl
first_bits true e false a h = refl
first_bits false true false a h = sym (h refl)
first_bits false false false a h = refl

other_bits : (lt e m a : Bool) → (e ≡ true → lt ≡ false) → (m || (lt && a)) ≡ (m || (lt && (a || e)))
other_bits lt e true a h = refl
other_bits false e false a h = refl
other_bits true true false a h = absurd (true≢false (h refl))
other_bits true false false a h = sym (or_none a)

-- ---- the search

-- The first nets are found, all that is found is behind them, and what is behind the first of those is
-- found.
pub record Closing (c : Circuit) (through : Through) (nets : List ℕ) (q : Queue) (next : ℕ) : Type 0 where
  pub each_net : length q.marks ≡ length c.nets
  pub inside : (i : ℕ) → marked_in q.marks i ≡ true → Behind c through nets i
  pub set : (i : ℕ) → is_first (length c.nets) nets i ≡ true → marked_in q.marks i ≡ true
  pub within : next ≤ length q.nets
  pub closed : (k i : ℕ) → k < next → fed_by through i (driver c (net_at q.nets k)) ≡ true →
      marked_in q.marks i ≡ true

module _ (c : Circuit) (through : Through) (nets : List ℕ) where
  pub closing_start : (q : Queue) → length q.marks ≡ length c.nets →
      ((i : ℕ) → marked_in q.marks i ≡ is_first (length c.nets) nets i) → Closing c through nets q 0
  closing_start q each marks = record {
    each_net = each;
    inside = λ i marked. first (sym (marks i) ∙ marked);
    set = λ i is. marks i ∙ is;
    within = omega arith;
    closed = λ k i below. absurd (omega arith);
  }

  pub closing_more : (q more : Queue) (next net : ℕ) → IsQueue q → slice_get q.nets next ≡ Some net →
      Closing c through nets q next → Extends (λ i. fed_by through i (driver c net)) q more →
      Closing c through nets more (next + 1)
  closing_more q more next net queue at closing extends = record {
    each_net = extends.adds.each_net ∙ closing.each_net;
    inside = λ i marked. elim (or_cases (marked_in q.marks i) (fed_by through i (driver c net)) (sym (extends.adds.marks i) ∙ marked)) [
      | inl before ↦ closing.inside i before
      | inr feeds ↦ fed (closing.inside net (found_marked q next net queue at)) feeds
    ];
    set = λ i is. extends.adds.marks i ∙ or_left _ _ (closing.set i is);
    within = let inside = slice_get_within q.nets next net at in let longer = extends.longer in omega (arith, inside, longer);
    closed = λ k i below feeds.
        extends.adds.marks i
        ∙ found_fed k i below (subst (λ n. fed_by through i (driver c n) ≡ true) (extends.before k (reach k below)) feeds);
  }
    where
      reach : (k : ℕ) → k < next + 1 → k < length q.nets
      reach k below = let inside = slice_get_within q.nets next net at in omega (arith, inside, below)

      found_fed : (k i : ℕ) → k < next + 1 → fed_by through i (driver c (net_at q.nets k)) ≡ true →
          (marked_in q.marks i || fed_by through i (driver c net)) ≡ true
      found_fed k i below feeds = elim (cases_eq k next) [
        | inl same ↦ or_right _ _ (subst (λ n. fed_by through i (driver c n) ≡ true) (ap (net_at q.nets) same ∙ get_or_from_slice_get q.nets next net 0 at) feeds)
        | inr other ↦ or_left _ _ (closing.closed k i (omega (arith, below, other)) feeds)
      ]

  pub closing_end : (q : Queue) (next : ℕ) → IsQueue q → slice_get q.nets next ≡ None →
      Closing c through nets q next → IsBehind c through nets (marked_in q.marks)
  closing_end q next queue none closing i = (closing.inside i, all)
    where
      whole : length q.nets ≤ next
      whole = elim (cases_lt next (length q.nets)) [
        | inl below ↦ absurd (some q.nets next below none)
        | inr past ↦ past
      ]
        where
          some : (xs : List ℕ) (k : ℕ) → k < length xs → slice_get xs k ≡ None → ⊥
          some [] k below none = omega arith
          some (x ∷ xs) zero below none = cc
          some (x ∷ xs) (suc k) below none = some xs k (omega arith) none

      place : (xs : List ℕ) (x : ℕ) → (at : Contains xs x) → net_at xs at.0 ≡ x
      place xs x at = get_or_default xs at.0 0 x at.1 ∙ at.2

      found_fed : (from j : ℕ) → Contains q.nets from → fed_by through j (driver c from) ≡ true →
          marked_in q.marks j ≡ true
      found_fed from j at feeds =
          closing.closed at.0 j (let below = at.1 in omega (arith, below, whole))
          (subst (λ n. fed_by through j (driver c n) ≡ true) (sym (place q.nets from at)) feeds)

      all : {j : ℕ} → Behind c through nets j → marked_in q.marks j ≡ true
      all (first {net = j} is) = closing.set j is
      all (fed {net = from} {from = j} inner feeds) = found_fed from j ((queue.are from).0 (all inner)) feeds

-- one net more of the first, if the circuit has it
pub first_more : (count net i : ℕ) (before after m a : Bool) → net < count → before ≡ (m || (nat_lt i count && a)) →
    after ≡ (before || (net == i)) → after ≡ (m || (nat_lt i count && (a || (net == i))))
first_more count net i before after m a below is added =
    added ∙ ap (λ (b : Bool). b || (net == i)) is
    ∙ first_bits (nat_lt i count) (net == i) m a (λ same.
    lt-ltb i count (subst (λ (n : ℕ). n < count) (eqb-true net i same) below))

pub other_more : (count net i : ℕ) (before m a : Bool) → count ≤ net → before ≡ (m || (nat_lt i count && a)) →
    before ≡ (m || (nat_lt i count && (a || (net == i))))
other_more count net i before m a past is =
    is
    ∙ other_bits (nat_lt i count) (net == i) m a (λ same.
    past_bit i (subst (λ (n : ℕ). count ≤ n) (eqb-true net i same) past))
  where
    past_bit : (n : ℕ) → count ≤ n → nat_lt n count ≡ false
    past_bit n far = by (nat_lt n count) refl
      where
        by : (b : Bool) → nat_lt n count ≡ b → nat_lt n count ≡ false
        by true is = let below = ltb-true n count is in absurd (omega (arith, below, far))
        by false is = is
