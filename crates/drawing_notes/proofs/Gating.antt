-- The clocks, and the nets with a clock pin on them, put together one after the other, and what a search finds from there.
use Rattle.std.proofs.Common.{◌≡◌, ℕ, ◌+◌, ◌<◌, ◌≤◌, ◌==◌, ◌&&◌, ◌||◌, Bool, true, false, List, [], length, take, replicate, inl, inr, refl, sym, ap, ◌∙◌, arith, slice_get, Option, Some, None}
use Rattle.std.specs.Prelude.{nat_lt}
use Rattle.std.specs.List.{list_any}
use Rattle.std.proofs.lemmas.Bool.{cases_eq, cases_lt, eq-eqb, ne_eqb}
use Rattle.std.proofs.lemmas.Bool.Decides.{nat_tests}
use Rattle.std.proofs.lemmas.List.{take_all}
use Rattle.flat_circuit.specs.declared.net.Net.{Net}
use Rattle.flat_circuit.specs.declared.instance.Instance.{Instance}
use Rattle.flat_circuit.specs.Circuit.{Circuit}
use Rattle.flat_circuit.proofs.Driven.{get_none}
use Rattle.fixpoint_engine.specs.Settled.{marked_in}
use Rattle.fixpoint_engine.specs.Worklist.{Adds, Queue}
use Rattle.drawing_notes.specs.Search.{IsFound}
use Rattle.drawing_notes.specs.Unmarked.{is_asserted_clock, is_clock, is_gated, is_timing, times_at, times_by}
use Rattle.drawing_omissions.proofs.Anys.{any_more}
use Rattle.drawing_notes.proofs.ByClock.{found_by}
use Rattle.drawing_omissions.proofs.Written.{same_at}

-- ---- clocks below a number

abbrev pub clock_below : Circuit → ℕ → ℕ → Bool
clock_below c n i = nat_lt i n && is_clock c i

lt_more : (i n : ℕ) → nat_lt i (n + 1) ≡ (nat_lt i n || (n == i))
lt_more i n = elim (cases_lt i n) [
  | inl less ↦
      let more : nat_lt i (n + 1) ≡ true = grind (arith, nat_tests) in
      let before : nat_lt i n ≡ true = grind (arith, nat_tests) in
      more ∙ sym (ap (λ b. b || (n == i)) before)
  | inr past ↦ elim (cases_eq n i) [
    | inl same ↦
        let more : nat_lt i (n + 1) ≡ true = let e = same in grind (arith, nat_tests) in
        let before : nat_lt i n ≡ false = grind (arith, nat_tests) in
        more ∙ sym ((λ k. before k || eq-eqb n i same k))
    | inr other ↦
        let more : nat_lt i (n + 1) ≡ false = grind (arith, nat_tests) in
        let before : nat_lt i n ≡ false = grind (arith, nat_tests) in
        more ∙ sym ((λ k. before k || ne_eqb n i other k))
  ]
]

joined : (a l e p : Bool) → ((a || (l && p)) || (e && p)) ≡ (a || ((l || e) && p))
joined true l e p = refl
joined false true e true = refl
joined false true true false = refl
joined false true false false = refl
joined false false e p = refl

none_yet : (a p : Bool) → a ≡ (a || (false && p))
none_yet true p = refl
none_yet false p = refl

pub clocks_start : (c : Circuit) (q : Queue) → Adds (clock_below c 0) q q
clocks_start c q = record { each_net = refl; marks = λ i. none_yet (marked_in q.marks i) (is_clock c i) ∙ ap (λ b. marked_in q.marks i || (b && is_clock c i)) (none i) }
  where
    none : (i : ℕ) → false ≡ nat_lt i 0
    none i = grind (arith, nat_tests)

pub clocks_more : (c : Circuit) (n : ℕ) (start old new : Queue) → Adds (clock_below c n) start old → Adds (λ i. (n == i) && is_clock c i) old new →
    Adds (clock_below c (n + 1)) start new
clocks_more c n start old new before one = record {
  each_net = one.each_net ∙ before.each_net;
  marks = λ i.
      one.marks i ∙ ap (λ b. b || ((n == i) && is_clock c i)) (before.marks i)
      ∙ joined (marked_in start.marks i) (nat_lt i n) (n == i) (is_clock c i)
      ∙ ap (λ b. marked_in start.marks i || (b && is_clock c i)) (sym (lt_more i n));
}

pub clocks_end : (c : Circuit) (n : ℕ) (start new : Queue) → length c.nets ≤ n → Adds (clock_below c n) start new → Adds (is_clock c) start new
clocks_end c n start new whole is = record { each_net = is.each_net; marks = λ i. is.marks i ∙ ap (λ b. marked_in start.marks i || b) (all i) }
  where
    all : (i : ℕ) → clock_below c n i ≡ is_clock c i
    all i = elim (cases_lt i n) [
      | inl below ↦ ap (λ b. b && is_clock c i) (let e : nat_lt i n ≡ true = grind (arith, nat_tests) in e)
      | inr past ↦
          let e : nat_lt i n ≡ false = grind (arith, nat_tests) in
          ap (λ b. b && is_clock c i) e ∙ sym (ap is_asserted_clock (no_net i (omega (arith, whole, past))))
    ]
      where
        no_net : (i : ℕ) → length c.nets ≤ i → slice_get c.nets i ≡ None
        no_net i past = get_none c.nets i past

-- ---- nets with a clock pin on them, of the first instances

abbrev pub timing_to : Circuit → ℕ → ℕ → Bool
timing_to c n i = is_gated c i && list_any (times_by i) (take n c.instances)

shared : (a g l t : Bool) → ((a || (g && l)) || (g && t)) ≡ (a || (g && (l || t)))
shared true g l t = refl
shared false true l t = refl
shared false false l t = refl

never : (a g : Bool) → a ≡ (a || (g && false))
never true g = refl
never false true = refl
never false false = refl

pub timing_start : (c : Circuit) (q : Queue) → Adds (timing_to c 0) q q
timing_start c q = record { each_net = refl; marks = λ i. never (marked_in q.marks i) (is_gated c i) }

pub timing_more : (c : Circuit) (n : ℕ) (gated : List Bool) (start old new : Queue) → ((i : ℕ) → marked_in gated i ≡ is_gated c i) → Adds (timing_to c n) start old →
    Adds (λ i. marked_in gated i && times_at i (slice_get c.instances n)) old new → Adds (timing_to c (n + 1)) start new
timing_more c n gated start old new same before one = record {
  each_net = one.each_net ∙ before.each_net;
  marks = λ i.
      one.marks i ∙ (λ k. before.marks i k || (same i k && times_at i (slice_get c.instances n)))
      ∙ shared (marked_in start.marks i) (is_gated c i) (list_any (times_by i) (take n c.instances)) (times_at i (slice_get c.instances n))
      ∙ ap (λ b. marked_in start.marks i || (is_gated c i && b)) (sym (any_more (times_by i) (times_at i) refl (λ j. refl) c.instances n));
}

pub timing_end : (c : Circuit) (n : ℕ) (start new : Queue) → length c.instances ≤ n → Adds (timing_to c n) start new → Adds (is_timing c) start new
timing_end c n start new whole is = record {
  each_net = is.each_net;
  marks = λ i. is.marks i ∙ ap (λ (js : List Instance). marked_in start.marks i || (is_gated c i && list_any (times_by i) js)) (take_all n c.instances whole);
}

-- ---- what is found from there

pub found_from : (step : ℕ → ℕ → Bool) (within p : ℕ → Bool) (set : List Bool) (n : ℕ) (begun started found : Queue) → ((i : ℕ) → marked_in set i ≡ within i) →
    begun.marks ≡ replicate n false → Adds p begun started → IsFound step (marked_in set) (marked_in started.marks) (marked_in found.marks) →
    IsFound step within p (marked_in found.marks)
found_from step within p set n begun started found nets none adds is =
    found_by step (marked_in set) within (marked_in started.marks) p (marked_in found.marks) nets
    (λ i. adds.marks i ∙ ap (λ b. b || p i) (ap (λ (ms : List Bool). marked_in ms i) none ∙ same_at false n i)) is
