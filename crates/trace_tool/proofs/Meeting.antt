-- Bits that keep an assertion, tick by tick.
use Rattle.std.proofs.Common.{◌≡◌, ℕ, ◌+◌, ◌-◌, ◌<◌, ◌≤◌, Bool, true, false, not, List, [], length, get_or, Option, Some, None, is_some, refl, sym, subst, ◌∙◌, arith, inl, inr}
use Rattle.std.specs.Prelude.{◌⊎◌}
use Rattle.std.proofs.lemmas.Bool.{cases_order}
use Rattle.scald_base.specs.Time.{Header, period}
use Rattle.scald_base.specs.Clock.{IsEdge, ideal, back}
use Rattle.scald_base.specs.Fitting.{skew_of}
use Rattle.scald_base.specs.declared.assertion.ClockSpec.{ClockSpec}
use Rattle.pin_waves.specs.Meets.{Meets, MeetsClock, MeetsPrecision, NearEdge}
use Rattle.std.specs.Prelude.{MatchBool, slice_get, slice_index_or}
use Rattle.std.proofs.lemmas.Option.{get_or_from_slice_get, same_Some, slice_get_within}
use Rattle.flat_circuit.specs.declared.net.Net.{Net}
use Rattle.flat_circuit.specs.Name.{net_at}
use Rattle.flat_circuit.specs.Circuit.{Circuit, IsCircuit}
use Rattle.flat_circuit.specs.Run.{Choice as Chosen, Run, net_signal}
use Rattle.flat_circuit.proofs.Numbered.{order_long}
use Rattle.fixpoint_engine.specs.Interface.{MeetsInterface}
use Rattle.trace_sim.specs.Choice.{Bits}
use Rattle.trace_sim.specs.Simulated.{run_of}
use Rattle.trace_sim.proofs.Places.{has_place}
use Rattle.trace_tool.specs.Interface.{IsShifted, KeepsAt, KeepsClock, Strays, row_signal, steps_from}

-- what holds below a number, and at it, holds below the next
pub below_next : (P : ℕ → Type 0) (n : ℕ) → ((k : ℕ) → k < n → P k) → P n → (k : ℕ) → k < n + 1 → P k
below_next P n before now k below = elim (cases_order k n) as (λ _. P k) [
  | inl same ↦ subst P (sym same) now
  | inr apart ↦ elim apart as (λ _. P k) [
    | inl less ↦ before k less
    | inr more ↦ absurd (omega (arith, below, more))
  ]
]

-- ---- regions

-- the slot that lies so many ticks early of the slot of a tick
abbrev pub early_slot : Header → ClockSpec → ℕ → ℕ
early_slot h c t = back (period h) t 0 + (skew_of c h.cskew).0

pub near_edge : (h : Header) (c : ClockSpec) (to : Bool) (t by : ℕ) → by ≤ (skew_of c h.cskew).0 + (skew_of c h.cskew).1 →
    IsEdge c h to (back (period h) (early_slot h c t) by) → NearEdge h c to t
near_edge h c to t by near is =
    (back (period h) (early_slot h c t) by, record { is_edge = is; by = by; near = near; there = refl })

pub near_no_edge : (h : Header) (c : ClockSpec) (to : Bool) (t count : ℕ) → (skew_of c h.cskew).0 + (skew_of c h.cskew).1 < count →
    ((by : ℕ) → by < count → IsEdge c h to (back (period h) (early_slot h c t) by) → ⊥) → NearEdge h c to t → ⊥
near_no_edge h c to t count whole none near =
    let r = near.1 in
    let close = r.near in
    none r.by (omega (arith, close, whole)) (subst (IsEdge c h to) (sym r.there) r.is_edge)

-- ---- a clock at one tick

-- near a rise it does not fall, and so on
pub keeps_near : (h : Header) (c : ClockSpec) (t : ℕ) (before now : Bool) → (NearEdge h c true t → before ≡ true → now ≡ true) →
    (NearEdge h c false t → before ≡ false → now ≡ false) → (NearEdge h c true t ⊎ NearEdge h c false t) → KeepsClock h c t before now
keeps_near h c t before now rises falls near = record {
  rises = rises;
  falls = falls;
  early = λ far_rise far_fall. absurd (elim near [ inl rise ↦ far_rise rise | inr fall ↦ far_fall fall ]);
  late = λ far_rise far_fall. absurd (elim near [ inl rise ↦ far_rise rise | inr fall ↦ far_fall fall ]);
}

pub keeps_far : (h : Header) (c : ClockSpec) (t : ℕ) (before now : Bool) → (NearEdge h c true t → ⊥) → (NearEdge h c false t → ⊥) →
    before ≡ ideal c h (back (period h) t 1) → now ≡ ideal c h (back (period h) t 0) → KeepsClock h c t before now
keeps_far h c t before now far_rise far_fall early late = record {
  rises = λ near is. absurd (far_rise near);
  falls = λ near is. absurd (far_fall near);
  early = λ far away. early;
  late = λ far away. late;
}

-- ---- all ticks

abbrev pub KeepsTick : Header → ClockSpec → List Bool → ℕ → Type 0
KeepsTick h c row t = KeepsClock h c t (row_signal row (t - 1)) (row_signal row t)

pub meets_clock : (h : Header) (c : ClockSpec) (row : List Bool) → ((t : ℕ) → 1 ≤ t → t < length row → KeepsTick h c row t) →
    MeetsClock h c (length row) (row_signal row)
meets_clock h c row each = record {
  rises = λ t some below. (each t some below).rises;
  falls = λ t some below. (each t some below).falls;
  before = λ t some below. (each t some below).early;
  after = λ t some below. (each t some below).late;
}

pub meets_at : (h : Header) (c : ClockSpec) (row : List Bool) (t : ℕ) → MeetsClock h c (length row) (row_signal row) → 1 ≤ t → t < length row →
    KeepsTick h c row t
meets_at h c row t meets some below = record {
  rises = meets.rises t some below;
  falls = meets.falls t some below;
  early = meets.before t some below;
  late = meets.after t some below;
}

-- ---- a precision clock

pub meets_precision : (h : Header) (c : ClockSpec) (row : List Bool) (by : ℕ) → by ≤ (skew_of c h.pskew).0 + (skew_of c h.pskew).1 →
    IsShifted h c by row → MeetsPrecision h c (length row) (row_signal row)
meets_precision h c row by near is = record { by = by; within = near; bits = is }

pub meets_no_precision : (h : Header) (c : ClockSpec) (row : List Bool) (count : ℕ) → (skew_of c h.pskew).0 + (skew_of c h.pskew).1 < count →
    ((by : ℕ) → by < count → IsShifted h c by row → ⊥) → MeetsPrecision h c (length row) (row_signal row) → ⊥
meets_no_precision h c row count whole none meets =
    let near = meets.within in none meets.by (omega (arith, near, whole)) meets.bits

-- ---- steps near an edge

pub steps_back : (to before now near : Bool) → steps_from near to before now ≡ true → (near ≡ true) × ((before ≡ to) × (now ≡ not to))
steps_back to before now false is = absurd (cc)
steps_back true true true true is = absurd (cc)
steps_back true true false true is = (refl, (refl, refl))
steps_back true false now true is = absurd (cc)
steps_back false true now true is = absurd (cc)
steps_back false false true true is = (refl, (refl, refl))
steps_back false false false true is = absurd (cc)

pub no_step_back : (to before now near : Bool) → steps_from near to before now ≡ false → near ≡ true → before ≡ to → now ≡ to
no_step_back to before now false is close from = absurd (cc)
no_step_back true true true true is close from = refl
no_step_back true true false true is close from = absurd (cc)
no_step_back true false now true is close from = absurd (cc)
no_step_back false true now true is close from = absurd (cc)
no_step_back false false true true is close from = absurd (cc)
no_step_back false false false true is close from = refl

-- the other bit
pub other_bit : (a b : Bool) → (a ≡ b → ⊥) → a ≡ not b
other_bit true true other = absurd (other refl)
other_bit true false other = refl
other_bit false true other = refl
other_bit false false other = absurd (other refl)

-- ---- the net at a place

pub none_from : (o : Option ℕ) → is_some o ≡ false → o ≡ None
none_from None is = refl
none_from (Some x) is = absurd (cc)

-- whether a row meets the assertion is whether its net does
pub keeps_or_strays : (c : Circuit) (ticks : ℕ) (choices : List Chosen) (bits : Bits) (place n : ℕ) (h : Header) (net : Net) (row : List Bool) (met : Bool) →
    place < length c.order → n ≡ net_at c.order place → h ≡ c.header → slice_get c.nets n ≡ Some net → net.driver ≡ None →
    row ≡ slice_index_or bits n [] → length row ≡ ticks →
    MatchBool met (Meets h net.spec (length row) (row_signal row)) (¬ (Meets h net.spec (length row) (row_signal row))) →
    MatchBool met (KeepsAt c (run_of ticks choices bits) place) (Strays c (run_of ticks choices bits) place)
keeps_or_strays c ticks choices bits place n h net row met inside number header is undriven in_bits long meets = by met meets
  where
    there : get_or bits (net_at c.order place) [] ≡ row
    there = subst (λ (k : ℕ). get_or bits k [] ≡ row) number (sym in_bits)

    here : slice_get c.nets (net_at c.order place) ≡ Some net
    here = subst (λ (k : ℕ). slice_get c.nets k ≡ Some net) number is

    to : Meets h net.spec (length row) (row_signal row) → Meets c.header net.spec ticks (net_signal (run_of ticks choices bits) (net_at c.order place))
    to m = subst (λ (xs : List Bool). Meets c.header net.spec ticks (row_signal xs)) (sym there)
        (subst (λ (k : ℕ). Meets c.header net.spec k (row_signal row)) long
        (subst (λ (g : Header). Meets g net.spec (length row) (row_signal row)) header m))

    back_to : Meets c.header net.spec ticks (net_signal (run_of ticks choices bits) (net_at c.order place)) → Meets h net.spec (length row) (row_signal row)
    back_to m = subst (λ (g : Header). Meets g net.spec (length row) (row_signal row)) (sym header)
        (subst (λ (k : ℕ). Meets c.header net.spec k (row_signal row)) (sym long)
        (subst (λ (xs : List Bool). Meets c.header net.spec ticks (row_signal xs)) there m))

    by : (met : Bool) → MatchBool met (Meets h net.spec (length row) (row_signal row)) (¬ (Meets h net.spec (length row) (row_signal row))) →
        MatchBool met (KeepsAt c (run_of ticks choices bits) place) (Strays c (run_of ticks choices bits) place)
    by true m = λ other at undriven_too.
        let one : net ≡ other = same_Some net other (sym here ∙ at) in
        subst (λ (o : Net). Meets c.header o.spec ticks (net_signal (run_of ticks choices bits) (net_at c.order place))) one (to m)
    by false none = record { net = net; inside = inside; net_is = here; undriven = undriven; strays = λ m. none (back_to m) }

-- all places are all nets
pub all_meet : (c : Circuit) (run : Run) (places : ℕ) → IsCircuit c → length c.nets ≤ places →
    ((place : ℕ) → place < places → KeepsAt c run place) → MeetsInterface c run
all_meet c run places known all keeps i net here undriven =
    let at = has_place c known i (slice_get_within c.nets i net here) in
    let inside = slice_get_within c.order at.place i at.is in
    let long = order_long c.nets c.order known.by_name in
    subst (λ (n : ℕ). (net : Net) → slice_get c.nets n ≡ Some net → net.driver ≡ None → Meets c.header net.spec run.ticks (net_signal run n))
    (get_or_from_slice_get c.order at.place i 0 at.is) (keeps at.place (omega arith)) net here undriven
