-- Whether a signal keeps an assertion, as a test that computes, which says the same as the
-- definition.
use Prim.Native.String.{String}
use Rattle.std.proofs.Common.{◌≡◌, ℕ, ◌+◌, ◌-◌, ◌<◌, ◌≤◌, Bool, true, false, not, ◌&&◌, ◌||◌, ◌==◌, nat_lt, List, [], ◌∷◌, refl, sym, subst, arith, lt-ltb, ltb-true, eq-eqb, eqb-true}
use Rattle.std.specs.Prelude.{⊤}
use Rattle.std.specs.List.{list_all}
use Rattle.std.proofs.lemmas.Bool.{and_parts, and_from, not_from_false}
use Rattle.scald_base.specs.Time.{Header, period}
use Rattle.scald_base.specs.Clock.{ideal, back, IsEdge, IsInRegion}
use Rattle.scald_base.specs.Quiet.{quiet}
use Rattle.scald_base.specs.Fitting.{skew_of}
use Rattle.scald_base.specs.Signal.{Signal}
use Rattle.scald_base.specs.declared.assertion.Span.{Span}
use Rattle.scald_base.specs.declared.assertion.ClockSpec.{ClockSpec}
use Rattle.scald_base.specs.declared.assertion.AssertSpec.{AssertSpec}
use Rattle.scald_base.specs.declared.assertion.AssertSpec.TheVariants.{None as Unasserted, Precision, Clock, Stable}
use Rattle.pin_waves.specs.Meets.{MeetsPrecision, NearEdge, MeetsClock, Meets}
use Rattle.pin_waves.proofs.Tests.{bits, ticks, same_bit, same_bit_is, same_bit_from, implies, implies_is, implies_from, not_true, all_below, any_below, each_passes, all_pass, some_passes, any_passes, all_steps, each_step, steps_pass}

-- ---- `.P`

-- the signal is the ideal clock, as early as it may be and so many ticks later
abbrev pub is_shifted : Header → ClockSpec → ℕ → Signal → ℕ → Bool
is_shifted h c n x by =
    all_below (λ t. same_bit (x t) (ideal c h (back (period h) (t + (skew_of c h.pskew).0) by))) n

abbrev pub keeps_precision : Header → ClockSpec → ℕ → Signal → Bool
keeps_precision h c n x =
    any_below (is_shifted h c n x) ((skew_of c h.pskew).0 + (skew_of c h.pskew).1 + 1)

precision_is : (h : Header) (c : ClockSpec) (n : ℕ) (x : Signal) → keeps_precision h c n x ≡ true →
    MeetsPrecision h c n x
precision_is h c n x passed =
    let found = some_passes (is_shifted h c n x)
    ((skew_of c h.pskew).0 + (skew_of c h.pskew).1 + 1) passed in
    record {
      by = found.0;
      within = (let below : found.0 < (skew_of c h.pskew).0 + (skew_of c h.pskew).1 + 1 = found.1 in
          omega (arith, below));
      bits = λ t less. same_bit_is (x t) _
          (each_passes (λ i. same_bit (x i)
          (ideal c h (back (period h) (i + (skew_of c h.pskew).0) found.0))) n found.2 t less);
    }

precision_from : (h : Header) (c : ClockSpec) (n : ℕ) (x : Signal) → MeetsPrecision h c n x →
    keeps_precision h c n x ≡ true
precision_from h c n x meets =
    let within : meets.by ≤ (skew_of c h.pskew).0 + (skew_of c h.pskew).1 = meets.within in
    any_passes (is_shifted h c n x) ((skew_of c h.pskew).0 + (skew_of c h.pskew).1 + 1) meets.by
    (omega (arith, within))
    (all_pass (λ i. same_bit (x i)
    (ideal c h (back (period h) (i + (skew_of c h.pskew).0) meets.by))) n
    (λ t less. same_bit_from (x t) _ (meets.bits t less)))

-- The signal of a text keeps the assertion by one offset alone, which counts from the earliest.
pub record OnlyBy (h : Header) (c : ClockSpec) (text : String) (by : ℕ) : Type 0 where
  pub is : (meets : MeetsPrecision h c (ticks text) (bits text)) → meets.by ≡ by

abbrev pub no_other : Header → ClockSpec → String → ℕ → Bool
no_other h c text by =
    all_below (λ i. (i == by) || not (is_shifted h c (ticks text) (bits text) i))
    ((skew_of c h.pskew).0 + (skew_of c h.pskew).1 + 1)

pub only_by : {h : Header} {c : ClockSpec} {text : String} {by : ℕ} → no_other h c text by ≡ true →
    OnlyBy h c text by
only_by {h = h} {c = c} {text = text} {by = by} failed = record { is = at }
  where
    at : (meets : MeetsPrecision h c (ticks text) (bits text)) → meets.by ≡ by
    at meets =
        let within : meets.by ≤ (skew_of c h.pskew).0 + (skew_of c h.pskew).1 = meets.within in
        let fits : is_shifted h c (ticks text) (bits text) meets.by ≡ true =
        all_pass (λ i. same_bit (bits text i)
        (ideal c h (back (period h) (i + (skew_of c h.pskew).0) meets.by))) (ticks text)
        (λ t less. same_bit_from (bits text t) _ (meets.bits t less)) in
        let either : ((meets.by == by) || not (is_shifted h c (ticks text) (bits text) meets.by))
        ≡ true =
        each_passes (λ i. (i == by) || not (is_shifted h c (ticks text) (bits text) i))
        ((skew_of c h.pskew).0 + (skew_of c h.pskew).1 + 1) failed meets.by
        (omega (arith, within)) in
        eqb-true meets.by by (grind (arith, fits, either))

-- ---- `.C`

-- the ideal clock steps to this bit
abbrev pub is_edge : Header → ClockSpec → Bool → ℕ → Bool
is_edge h c to slot =
    nat_lt slot (period h) &&
    (same_bit (ideal c h (back (period h) slot 1)) (not to) && same_bit (ideal c h slot) to)

edge_is : (h : Header) (c : ClockSpec) (to : Bool) (slot : ℕ) → is_edge h c to slot ≡ true →
    IsEdge c h to slot
edge_is h c to slot passed =
    let parts = and_parts (nat_lt slot (period h)) _ passed in
    let bits = and_parts (same_bit (ideal c h (back (period h) slot 1)) (not to)) _ parts.1 in
    record {
      within = ltb-true slot
          (period h) parts.0;
      before = same_bit_is _ _ bits.0;
      after = same_bit_is _ _ bits.1;
    }

edge_from : (h : Header) (c : ClockSpec) (to : Bool) (slot : ℕ) → IsEdge c h to slot →
    is_edge h c to slot ≡ true
edge_from h c to slot edge =
    and_from (nat_lt slot (period h)) _ (lt-ltb slot (period h) edge.within)
    (and_from (same_bit (ideal c h (back (period h) slot 1)) (not to)) _
    (same_bit_from _ _ edge.before) (same_bit_from _ _ edge.after))

-- the slot is of the region of an edge to this bit, which stands at a slot
abbrev pub is_in_region : Header → ClockSpec → ℕ → ℕ → Bool → ℕ → ℕ → Bool
is_in_region h c early late to edge slot =
    is_edge h c to edge && any_below (λ by. back (period h) (slot + early) by == edge)
    (early + late + 1)

pub region_is : (h : Header) (c : ClockSpec) (early late : ℕ) (to : Bool) (edge slot : ℕ) →
    is_in_region h c early late to edge slot ≡ true → IsInRegion c h early late to edge slot
region_is h c early late to edge slot passed =
    let parts = and_parts (is_edge h c to edge) _ passed in
    let found = some_passes (λ by. back (period h) (slot + early) by == edge)
    (early + late + 1) parts.1 in
    record {
      is_edge = edge_is h c to edge parts.0;
      by = found.0;
      near = (let below : found.0 < early + late + 1 = found.1 in omega (arith, below));
      there = eqb-true _ edge found.2;
    }

pub region_from : (h : Header) (c : ClockSpec) (early late : ℕ) (to : Bool) (edge slot : ℕ) →
    IsInRegion c h early late to edge slot → is_in_region h c early late to edge slot ≡ true
region_from h c early late to edge slot region =
    let within : region.by ≤ early + late = region.near in
    and_from (is_edge h c to edge) _ (edge_from h c to edge region.is_edge)
    (any_passes (λ by. back (period h) (slot + early) by == edge) (early + late + 1) region.by
    (omega (arith, within)) (eq-eqb _ edge region.there))

-- the tick's slot is of the region of such an edge
abbrev pub is_near : Header → ClockSpec → Bool → ℕ → Bool
is_near h c to t =
    any_below (λ by. is_edge h c to
    (back (period h) (back (period h) t 0 + (skew_of c h.cskew).0) by))
    ((skew_of c h.cskew).0 + (skew_of c h.cskew).1 + 1)

near_is : (h : Header) (c : ClockSpec) (to : Bool) (t : ℕ) → is_near h c to t ≡ true →
    NearEdge h c to t
near_is h c to t passed =
    let found = some_passes
    (λ by. is_edge h c to (back (period h) (back (period h) t 0 + (skew_of c h.cskew).0) by))
    ((skew_of c h.cskew).0 + (skew_of c h.cskew).1 + 1) passed in (
      back (period h) (back (period h) t 0 + (skew_of c h.cskew).0) found.0,
      record {
        is_edge = edge_is h c to _ found.2;
        by = found.0;
        near = (let below : found.0 < (skew_of c h.cskew).0 + (skew_of c h.cskew).1 + 1 = found.1 in
            omega (arith, below));
        there = refl;
      },
    )

near_from : (h : Header) (c : ClockSpec) (to : Bool) (t : ℕ) → NearEdge h c to t →
    is_near h c to t ≡ true
near_from h c to t near =
    let within : near.1.by ≤ (skew_of c h.cskew).0 + (skew_of c h.cskew).1 = near.1.near in
    any_passes (λ by. is_edge h c to
    (back (period h) (back (period h) t 0 + (skew_of c h.cskew).0) by))
    ((skew_of c h.cskew).0 + (skew_of c h.cskew).1 + 1)
    near.1.by (omega (arith, within))
    (subst (λ (edge : ℕ). is_edge h c to edge ≡ true) (sym near.1.there)
    (edge_from h c to near.0 near.1.is_edge))

-- near a rise no fall, near a fall no rise, and elsewhere the step of the ideal clock
abbrev pub near_rise : Header → ClockSpec → Signal → ℕ → Bool
near_rise h c x t = implies (is_near h c true t) (implies (x (t - 1)) (x t))

abbrev pub near_fall : Header → ClockSpec → Signal → ℕ → Bool
near_fall h c x t = implies (is_near h c false t) (implies (not (x (t - 1))) (not (x t)))

abbrev pub elsewhere : Header → ClockSpec → Signal → ℕ → Bool
elsewhere h c x t =
    implies (not (is_near h c true t) && not (is_near h c false t))
    (same_bit (x (t - 1)) (ideal c h (back (period h) t 1)) && same_bit (x t)
    (ideal c h (back (period h) t 0)))

abbrev pub clock_steps : Header → ClockSpec → Signal → ℕ → Bool
clock_steps h c x t = near_rise h c x t && (near_fall h c x t && elsewhere h c x t)

no_edge : (h : Header) (c : ClockSpec) (to : Bool) (t : ℕ) → ¬ NearEdge h c to t →
    not (is_near h c to t) ≡ true
no_edge h c to t none = at (is_near h c to t) refl
  where
    at : (b : Bool) → is_near h c to t ≡ b → not (is_near h c to t) ≡ true
    at true is = absurd (none (near_is h c to t is))
    at false is = not_from_false (is_near h c to t) is

no_near : (h : Header) (c : ClockSpec) (to : Bool) (t : ℕ) → not (is_near h c to t) ≡ true →
    ¬ NearEdge h c to t
no_near h c to t none near = let passed : is_near h c to t ≡ true = near_from h c to t near in
    grind (arith, none, passed)

clock_is : (h : Header) (c : ClockSpec) (n : ℕ) (x : Signal) →
    all_steps (clock_steps h c x) n ≡ true → MeetsClock h c n x
clock_is h c n x passed =
    record {
      rises = λ t one below near high.
          implies_is (x (t - 1)) (x t)
          (implies_is (is_near h c true t) _ (parts t one below).0
          (near_from h c true t near)) high;
      falls = λ t one below near low.
          not_true (x t)
          (implies_is (not (x (t - 1))) _
          (implies_is (is_near h c false t) _ (rest t one below).0 (near_from h c false t near))
          (not_from_false (x (t - 1)) low));
      before = λ t one below up down. same_bit_is (x (t - 1)) _ (away t one below up down).0;
      after = λ t one below up down. same_bit_is (x t) _ (away t one below up down).1;
    }
  where
    parts : (t : ℕ) → 1 ≤ t → t < n →
        (near_rise h c x t ≡ true) × ((near_fall h c x t && elsewhere h c x t) ≡ true)
    parts t one below =
        and_parts (near_rise h c x t) _ (each_step (clock_steps h c x) n passed t one below)

    rest : (t : ℕ) → 1 ≤ t → t < n → (near_fall h c x t ≡ true) × (elsewhere h c x t ≡ true)
    rest t one below = and_parts (near_fall h c x t) _ (parts t one below).1

    away : (t : ℕ) → 1 ≤ t → t < n → ¬ NearEdge h c true t → ¬ NearEdge h c false t →
        (same_bit (x (t - 1)) (ideal c h (back (period h) t 1)) ≡ true)
        × (same_bit (x t) (ideal c h (back (period h) t 0)) ≡ true)
    away t one below up down =
        and_parts (same_bit (x (t - 1)) (ideal c h (back (period h) t 1))) _
        (implies_is (not (is_near h c true t) && not (is_near h c false t)) _ (rest t one below).1
        (and_from (not (is_near h c true t)) _ (no_edge h c true t up) (no_edge h c false t down)))

clock_from : (h : Header) (c : ClockSpec) (n : ℕ) (x : Signal) → MeetsClock h c n x →
    all_steps (clock_steps h c x) n ≡ true
clock_from h c n x meets = steps_pass (clock_steps h c x) n at
  where
    at : (t : ℕ) → 1 ≤ t → t < n → clock_steps h c x t ≡ true
    at t one below =
        and_from (near_rise h c x t) _
        (implies_from (is_near h c true t) _
        (λ near. implies_from (x (t - 1)) _
        (λ high. meets.rises t one below (near_is h c true t near) high)))
        (and_from (near_fall h c x t) _
        (implies_from (is_near h c false t) _ (λ near. implies_from (not (x (t - 1))) _ (λ low.
        not_from_false (x t)
        (meets.falls t one below (near_is h c false t near) (not_true (x (t - 1)) low)))))
        (implies_from (not (is_near h c true t) && not (is_near h c false t)) _ (λ none.
        let parts = and_parts (not (is_near h c true t)) _ none in
        let up = no_near h c true t parts.0 in
        let down = no_near h c false t parts.1 in
        and_from (same_bit (x (t - 1)) _) _
        (same_bit_from _ _ (meets.before t one below up down))
        (same_bit_from _ _ (meets.after t one below up down)))))

-- ---- `.S`, and none

abbrev pub stays : Signal → ℕ → Bool
stays x t = same_bit (x (t - 1)) (x t)

abbrev pub stays_quiet : Header → List Span → Signal → ℕ → Bool
stays_quiet h spans x t = implies (quiet spans h (back (period h) t 0)) (stays x t)

-- ---- any of them

abbrev pub keeps : Header → AssertSpec → ℕ → Signal → Bool
keeps h Unasserted n x = all_steps (stays x) n
keeps h (Precision c) n x = keeps_precision h c n x
keeps h (Clock c) n x = all_steps (clock_steps h c x) n
keeps h (Stable spans) n x = all_steps (stays_quiet h spans x) n

pub meets_is : (h : Header) (a : AssertSpec) (n : ℕ) (x : Signal) → keeps h a n x ≡ true →
    Meets h a n x
meets_is h Unasserted n x passed =
    λ t one below. same_bit_is (x (t - 1)) (x t) (each_step (stays x) n passed t one below)
meets_is h (Precision c) n x passed = precision_is h c n x passed
meets_is h (Clock c) n x passed = clock_is h c n x passed
meets_is h (Stable spans) n x passed =
    λ t one below calm. same_bit_is (x (t - 1)) (x t)
    (implies_is (quiet spans h (back (period h) t 0)) _
    (each_step (stays_quiet h spans x) n passed t one below) calm)

pub meets_from : (h : Header) (a : AssertSpec) (n : ℕ) (x : Signal) → Meets h a n x →
    keeps h a n x ≡ true
meets_from h Unasserted n x meets =
    steps_pass (stays x) n (λ t one below. same_bit_from (x (t - 1)) (x t) (meets t one below))
meets_from h (Precision c) n x meets = precision_from h c n x meets
meets_from h (Clock c) n x meets = clock_from h c n x meets
meets_from h (Stable spans) n x meets =
    steps_pass (stays_quiet h spans x) n
    (λ t one below. implies_from (quiet spans h (back (period h) t 0)) _
    (λ calm. same_bit_from (x (t - 1)) (x t) (meets t one below calm)))

pub meets_not : (h : Header) (a : AssertSpec) (n : ℕ) (x : Signal) → keeps h a n x ≡ false →
    ¬ Meets h a n x
meets_not h a n x failed meets = let passed : keeps h a n x ≡ true = meets_from h a n x meets in
    absurd (cc)

-- ---- tables

abbrev pub EachMeets : Header → AssertSpec → List String → Type 0
EachMeets h a [] = ⊤
EachMeets h a (text ∷ texts) = Meets h a (ticks text) (bits text) × EachMeets h a texts

abbrev pub NoneMeets : Header → AssertSpec → List String → Type 0
NoneMeets h a [] = ⊤
NoneMeets h a (text ∷ texts) = (¬ Meets h a (ticks text) (bits text)) × NoneMeets h a texts

-- Of these signals the ones keep the assertion as far as they go, and the others do not.
pub record Keeps (h : Header) (a : AssertSpec) (kept broken : List String) : Type 0 where
  pub each : EachMeets h a kept
  pub none : NoneMeets h a broken

abbrev pub passes : Header → AssertSpec → String → Bool
passes h a text = keeps h a (ticks text) (bits text)

each_meets : (h : Header) (a : AssertSpec) (texts : List String) →
    list_all (passes h a) texts ≡ true → EachMeets h a texts
each_meets h a [] passed = tt
each_meets h a (text ∷ texts) passed =
    let parts = and_parts (passes h a text) (list_all (passes h a) texts) passed in
    (meets_is h a (ticks text) (bits text) parts.0, each_meets h a texts parts.1)

none_meets : (h : Header) (a : AssertSpec) (texts : List String) →
    list_all (λ text. not (passes h a text)) texts ≡ true → NoneMeets h a texts
none_meets h a [] passed = tt
none_meets h a (text ∷ texts) passed =
    let parts = and_parts (not (passes h a text))
    (list_all (λ other. not (passes h a other)) texts) passed in (
      meets_not h a (ticks text) (bits text)
          (not_true (passes h a text) parts.0),
      none_meets h a texts parts.1,
    )

pub table : {h : Header} {a : AssertSpec} {kept broken : List String} →
    list_all (passes h a) kept ≡ true → list_all (λ text. not (passes h a text)) broken ≡ true →
    Keeps h a kept broken
table {h = h} {a = a} {kept = kept} {broken = broken} passed failed =
    record { each = each_meets h a kept passed; none = none_meets h a broken failed }
