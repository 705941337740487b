-- Every run of a narrowing is in one of the two halves at which it is split.
use Rattle.std.proofs.Common.{◌≡◌, ℕ, zero, suc, ◌-◌, ◌≤◌, ◌<◌, ◌⊎◌, inl, inr, Bool, true, false, not, List, [], ◌∷◌, filter, refl, sym, subst, ◌∙◌, arith, slice_get, Option, Some, None, if◌then◌else◌, ap}
use Rattle.std.specs.List.{All}
use Rattle.std.proofs.lemmas.Bool.{cases_Bool, cases_lt}
use Rattle.std.proofs.lemmas.List.Elements.{All-filter, All-push, recursion_from_All}
use Rattle.scald_base.specs.Signal.{Signal}
use Rattle.scald_base.specs.Time.{Bounds, Header}
use Rattle.scald_base.specs.declared.assertion.AssertSpec.{AssertSpec}
use Rattle.scald_base.specs.declared.assertion.ClockSpec.{ClockSpec}
use Rattle.scald_base.specs.declared.assertion.AssertSpec.TheVariants.{None as Unasserted, Precision, Clock, Stable}
use Rattle.element_kinds.specs.declared.form.Form.{Form}
use Rattle.element_kinds.specs.declared.form.Form.TheVariants.{Gate, Change, Register, Latch as Enabled, Checker}
use Rattle.element_kinds.specs.declared.kind.Kind.{Kind}
use Rattle.element_kinds.specs.Kinds.{form_of, may_split}
use Rattle.flat_circuit.specs.declared.case.CaseValue.{CaseValue}
use Rattle.flat_circuit.specs.declared.split.Split.{Split}
use Rattle.flat_circuit.specs.Circuit.{Circuit}
use Rattle.flat_circuit.specs.Run.{Choice, DelayFitsForm, DelaysFit, IsRun, Run, Within, net_signal}
use Rattle.fixpoint_engine.specs.Interface.{MeetsInterface}
use Rattle.pin_waves.specs.Meets.{Meets, MeetsPrecision}
use Rattle.narrowing.specs.declared.constraint.Constraint.{Constraint}
use Rattle.narrowing.specs.declared.part.Part.{Part}
use Rattle.narrowing.specs.declared.part.Part.TheVariants.{Constant, Delay, Offset, Rise, Fall}
use Rattle.narrowing.specs.Leaf.{NeverBreaksIn}
use Rattle.narrowing.specs.Narrowed.{narrowed, offset_in}
use Rattle.narrowing.specs.Part.{ComesWithin, HasDelay, IsConstantBy, IsIn, KeepsTo, MayBeLate, MayBeSet, PartFits, Picks, between, most_late, same_thing, with_part}
use Rattle.narrowing.specs.Tree.{AreHalves, IsSplit, offset_bounds}
use Rattle.narrowing.proofs.Delays.{was_within}
use Rattle.narrowing.proofs.Meeting.{comes_within}
use Rattle.narrowing.proofs.Runs.{narrowed_run}

-- ---- a part more

pub in_half : (c : Circuit) (values : List CaseValue) (parts : List Part) (p : Part) (run : Run) → IsIn c values parts run →
    KeepsTo c run p → IsIn c values (with_part parts p) run
in_half c values parts p run is keeps = record {
  in_case = is.in_case;
  keeps = All-push (KeepsTo c run) (filter (λ q. not (same_thing q p)) parts) p
      (All-filter (λ q. not (same_thing q p)) (KeepsTo c run) parts is.keeps) keeps;
}

-- ---- the bits of a constant net

still : (h : Header) (spec : AssertSpec) (n : ℕ) (x : Signal) → IsConstantBy spec → Meets h spec n x →
    (t : ℕ) → 1 ≤ t → t < n → x (t - 1) ≡ x t
still h Unasserted n x constant meets = meets
still h (Stable []) n x constant meets = λ t from below. meets t from below refl
still h (Stable (s ∷ ss)) n x constant meets = absurd constant
still h (Precision clock) n x constant meets = absurd constant
still h (Clock clock) n x constant meets = absurd constant

as_first : (n : ℕ) (x : Signal) → ((t : ℕ) → 1 ≤ t → t < n → x (t - 1) ≡ x t) → (t : ℕ) → t < n → x t ≡ x 0
as_first n x same zero below = refl
as_first n x same (suc t) below =
    let before : suc t - 1 ≡ t = omega arith in
    sym (same (suc t) (omega arith) below) ∙ ap x before ∙ as_first n x same t (omega arith)

constant_net : (c : Circuit) (values : List CaseValue) (run : Run) (net : ℕ) → MayBeSet c values net →
    MeetsInterface c run → (t : ℕ) → t < run.ticks → net_signal run net t ≡ net_signal run net 0
constant_net c values run net may meets =
    as_first run.ticks (net_signal run net)
    (still c.header may.is.spec run.ticks (net_signal run net) may.constant (meets net may.is may.there may.undriven))

-- ---- the halves of a delay

-- a number within bounds is in one of the halves
in_one_half : (b : Bounds) (least last first greatest n : ℕ) → AreHalves b least last first greatest → Within b n →
    Within (between least last) n ⊎ Within (between first greatest) n
in_one_half b least last first greatest n halves within =
    let begins = halves.begins in
    let follows = halves.follows in
    let ends = halves.ends in
    let from = within.0 in
    let to = within.1 in
    elim (cases_lt last n) [
      | inl above ↦ inr (omega arith, omega arith)
      | inr below ↦ inl (omega arith, omega arith)
    ]

-- the picks at an instance, if there are any, are in one of the halves
picks_half : (run : Run) (k : ℕ) (delay : Choice → ℕ) (b : Bounds) (least last first greatest : ℕ) →
    AreHalves b least last first greatest →
    ((choice : Choice) → slice_get run.choices k ≡ Some choice → Within b (delay choice)) →
    Picks run k delay (between least last) ⊎ Picks run k delay (between first greatest)
picks_half run k delay b least last first greatest halves within = by (slice_get run.choices k) refl
  where
    by : (found : Option Choice) → slice_get run.choices k ≡ found →
        Picks run k delay (between least last) ⊎ Picks run k delay (between first greatest)
    by None is = inl (λ choice there. cc)
    by (Some one) is = elim (in_one_half b least last first greatest (delay one) halves (within one is)) [
      | inl low ↦ inl (λ choice there. let same : one ≡ choice = cc in
          subst (λ (x : Choice). Within (between least last) (delay x)) same low)
      | inr high ↦ inr (λ choice there. let same : one ≡ choice = cc in
          subst (λ (x : Choice). Within (between first greatest) (delay x)) same high)
    ]

form_within : (f : Form) (d : Bounds) (n : ℕ) → HasDelay f → DelayFitsForm f d n → Within d n
form_within Gate d n has fits = fits
form_within Change d n has fits = absurd has
form_within (Register forced) d n has fits = fits
form_within (Enabled forced) d n has fits = fits
form_within (Checker check) d n has fits = absurd has

one_within : (kind : Kind) (d : Bounds) (may : Bool) (split : Option Split) (choice : Choice) → split ≡ None →
    HasDelay (form_of kind) → DelaysFit kind d (if may then split else None) choice → Within d choice.delay
one_within kind d true None choice one has fit = form_within (form_of kind) d choice.delay has fit
one_within kind d true (Some s) choice one has fit = cc
one_within kind d false split choice one has fit = form_within (form_of kind) d choice.delay has fit

-- ---- the halves of an offset

-- a clock that comes within bounds comes within one of the halves
offset_half : (c : Circuit) (run : Run) (net : ℕ) (b : Bounds) (least last first greatest : ℕ) →
    AreHalves b least last first greatest → ComesWithin c run net b →
    ComesWithin c run net (between least last) ⊎ ComesWithin c run net (between first greatest)
offset_half c run net b least last first greatest halves comes =
    elim (in_one_half b least last first greatest comes.by halves comes.within) [
      | inl low ↦ inl (record { clock = comes.clock; may = comes.may; by = comes.by; within = low; late = comes.late })
      | inr high ↦ inr (record { clock = comes.clock; may = comes.may; by = comes.by; within = high; late = comes.late })
    ]

-- a clock that keeps its assertion comes within all its bounds
comes_at_all : (c : Circuit) (run : Run) (net : ℕ) (clock : ClockSpec) → MayBeLate c net clock → MeetsInterface c run →
    ComesWithin c run net (between 0 (most_late c.header clock))
comes_at_all c run net clock may meets =
    let precise : MeetsPrecision c.header clock run.ticks (net_signal run net) =
    subst (λ (spec : AssertSpec). Meets c.header spec run.ticks (net_signal run net)) may.precise
    (meets net may.is may.there may.undriven) in
    record {
      clock = clock;
      may = may;
      by = precise.by;
      within = (omega arith, precise.within);
      late = precise.bits;
    }

-- and within those that a narrowing which the run is in gives it
comes_narrowed : (c : Circuit) (run : Run) (net : ℕ) (clock : ClockSpec) (parts : List Part) → MayBeLate c net clock →
    MeetsInterface c run → All (KeepsTo c run) parts → (found : Option Bounds) → offset_in net parts ≡ found →
    ComesWithin c run net (offset_bounds c.header clock found)
comes_narrowed c run net clock parts may meets keep None is = comes_at_all c run net clock may meets
comes_narrowed c run net clock parts may meets keep (Some b) is =
    comes_within c run net b parts (recursion_from_All (KeepsTo c run) parts keep) is

-- ---- any split

module _ (c : Circuit) (values : List CaseValue) (parts : List Part) (run : Run)
    (fit : All (PartFits c values) parts) (is : IsRun c run) (meets : MeetsInterface c run) (inside : IsIn c values parts run)
  where
    narrow : IsRun (narrowed c parts) run
    narrow = narrowed_run c values parts run fit is inside.keeps

    pub keeps_half : (p q : Part) → IsSplit c values parts p q → KeepsTo c run p ⊎ KeepsTo c run q
    keeps_half (Constant net one) (Constant other next) split =
        elim (cases_Bool (net_signal run net 0)) [
          | inl is_one ↦ inr (λ t below.
              subst (λ n. net_signal run n t ≡ next) (sym split.same)
              (constant_net c values run net split.may meets t below ∙ is_one ∙ sym split.then_one))
          | inr is_zero ↦ inl (λ t below.
              constant_net c values run net split.may meets t below ∙ is_zero ∙ sym split.zero)
        ]
    keeps_half (Constant net one) (Delay i first greatest) split = absurd split
    keeps_half (Constant net one) (Rise i first greatest) split = absurd split
    keeps_half (Constant net one) (Fall i first greatest) split = absurd split
    keeps_half (Constant net one) (Offset i first greatest) split = absurd split
    keeps_half (Delay k least last) (Offset i first greatest) split = absurd split
    keeps_half (Rise k least last) (Offset i first greatest) split = absurd split
    keeps_half (Fall k least last) (Offset i first greatest) split = absurd split
    keeps_half (Offset net least last) (Constant other one) split = absurd split
    keeps_half (Offset net least last) (Delay i first greatest) split = absurd split
    keeps_half (Offset net least last) (Rise i first greatest) split = absurd split
    keeps_half (Offset net least last) (Fall i first greatest) split = absurd split
    keeps_half (Offset net least last) (Offset other first greatest) split =
        let at = split.1 in
        subst (λ n. KeepsTo c run (Offset net least last) ⊎ KeepsTo c run (Offset n first greatest)) (sym split.0)
        (offset_half c run net (offset_bounds c.header at.clock (offset_in net parts)) least last first greatest at.halves
        (comes_narrowed c run net at.clock parts at.may meets inside.keeps (offset_in net parts) refl))
    keeps_half (Delay k least last) (Constant net one) split = absurd split
    keeps_half (Delay k least last) (Rise i first greatest) split = absurd split
    keeps_half (Delay k least last) (Fall i first greatest) split = absurd split
    keeps_half (Rise k least last) (Constant net one) split = absurd split
    keeps_half (Rise k least last) (Delay i first greatest) split = absurd split
    keeps_half (Rise k least last) (Fall i first greatest) split = absurd split
    keeps_half (Fall k least last) (Constant net one) split = absurd split
    keeps_half (Fall k least last) (Delay i first greatest) split = absurd split
    keeps_half (Fall k least last) (Rise i first greatest) split = absurd split
    keeps_half (Delay k least last) (Delay i first greatest) split =
        let at = split.1 in
        let j = at.instance in
        let has = at.is.0 in
        subst (λ n. KeepsTo c run (Delay k least last) ⊎ KeepsTo c run (Delay n first greatest)) (sym split.0)
        (picks_half run k (λ (x : Choice). x.delay) j.delay least last first greatest at.is.1
        (λ choice there. one_within j.kind j.delay (may_split j.kind) j.split choice has.one has.has
        (narrow.at k j choice at.there there).delay))
    keeps_half (Rise k least last) (Rise i first greatest) split =
        let at = split.1 in
        let j = at.instance in
        let two = at.is.has in
        subst (λ n. KeepsTo c run (Rise k least last) ⊎ KeepsTo c run (Rise n first greatest)) (sym split.0)
        (picks_half run k (λ (x : Choice). x.rise) two.split.rise least last first greatest at.is.halves
        (λ choice there. (was_within (narrowed c parts) run j choice two.split two.may two.two
        (narrow.at k j choice at.there there)).0))
    keeps_half (Fall k least last) (Fall i first greatest) split =
        let at = split.1 in
        let j = at.instance in
        let two = at.is.has in
        subst (λ n. KeepsTo c run (Fall k least last) ⊎ KeepsTo c run (Fall n first greatest)) (sym split.0)
        (picks_half run k (λ (x : Choice). x.fall) two.split.fall least last first greatest at.is.halves
        (λ choice there. (was_within (narrowed c parts) run j choice two.split two.may two.two
        (narrow.at k j choice at.there there)).1))

-- ---- what holds in both halves

pub never_in_both : (c : Circuit) (values : List CaseValue) (parts : List Part) (p q : Part) (x : Constraint) (t : ℕ) →
    All (PartFits c values) parts → IsSplit c values parts p q → NeverBreaksIn c values (with_part parts p) x t →
    NeverBreaksIn c values (with_part parts q) x t → NeverBreaksIn c values parts x t
never_in_both c values parts p q x t fit split low high run is meets inside breaks =
    elim (keeps_half c values parts run fit is meets inside p q split) [
      | inl keeps ↦ low run is meets (in_half c values parts p run inside keeps) breaks
      | inr keeps ↦ high run is meets (in_half c values parts q run inside keeps) breaks
    ]
