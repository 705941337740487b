-- The inputs of a part of a run keep their assertions, and the nets of a case their bits.
use Rattle.std.proofs.Common.{◌≡◌, ℕ, ◌+◌, ◌-◌, ◌*◌, ◌%◌, ◌≤◌, ◌<◌, min, Bool, true, false, List, sym, ap, ◌∙◌, arith}
use Rattle.std.proofs.lemmas.List.Elements.{All-weaker}
use Rattle.scald_base.specs.Clock.{back, ideal}
use Rattle.scald_base.specs.Fitting.{skew_of}
use Rattle.scald_base.specs.Quiet.{quiet}
use Rattle.scald_base.specs.Signal.{Signal}
use Rattle.scald_base.specs.Time.{Header, period}
use Rattle.scald_base.specs.declared.assertion.AssertSpec.{AssertSpec}
use Rattle.scald_base.specs.declared.assertion.AssertSpec.TheVariants.{None as Unasserted, Precision, Clock, Stable}
use Rattle.scald_base.specs.declared.assertion.ClockSpec.{ClockSpec}
use Rattle.scald_base.specs.declared.assertion.Span.{Span}
use Rattle.scald_base.proofs.Back.{back_mod}
use Rattle.flat_circuit.specs.declared.case.CaseValue.{CaseValue}
use Rattle.flat_circuit.specs.Circuit.{Circuit}
use Rattle.flat_circuit.specs.Laws.{front, later_part}
use Rattle.flat_circuit.specs.Run.{Run, net_signal}
use Rattle.fixpoint_engine.specs.Interface.{MeetsInterface}
use Rattle.case_analysis.specs.Case.{IsInCase}
use Rattle.pin_waves.specs.Meets.{Meets, MeetsClock, MeetsPrecision, MeetsStable, NearEdge}
use Rattle.std.proofs.Math.Nat.{add-mul-mod_self_right}
use Rattle.window_law.proofs.Moving.{front_net, later_net}

-- whole periods later is the same slot
pub slots_same : (p m t o : ℕ) → back p (m * p + t) o ≡ back p t o
slots_same p m t o =
    sym (back_mod p (m * p + t) o)
    ∙ ap (λ (n : ℕ). back p n o)
    (ap (λ (n : ℕ). n % p) (let e : m * p + t ≡ t + m * p = omega arith in e) ∙ add-mul-mod_self_right t m p)
    ∙ back_mod p t o

-- ---- whole periods less at the start

module _ (h : Header) (m : ℕ) (x : Signal) where
  abbrev later : Signal
  later t = x (m * period h + t)

  before_is : (t : ℕ) → 1 ≤ t → x (m * period h + t - 1) ≡ later (t - 1)
  before_is t some = ap x (let e : m * period h + t - 1 ≡ m * period h + (t - 1) = omega arith in e)

  near_same : (clock : ClockSpec) (to : Bool) (t : ℕ) → NearEdge h clock to t → NearEdge h clock to (m * period h + t)
  near_same clock to t near = (
    near.0,
    record {
      is_edge = near.1.is_edge;
      by = near.1.by;
      near = near.1.near;
      there = ap (λ (s : ℕ). back (period h) (s + (skew_of clock h.cskew).0) near.1.by) (slots_same (period h) m t 0)
          ∙ near.1.there;
    },
  )

  near_later : (clock : ClockSpec) (to : Bool) (t : ℕ) → NearEdge h clock to (m * period h + t) → NearEdge h clock to t
  near_later clock to t near = (
    near.0,
    record {
      is_edge = near.1.is_edge;
      by = near.1.by;
      near = near.1.near;
      there = ap (λ (s : ℕ). back (period h) (s + (skew_of clock h.cskew).0) near.1.by) (sym (slots_same (period h) m t 0))
          ∙ near.1.there;
    },
  )

  precision_later : (clock : ClockSpec) (n : ℕ) → MeetsPrecision h clock n x → MeetsPrecision h clock (n - m * period h) later
  precision_later clock n meets = record {
    by = meets.by;
    within = meets.within;
    bits = λ t below.
        meets.bits (m * period h + t) (omega arith)
        ∙ ap (λ (s : ℕ). ideal clock h (back (period h) s meets.by))
        (let e : m * period h + t + (skew_of clock h.pskew).0 ≡ m * period h + (t + (skew_of clock h.pskew).0) = omega arith in e)
        ∙ ap (ideal clock h) (slots_same (period h) m (t + (skew_of clock h.pskew).0) meets.by);
  }

  clock_later : (clock : ClockSpec) (n : ℕ) → MeetsClock h clock n x → MeetsClock h clock (n - m * period h) later
  clock_later clock n meets = record {
    rises = λ t from below near was.
        meets.rises (m * period h + t) (omega arith) (omega arith) (near_same clock true t near) (before_is t from ∙ was);
    falls = λ t from below near was.
        meets.falls (m * period h + t) (omega arith) (omega arith) (near_same clock false t near) (before_is t from ∙ was);
    before = λ t from below no_rise no_fall.
        sym (before_is t from)
        ∙ meets.before (m * period h + t) (omega arith) (omega arith) (λ near. no_rise (near_later clock true t near))
        (λ near. no_fall (near_later clock false t near))
        ∙ ap (ideal clock h) (slots_same (period h) m t 1);
    after = λ t from below no_rise no_fall.
        meets.after (m * period h + t) (omega arith) (omega arith) (λ near. no_rise (near_later clock true t near))
        (λ near. no_fall (near_later clock false t near))
        ∙ ap (ideal clock h) (slots_same (period h) m t 0);
  }

  stable_later : (spans : List Span) (n : ℕ) → MeetsStable h spans n x → MeetsStable h spans (n - m * period h) later
  stable_later spans n meets t from below still =
      sym (before_is t from)
      ∙ meets (m * period h + t) (omega arith) (omega arith)
      (ap (quiet spans h) (slots_same (period h) m t 0) ∙ still)

  meets_later : (spec : AssertSpec) (n : ℕ) → Meets h spec n x → Meets h spec (n - m * period h) later
  meets_later Unasserted n meets = λ t from below.
      sym (before_is t from) ∙ meets (m * period h + t) (omega arith) (omega arith)
  meets_later (Precision clock) n meets = precision_later clock n meets
  meets_later (Clock clock) n meets = clock_later clock n meets
  meets_later (Stable spans) n meets = stable_later spans n meets

-- ---- the same of a signal that shows the same at these ticks

module _ (h : Header) (n : ℕ) (x y : Signal) (same : (t : ℕ) → t < n → y t ≡ x t) where
  meets_same : (spec : AssertSpec) → Meets h spec n x → Meets h spec n y
  meets_same Unasserted meets = λ t from below.
      same (t - 1) (omega arith) ∙ meets t from below ∙ sym (same t below)
  meets_same (Precision clock) meets = record {
    by = meets.by;
    within = meets.within;
    bits = λ t below. same t below ∙ meets.bits t below;
  }
  meets_same (Clock clock) meets = record {
    rises = λ t from below near was.
        same t below ∙ meets.rises t from below near (sym (same (t - 1) (omega arith)) ∙ was);
    falls = λ t from below near was.
        same t below ∙ meets.falls t from below near (sym (same (t - 1) (omega arith)) ∙ was);
    before = λ t from below no_rise no_fall. same (t - 1) (omega arith) ∙ meets.before t from below no_rise no_fall;
    after = λ t from below no_rise no_fall. same t below ∙ meets.after t from below no_rise no_fall;
  }
  meets_same (Stable spans) meets = λ t from below still.
      same (t - 1) (omega arith) ∙ meets t from below still ∙ sym (same t below)

-- fewer ticks
meets_fewer : (h : Header) (spec : AssertSpec) (few many : ℕ) (x : Signal) → few ≤ many → Meets h spec many x → Meets h spec few x
meets_fewer h Unasserted few many x less meets = λ t from below. meets t from (omega arith)
meets_fewer h (Precision clock) few many x less meets = record {
  by = meets.by;
  within = meets.within;
  bits = λ t below. meets.bits t (omega arith);
}
meets_fewer h (Clock clock) few many x less meets = record {
  rises = λ t from below near was. meets.rises t from (omega arith) near was;
  falls = λ t from below near was. meets.falls t from (omega arith) near was;
  before = λ t from below no_rise no_fall. meets.before t from (omega arith) no_rise no_fall;
  after = λ t from below no_rise no_fall. meets.after t from (omega arith) no_rise no_fall;
}
meets_fewer h (Stable spans) few many x less meets = λ t from below still. meets t from (omega arith) still

-- ---- parts of runs

pub interface_later : (c : Circuit) (run : Run) (m : ℕ) → MeetsInterface c run →
    MeetsInterface c (later_part (m * period c.header) run)
interface_later c run m meets i net there undriven =
    let p : ℕ = m * period c.header in
    meets_same c.header (run.ticks - p) (λ t. net_signal run i (p + t)) (net_signal (later_part p run) i)
    (λ t below. later_net p run i t) net.spec
    (meets_later c.header m (net_signal run i) net.spec run.ticks (meets i net there undriven))

pub interface_front : (c : Circuit) (run : Run) (n : ℕ) → MeetsInterface c run → MeetsInterface c (front n run)
interface_front c run n meets i net there undriven =
    meets_same c.header (min n run.ticks) (net_signal run i) (net_signal (front n run) i)
    (λ t below. front_net n run i t (omega arith)) net.spec
    (meets_fewer c.header net.spec (min n run.ticks) run.ticks (net_signal run i) (omega arith) (meets i net there undriven))

abbrev Keeps : Run → CaseValue → Type 0
Keeps run v = (t : ℕ) → t < run.ticks → net_signal run v.net t ≡ v.one

pub case_later : (values : List CaseValue) (run : Run) (n : ℕ) → IsInCase values run → IsInCase values (later_part n run)
case_later values run n inside =
    All-weaker (Keeps run) (Keeps (later_part n run))
    (λ v keeps t below. later_net n run v.net t ∙ keeps (n + t) (omega arith)) values inside

pub case_front : (values : List CaseValue) (run : Run) (n : ℕ) → IsInCase values run → IsInCase values (front n run)
case_front values run n inside =
    All-weaker (Keeps run) (Keeps (front n run))
    (λ v keeps t below. front_net n run v.net t (omega arith) ∙ keeps t (omega arith)) values inside
