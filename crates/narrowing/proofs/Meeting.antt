-- A run whose inputs keep their assertions, and that keeps to parts, has inputs that keep those of the narrowed circuit.
use Rattle.std.proofs.Common.{◌≡◌, ℕ, ◌+◌, ◌-◌, ◌*◌, ◌%◌, ◌≤◌, ◌<◌, zero, suc, ◌==◌, Bool, true, false, List, [], ◌∷◌, refl, sym, ap, subst, ◌∙◌, arith, slice_get, Option, Some, None}
use Rattle.std.specs.List.{All, AllByRecursion}
use Rattle.std.proofs.lemmas.Bool.{cond_both, eqb-true}
use Rattle.std.proofs.lemmas.List.Elements.{recursion_from_All}
use Rattle.std.proofs.Math.Nat.{mod-add-mod}
use Rattle.scald_base.specs.Clock.{IsEdge, back, ideal}
use Rattle.scald_base.specs.Fitting.{Fits, SpansFit, skew_of}
use Rattle.scald_base.specs.Quiet.{quiet}
use Rattle.scald_base.specs.Signal.{Signal}
use Rattle.scald_base.specs.Span.{SpanFits}
use Rattle.scald_base.specs.Time.{Bounds, Header, IsHeader, period}
use Rattle.scald_base.specs.declared.assertion.AssertSpec.{AssertSpec}
use Rattle.scald_base.specs.declared.assertion.AssertSpec.TheVariants.{None as Unasserted, Precision, Clock, Stable}
use Rattle.scald_base.specs.declared.assertion.ClockSpec.{ClockSpec}
use Rattle.scald_base.specs.declared.assertion.Span.{Span}
use Rattle.scald_base.proofs.Back.{back_back, back_later, back_lt, back_period, back_periods}
use Rattle.flat_circuit.specs.declared.net.Net.{Net}
use Rattle.flat_circuit.specs.Circuit.{Circuit, IsCircuit}
use Rattle.flat_circuit.specs.Run.{Run, net_signal}
use Rattle.fixpoint_engine.specs.Interface.{MeetsInterface}
use Rattle.pin_waves.specs.Meets.{Meets, MeetsClock, MeetsPrecision, MeetsStable, NearEdge}
use Rattle.narrowing.specs.declared.part.Part.{Part}
use Rattle.narrowing.specs.declared.part.Part.TheVariants.{Constant, Delay, Offset, Rise, Fall}
use Rattle.narrowing.specs.Narrowed.{fine_clock, fine_header, fine_spans, fine_spec, if_undriven, lag, moved_clock, moved_spec, narrowed, narrowed_spec, offset_in}
use Rattle.narrowing.specs.Part.{ComesWithin, IsLate, KeepsTo, between, skew_in}
use Rattle.narrowing.proofs.Fine.{fine_period, ideal_fine, ideal_moved, quiet_fine}
use Rattle.narrowing.proofs.Nets.{narrowed_from_net}
use Rattle.narrowing.proofs.SameLists.{at_number}

-- ---- assertions in units of one tick

module _ (h : Header) (clock : ClockSpec) (some : 0 < h.ticks) where
  fine_at : (t o : ℕ) →
      ideal (fine_clock h clock) (fine_header h) (back (period (fine_header h)) t o) ≡ ideal clock h (back (period h) t o)
  fine_at t o =
      ideal_fine h clock (back (period (fine_header h)) t o) some
      ∙ ap (λ (p : ℕ). ideal clock h (back p t o)) (fine_period h)

  edge_fine : (to : Bool) (slot : ℕ) → IsEdge clock h to slot → IsEdge (fine_clock h clock) (fine_header h) to slot
  edge_fine to slot edge = record {
    within = subst (λ (p : ℕ). slot < p) (sym (fine_period h)) edge.within;
    before = fine_at slot 1 ∙ edge.before;
    after = ideal_fine h clock slot some ∙ edge.after;
  }

  edge_back : (to : Bool) (slot : ℕ) → IsEdge (fine_clock h clock) (fine_header h) to slot → IsEdge clock h to slot
  edge_back to slot edge = record {
    within = subst (λ (p : ℕ). slot < p) (fine_period h) edge.within;
    before = sym (fine_at slot 1) ∙ edge.before;
    after = sym (ideal_fine h clock slot some) ∙ edge.after;
  }

  -- where the slot of a tick is, some ticks later and then some slots back
  slot_fine : (t early by : ℕ) →
      back (period (fine_header h)) (back (period (fine_header h)) t 0 + early) by
      ≡ back (period h) (back (period h) t 0 + early) by
  slot_fine t early by = ap (λ (p : ℕ). back p (back p t 0 + early) by) (fine_period h)

  near_fine : (to : Bool) (t : ℕ) → NearEdge h clock to t → NearEdge (fine_header h) (fine_clock h clock) to t
  near_fine to t near = (
    near.0,
    record {
      is_edge = edge_fine to near.0 near.1.is_edge;
      by = near.1.by;
      near = near.1.near;
      there = slot_fine t (skew_of clock h.cskew).0 near.1.by ∙ near.1.there;
    },
  )

  near_back : (to : Bool) (t : ℕ) → NearEdge (fine_header h) (fine_clock h clock) to t → NearEdge h clock to t
  near_back to t near = (
    near.0,
    record {
      is_edge = edge_back to near.0 near.1.is_edge;
      by = near.1.by;
      near = near.1.near;
      there = sym (slot_fine t (skew_of clock h.cskew).0 near.1.by) ∙ near.1.there;
    },
  )

  precision_fine : (n : ℕ) (x : Signal) → MeetsPrecision h clock n x → MeetsPrecision (fine_header h) (fine_clock h clock) n x
  precision_fine n x meets = record {
    by = meets.by;
    within = meets.within;
    bits = λ t below. meets.bits t below ∙ sym (fine_at (t + (skew_of clock h.pskew).0) meets.by);
  }

  clock_fine : (n : ℕ) (x : Signal) → MeetsClock h clock n x → MeetsClock (fine_header h) (fine_clock h clock) n x
  clock_fine n x meets = record {
    rises = λ t from below near was. meets.rises t from below (near_back true t near) was;
    falls = λ t from below near was. meets.falls t from below (near_back false t near) was;
    before = λ t from below no_rise no_fall.
        meets.before t from below (λ near. no_rise (near_fine true t near)) (λ near. no_fall (near_fine false t near))
        ∙ sym (fine_at t 1);
    after = λ t from below no_rise no_fall.
        meets.after t from below (λ near. no_rise (near_fine true t near)) (λ near. no_fall (near_fine false t near))
        ∙ sym (fine_at t 0);
  }

stable_fine : (h : Header) (spans : List Span) (n : ℕ) (x : Signal) → 0 < h.ticks → MeetsStable h spans n x →
    MeetsStable (fine_header h) (fine_spans h spans) n x
stable_fine h spans n x some meets t from below still =
    meets t from below
    (ap (λ (p : ℕ). quiet spans h (back p t 0)) (sym (fine_period h))
    ∙ sym (quiet_fine h spans (back (period (fine_header h)) t 0) some) ∙ still)

pub fine_meets : (h : Header) (spec : AssertSpec) (n : ℕ) (x : Signal) → 0 < h.ticks → Meets h spec n x →
    Meets (fine_header h) (fine_spec h spec) n x
fine_meets h Unasserted n x some meets = meets
fine_meets h (Precision clock) n x some meets = precision_fine h clock some n x meets
fine_meets h (Clock clock) n x some meets = clock_fine h clock some n x meets
fine_meets h (Stable spans) n x some meets = stable_fine h spans n x some meets

-- ---- a clock that is moved

back_more : (p t d far : ℕ) → back p t (d + far % p) ≡ back p t (d + far)
back_more p t d far =
    let same : (d + far % p) % p ≡ (d + far) % p =
    ap (λ (n : ℕ). n % p) (let e : d + far % p ≡ far % p + d = omega arith in e)
    ∙ mod-add-mod far p d
    ∙ ap (λ (n : ℕ). n % p) (let e : far + d ≡ d + far = omega arith in e) in
    sym (back_period p t (d + far % p)) ∙ ap (back p t) same ∙ back_period p t (d + far)

lag_more : (p t d min early : ℕ) → back p t (d + back p min early) ≡ back p t (d + (min + early * (p - 1)))
unfolding back
lag_more p t d min early = back_more p t d (min + early * (p - 1))

-- so many slots back by whole periods less one each are so many ticks later
back_early : (p t early o : ℕ) → 0 < p → back p t (early * (p - 1) + o) ≡ back p (t + early) o
back_early p t early o some =
    let far : ℕ = early * (p - 1) in
    sym (back_periods p t early (far + o) some)
    ∙ ap (λ (n : ℕ). back p n (far + o)) (let e : t + far + early ≡ t + early + far = omega arith in e)
    ∙ back_later p (t + early) far o some

-- later by an amount and then by the rest is later by both
lagged : (p t min d early by : ℕ) → 0 < p → by ≡ min + d → back p t (d + back p min early) ≡ back p (t + early) by
lagged p t min d early by some is =
    lag_more p t d min early
    ∙ ap (back p t) (let e : d + (min + early * (p - 1)) ≡ early * (p - 1) + by = omega (arith, is) in e)
    ∙ back_early p t early by some

module _ (h : Header) (clock : ClockSpec) (b : Bounds) (some : 0 < h.ticks) (long : 0 < period h)
    (fit : AllByRecursion (SpanFits h.units) clock.spans) where
  moved_at : (t d : ℕ) →
      ideal (moved_clock h clock b) (fine_header h) (back (period (fine_header h)) (t + 0) d)
      ≡ ideal clock h (back (period h) t (d + lag h clock b.min))
  moved_at t d =
      let first : t + 0 ≡ t = omega arith in
      ap (λ (p : ℕ). ideal (moved_clock h clock b) (fine_header h) (back p (t + 0) d)) (fine_period h)
      ∙ ap (λ (n : ℕ). ideal (moved_clock h clock b) (fine_header h) (back (period h) n d)) first
      ∙ ideal_moved h clock b (back (period h) t d) some fit (back_lt (period h) t d long)
      (back_lt (period h) b.min (skew_in h clock).0 long)
      ∙ ap (ideal clock h) (back_back (period h) t d (lag h clock b.min))

  pub moved_meets : (n : ℕ) (x : Signal) (by : ℕ) → b.min ≤ by → by ≤ b.max → IsLate h clock n x by →
      MeetsPrecision (fine_header h) (moved_clock h clock b) n x
  moved_meets n x by least greatest late =
      let rest : ℕ = by - b.min in
      let is : by ≡ b.min + rest = omega arith in
      record {
        by = rest;
        within = omega arith;
        bits = λ t below.
            late t below
            ∙ ap (ideal clock h) (sym (lagged (period h) t b.min rest (skew_in h clock).0 by long is))
            ∙ sym (moved_at t rest);
      }

-- ---- all inputs

-- what is kept of an offset that a narrowing gives
pub comes_within : (c : Circuit) (run : Run) (i : ℕ) (b : Bounds) (parts : List Part) → AllByRecursion (KeepsTo c run) parts →
    offset_in i parts ≡ Some b → ComesWithin c run i b
comes_within c run i b [] keep is = cc
comes_within c run i b (Constant net one ∷ ps) keep is = comes_within c run i b ps keep.1 is
comes_within c run i b (Delay k least greatest ∷ ps) keep is = comes_within c run i b ps keep.1 is
comes_within c run i b (Rise k least greatest ∷ ps) keep is = comes_within c run i b ps keep.1 is
comes_within c run i b (Fall k least greatest ∷ ps) keep is = comes_within c run i b ps keep.1 is
comes_within c run i b (Offset net least greatest ∷ ps) keep is =
    cond_both (net == i) (Some (between least greatest)) (offset_in i ps)
    (λ (found : Option Bounds). found ≡ Some b → ComesWithin c run i b)
    (λ own same.
    let bounds : between least greatest ≡ b = cc in
    subst (λ (n : ℕ). ComesWithin c run n b) (eqb-true net i own)
    (subst (λ (x : Bounds). ComesWithin c run net x) bounds keep.0))
    (λ apart same. comes_within c run i b ps keep.1 same) is

spans_in : (h : Header) (spec : AssertSpec) (clock : ClockSpec) → spec ≡ Precision clock → Fits h spec →
    SpansFit h clock.spans
spans_in h spec clock is fits = (subst (Fits h) is fits).intervals

factor : (units ticks : ℕ) → 0 < units * ticks → 0 < ticks
factor units zero less = let none : units * 0 ≡ 0 = omega arith in absurd (omega (arith, none))
factor units (suc ticks) less = omega arith

-- a unit has some ticks
pub some_ticks : (c : Circuit) → IsHeader c.header → 0 < c.header.ticks
some_ticks c known = let two = known.shortest in factor c.header.units c.header.ticks (omega arith)

module _ (c : Circuit) (parts : List Part) (run : Run) (known : IsHeader c.header) (is : IsCircuit c)
    (meets : MeetsInterface c run) (keep : All (KeepsTo c run) parts) where
  long : 0 < period c.header
  long = let two = known.shortest in omega arith

  some : 0 < c.header.ticks
  some = some_ticks c known

  -- a net that nothing drives, by the bounds that the parts give its offset
  by_bounds : (i : ℕ) (n : Net) → slice_get c.nets i ≡ Some n → n.driver ≡ None → (found : Option Bounds) →
      offset_in i parts ≡ found →
      Meets (fine_header c.header) (narrowed_spec c.header found n.spec) run.ticks (net_signal run i)
  by_bounds i n there undriven None none =
      fine_meets c.header n.spec run.ticks (net_signal run i) some (meets i n there undriven)
  by_bounds i n there undriven (Some b) found =
      let comes = comes_within c run i b parts (recursion_from_All (KeepsTo c run) parts keep) found in
      let own : comes.may.is ≡ n = cc (comes.may.there, there) in
      let precise : n.spec ≡ Precision comes.clock = sym (ap (λ (x : Net). x.spec) own) ∙ comes.may.precise in
      let fit = spans_in c.header n.spec comes.clock precise
      (at_number (λ (x : Net). Fits c.header x.spec) c.nets i n is.asserted there) in
      subst (λ (spec : AssertSpec). Meets (fine_header c.header) (moved_spec c.header b spec) run.ticks (net_signal run i))
      (sym precise)
      (moved_meets c.header comes.clock b some long
      (recursion_from_All (SpanFits c.header.units) comes.clock.spans fit) run.ticks (net_signal run i) comes.by
      comes.within.0 comes.within.1 comes.late)

  pub narrowed_meets : MeetsInterface (narrowed c parts) run
  narrowed_meets i m there undriven =
      let found = narrowed_from_net c.header parts i c.nets m there in
      let n = found.0 in
      let own : n.driver ≡ None = sym (ap (λ (x : Net). x.driver) found.2) ∙ undriven in
      subst (λ (x : Net). Meets (fine_header c.header) x.spec run.ticks (net_signal run i)) (sym found.2)
      (subst
      (λ (d : Option ℕ).
      Meets (fine_header c.header) (narrowed_spec c.header (if_undriven d (offset_in i parts)) n.spec) run.ticks
      (net_signal run i))
      (sym own) (by_bounds i n found.1 own (offset_in i parts) refl))
