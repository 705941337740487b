-- Inputs that change about the edges of a clock: one pass finds each break at its greatest tick.
use Rattle.std.proofs.Common.{◌≡◌, ℕ, ◌+◌, ◌<◌, ◌≤◌, Bool, true, false, not, Option, Some, None, is_some, refl, ap, sym, subst, ◌∙◌, arith, inl, inr}
use Rattle.std.proofs.lemmas.Bool.{cases_lt, le-leb, leb-true, lt-ltb, ltb-true, or_cases, or_left, or_right}
use Rattle.std.proofs.lemmas.Option.{same_Some}
use Rattle.scald_base.specs.Signal.{Signal}
use Rattle.element_kinds.specs.declared.form.Check.{Check}
use Rattle.element_kinds.specs.declared.form.Check.TheVariants.{SetupHold as AboutRise, RiseFall as RiseToFall, MinPulse as Widths}
use Rattle.point_check.specs.Break.{Changes, Rises, IsHighTo}
use Rattle.pulse_check.specs.Break.{IsPulse}
use Rattle.trace_tool.specs.Pass.{breaks_hold, breaks_setup, last_close, last_step, narrow, opened, opened_by, pulse_ends, step_at, steps, width_limit, window_ends}
use Rattle.trace_tool.proofs.Last.{last_at, has_last}
use Rattle.trace_tool.proofs.Pulses.{StepsTo, as_high, as_pulse, begins_at, counts_at, from_start, not_not, pulse_between, step_is, steps_at, steps_to, to_end}
use Rattle.flat_circuit.specs.Limits.{setup_of, hold_of}
use Rattle.flat_circuit.specs.declared.limits.Limits.{Limits}

-- ---- the edges about which an input is to stay

-- Of these edges the second comes at `close`.
abbrev pub IsWindow : Check → ℕ → Signal → ℕ → ℕ → Type 0
IsWindow AboutRise begin x opens close = (opens ≡ close) × ((begin ≤ close) × Rises x close)
IsWindow RiseToFall begin x opens close = (begin ≤ opens) × IsHighTo x opens close
IsWindow Widths begin x opens close = ⊥

opened_rise : (step : Option Bool) (last : Option ℕ) (t opens : ℕ) → opened_by AboutRise step last t ≡ Some opens →
    (step ≡ Some true) × (t ≡ opens)
opened_rise None last t opens e = absurd (cc)
opened_rise (Some true) last t opens e = (refl, same_Some t opens e)
opened_rise (Some false) last t opens e = absurd (cc)

opened_fall : (step : Option Bool) (last : Option ℕ) (t opens : ℕ) → opened_by RiseToFall step last t ≡ Some opens →
    (step ≡ Some false) × (last ≡ Some opens)
opened_fall None last t opens e = absurd (cc)
opened_fall (Some true) last t opens e = absurd (cc)
opened_fall (Some false) last t opens e = (refl, e)

no_width : (step : Option Bool) (last : Option ℕ) (t opens : ℕ) → opened_by Widths step last t ≡ Some opens → ⊥
no_width None last t opens e = cc
no_width (Some true) last t opens e = cc
no_width (Some false) last t opens e = cc

pub window_at : (check : Check) (begin : ℕ) (x : Signal) (opens close : ℕ) → opened check begin x close ≡ Some opens →
    IsWindow check begin x opens close
window_at AboutRise begin x opens close e =
    let at = opened_rise (step_at begin x close) (last_step begin x close) close opens e in
    let step = steps_to begin x true close at.0 in
    (sym at.1, (step.counts, (step.before, step.now)))
window_at RiseToFall begin x opens close e =
    let at = opened_fall (step_at begin x close) (last_step begin x close) close opens e in
    let step = steps_to begin x false close at.0 in
    (begins_at begin x opens close at.1, as_high x opens close (pulse_between begin x true opens close step at.1))
window_at Widths begin x opens close e = absurd (no_width (step_at begin x close) (last_step begin x close) close opens e)

pub opened_at : (check : Check) (begin : ℕ) (x : Signal) (opens close : ℕ) → IsWindow check begin x opens close →
    opened check begin x close ≡ Some opens
opened_at AboutRise begin x opens close w =
    let step = step_is begin x true close (record { counts = w.1.0; before = w.1.1.0; now = w.1.1.1 }) in
    ap (λ s. opened_by AboutRise s (last_step begin x close) close) step ∙ ap Some (sym w.0)
opened_at RiseToFall begin x opens close w =
    let pulse = as_pulse x opens close w.1 in
    let step = step_is begin x false close (to_end begin x true opens close pulse w.0) in
    ap (λ s. opened_by RiseToFall s (last_step begin x close) close) step ∙ from_start begin x true opens close pulse w.0
opened_at Widths begin x opens close w = absurd w

pub in_order : (check : Check) (begin : ℕ) (x : Signal) (opens close : ℕ) → IsWindow check begin x opens close → opens ≤ close
in_order AboutRise begin x opens close w = let same = w.0 in omega arith
in_order RiseToFall begin x opens close w = let less = w.1.ordered in omega arith
in_order Widths begin x opens close w = absurd w

-- ---- breaks

-- The input changes after the setup time begins and before the hold time ends, all before a tick.
pub record IsBroken (check : Check) (limits : Limits) (begin : ℕ) (x : Signal) (input : ℕ) (y : Signal)
    (opens close change n : ℕ) : Type 0 where
  pub window : IsWindow check begin x opens close
  pub counts : input ≤ change
  pub changes : Changes y change
  pub not_before : opens + 1 ≤ change + setup_of limits
  pub not_after : change ≤ close + hold_of limits
  pub closes : close < n
  pub ends : change < n

pub record WindowBreak (check : Check) (limits : Limits) (begin : ℕ) (x : Signal) (input : ℕ) (y : Signal)
    (n : ℕ) : Type 0 where
  pub opens : ℕ
  pub close : ℕ
  pub change : ℕ
  pub at : IsBroken check limits begin x input y opens close change n

-- at this tick one ends, before n
pub record Ends (test : ℕ → Bool) (n : ℕ) : Type 0 where
  pub tick : ℕ
  pub below : tick < n
  pub is : test tick ≡ true

record IsLate (edge change : Option ℕ) (setup : ℕ) : Type 0 where
  opens : ℕ
  at : ℕ
  edge_is : edge ≡ Some opens
  change_is : change ≡ Some at
  late : opens + 1 ≤ at + setup

is_late : (edge change : Option ℕ) (setup : ℕ) → breaks_setup edge change setup ≡ true → IsLate edge change setup
is_late None change setup e = absurd (cc)
is_late (Some opens) None setup e = absurd (cc)
is_late (Some opens) (Some at) setup e = record {
  opens = opens;
  at = at;
  edge_is = refl;
  change_is = refl;
  late = leb-true (opens + 1) (at + setup) e;
}

record IsEarly (changes : Bool) (edge : Option ℕ) (hold t : ℕ) : Type 0 where
  close : ℕ
  changes_is : changes ≡ true
  edge_is : edge ≡ Some close
  early : t ≤ close + hold

is_early : (changes : Bool) (edge : Option ℕ) (hold t : ℕ) → breaks_hold changes edge hold t ≡ true → IsEarly changes edge hold t
is_early false edge hold t e = absurd (cc)
is_early true None hold t e = absurd (cc)
is_early true (Some close) hold t e = record {
  close = close;
  changes_is = refl;
  edge_is = refl;
  early = leb-true t (close + hold) e;
}

is_opened : (o : Option ℕ) → is_some o ≡ true → (opens : ℕ) × (o ≡ Some opens)
is_opened None e = absurd (cc)
is_opened (Some opens) e = (opens, refl)

module _ (check : Check) (limits : Limits) (begin : ℕ) (x : Signal) (input : ℕ) (y : Signal) where
  abbrev pub Test : ℕ → Bool
  Test t = window_ends check limits begin x input y t

  setup_broken : (t : ℕ) → IsLate (opened check begin x t) (last_step input y (t + 1)) (setup_of limits) →
      WindowBreak check limits begin x input y (t + 1)
  setup_broken t l =
      let window = window_at check begin x l.opens t l.edge_is in
      let last = last_at (steps input y) (t + 1) l.at l.change_is in
      let step = counts_at input y l.at last.passes in
      let inside = last.below in
      record {
        opens = l.opens;
        close = t;
        change = l.at;
        at = record {
          window = window;
          counts = step.counts;
          changes = step.changes;
          not_before = l.late;
          not_after = omega arith;
          closes = omega arith;
          ends = inside;
        };
      }

  hold_broken : (t : ℕ) → IsEarly (steps input y t) (last_close check begin x t) (hold_of limits) t →
      WindowBreak check limits begin x input y (t + 1)
  hold_broken t e =
      let last = last_at (λ u. is_some (opened check begin x u)) t e.close e.edge_is in
      let opener = is_opened (opened check begin x e.close) last.passes in
      let window = window_at check begin x opener.0 e.close opener.1 in
      let ordered = in_order check begin x opener.0 e.close window in
      let step = counts_at input y t e.changes_is in
      let inside = last.below in
      record {
        opens = opener.0;
        close = e.close;
        change = t;
        at = record {
          window = window;
          counts = step.counts;
          changes = step.changes;
          not_before = omega arith;
          not_after = e.early;
          closes = omega arith;
          ends = omega arith;
        };
      }

  pub broken_at : (t : ℕ) → Test t ≡ true → WindowBreak check limits begin x input y (t + 1)
  broken_at t e =
      let late = breaks_setup (opened check begin x t) (last_step input y (t + 1)) (setup_of limits) in
      let early = breaks_hold (steps input y t) (last_close check begin x t) (hold_of limits) t in
      elim (or_cases late early e) as (λ _. WindowBreak check limits begin x input y (t + 1)) [
        | inl l ↦ setup_broken t (is_late (opened check begin x t) (last_step input y (t + 1)) (setup_of limits) l)
        | inr h ↦ hold_broken t (is_early (steps input y t) (last_close check begin x t) (hold_of limits) t h)
      ]

  -- the second edge comes at or after the change
  at_close : (opens close change n : ℕ) → IsBroken check limits begin x input y opens close change n → change ≤ close →
      Test close ≡ true
  at_close opens close change n b before =
      let found = has_last (steps input y) (close + 1) change (omega arith)
      (steps_at input y change (record { counts = b.counts; changes = b.changes })) in
      let opener = opened_at check begin x opens close b.window in
      let late = found.no_sooner in
      let early = b.not_before in
      or_left (breaks_setup (opened check begin x close) (last_step input y (close + 1)) (setup_of limits))
      (breaks_hold (steps input y close) (last_close check begin x close) (hold_of limits) close)
      (ap (λ o. breaks_setup o (last_step input y (close + 1)) (setup_of limits)) opener
      ∙ ap (λ l. breaks_setup (Some opens) l (setup_of limits)) found.is ∙ le-leb (opens + 1) (found.last + setup_of limits) (omega arith))

  -- the change comes after it
  at_change : (opens close change n : ℕ) → IsBroken check limits begin x input y opens close change n → close < change →
      Test change ≡ true
  at_change opens close change n b after =
      let opener = opened_at check begin x opens close b.window in
      let found = has_last (λ u. is_some (opened check begin x u)) change close after (ap is_some opener) in
      let step = steps_at input y change (record { counts = b.counts; changes = b.changes }) in
      let late = found.no_sooner in
      let early = b.not_after in
      or_right (breaks_setup (opened check begin x change) (last_step input y (change + 1)) (setup_of limits))
      (breaks_hold (steps input y change) (last_close check begin x change) (hold_of limits) change)
      (ap (λ s. breaks_hold s (last_close check begin x change) (hold_of limits) change) step
      ∙ ap (λ l. breaks_hold true l (hold_of limits) change) found.is ∙ le-leb change (found.last + hold_of limits) (omega arith))

  pub window_end : (n : ℕ) → WindowBreak check limits begin x input y n → Ends Test n
  window_end n w = elim (cases_lt w.close w.change) as (λ _. Ends Test n) [
    | inl after ↦ record { tick = w.change; below = w.at.ends; is = at_change w.opens w.close w.change n w.at after }
    | inr before ↦ record { tick = w.close; below = w.at.closes; is = at_close w.opens w.close w.change n w.at before }
  ]

-- ---- widths

-- A pulse at some level is narrower than is asked for, and ends before a tick.
pub record IsNarrow (limits : Limits) (begin : ℕ) (x : Signal) (level : Bool) (start end n : ℕ) : Type 0 where
  pub counts : begin ≤ start
  pub is_pulse : IsPulse x level start end
  pub narrow : end < start + width_limit limits level
  pub ends : end < n

pub record PulseBreak (limits : Limits) (begin : ℕ) (x : Signal) (n : ℕ) : Type 0 where
  pub level : Bool
  pub start : ℕ
  pub end : ℕ
  pub at : IsNarrow limits begin x level start end n

record IsShort (limits : Limits) (step : Option Bool) (last : Option ℕ) (t : ℕ) : Type 0 where
  bit : Bool
  start : ℕ
  step_is : step ≡ Some bit
  last_is : last ≡ Some start
  short : t < start + width_limit limits (not bit)

is_short : (limits : Limits) (step : Option Bool) (last : Option ℕ) (t : ℕ) → narrow limits step last t ≡ true →
    IsShort limits step last t
is_short limits None last t e = absurd (cc)
is_short limits (Some bit) None t e = absurd (cc)
is_short limits (Some bit) (Some start) t e = record {
  bit = bit;
  start = start;
  step_is = refl;
  last_is = refl;
  short = ltb-true t (start + width_limit limits (not bit)) e;
}

pub narrow_at : (limits : Limits) (begin : ℕ) (x : Signal) (t : ℕ) → pulse_ends limits begin x t ≡ true →
    PulseBreak limits begin x (t + 1)
narrow_at limits begin x t e =
    let s = is_short limits (step_at begin x t) (last_step begin x t) t e in
    let step = steps_to begin x s.bit t s.step_is in
    let away : StepsTo begin x (not (not s.bit)) t = subst (λ (b : Bool). StepsTo begin x b t) (sym (not_not s.bit)) step in
    record {
      level = not s.bit;
      start = s.start;
      end = t;
      at = record {
        counts = begins_at begin x s.start t s.last_is;
        is_pulse = pulse_between begin x (not s.bit) s.start t away s.last_is;
        narrow = s.short;
        ends = omega arith;
      };
    }

pub pulse_end : (limits : Limits) (begin : ℕ) (x : Signal) (n : ℕ) → PulseBreak limits begin x n →
    Ends (pulse_ends limits begin x) n
pulse_end limits begin x n p =
    let b = p.at in
    let step = step_is begin x (not p.level) p.end (to_end begin x p.level p.start p.end b.is_pulse b.counts) in
    let last = from_start begin x p.level p.start p.end b.is_pulse b.counts in
    let limit : width_limit limits (not (not p.level)) ≡ width_limit limits p.level = ap (width_limit limits) (not_not p.level) in
    let short = b.narrow in
    record {
      tick = p.end;
      below = b.ends;
      is = ap (λ s. narrow limits s (last_step begin x p.end) p.end) step
          ∙ ap (λ l. narrow limits (Some (not p.level)) l p.end) last
          ∙ lt-ltb p.end (p.start + width_limit limits (not (not p.level))) (omega arith);
    }

-- ---- longer parts of a run

pub longer_window : (check : Check) (limits : Limits) (begin : ℕ) (x : Signal) (input : ℕ) (y : Signal) (m n : ℕ) → m ≤ n →
    WindowBreak check limits begin x input y m → WindowBreak check limits begin x input y n
longer_window check limits begin x input y m n long w =
    let b = w.at in
    let closes = b.closes in
    let ends = b.ends in
    record {
      opens = w.opens;
      close = w.close;
      change = w.change;
      at = record {
        window = b.window;
        counts = b.counts;
        changes = b.changes;
        not_before = b.not_before;
        not_after = b.not_after;
        closes = omega arith;
        ends = omega arith;
      };
    }

pub longer_pulse : (limits : Limits) (begin : ℕ) (x : Signal) (m n : ℕ) → m ≤ n → PulseBreak limits begin x m →
    PulseBreak limits begin x n
longer_pulse limits begin x m n long p =
    let b = p.at in
    let ends = b.ends in
    record {
      level = p.level;
      start = p.start;
      end = p.end;
      at = record { counts = b.counts; is_pulse = b.is_pulse; narrow = b.narrow; ends = omega arith };
    }
