-- What breaks in a run that has given bits before a tick, element by element.
use Rattle.std.proofs.Common.{◌≡◌, ℕ, ◌+◌, ◌<◌, ◌≤◌, Bool, true, false, Option, Some, None, refl, sym, arith, inl, inr}
use Rattle.std.specs.Prelude.{◌⊎◌}
use Rattle.scald_base.specs.Signal.{Signal}
use Rattle.element_kinds.specs.declared.form.Check.{Check}
use Rattle.element_kinds.specs.declared.form.Check.TheVariants.{SetupHold as AboutRise, RiseFall as RiseToFall, MinPulse as Widths}
use Rattle.element_kinds.specs.declared.form.Form.{Form}
use Rattle.element_kinds.specs.declared.form.Form.TheVariants.{Gate, Change, Register, Latch as Enabled, Checker}
use Rattle.element_kinds.specs.Kinds.{is_of_pulses}
use Rattle.flat_circuit.specs.declared.instance.Instance.{Instance}
use Rattle.flat_circuit.specs.Run.{Choice as Chosen, Run}
use Rattle.fixpoint_engine.specs.Pins.{StepsFrom, pin_at}
use Rattle.point_check.specs.Break.{BreaksForm, BreaksMark, BreaksRiseFall, BreaksSetupHold}
use Rattle.pulse_check.specs.Break.{BreaksMeasured, BreaksWidth, limit_of}
use Rattle.trace_sim.specs.Choice.{Bits}
use Rattle.trace_tool.specs.Pass.{FormEnds, MarkEnds, begins, pulse_ends, shown, width_limit, window_ends}
use Rattle.trace_tool.proofs.Agreeing.{changes_on, high_on, leaves_on, pulse_on, rises_on}
use Rattle.trace_tool.proofs.Pulses.{counts_at, steps_at}
use Rattle.trace_tool.proofs.Windows.{PulseBreak, WindowBreak, broken_at, longer_pulse, longer_window, narrow_at, pulse_end, window_end}

-- a tick before n at which something ends
pub record EndsBefore (holds : ℕ → Type 0) (n : ℕ) : Type 0 where
  pub tick : ℕ
  pub below : tick < n
  pub is : holds tick

limit_is : (j : Instance) (level : Bool) → limit_of j level ≡ width_limit j.limits level
limit_is j true = refl
limit_is j false = refl

module _ (run : Run) (n : ℕ) (bits : Bits) (j : Instance) (choice : Chosen) (from : ℕ) (ticks_are : run.ticks ≡ n)
    (same : (pin t : ℕ) → t < n → pin_at run j choice pin t ≡ shown bits j choice.wires pin t) where
  abbrev begin : ℕ → ℕ
  begin pin = begins from choice.wires pin

  abbrev seen_at : ℕ → Signal
  seen_at pin = shown bits j choice.wires pin

  back : (pin t : ℕ) → t < n → seen_at pin t ≡ pin_at run j choice pin t
  back pin t less = sym (same pin t less)

  counts : (pin t : ℕ) → StepsFrom run choice pin from t → begin pin ≤ t
  counts pin t s = let a = s.after in let b = s.begins in omega arith

  inside : (pin t : ℕ) → StepsFrom run choice pin from t → t < n
  inside pin t s = let e = s.ends in omega arith

  in_run : (pin t : ℕ) → begin pin ≤ t → t < n → StepsFrom run choice pin from t
  in_run pin t b less = record { after = omega arith; begins = omega arith; ends = omega arith }

  -- ---- setup and hold

  abbrev Window : Check → Type 0
  Window check = WindowBreak check j.limits (begin 0) (seen_at 0) (begin 1) (seen_at 1) n

  to_rise : BreaksSetupHold run j choice from → Window AboutRise
  to_rise b =
      let at = b.at in
      let edge_in = inside 0 b.edge at.edge_in in
      let change_in = inside 1 b.change at.change_in in
      record {
        opens = b.edge;
        close = b.edge;
        change = b.change;
        at = record {
          window = (refl, (counts 0 b.edge at.edge_in, rises_on (pin_at run j choice 0) (seen_at 0) n (same 0) b.edge edge_in at.rises));
          counts = counts 1 b.change at.change_in;
          changes = changes_on (pin_at run j choice 1) (seen_at 1) n (same 1) b.change change_in at.changes;
          not_before = at.not_before;
          not_after = at.not_after;
          closes = edge_in;
          ends = change_in;
        };
      }

  from_rise : Window AboutRise → BreaksSetupHold run j choice from
  from_rise w =
      let at = w.at in
      let one : w.opens ≡ w.close = at.window.0 in
      let early = at.not_before in
      record {
        edge = w.close;
        change = w.change;
        at = record {
          edge_in = in_run 0 w.close at.window.1.0 at.closes;
          change_in = in_run 1 w.change at.counts at.ends;
          rises = rises_on (seen_at 0) (pin_at run j choice 0) n (back 0) w.close at.closes at.window.1.1;
          changes = changes_on (seen_at 1) (pin_at run j choice 1) n (back 1) w.change at.ends at.changes;
          not_before = omega arith;
          not_after = at.not_after;
        };
      }

  to_fall : BreaksRiseFall run j choice from → Window RiseToFall
  to_fall b =
      let at = b.at in
      let fall_in = inside 0 b.fall at.fall_in in
      let change_in = inside 1 b.change at.change_in in
      record {
        opens = b.edge;
        close = b.fall;
        change = b.change;
        at = record {
          window = (counts 0 b.edge at.edge_in, high_on (pin_at run j choice 0) (seen_at 0) n (same 0) b.edge b.fall fall_in at.is_high);
          counts = counts 1 b.change at.change_in;
          changes = changes_on (pin_at run j choice 1) (seen_at 1) n (same 1) b.change change_in at.changes;
          not_before = at.not_before;
          not_after = at.not_after;
          closes = fall_in;
          ends = change_in;
        };
      }

  from_fall : Window RiseToFall → BreaksRiseFall run j choice from
  from_fall w =
      let at = w.at in
      let ordered = at.window.1.ordered in
      let begun = at.window.0 in
      let closes = at.closes in
      record {
        edge = w.opens;
        fall = w.close;
        change = w.change;
        at = record {
          edge_in = in_run 0 w.opens begun (omega arith);
          fall_in = in_run 0 w.close (omega arith) closes;
          change_in = in_run 1 w.change at.counts at.ends;
          is_high = high_on (seen_at 0) (pin_at run j choice 0) n (back 0) w.opens w.close closes at.window.1;
          changes = changes_on (seen_at 1) (pin_at run j choice 1) n (back 1) w.change at.ends at.changes;
          not_before = at.not_before;
          not_after = at.not_after;
        };
      }

  -- ---- widths

  abbrev Narrow : Type 0
  Narrow = PulseBreak j.limits (begin 0) (seen_at 0) n

  to_narrow : (level : Bool) → BreaksWidth run j choice level from → Narrow
  to_narrow level b =
      let at = b.at in
      let end_in = inside 0 b.end at.end_in in
      let narrow = at.narrow in
      let limit = limit_is j level in
      record {
        level = level;
        start = b.start;
        end = b.end;
        at = record {
          counts = counts 0 b.start at.start_in;
          is_pulse = pulse_on (pin_at run j choice 0) (seen_at 0) n (same 0) level b.start b.end end_in at.is_pulse;
          narrow = omega arith;
          ends = end_in;
        };
      }

  from_narrow : (p : Narrow) → BreaksWidth run j choice p.level from
  from_narrow p =
      let at = p.at in
      let ordered = at.is_pulse.ordered in
      let begun = at.counts in
      let ends = at.ends in
      let narrow = at.narrow in
      let limit = limit_is j p.level in
      record {
        start = p.start;
        end = p.end;
        at = record {
          start_in = in_run 0 p.start begun (omega arith);
          end_in = in_run 0 p.end (omega arith) ends;
          is_pulse = pulse_on (seen_at 0) (pin_at run j choice 0) n (back 0) p.level p.start p.end ends at.is_pulse;
          narrow = omega arith;
        };
      }

  -- ---- marks

  to_mark : (closed : Bool) → BreaksMark run j choice closed from → EndsBefore (MarkEnds bits j choice.wires closed from) n
  to_mark closed b =
      let at = b.at in
      let marked_in = inside b.marked b.tick at.marked_in in
      record {
        tick = b.tick;
        below = marked_in;
        is = record {
          marked = b.marked;
          lets = record {
            is_marked = at.is_marked;
            counts = counts b.marked b.tick at.marked_in;
            leaves = leaves_on (pin_at run j choice b.marked) (seen_at b.marked) n (same b.marked) closed b.tick marked_in at.leaves;
          };
          other = record {
            pin = b.pin;
            below = at.below;
            apart = at.apart;
            changes = steps_at (begin b.pin) (seen_at b.pin) b.tick (record {
              counts = counts b.pin b.tick at.pin_in;
              changes = changes_on (pin_at run j choice b.pin) (seen_at b.pin) n (same b.pin) b.tick marked_in at.changes;
            });
          };
        };
      }

  from_mark : (closed : Bool) → EndsBefore (MarkEnds bits j choice.wires closed from) n → BreaksMark run j choice closed from
  from_mark closed e =
      let marked = e.is.marked in
      let pin = e.is.other.pin in
      let step = counts_at (begin pin) (seen_at pin) e.tick e.is.other.changes in
      record {
        marked = marked;
        pin = pin;
        tick = e.tick;
        at = record {
          is_marked = e.is.lets.is_marked;
          below = e.is.other.below;
          apart = e.is.other.apart;
          marked_in = in_run marked e.tick e.is.lets.counts e.below;
          pin_in = in_run pin e.tick step.counts e.below;
          leaves = leaves_on (seen_at marked) (pin_at run j choice marked) n (back marked) closed e.tick e.below e.is.lets.leaves;
          changes = changes_on (seen_at pin) (pin_at run j choice pin) n (back pin) e.tick e.below step.changes;
        };
      }

  -- ---- all that an instance may ask for

  abbrev EndsOf : (ℕ → Type 0) → Type 0
  EndsOf holds = EndsBefore holds n

  abbrev windowed : Check → ℕ → Bool
  windowed check t = window_ends check j.limits (begin 0) (seen_at 0) (begin 1) (seen_at 1) t

  abbrev pulsed : ℕ → Bool
  pulsed t = pulse_ends j.limits (begin 0) (seen_at 0) t

  window_before : (check : Check) → Window check → EndsOf (λ t. windowed check t ≡ true)
  window_before check w =
      let e = window_end check j.limits (begin 0) (seen_at 0) (begin 1) (seen_at 1) n w in
      record { tick = e.tick; below = e.below; is = e.is }

  window_from : (check : Check) → EndsOf (λ t. windowed check t ≡ true) → Window check
  window_from check e =
      let below = e.below in
      longer_window check j.limits (begin 0) (seen_at 0) (begin 1) (seen_at 1) (e.tick + 1) n (omega arith)
      (broken_at check j.limits (begin 0) (seen_at 0) (begin 1) (seen_at 1) e.tick e.is)

  pulse_before : Narrow → EndsOf (λ t. pulsed t ≡ true)
  pulse_before p =
      let e = pulse_end j.limits (begin 0) (seen_at 0) n p in
      record { tick = e.tick; below = e.below; is = e.is }

  pulse_from : EndsOf (λ t. pulsed t ≡ true) → Narrow
  pulse_from e =
      let below = e.below in
      longer_pulse j.limits (begin 0) (seen_at 0) (e.tick + 1) n (omega arith)
      (narrow_at j.limits (begin 0) (seen_at 0) e.tick e.is)

  -- what is broken of an instance of this form
  abbrev pub Broken : Form → Option Bool → Type 0
  Broken form closes =
      BreaksForm form closes run j choice from
      ⊎ (BreaksMeasured (is_of_pulses form) run j choice true from ⊎ BreaksMeasured (is_of_pulses form) run j choice false from)

  abbrev Ended : Form → Option Bool → Type 0
  Ended form closes = EndsOf (FormEnds form closes bits j choice.wires from)

  pub ended : (form : Form) (closes : Option Bool) → Broken form closes → Ended form closes
  ended Gate None b = elim b as (λ _. Ended Gate None) [
    | inl h ↦ absurd h
    | inr w ↦ elim w as (λ _. Ended Gate None) [ inl h ↦ absurd h | inr h ↦ absurd h ]
  ]
  ended Gate (Some closed) b = elim b as (λ _. Ended Gate (Some closed)) [
    | inl h ↦ to_mark closed h
    | inr w ↦ elim w as (λ _. Ended Gate (Some closed)) [ inl h ↦ absurd h | inr h ↦ absurd h ]
  ]
  ended Change closes b = elim b as (λ _. Ended Change closes) [
    | inl h ↦ absurd h
    | inr w ↦ elim w as (λ _. Ended Change closes) [ inl h ↦ absurd h | inr h ↦ absurd h ]
  ]
  ended (Register forced) closes b = elim b as (λ _. Ended (Register forced) closes) [
    | inl h ↦ absurd h
    | inr w ↦ elim w as (λ _. Ended (Register forced) closes) [ inl h ↦ absurd h | inr h ↦ absurd h ]
  ]
  ended (Enabled forced) closes b = elim b as (λ _. Ended (Enabled forced) closes) [
    | inl h ↦ absurd h
    | inr w ↦ elim w as (λ _. Ended (Enabled forced) closes) [ inl h ↦ absurd h | inr h ↦ absurd h ]
  ]
  ended (Checker AboutRise) closes b = elim b as (λ _. Ended (Checker AboutRise) closes) [
    | inl h ↦ window_before AboutRise (to_rise h)
    | inr w ↦ elim w as (λ _. Ended (Checker AboutRise) closes) [ inl h ↦ absurd h | inr h ↦ absurd h ]
  ]
  ended (Checker RiseToFall) closes b = elim b as (λ _. Ended (Checker RiseToFall) closes) [
    | inl h ↦ window_before RiseToFall (to_fall h)
    | inr w ↦ elim w as (λ _. Ended (Checker RiseToFall) closes) [ inl h ↦ absurd h | inr h ↦ absurd h ]
  ]
  ended (Checker Widths) closes b = elim b as (λ _. Ended (Checker Widths) closes) [
    | inl h ↦ absurd h
    | inr w ↦ elim w as (λ _. Ended (Checker Widths) closes) [
      | inl h ↦ pulse_before (to_narrow true h)
      | inr h ↦ pulse_before (to_narrow false h)
    ]
  ]

  broken_by : (p : Narrow) → BreaksWidth run j choice p.level from → BreaksWidth run j choice true from ⊎ BreaksWidth run j choice false from
  broken_by p b = by p.level b
    where
      by : (level : Bool) → BreaksWidth run j choice level from → BreaksWidth run j choice true from ⊎ BreaksWidth run j choice false from
      by true h = inl h
      by false h = inr h

  pub broken : (form : Form) (closes : Option Bool) → Ended form closes → Broken form closes
  broken Gate None e = absurd e.is
  broken Gate (Some closed) e = inl (from_mark closed e)
  broken Change closes e = absurd e.is
  broken (Register forced) closes e = absurd e.is
  broken (Enabled forced) closes e = absurd e.is
  broken (Checker AboutRise) closes e = inl (from_rise (window_from AboutRise e))
  broken (Checker RiseToFall) closes e = inl (from_fall (window_from RiseToFall e))
  broken (Checker Widths) closes e = let p = pulse_from e in inr (broken_by p (from_narrow p))
