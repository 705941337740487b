-- A break of a run is one of the front that ends with its greatest tick.
use Rattle.std.proofs.Common.{◌≡◌, ℕ, ◌-◌, ◌≤◌, ◌<◌, Bool, true, false, sym, ap, ◌∙◌, arith, Option, Some, None}
use Rattle.step_values.specs.Steps.{has}
use Rattle.element_kinds.specs.declared.form.Check.{Check}
use Rattle.element_kinds.specs.declared.form.Check.TheVariants.{SetupHold as AboutRise, RiseFall as RiseToFall, MinPulse as Widths}
use Rattle.element_kinds.specs.declared.form.Form.{Form}
use Rattle.element_kinds.specs.declared.form.Form.TheVariants.{Gate, Change, Register, Latch as Enabled, Checker}
use Rattle.element_kinds.specs.Kinds.{checks_pulses, closes_of, form_of}
use Rattle.flat_circuit.specs.declared.instance.Instance.{Instance}
use Rattle.flat_circuit.specs.Circuit.{Circuit}
use Rattle.flat_circuit.specs.Laws.{front}
use Rattle.flat_circuit.specs.Run.{Choice, Run, net_signal}
use Rattle.fixpoint_engine.specs.Pins.{StepsFrom, pin_at}
use Rattle.point_check.specs.Break.{IsMarkBreak, IsRiseFallBreak, IsSetupHoldBreak, wide_at}
use Rattle.pulse_check.specs.Break.{IsWidthBreak}
use Rattle.narrowing.specs.declared.constraint.Constraint.{Constraint}
use Rattle.narrowing.specs.declared.constraint.Constraint.TheVariants.{Instance as OfInstance, Pulse as OfPulse, Net as OfNet}
use Rattle.narrowing.specs.declared.named.Named.{Named}
use Rattle.narrowing.specs.declared.named.Named.TheVariants.{Edge, High, Pulse, Mark, Step}
use Rattle.narrowing.specs.Break.{IsAtNet, IsBreakAt, IsCheckBreak, IsClosedBreak, IsFormBreak, IsPulseBreak}
use Rattle.narrowing.specs.Named.{last_of}
use Rattle.window_law.proofs.Moving.{front_net, front_pin, front_steps}

module _ (n : ℕ) (run : Run) (j : Instance) (choice : Choice) (from : ℕ) where
  abbrev cut : Run
  cut = front n run

  -- at a step that counts, and before it
  here : (pin t : ℕ) → StepsFrom run choice pin from t → t < n → pin_at cut j choice pin t ≡ pin_at run j choice pin t
  here pin t steps below = let wire = steps.begins in front_pin n run j choice pin t (omega (arith, wire)) below

  before : (pin t : ℕ) → StepsFrom run choice pin from t → t < n →
      pin_at cut j choice pin (t - 1) ≡ pin_at run j choice pin (t - 1)
  before pin t steps below =
      let wire = steps.begins in front_pin n run j choice pin (t - 1) (omega (arith, wire)) (omega arith)

  -- between two steps that count
  between : (pin start t end : ℕ) → StepsFrom run choice pin from start → start ≤ t → t < end → end < n →
      pin_at cut j choice pin t ≡ pin_at run j choice pin t
  between pin start t end steps after below within =
      let wire = steps.begins in front_pin n run j choice pin t (omega (arith, wire, after)) (omega arith)

  edge_cut : (edge change : ℕ) → edge < n → change < n → IsSetupHoldBreak run j choice from edge change →
      IsSetupHoldBreak cut j choice from edge change
  edge_cut edge change one other h = record {
    edge_in = front_steps n run choice 0 from edge one h.edge_in;
    change_in = front_steps n run choice 1 from change other h.change_in;
    rises = (before 0 edge h.edge_in one ∙ h.rises.0, here 0 edge h.edge_in one ∙ h.rises.1);
    changes = λ same. h.changes (sym (before 1 change h.change_in other) ∙ same ∙ here 1 change h.change_in other);
    not_before = h.not_before;
    not_after = h.not_after;
  }

  high_cut : (rise fall change : ℕ) → fall < n → change < n → IsRiseFallBreak run j choice from rise fall change →
      IsRiseFallBreak cut j choice from rise fall change
  high_cut rise fall change one other h =
      let ordered = h.is_high.ordered in
      let first : rise < n = omega (arith, ordered) in
      record {
        edge_in = front_steps n run choice 0 from rise first h.edge_in;
        fall_in = front_steps n run choice 0 from fall one h.fall_in;
        change_in = front_steps n run choice 1 from change other h.change_in;
        is_high = record {
          rises = (before 0 rise h.edge_in first ∙ h.is_high.rises.0, here 0 rise h.edge_in first ∙ h.is_high.rises.1);
          ordered = ordered;
          high = λ t after below. between 0 rise t fall h.edge_in after below one ∙ h.is_high.high t after below;
          falls = here 0 fall h.fall_in one ∙ h.is_high.falls;
        };
        changes = λ same. h.changes (sym (before 1 change h.change_in other) ∙ same ∙ here 1 change h.change_in other);
        not_before = h.not_before;
        not_after = h.not_after;
      }

  mark_cut : (closed : Bool) (marked pin tick : ℕ) → tick < n → IsMarkBreak run j choice closed from marked pin tick →
      IsMarkBreak cut j choice closed from marked pin tick
  mark_cut closed marked pin tick one h = record {
    is_marked = h.is_marked;
    below = h.below;
    apart = h.apart;
    marked_in = front_steps n run choice marked from tick one h.marked_in;
    pin_in = front_steps n run choice pin from tick one h.pin_in;
    leaves = λ both.
        h.leaves (sym (before marked tick h.marked_in one) ∙ both.0, sym (here marked tick h.marked_in one) ∙ both.1);
    changes = λ same. h.changes (sym (before pin tick h.pin_in one) ∙ same ∙ here pin tick h.pin_in one);
  }

  width_cut : (level : Bool) (start end : ℕ) → end < n → IsWidthBreak run j choice level from start end →
      IsWidthBreak cut j choice level from start end
  width_cut level start end one h =
      let ordered = h.is_pulse.ordered in
      let first : start < n = omega (arith, ordered) in
      record {
        start_in = front_steps n run choice 0 from start first h.start_in;
        end_in = front_steps n run choice 0 from end one h.end_in;
        is_pulse = record {
          before = before 0 start h.start_in first ∙ h.is_pulse.before;
          ordered = ordered;
          during = λ t after below. between 0 start t end h.start_in after below one ∙ h.is_pulse.during t after below;
          behind = here 0 end h.end_in one ∙ h.is_pulse.behind;
        };
        narrow = h.narrow;
      }

  check_cut : (check : Check) (named : Named) → last_of named < n → IsCheckBreak check run j choice from named →
      IsCheckBreak check cut j choice from named
  check_cut AboutRise (Edge rise change) ends at = edge_cut rise change (omega arith) (omega arith) at
  check_cut AboutRise (High rise fall change) ends at = absurd at
  check_cut AboutRise (Pulse start end) ends at = absurd at
  check_cut AboutRise (Mark tick marked pin) ends at = absurd at
  check_cut AboutRise (Step tick) ends at = absurd at
  check_cut RiseToFall (Edge rise change) ends at = absurd at
  check_cut RiseToFall (High rise fall change) ends at = high_cut rise fall change (omega arith) (omega arith) at
  check_cut RiseToFall (Pulse start end) ends at = absurd at
  check_cut RiseToFall (Mark tick marked pin) ends at = absurd at
  check_cut RiseToFall (Step tick) ends at = absurd at
  check_cut Widths (Edge rise change) ends at = absurd at
  check_cut Widths (High rise fall change) ends at = absurd at
  check_cut Widths (Pulse start end) ends at = absurd at
  check_cut Widths (Mark tick marked pin) ends at = absurd at
  check_cut Widths (Step tick) ends at = absurd at

  closed_cut : (closes : Option Bool) (named : Named) → last_of named < n → IsClosedBreak closes run j choice from named →
      IsClosedBreak closes cut j choice from named
  closed_cut None (Edge rise change) ends at = absurd at
  closed_cut None (High rise fall change) ends at = absurd at
  closed_cut None (Pulse start end) ends at = absurd at
  closed_cut None (Mark tick marked pin) ends at = absurd at
  closed_cut None (Step tick) ends at = absurd at
  closed_cut (Some closed) (Edge rise change) ends at = absurd at
  closed_cut (Some closed) (High rise fall change) ends at = absurd at
  closed_cut (Some closed) (Pulse start end) ends at = absurd at
  closed_cut (Some closed) (Mark tick marked pin) ends at = mark_cut closed marked pin tick ends at
  closed_cut (Some closed) (Step tick) ends at = absurd at

  form_cut : (form : Form) (closes : Option Bool) (named : Named) → last_of named < n →
      IsFormBreak form closes run j choice from named → IsFormBreak form closes cut j choice from named
  form_cut Gate closes named ends at = closed_cut closes named ends at
  form_cut Change closes named ends at = absurd at
  form_cut (Register forced) closes named ends at = absurd at
  form_cut (Enabled forced) closes named ends at = absurd at
  form_cut (Checker check) closes named ends at = check_cut check named ends at

  pulse_cut : (measures high : Bool) (named : Named) → last_of named < n → IsPulseBreak measures high run j choice from named →
      IsPulseBreak measures high cut j choice from named
  pulse_cut false high (Edge rise change) ends at = absurd at
  pulse_cut false high (High rise fall change) ends at = absurd at
  pulse_cut false high (Pulse start end) ends at = absurd at
  pulse_cut false high (Mark tick marked pin) ends at = absurd at
  pulse_cut false high (Step tick) ends at = absurd at
  pulse_cut true high (Edge rise change) ends at = absurd at
  pulse_cut true high (High rise fall change) ends at = absurd at
  pulse_cut true high (Pulse start end) ends at = width_cut high start end ends at
  pulse_cut true high (Mark tick marked pin) ends at = absurd at
  pulse_cut true high (Step tick) ends at = absurd at

net_cut : (c : Circuit) (n : ℕ) (run : Run) (i from tick : ℕ) → tick < n → IsAtNet c run i from tick →
    IsAtNet c (front n run) i from tick
net_cut c n run i from tick below at =
    let h = at.is in
    let ends = h.ends in
    record {
      net = at.net;
      driver = at.driver;
      is = record {
        net_is = h.net_is;
        is_driven = h.is_driven;
        asserts = h.asserts;
        after = h.after;
        begins = h.begins;
        ends = omega (arith, ends);
        lacks =
            ap (λ (b : Bool). has (wide_at c.header at.net.spec tick) b (net_signal (front n run) i tick))
            (front_net n run i (tick - 1) (omega arith))
            ∙ ap (λ (b : Bool). has (wide_at c.header at.net.spec tick) (net_signal run i (tick - 1)) b)
            (front_net n run i tick below)
            ∙ h.lacks;
      };
    }

pub break_cut : (c : Circuit) (n : ℕ) (run : Run) (x : Constraint) (from : ℕ) (named : Named) → last_of named < n →
    IsBreakAt c run x from named → IsBreakAt c (front n run) x from named
break_cut c n run (OfInstance k) from named ends at = record {
  instance = at.instance;
  choice = at.choice;
  instance_is = at.instance_is;
  choice_is = at.choice_is;
  is = form_cut n run at.instance at.choice from (form_of at.instance.kind) (closes_of at.instance.kind) named ends at.is;
}
break_cut c n run (OfPulse k high) from named ends at = record {
  instance = at.instance;
  choice = at.choice;
  instance_is = at.instance_is;
  choice_is = at.choice_is;
  is = pulse_cut n run at.instance at.choice from (checks_pulses at.instance.kind) high named ends at.is;
}
break_cut c n run (OfNet i) from (Edge rise change) ends at = absurd at
break_cut c n run (OfNet i) from (High rise fall change) ends at = absurd at
break_cut c n run (OfNet i) from (Pulse start end) ends at = absurd at
break_cut c n run (OfNet i) from (Mark tick marked pin) ends at = absurd at
break_cut c n run (OfNet i) from (Step tick) ends at = net_cut c n run i from tick ends at
