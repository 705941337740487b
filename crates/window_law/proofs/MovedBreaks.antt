-- The breaks of a run without its first periods are those of the run, so many periods later.
use Rattle.std.proofs.Common.{◌≡◌, ℕ, ◌+◌, ◌-◌, ◌*◌, ◌%◌, ◌≤◌, Bool, true, false, sym, ap, ◌∙◌, arith, Option, Some, None, ◌↔◌, slice_get}
use Rattle.std.proofs.Math.Nat.{add-mul-mod_self_right}
use Rattle.scald_base.specs.Time.{Header, period}
use Rattle.scald_base.specs.declared.assertion.AssertSpec.{AssertSpec}
use Rattle.step_values.specs.declared.value.Value.{Value}
use Rattle.step_values.specs.Cell.{values}
use Rattle.step_values.specs.Steps.{has}
use Rattle.skew_algebra.specs.Wave.{cell_at}
use Rattle.element_kinds.specs.declared.form.Check.{Check}
use Rattle.element_kinds.specs.declared.form.Check.TheVariants.{SetupHold as AboutRise, RiseFall as RiseToFall, MinPulse as Widths}
use Rattle.element_kinds.specs.declared.form.Form.{Form}
use Rattle.element_kinds.specs.declared.form.Form.TheVariants.{Gate, Change, Register, Latch as Enabled, Checker}
use Rattle.element_kinds.specs.Kinds.{checks_pulses, closes_of, form_of}
use Rattle.flat_circuit.specs.declared.instance.Instance.{Instance}
use Rattle.flat_circuit.specs.Circuit.{Circuit}
use Rattle.flat_circuit.specs.Laws.{later_part}
use Rattle.flat_circuit.specs.Run.{Choice, Run, net_signal}
use Rattle.fixpoint_engine.specs.Pins.{StepsFrom, pin_at, wire_to}
use Rattle.pin_waves.specs.Interface.{wide_wave}
use Rattle.point_check.specs.Break.{Changes, IsMarkBreak, IsRiseFallBreak, IsSetupHoldBreak, wide_at}
use Rattle.pulse_check.specs.Break.{IsWidthBreak}
use Rattle.narrowing.specs.declared.constraint.Constraint.TheVariants.{Instance as OfInstance, Pulse as OfPulse, Net as OfNet}
use Rattle.narrowing.specs.declared.named.Named.{Named}
use Rattle.narrowing.specs.declared.named.Named.TheVariants.{Edge, High, Pulse, Mark, Step}
use Rattle.narrowing.specs.Break.{IsAtInstance, IsAtNet, IsCheckBreak, IsClosedBreak, IsFormBreak, IsPulseBreak}
use Rattle.window_law.specs.Laws.{BreaksMayMove}
use Rattle.window_law.specs.Shift.{later_by}
use Rattle.window_law.proofs.Moving.{later_net, later_pin, later_steps, short_wire}

never : ⊥ ↔ ⊥
never = (λ at. at, λ at. at)

module _ (n : ℕ) (run : Run) (j : Instance) (choice : Choice) (from : ℕ) (wires : (pin : ℕ) → wire_to choice pin + 1 ≤ from)
  where
    abbrev part : Run
    part = later_part n run

    here : (pin t : ℕ) → from ≤ t → pin_at part j choice pin t ≡ pin_at run j choice pin (n + t)
    here pin t after = let wire = wires pin in later_pin n run j choice pin t (omega (arith, wire, after))

    before : (pin t : ℕ) → from ≤ t → pin_at part j choice pin (t - 1) ≡ pin_at run j choice pin (n + t - 1)
    before pin t after =
        let wire = wires pin in
        later_pin n run j choice pin (t - 1) (omega (arith, wire, after))
        ∙ ap (pin_at run j choice pin) (let e : n + (t - 1) ≡ n + t - 1 = omega (arith, wire, after) in e)

    steps : (pin t : ℕ) → StepsFrom run choice pin (n + from) (n + t) → StepsFrom part choice pin from t
    steps pin t in_run = later_steps n run choice pin from t (wires pin) in_run

    -- it lies after the least tick
    late : (pin t : ℕ) → StepsFrom run choice pin (n + from) (n + t) → from ≤ t
    late pin t in_run = (steps pin t in_run).after

    edge_moved : (edge change : ℕ) → IsSetupHoldBreak run j choice (n + from) (n + edge) (n + change) →
        IsSetupHoldBreak part j choice from edge change
    edge_moved edge change h =
        let at_edge = late 0 edge h.edge_in in
        let at_change = late 1 change h.change_in in
        let soon = h.not_before in
        let over = h.not_after in
        record {
          edge_in = steps 0 edge h.edge_in;
          change_in = steps 1 change h.change_in;
          rises = (before 0 edge at_edge ∙ h.rises.0, here 0 edge at_edge ∙ h.rises.1);
          changes = λ same. h.changes (sym (before 1 change at_change) ∙ same ∙ here 1 change at_change);
          not_before = omega (arith, soon);
          not_after = omega (arith, over);
        }

    high_moved : (rise fall change : ℕ) → IsRiseFallBreak run j choice (n + from) (n + rise) (n + fall) (n + change) →
        IsRiseFallBreak part j choice from rise fall change
    high_moved rise fall change h =
        let at_rise = late 0 rise h.edge_in in
        let at_fall = late 0 fall h.fall_in in
        let at_change = late 1 change h.change_in in
        let ordered = h.is_high.ordered in
        let soon = h.not_before in
        let over = h.not_after in
        record {
          edge_in = steps 0 rise h.edge_in;
          fall_in = steps 0 fall h.fall_in;
          change_in = steps 1 change h.change_in;
          is_high = record {
            rises = (before 0 rise at_rise ∙ h.is_high.rises.0, here 0 rise at_rise ∙ h.is_high.rises.1);
            ordered = omega (arith, ordered);
            high = λ t after below. here 0 t (omega (arith, at_rise, after)) ∙ h.is_high.high (n + t) (omega arith) (omega arith);
            falls = here 0 fall at_fall ∙ h.is_high.falls;
          };
          changes = λ same. h.changes (sym (before 1 change at_change) ∙ same ∙ here 1 change at_change);
          not_before = omega (arith, soon);
          not_after = omega (arith, over);
        }

    mark_moved : (closed : Bool) (marked pin tick : ℕ) → IsMarkBreak run j choice closed (n + from) marked pin (n + tick) →
        IsMarkBreak part j choice closed from marked pin tick
    mark_moved closed marked pin tick h =
        let at_marked = late marked tick h.marked_in in
        let at_pin = late pin tick h.pin_in in
        record {
          is_marked = h.is_marked;
          below = h.below;
          apart = h.apart;
          marked_in = steps marked tick h.marked_in;
          pin_in = steps pin tick h.pin_in;
          leaves = λ both. h.leaves (sym (before marked tick at_marked) ∙ both.0, sym (here marked tick at_marked) ∙ both.1);
          changes = λ same. h.changes (sym (before pin tick at_pin) ∙ same ∙ here pin tick at_pin);
        }

    width_moved : (level : Bool) (start end : ℕ) → IsWidthBreak run j choice level (n + from) (n + start) (n + end) →
        IsWidthBreak part j choice level from start end
    width_moved level start end h =
        let at_start = late 0 start h.start_in in
        let at_end = late 0 end h.end_in in
        let ordered = h.is_pulse.ordered in
        let narrow = h.narrow in
        record {
          start_in = steps 0 start h.start_in;
          end_in = steps 0 end h.end_in;
          is_pulse = record {
            before = before 0 start at_start ∙ h.is_pulse.before;
            ordered = omega (arith, ordered);
            during = λ t after below. here 0 t (omega (arith, at_start, after)) ∙ h.is_pulse.during (n + t) (omega arith) (omega arith);
            behind = here 0 end at_end ∙ h.is_pulse.behind;
          };
          narrow = omega (arith, narrow);
        }

    -- ---- and back

    steps_back : (pin t : ℕ) → StepsFrom part choice pin from t → StepsFrom run choice pin (n + from) (n + t)
    steps_back pin t in_part =
        let after = in_part.after in
        let begins = in_part.begins in
        let ends = in_part.ends in
        record { after = omega (arith, after); begins = omega (arith, begins); ends = omega (arith, ends) }

    -- what a pin shows at a later tick of the run
    shown_back : (pin start t : ℕ) (bit : Bool) → from ≤ start → n + start ≤ t → pin_at part j choice pin (t - n) ≡ bit →
        pin_at run j choice pin t ≡ bit
    shown_back pin start t bit begins after shows =
        let same : n + (t - n) ≡ t = omega (arith, after) in
        ap (pin_at run j choice pin) (sym same) ∙ sym (here pin (t - n) (omega (arith, begins, after))) ∙ shows

    changes_back : (pin t : ℕ) → from ≤ t → Changes (pin_at part j choice pin) t → Changes (pin_at run j choice pin) (n + t)
    changes_back pin t after changes same = changes (before pin t after ∙ same ∙ sym (here pin t after))

    edge_back : (edge change : ℕ) → IsSetupHoldBreak part j choice from edge change →
        IsSetupHoldBreak run j choice (n + from) (n + edge) (n + change)
    edge_back edge change h =
        let at_edge = h.edge_in.after in
        let soon = h.not_before in
        let over = h.not_after in
        record {
          edge_in = steps_back 0 edge h.edge_in;
          change_in = steps_back 1 change h.change_in;
          rises = (sym (before 0 edge at_edge) ∙ h.rises.0, sym (here 0 edge at_edge) ∙ h.rises.1);
          changes = changes_back 1 change h.change_in.after h.changes;
          not_before = omega (arith, soon);
          not_after = omega (arith, over);
        }

    high_back : (rise fall change : ℕ) → IsRiseFallBreak part j choice from rise fall change →
        IsRiseFallBreak run j choice (n + from) (n + rise) (n + fall) (n + change)
    high_back rise fall change h =
        let at_rise = h.edge_in.after in
        let ordered = h.is_high.ordered in
        let soon = h.not_before in
        let over = h.not_after in
        record {
          edge_in = steps_back 0 rise h.edge_in;
          fall_in = steps_back 0 fall h.fall_in;
          change_in = steps_back 1 change h.change_in;
          is_high = record {
            rises = (sym (before 0 rise at_rise) ∙ h.is_high.rises.0, sym (here 0 rise at_rise) ∙ h.is_high.rises.1);
            ordered = omega (arith, ordered);
            high = λ t after below.
                shown_back 0 rise t true at_rise after (h.is_high.high (t - n) (omega (arith, after)) (omega (arith, after, below)));
            falls = sym (here 0 fall h.fall_in.after) ∙ h.is_high.falls;
          };
          changes = changes_back 1 change h.change_in.after h.changes;
          not_before = omega (arith, soon);
          not_after = omega (arith, over);
        }

    mark_back : (closed : Bool) (marked pin tick : ℕ) → IsMarkBreak part j choice closed from marked pin tick →
        IsMarkBreak run j choice closed (n + from) marked pin (n + tick)
    mark_back closed marked pin tick h =
        let at = h.marked_in.after in
        record {
          is_marked = h.is_marked;
          below = h.below;
          apart = h.apart;
          marked_in = steps_back marked tick h.marked_in;
          pin_in = steps_back pin tick h.pin_in;
          leaves = λ both. h.leaves (before marked tick at ∙ both.0, here marked tick at ∙ both.1);
          changes = changes_back pin tick h.pin_in.after h.changes;
        }

    width_back : (level : Bool) (start end : ℕ) → IsWidthBreak part j choice level from start end →
        IsWidthBreak run j choice level (n + from) (n + start) (n + end)
    width_back level start end h =
        let at_start = h.start_in.after in
        let ordered = h.is_pulse.ordered in
        let narrow = h.narrow in
        record {
          start_in = steps_back 0 start h.start_in;
          end_in = steps_back 0 end h.end_in;
          is_pulse = record {
            before = sym (before 0 start at_start) ∙ h.is_pulse.before;
            ordered = omega (arith, ordered);
            during = λ t after below.
                shown_back 0 start t level at_start after
                (h.is_pulse.during (t - n) (omega (arith, after)) (omega (arith, after, below)));
            behind = sym (here 0 end h.end_in.after) ∙ h.is_pulse.behind;
          };
          narrow = omega (arith, narrow);
        }

    -- ---- by what is checked

    check_moves : (check : Check) (named : Named) →
        IsCheckBreak check run j choice (n + from) (later_by n named) ↔ IsCheckBreak check part j choice from named
    check_moves AboutRise (Edge rise change) = (edge_moved rise change, edge_back rise change)
    check_moves AboutRise (High rise fall change) = never
    check_moves AboutRise (Pulse start end) = never
    check_moves AboutRise (Mark tick marked pin) = never
    check_moves AboutRise (Step tick) = never
    check_moves RiseToFall (Edge rise change) = never
    check_moves RiseToFall (High rise fall change) = (high_moved rise fall change, high_back rise fall change)
    check_moves RiseToFall (Pulse start end) = never
    check_moves RiseToFall (Mark tick marked pin) = never
    check_moves RiseToFall (Step tick) = never
    check_moves Widths (Edge rise change) = never
    check_moves Widths (High rise fall change) = never
    check_moves Widths (Pulse start end) = never
    check_moves Widths (Mark tick marked pin) = never
    check_moves Widths (Step tick) = never

    closed_moves : (closes : Option Bool) (named : Named) →
        IsClosedBreak closes run j choice (n + from) (later_by n named) ↔ IsClosedBreak closes part j choice from named
    closed_moves None (Edge rise change) = never
    closed_moves None (High rise fall change) = never
    closed_moves None (Pulse start end) = never
    closed_moves None (Mark tick marked pin) = never
    closed_moves None (Step tick) = never
    closed_moves (Some closed) (Edge rise change) = never
    closed_moves (Some closed) (High rise fall change) = never
    closed_moves (Some closed) (Pulse start end) = never
    closed_moves (Some closed) (Mark tick marked pin) =
        (mark_moved closed marked pin tick, mark_back closed marked pin tick)
    closed_moves (Some closed) (Step tick) = never

    form_moves : (form : Form) (closes : Option Bool) (named : Named) →
        IsFormBreak form closes run j choice (n + from) (later_by n named) ↔ IsFormBreak form closes part j choice from named
    form_moves Gate closes named = closed_moves closes named
    form_moves Change closes named = never
    form_moves (Register forced) closes named = never
    form_moves (Enabled forced) closes named = never
    form_moves (Checker check) closes named = check_moves check named

    pulse_moves : (measures high : Bool) (named : Named) →
        IsPulseBreak measures high run j choice (n + from) (later_by n named)
        ↔ IsPulseBreak measures high part j choice from named
    pulse_moves false high (Edge rise change) = never
    pulse_moves false high (High rise fall change) = never
    pulse_moves false high (Pulse start end) = never
    pulse_moves false high (Mark tick marked pin) = never
    pulse_moves false high (Step tick) = never
    pulse_moves true high (Edge rise change) = never
    pulse_moves true high (High rise fall change) = never
    pulse_moves true high (Pulse start end) = (width_moved high start end, width_back high start end)
    pulse_moves true high (Mark tick marked pin) = never
    pulse_moves true high (Step tick) = never

-- ---- nets

-- whole periods later is the same slot of a wave
wide_same : (h : Header) (spec : AssertSpec) (m t : ℕ) → wide_at h spec (m * period h + t) ≡ wide_at h spec t
wide_same h spec m t =
    ap (λ (s : ℕ). cell_at values (wide_wave h spec) s)
    (ap (λ (s : ℕ). s % period h) (let e : m * period h + t ≡ t + m * period h = omega arith in e)
    ∙ add-mul-mod_self_right t m (period h))

net_moved : (c : Circuit) (run : Run) (i m from tick : ℕ) → 1 ≤ from →
    IsAtNet c run i (m * period c.header + from) (m * period c.header + tick) →
    IsAtNet c (later_part (m * period c.header) run) i from tick
net_moved c run i m from tick some at =
    let n : ℕ = m * period c.header in
    let h = at.is in
    let after = h.after in
    let ends = h.ends in
    let step : (t : ℕ) → net_signal (later_part n run) i t ≡ net_signal run i (n + t) = later_net n run i in
    let earlier : n + (tick - 1) ≡ n + tick - 1 = omega (arith, after, some) in
    record {
      net = at.net;
      driver = at.driver;
      is = record {
        net_is = h.net_is;
        is_driven = h.is_driven;
        asserts = h.asserts;
        after = omega (arith, after);
        begins = omega (arith, after, some);
        ends = omega (arith, ends);
        lacks =
            ap (λ (b : Bool). has (wide_at c.header at.net.spec tick) b (net_signal (later_part n run) i tick))
            (step (tick - 1) ∙ ap (net_signal run i) earlier)
            ∙ ap (λ (b : Bool). has (wide_at c.header at.net.spec tick) (net_signal run i (n + tick - 1)) b) (step tick)
            ∙ ap (λ (v : Value). has v (net_signal run i (n + tick - 1)) (net_signal run i (n + tick)))
            (sym (wide_same c.header at.net.spec m tick))
            ∙ h.lacks;
      };
    }

net_back : (c : Circuit) (run : Run) (i m from tick : ℕ) → 1 ≤ from →
    IsAtNet c (later_part (m * period c.header) run) i from tick →
    IsAtNet c run i (m * period c.header + from) (m * period c.header + tick)
net_back c run i m from tick some at =
    let n : ℕ = m * period c.header in
    let h = at.is in
    let after = h.after in
    let ends = h.ends in
    let step : (t : ℕ) → net_signal (later_part n run) i t ≡ net_signal run i (n + t) = later_net n run i in
    let earlier : n + (tick - 1) ≡ n + tick - 1 = omega (arith, after, some) in
    record {
      net = at.net;
      driver = at.driver;
      is = record {
        net_is = h.net_is;
        is_driven = h.is_driven;
        asserts = h.asserts;
        after = omega (arith, after);
        begins = omega (arith, after, some);
        ends = omega (arith, ends);
        lacks =
            ap (λ (v : Value). has v (net_signal run i (n + tick - 1)) (net_signal run i (n + tick)))
            (wide_same c.header at.net.spec m tick)
            ∙ ap (λ (b : Bool). has (wide_at c.header at.net.spec tick) b (net_signal run i (n + tick)))
            (sym (step (tick - 1) ∙ ap (net_signal run i) earlier))
            ∙ ap (λ (b : Bool). has (wide_at c.header at.net.spec tick) (net_signal (later_part n run) i (tick - 1)) b)
            (sym (step tick))
            ∙ h.lacks;
      };
    }

-- ---- any constraint

-- what is said of an instance and its choice in one run is so in another with the same choices
instance_moves : (c : Circuit) (m k : ℕ) (run : Run) (Here There : Instance → Choice → Type 0) →
    ((j : Instance) (choice : Choice) → slice_get c.instances k ≡ Some j → slice_get run.choices k ≡ Some choice →
    Here j choice ↔ There j choice) →
    IsAtInstance c run k Here ↔ IsAtInstance c (later_part m run) k There
instance_moves c m k run Here There moves = (
  λ at. record {
    instance = at.instance;
    choice = at.choice;
    instance_is = at.instance_is;
    choice_is = at.choice_is;
    is = (moves at.instance at.choice at.instance_is at.choice_is).0 at.is;
  },
  λ at. record {
    instance = at.instance;
    choice = at.choice;
    instance_is = at.instance_is;
    choice_is = at.choice_is;
    is = (moves at.instance at.choice at.instance_is at.choice_is).1 at.is;
  },
)

pub breaks_may_move : BreaksMayMove
breaks_may_move c run (OfInstance k) m from named known is far =
    let n : ℕ = m * period c.header in
    instance_moves c n k run
    (λ j choice. IsFormBreak (form_of j.kind) (closes_of j.kind) run j choice (n + from) (later_by n named))
    (λ j choice. IsFormBreak (form_of j.kind) (closes_of j.kind) (later_part n run) j choice from named)
    (λ j choice here chosen.
    form_moves n run j choice from
    (λ pin. let wire = short_wire c run k j choice pin is here chosen in omega (arith, wire, far))
    (form_of j.kind) (closes_of j.kind) named)
breaks_may_move c run (OfPulse k high) m from named known is far =
    let n : ℕ = m * period c.header in
    instance_moves c n k run
    (λ j choice. IsPulseBreak (checks_pulses j.kind) high run j choice (n + from) (later_by n named))
    (λ j choice. IsPulseBreak (checks_pulses j.kind) high (later_part n run) j choice from named)
    (λ j choice here chosen.
    pulse_moves n run j choice from
    (λ pin. let wire = short_wire c run k j choice pin is here chosen in omega (arith, wire, far))
    (checks_pulses j.kind) high named)
breaks_may_move c run (OfNet i) m from (Edge rise change) known is far = never
breaks_may_move c run (OfNet i) m from (High rise fall change) known is far = never
breaks_may_move c run (OfNet i) m from (Pulse start end) known is far = never
breaks_may_move c run (OfNet i) m from (Mark tick marked pin) known is far = never
breaks_may_move c run (OfNet i) m from (Step tick) known is far =
    (net_moved c run i m from tick (omega (arith, far)), net_back c run i m from tick (omega (arith, far)))
