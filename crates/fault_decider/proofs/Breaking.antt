-- Ticks at which bits break a constraint are those of a break of the run.
use Rattle.std.proofs.Common.{◌≡◌, ℕ, ◌+◌, ◌-◌, ◌≤◌, ◌<◌, Bool, true, false, List, length, refl, ◌∙◌, arith, slice_get, Option, Some, sym, subst}
use Rattle.element_kinds.specs.declared.form.Check.TheVariants.{SetupHold as AboutRise, RiseFall as RiseToFall}
use Rattle.element_kinds.specs.declared.form.Form.{Form}
use Rattle.element_kinds.specs.declared.form.Form.TheVariants.{Gate, Checker}
use Rattle.flat_circuit.specs.Limits.{hold_of, setup_of}
use Rattle.step_values.specs.Steps.{has}
use Rattle.flat_circuit.specs.declared.instance.Instance.{Instance}
use Rattle.flat_circuit.specs.declared.net.Net.{Net}
use Rattle.flat_circuit.specs.Circuit.{Circuit}
use Rattle.flat_circuit.specs.Run.{Choice as Chosen, Run}
use Rattle.fixpoint_engine.specs.Pins.{StepsFrom, pin_at}
use Rattle.point_check.specs.Break.{Asserts, wide_at, Changes, HasMark, IsMarkBreak, IsRiseFallBreak, IsSetupHoldBreak, Leaves, Rises}
use Rattle.pulse_check.specs.Break.{IsPulse, IsWidthBreak, limit_of}
use Rattle.trace_sim.specs.Choice.{Bits, chosen}
use Rattle.trace_sim.specs.Making.{seen}
use Rattle.trace_sim.specs.Simulated.{bit_of, run_of}
use Rattle.run_search.specs.Pins.{Counts, shown}
use Rattle.narrowing.specs.declared.named.Named.{Named}
use Rattle.narrowing.specs.declared.named.Named.TheVariants.{Edge, High, Mark, Pulse}
use Rattle.narrowing.specs.Break.{IsAtNet, IsFormBreak, IsPulseBreak}
use Rattle.trace_tool.proofs.Agreeing.{changes_on, leaves_on, pins_agree, pulse_on, rises_on}

module _ (ticks : ℕ) (choices : List Chosen) (bits : Bits) (j : Instance) (pick : ℕ × ℕ) (wires : List ℕ) where
  abbrev run : Run
  run = run_of ticks choices bits

  abbrev choice : Chosen
  choice = chosen pick wires

  same : (pin n t : ℕ) → t < n → shown bits j wires pin t ≡ pin_at run j choice pin t
  same pin n t less = pins_agree (seen bits) run n (λ i u below. refl) j.pins wires pin t less

  steps : (pin from t : ℕ) → Counts wires pin from ticks t → StepsFrom run choice pin from t
  steps pin from t counts = record { after = counts.after; begins = counts.begins; ends = counts.ends }

  pub edge_break : (from rise change : ℕ) → Counts wires 0 from ticks rise → Counts wires 1 from ticks change →
      Rises (shown bits j wires 0) rise → Changes (shown bits j wires 1) change →
      rise + 1 ≤ change + setup_of j.limits → change ≤ rise + hold_of j.limits →
      IsSetupHoldBreak run j choice from rise change
  edge_break from rise change edge_in change_in rises changes before after = record {
    edge_in = steps 0 from rise edge_in;
    change_in = steps 1 from change change_in;
    rises = rises_on (shown bits j wires 0) (pin_at run j choice 0) (rise + 1) (same 0 (rise + 1)) rise (omega arith) rises;
    changes = changes_on (shown bits j wires 1) (pin_at run j choice 1) (change + 1) (same 1 (change + 1)) change (omega arith)
        changes;
    not_before = before;
    not_after = after;
  }

  pulse_there : (level : Bool) (start end : ℕ) → IsPulse (shown bits j wires 0) level start end →
      IsPulse (pin_at run j choice 0) level start end
  pulse_there level start end pulse =
      pulse_on (shown bits j wires 0) (pin_at run j choice 0) (end + 1) (same 0 (end + 1)) level start end (omega arith) pulse

  pub high_break : (from rise fall change : ℕ) → Counts wires 0 from ticks rise → Counts wires 0 from ticks fall →
      Counts wires 1 from ticks change → IsPulse (shown bits j wires 0) true rise fall →
      Changes (shown bits j wires 1) change → rise + 1 ≤ change + setup_of j.limits → change ≤ fall + hold_of j.limits →
      IsRiseFallBreak run j choice from rise fall change
  high_break from rise fall change edge_in fall_in change_in pulse changes before after =
      let there = pulse_there true rise fall pulse in
      let ordered = there.ordered in
      record {
        edge_in = steps 0 from rise edge_in;
        fall_in = steps 0 from fall fall_in;
        change_in = steps 1 from change change_in;
        is_high = record {
          rises = (there.before, there.during rise (omega arith) ordered);
          ordered = ordered;
          high = there.during;
          falls = there.behind;
        };
        changes = changes_on (shown bits j wires 1) (pin_at run j choice 1) (change + 1) (same 1 (change + 1)) change
            (omega arith) changes;
        not_before = before;
        not_after = after;
      }

  pub width_break : (from : ℕ) (level : Bool) (start end : ℕ) → Counts wires 0 from ticks start →
      Counts wires 0 from ticks end → IsPulse (shown bits j wires 0) level start end →
      end < start + limit_of j level → IsWidthBreak run j choice level from start end
  width_break from level start end start_in end_in pulse narrow = record {
    start_in = steps 0 from start start_in;
    end_in = steps 0 from end end_in;
    is_pulse = pulse_there level start end pulse;
    narrow = narrow;
  }

  pub mark_break : (closed : Bool) (from marked pin tick : ℕ) → HasMark j marked → pin < length j.pins →
      (pin ≡ marked → ⊥) → Counts wires marked from ticks tick → Counts wires pin from ticks tick →
      Leaves (shown bits j wires marked) closed tick → Changes (shown bits j wires pin) tick →
      IsMarkBreak run j choice closed from marked pin tick
  mark_break closed from marked pin tick has below apart marked_in pin_in leaves changes = record {
    is_marked = has;
    below = below;
    apart = apart;
    marked_in = steps marked from tick marked_in;
    pin_in = steps pin from tick pin_in;
    leaves = leaves_on (shown bits j wires marked) (pin_at run j choice marked) (tick + 1) (same marked (tick + 1)) closed tick
        (omega arith) leaves;
    changes = changes_on (shown bits j wires pin) (pin_at run j choice pin) (tick + 1) (same pin (tick + 1)) tick (omega arith)
        changes;
  }

-- a step of a driven net that its assertion has not
pub step_break : (c : Circuit) (ticks : ℕ) (choices : List Chosen) (bits : Bits) (net driver from tick : ℕ) (found : Net) →
    slice_get c.nets net ≡ Some found → found.driver ≡ Some driver → Asserts found.spec → from ≤ tick → 1 ≤ tick →
    tick < ticks → has (wide_at c.header found.spec tick) (bit_of bits net (tick - 1)) (bit_of bits net tick) ≡ false →
    IsAtNet c (run_of ticks choices bits) net from tick
step_break c ticks choices bits net driver from tick found there driven asserts after begins ends lacks = record {
  net = found;
  driver = driver;
  is = record {
    net_is = there;
    is_driven = driven;
    asserts = asserts;
    after = after;
    begins = begins;
    ends = ends;
    lacks = lacks;
  };
}

-- ---- by the form of a kind, and by what is named

module _ (run : Run) (j : Instance) (choice : Chosen) (from : ℕ) (named : Named) where
  pub form_edge : (f : Form) (closes : Option Bool) (rise change : ℕ) → f ≡ Checker AboutRise →
      named ≡ Edge rise change → IsSetupHoldBreak run j choice from rise change →
      IsFormBreak f closes run j choice from named
  form_edge f closes rise change form_is named_is at =
      subst (λ (g : Form). IsFormBreak g closes run j choice from named) (sym form_is)
      (subst (λ (n : Named). IsFormBreak (Checker AboutRise) closes run j choice from n) (sym named_is) at)

  pub form_high : (f : Form) (closes : Option Bool) (rise fall change : ℕ) →
      f ≡ Checker RiseToFall → named ≡ High rise fall change →
      IsRiseFallBreak run j choice from rise fall change → IsFormBreak f closes run j choice from named
  form_high f closes rise fall change form_is named_is at =
      subst (λ (g : Form). IsFormBreak g closes run j choice from named) (sym form_is)
      (subst (λ (n : Named). IsFormBreak (Checker RiseToFall) closes run j choice from n) (sym named_is) at)

  pub form_mark : (f : Form) (closes : Option Bool) (closed : Bool) (tick marked pin : ℕ) →
      f ≡ Gate → closes ≡ Some closed → named ≡ Mark tick marked pin →
      IsMarkBreak run j choice closed from marked pin tick → IsFormBreak f closes run j choice from named
  form_mark f closes closed tick marked pin form_is closes_is named_is at =
      subst (λ (g : Form). IsFormBreak g closes run j choice from named) (sym form_is)
      (subst (λ (o : Option Bool). IsFormBreak Gate o run j choice from named) (sym closes_is)
      (subst (λ (n : Named). IsFormBreak Gate (Some closed) run j choice from n) (sym named_is) at))

  pub form_pulse : (measures level : Bool) (start end : ℕ) → measures ≡ true →
      named ≡ Pulse start end → IsWidthBreak run j choice level from start end →
      IsPulseBreak measures level run j choice from named
  form_pulse measures level start end measures_is named_is at =
      subst (λ (m : Bool). IsPulseBreak m level run j choice from named) (sym measures_is)
      (subst (λ (n : Named). IsPulseBreak true level run j choice from n) (sym named_is) at)
