-- A break at ticks that are named is a break of the constraint.
use Rattle.std.proofs.Common.{ℕ, Bool, true, false, Option, Some, None}
use Rattle.element_kinds.specs.declared.form.Check.{Check}
use Rattle.element_kinds.specs.declared.form.Check.TheVariants.{SetupHold as AboutRise, RiseFall as RiseToFall, MinPulse as Widths}
use Rattle.element_kinds.specs.declared.form.Form.{Form}
use Rattle.element_kinds.specs.declared.form.Form.TheVariants.{Gate, Change, Register, Latch as Enabled, Checker}
use Rattle.element_kinds.specs.Kinds.{checks_pulses, closes_of, form_of}
use Rattle.flat_circuit.specs.declared.instance.Instance.{Instance}
use Rattle.flat_circuit.specs.Circuit.{Circuit}
use Rattle.flat_circuit.specs.Run.{Choice as Chosen, Run}
use Rattle.point_check.specs.Break.{BreaksCheck, BreaksClosed, BreaksForm, BreaksNet}
use Rattle.pulse_check.specs.Break.{BreaksMeasured}
use Rattle.narrowing.specs.declared.constraint.Constraint.{Constraint}
use Rattle.narrowing.specs.declared.constraint.Constraint.TheVariants.{Instance as OfInstance, Pulse as OfPulse, Net as OfNet}
use Rattle.narrowing.specs.Constraint.{BreaksOf}
use Rattle.narrowing.specs.declared.named.Named.{Named}
use Rattle.narrowing.specs.declared.named.Named.TheVariants.{Edge, High, Pulse, Mark, Step}
use Rattle.narrowing.specs.Break.{IsBreakAt, IsCheckBreak, IsClosedBreak, IsFormBreak, IsPulseBreak, IsStepBreak}

module _ (run : Run) (j : Instance) (choice : Chosen) (from : ℕ) where
  at_check : (check : Check) (named : Named) → IsCheckBreak check run j choice from named → BreaksCheck check run j choice from
  at_check AboutRise (Edge rise change) at = record { edge = rise; change = change; at = at }
  at_check AboutRise (High rise fall change) at = absurd at
  at_check AboutRise (Pulse start end) at = absurd at
  at_check AboutRise (Mark tick marked pin) at = absurd at
  at_check AboutRise (Step tick) at = absurd at
  at_check RiseToFall (Edge rise change) at = absurd at
  at_check RiseToFall (High rise fall change) at = record { edge = rise; fall = fall; change = change; at = at }
  at_check RiseToFall (Pulse start end) at = absurd at
  at_check RiseToFall (Mark tick marked pin) at = absurd at
  at_check RiseToFall (Step tick) at = absurd at
  at_check Widths (Edge rise change) at = absurd at
  at_check Widths (High rise fall change) at = absurd at
  at_check Widths (Pulse start end) at = absurd at
  at_check Widths (Mark tick marked pin) at = absurd at
  at_check Widths (Step tick) at = absurd at

  at_closed : (closes : Option Bool) (named : Named) → IsClosedBreak closes run j choice from named →
      BreaksClosed closes run j choice from
  at_closed None (Edge rise change) at = absurd at
  at_closed None (High rise fall change) at = absurd at
  at_closed None (Pulse start end) at = absurd at
  at_closed None (Mark tick marked pin) at = absurd at
  at_closed None (Step tick) at = absurd at
  at_closed (Some closed) (Edge rise change) at = absurd at
  at_closed (Some closed) (High rise fall change) at = absurd at
  at_closed (Some closed) (Pulse start end) at = absurd at
  at_closed (Some closed) (Mark tick marked pin) at = record { marked = marked; pin = pin; tick = tick; at = at }
  at_closed (Some closed) (Step tick) at = absurd at

  at_form : (form : Form) (closes : Option Bool) (named : Named) → IsFormBreak form closes run j choice from named →
      BreaksForm form closes run j choice from
  at_form Gate closes named at = at_closed closes named at
  at_form Change closes named at = absurd at
  at_form (Register forced) closes named at = absurd at
  at_form (Enabled forced) closes named at = absurd at
  at_form (Checker check) closes named at = at_check check named at

  at_pulse : (measures high : Bool) (named : Named) → IsPulseBreak measures high run j choice from named →
      BreaksMeasured measures run j choice high from
  at_pulse false high named at = absurd at
  at_pulse true high (Edge rise change) at = absurd at
  at_pulse true high (High rise fall change) at = absurd at
  at_pulse true high (Pulse start end) at = record { start = start; end = end; at = at }
  at_pulse true high (Mark tick marked pin) at = absurd at
  at_pulse true high (Step tick) at = absurd at

at_net : (c : Circuit) (run : Run) (i from : ℕ) (named : Named) → IsStepBreak c run i from named → BreaksNet c run i from
at_net c run i from (Edge rise change) at = absurd at
at_net c run i from (High rise fall change) at = absurd at
at_net c run i from (Pulse start end) at = absurd at
at_net c run i from (Mark tick marked pin) at = absurd at
at_net c run i from (Step tick) at = record { net = at.net; driver = at.driver; tick = tick; at = at.is }

pub breaks_at : (c : Circuit) (run : Run) (x : Constraint) (from : ℕ) (named : Named) → IsBreakAt c run x from named →
    BreaksOf c run x from
breaks_at c run (OfInstance k) from named at = record {
  instance = at.instance;
  choice = at.choice;
  instance_is = at.instance_is;
  choice_is = at.choice_is;
  breaks = at_form run at.instance at.choice from (form_of at.instance.kind) (closes_of at.instance.kind) named at.is;
}
breaks_at c run (OfPulse k high) from named at = record {
  instance = at.instance;
  choice = at.choice;
  instance_is = at.instance_is;
  choice_is = at.choice_is;
  breaks = at_pulse run at.instance at.choice from (checks_pulses at.instance.kind) high named at.is;
}
breaks_at c run (OfNet i) from named at = at_net c run i from named at

-- ---- and each break of the constraint names some ticks

module _ (run : Run) (j : Instance) (choice : Chosen) (from : ℕ) where
  named_check : (check : Check) → BreaksCheck check run j choice from →
      (named : Named) × IsCheckBreak check run j choice from named
  named_check AboutRise h = (Edge h.edge h.change, h.at)
  named_check RiseToFall h = (High h.edge h.fall h.change, h.at)
  named_check Widths h = absurd h

  named_closed : (closes : Option Bool) → BreaksClosed closes run j choice from →
      (named : Named) × IsClosedBreak closes run j choice from named
  named_closed None h = absurd h
  named_closed (Some closed) h = (Mark h.tick h.marked h.pin, h.at)

  named_form : (form : Form) (closes : Option Bool) → BreaksForm form closes run j choice from →
      (named : Named) × IsFormBreak form closes run j choice from named
  named_form Gate closes h = named_closed closes h
  named_form Change closes h = absurd h
  named_form (Register forced) closes h = absurd h
  named_form (Enabled forced) closes h = absurd h
  named_form (Checker check) closes h = named_check check h

  named_pulse : (measures high : Bool) → BreaksMeasured measures run j choice high from →
      (named : Named) × IsPulseBreak measures high run j choice from named
  named_pulse false high h = absurd h
  named_pulse true high h = (Pulse h.start h.end, h.at)

pub named_at : (c : Circuit) (run : Run) (x : Constraint) (from : ℕ) → BreaksOf c run x from →
    (named : Named) × IsBreakAt c run x from named
named_at c run (OfInstance k) from h =
    let found = named_form run h.instance h.choice from (form_of h.instance.kind) (closes_of h.instance.kind) h.breaks in (
      found.0,
      record {
        instance = h.instance;
        choice = h.choice;
        instance_is = h.instance_is;
        choice_is = h.choice_is;
        is = found.1;
      },
    )
named_at c run (OfPulse k high) from h =
    let found = named_pulse run h.instance h.choice from (checks_pulses h.instance.kind) high h.breaks in (
      found.0,
      record {
        instance = h.instance;
        choice = h.choice;
        instance_is = h.instance_is;
        choice_is = h.choice_is;
        is = found.1;
      },
    )
named_at c run (OfNet i) from h = (Step h.tick, record { net = h.net; driver = h.driver; is = h.at })
