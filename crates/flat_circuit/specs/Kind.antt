-- The pins and limits that an instance of each kind may have.
use Rattle.std.specs.Prelude.{◌≡◌, ℕ, ◌+◌, ◌*◌, ◌≤◌, List, length, count_by, Option, Some, None, if◌then◌else◌}
use Rattle.scald_base.specs.Time.{Header, period}
use Rattle.vector_names.specs.Bits.{widest}
use Rattle.element_kinds.specs.declared.kind.Kind.{Kind}
use Rattle.element_kinds.specs.declared.form.Check.{Check}
use Rattle.element_kinds.specs.declared.form.Check.TheVariants.{SetupHold as AboutRise, RiseFall as RiseToFall, MinPulse as Widths}
use Rattle.element_kinds.specs.Kinds.{inputs_of, is_change, check_of, greatest_marks}
use Rattle.flat_circuit.specs.declared.instance.Pin.{Pin}
use Rattle.flat_circuit.specs.declared.limits.Limits.{Limits}
use Rattle.flat_circuit.specs.declared.limits.Limits.TheVariants.{None as Unlimited, Edges, Pulses}

-- The least and the greatest number of pins: as many as connections, but for a change function,
-- which has one for each bit of each.
abbrev pub pin_counts : Kind → ℕ × ℕ
pin_counts kind =
    ((inputs_of kind).0, if is_change kind then (inputs_of kind).1 * widest else (inputs_of kind).1)

-- pins that a kind may have
pub record PinsFit (k : Kind) (ps : List Pin) : Type 0 where
  pub least : (pin_counts k).0 ≤ length ps
  pub most : length ps ≤ (pin_counts k).1
  pub marks : count_by (λ (p : Pin). p.hold) ps ≤ greatest_marks k

-- Setup and hold are together at most a period, and so is each width of a pulse.
abbrev pub EdgesFit : Header → Limits → Type 0
EdgesFit h Unlimited = ⊥
EdgesFit h (Edges setup hold) = setup + hold ≤ period h
EdgesFit h (Pulses high low) = ⊥

abbrev pub PulsesFit : Header → Limits → Type 0
PulsesFit h Unlimited = ⊥
PulsesFit h (Edges setup hold) = ⊥
PulsesFit h (Pulses high low) = (high ≤ period h) × (low ≤ period h)

-- A checker has limits of what it checks, and what checks nothing has none.
abbrev pub LimitsFitCheck : Header → Option Check → Limits → Type 0
LimitsFitCheck h None limits = limits ≡ Unlimited
LimitsFitCheck h (Some AboutRise) limits = EdgesFit h limits
LimitsFitCheck h (Some RiseToFall) limits = EdgesFit h limits
LimitsFitCheck h (Some Widths) limits = PulsesFit h limits

abbrev pub LimitsFit : Header → Kind → Limits → Type 0
LimitsFit h kind limits = LimitsFitCheck h (check_of kind) limits
