-- A checker of widths in a circuit has a fault exactly where the slack of its pulses is broken.
use Rattle.std.proofs.Common.{◌≡◌, ◌↔◌, ℕ, ◌≤◌, Bool, true, false, cond, refl, sym, ap, subst, ◌∙◌, arith, List, [], ◌∷◌, length, Option, Some, None}
use Rattle.std.specs.Prelude.{ℤ, pos, int_le, is_some, slice_get}
use Rattle.std.specs.Option.{option_map}
use Rattle.scald_base.specs.Signal.{turned}
use Rattle.scald_base.specs.Time.{Header, period}
use Rattle.vector_names.specs.declared.bits.Target.{Target}
use Rattle.vector_names.specs.declared.bits.Target.TheVariants.{Net as OnNet, Constant}
use Rattle.element_kinds.specs.declared.kind.Kind.{Kind}
use Rattle.element_kinds.specs.declared.kind.Kind.TheVariants.{Buf, And, Or, Xor, Mux2, Mux4, Mux8, Chg, Reg, RegRs, Latch, LatchRs, SetupHold, RiseFall, MinPulse}
use Rattle.element_kinds.specs.Kinds.{check_of, checks_pulses, may_be_marked}
use Rattle.flat_circuit.specs.declared.instance.Instance.{Instance}
use Rattle.flat_circuit.specs.declared.instance.Pin.{Pin}
use Rattle.flat_circuit.specs.declared.split.Split.{Split}
use Rattle.flat_circuit.specs.Circuit.{Circuit, driver}
use Rattle.flat_circuit.specs.declared.limits.Limits.{Limits}
use Rattle.flat_circuit.specs.declared.limits.Limits.TheVariants.{None as Unlimited, Edges, Pulses as Widths}
use Rattle.flat_circuit.specs.Limits.{high_of, low_of}
use Rattle.flat_circuit.specs.Kind.{LimitsFit, PulsesFit, pin_counts}
use Rattle.flat_circuit.specs.Split.{two_delays}
use Rattle.gate_eval.specs.Instance.{gate_image, wave_of_pin}
use Rattle.fixpoint_engine.specs.Pins.{read}
use Rattle.fixpoint_engine.specs.Waves.{Waves, marked_pin, pin_waves}
use Rattle.pulse_check.specs.Faults.{fault_at, limited_fault, width_fault}
use Rattle.pulse_check.specs.Pulse.{first_narrow}
use Rattle.slack_rows.specs.declared.parameter.Word.{Word as Limit}
use Rattle.slack_rows.specs.Pulse.{Pulse, changes_again, left_at, left_by, left_if, left_in, left_of, left_on, left_once, narrowest}
use Rattle.slack_rows.specs.Slack.{Finding, is_broken}
use Rattle.slack_rows.specs.Limit.{finding_check, finding_in, finding_instance, finding_level, finding_mark}
use Rattle.slack_rows.specs.Laws.{AreWaves, IsBroken, WidthsBreakWithFaults, limit_of_level, width_of_level}
use Rattle.slack_rows.proofs.Checkers.{instance_fits}
use Rattle.slack_rows.proofs.Widths.{IsSwallowed, width_breaks}

-- ---- what two delays leave

if_swallowed : (s : Split) (level : Bool) (o : Option Pulse) → IsSwallowed (left_if s level o)
if_swallowed s level None n is = absurd (cc)
if_swallowed s level (Some pulse) n is = by (int_le (left_of s level pulse.1) (pos 0)) refl is
  where
    by : (b : Bool) → int_le (left_of s level pulse.1) (pos 0) ≡ b → cond b (Some (left_of s level pulse.1)) None ≡ Some n → int_le n (pos 0) ≡ true
    by true most is = let same : left_of s level pulse.1 ≡ n = cc in ap (λ m. int_le m (pos 0)) (sym same) ∙ most
    by false more is = absurd (cc)

by_swallowed : (c : Circuit) (ws : Waves) (j : Instance) (level : Bool) (o : Option Split) → IsSwallowed (left_by c ws j level o)
by_swallowed c ws j level None n is = absurd (cc)
by_swallowed c ws j level (Some s) n is =
    if_swallowed s level (narrowest (period c.header) level (read (gate_image j.kind (pin_waves c ws j) (marked_pin j)).cells)) n is

in_swallowed : (c : Circuit) (ws : Waves) (level : Bool) (o : Option Instance) → IsSwallowed (left_in c ws level o)
in_swallowed c ws level None n is = absurd (cc)
in_swallowed c ws level (Some j) n is = by_swallowed c ws j (turned j.out_inverted level) (two_delays j.kind j.split) n is

on_swallowed : (c : Circuit) (ws : Waves) (level : Bool) (target : Target) → IsSwallowed (left_on c ws level target)
on_swallowed c ws level (OnNet i) n is = in_swallowed c ws level (driver c i) n is
on_swallowed c ws level (Constant b) n is = absurd (cc)

swallowed : (c : Circuit) (ws : Waves) (level : Bool) (pin : Pin) → IsSwallowed (left_at c ws level pin)
swallowed c ws level pin = on_swallowed c ws (turned pin.inverted level) pin.target

once_swallowed : (again : Bool) (left : Option ℤ) → IsSwallowed left → IsSwallowed (left_once again left)
once_swallowed true left swallowed n is = absurd (cc)
once_swallowed false left swallowed n is = swallowed n is

-- ---- of a circuit

unmap : {A B : Type 0} (f : A → B) (o : Option A) → is_some (option_map f o) ≡ is_some o
unmap f None = refl
unmap f (Some x) = refl

first_there : (ps : List Pin) → 1 ≤ length ps → slice_get ps 0 ≡ None → ⊥
first_there [] some none = absurd (omega (arith, some))
first_there (pin ∷ ps) some none = absurd (cc)

abbrev width_finding : Circuit → Waves → Instance → Bool → Finding
width_finding c ws j level = finding_level c ws j level (width_of_level j level) (slice_get j.pins 0)

width_iff : (c : Circuit) (ws : Waves) (k : ℕ) (j : Instance) (level : Bool) → 1 ≤ length j.pins → width_of_level j level ≤ period c.header →
    (is_some (limited_fault c ws k j level (width_of_level j level)) ≡ true) ↔ IsBroken (width_finding c ws j level)
unfolding width_fault
width_iff c ws k j level some short = by (slice_get j.pins 0) refl
  where
    by : (o : Option Pin) → slice_get j.pins 0 ≡ o →
        (is_some (option_map (fault_at k level) (first_narrow (period c.header) level (read (wave_of_pin (pin_waves c ws j) 0).cells) (width_of_level j level))) ≡ true)
        ↔ IsBroken (finding_level c ws j level (width_of_level j level) o)
    by None none = absurd (first_there j.pins some none)
    by (Some pin) there =
        let wave = read (wave_of_pin (pin_waves c ws j) 0).cells in
        let both = width_breaks (period c.header) level (read (wave_of_pin (pin_waves c ws j) 0).cells) (width_of_level j level)
        (left_once (changes_again wave (narrowest (period c.header) level wave)) (left_at c ws level pin))
        (once_swallowed (changes_again wave (narrowest (period c.header) level wave)) (left_at c ws level pin) (swallowed c ws level pin)) short in
        let fault_is = unmap (fault_at k level) (first_narrow (period c.header) level (read (wave_of_pin (pin_waves c ws j) 0).cells) (width_of_level j level)) in
        (λ found. both.0 (sym fault_is ∙ found), λ broken. fault_is ∙ both.1 broken)

-- what is told by the kind
abbrev finding_by_kind : Kind → Circuit → Waves → Instance → Limit → Finding
finding_by_kind kind c ws j limit =
    cond (may_be_marked kind) (finding_mark c ws j limit (marked_pin j)) (finding_check c ws j limit (check_of kind))

finding_is : (c : Circuit) (ws : Waves) (j : Instance) (level : Bool) → finding_by_kind MinPulse c ws j (limit_of_level level) ≡ width_finding c ws j level
finding_is c ws j true = refl
finding_is c ws j false = refl

pulses_short : (h : Header) (limits : Limits) → PulsesFit h limits → (high_of limits ≤ period h) × (low_of limits ≤ period h)
pulses_short h Unlimited none = absurd none
pulses_short h (Edges setup hold) none = absurd none
pulses_short h (Widths high low) fits = fits

short_by : (h : Header) (j : Instance) (level : Bool) → PulsesFit h j.limits → width_of_level j level ≤ period h
short_by h j true fits = (pulses_short h j.limits fits).0
short_by h j false fits = (pulses_short h j.limits fits).1

pulses_by : (c : Circuit) (ws : Waves) (k : ℕ) (j : Instance) (level : Bool) → AreWaves c ws → slice_get c.instances k ≡ Some j →
    (kind : Kind) → j.kind ≡ kind → checks_pulses kind ≡ true →
    (is_some (limited_fault c ws k j level (width_of_level j level)) ≡ true) ↔ IsBroken (finding_by_kind kind c ws j (limit_of_level level))
pulses_by c ws k j level are at Buf is pulses = absurd (cc)
pulses_by c ws k j level are at And is pulses = absurd (cc)
pulses_by c ws k j level are at Or is pulses = absurd (cc)
pulses_by c ws k j level are at Xor is pulses = absurd (cc)
pulses_by c ws k j level are at Mux2 is pulses = absurd (cc)
pulses_by c ws k j level are at Mux4 is pulses = absurd (cc)
pulses_by c ws k j level are at Mux8 is pulses = absurd (cc)
pulses_by c ws k j level are at Chg is pulses = absurd (cc)
pulses_by c ws k j level are at Reg is pulses = absurd (cc)
pulses_by c ws k j level are at RegRs is pulses = absurd (cc)
pulses_by c ws k j level are at Latch is pulses = absurd (cc)
pulses_by c ws k j level are at LatchRs is pulses = absurd (cc)
pulses_by c ws k j level are at SetupHold is pulses = absurd (cc)
pulses_by c ws k j level are at RiseFall is pulses = absurd (cc)
pulses_by c ws k j level are at MinPulse is pulses =
    let fits = instance_fits c ws k j are at in
    let some : 1 ≤ length j.pins = subst (λ kind. (pin_counts kind).0 ≤ length j.pins) is fits.pins.least in
    let limits : LimitsFit c.header MinPulse j.limits = subst (λ kind. LimitsFit c.header kind j.limits) is fits.lim in
    let both = width_iff c ws k j level some (short_by c.header j level limits) in
    let same : is_broken (finding_by_kind MinPulse c ws j (limit_of_level level)).slack ≡ is_broken (width_finding c ws j level).slack =
    ap (λ (finding : Finding). is_broken finding.slack) (finding_is c ws j level) in
    (λ found. same ∙ both.0 found, λ broken. both.1 (sym same ∙ broken))

pub widths_break_with_faults : WidthsBreakWithFaults
unfolding finding_in
widths_break_with_faults c ws k j level are at pulses =
    let both = pulses_by c ws k j level are at j.kind refl pulses in
    let same : is_broken (finding_instance c ws (limit_of_level level) (slice_get c.instances k)).slack ≡ is_broken (finding_by_kind j.kind c ws j (limit_of_level level)).slack =
    ap (λ o. is_broken (finding_instance c ws (limit_of_level level) o).slack) at in
    (λ found. same ∙ both.0 found, λ broken. both.1 (sym same ∙ broken))
