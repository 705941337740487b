-- Without its delay, a gate's wave has the narrowest pulse of what the gate makes of its pins.
use Rattle.std.proofs.Common.{◌≡◌, ℕ, zero, suc, ◌+◌, ◌-◌, ◌<◌, ◌≤◌, min, Bool, true, false, not, ◌&&◌, ◌||◌, cond, refl, sym, ap, subst, ◌∙◌, arith, List, length, Option, None}
use Rattle.std.specs.Option.{option_map}
use Rattle.std.proofs.lemmas.Bool.{and_from}
use Rattle.scald_base.specs.Clock.{back}
use Rattle.scald_base.specs.Time.{Bounds, period}
use Rattle.scald_base.proofs.Back.{back_lt}
use Rattle.step_values.specs.declared.value.Value.{Value}
use Rattle.step_values.specs.declared.value.Value.TheVariants.{U}
use Rattle.step_values.specs.Steps.{has, is_quiet, join}
use Rattle.step_values.specs.Cell.{values}
use Rattle.step_values.specs.Each.{at_values, implied}
use Rattle.step_values.specs.Lawful.{values_lawful}
use Rattle.wave_core.specs.Slots.{earlier, join_to, later, slots}
use Rattle.wave_core.proofs.Slots.{earlier_slots}
use Rattle.skew_algebra.specs.Wave.{Wave, all_equal, cell_at, is_steady, joined, moved, normal}
use Rattle.skew_algebra.proofs.Cells.{all_at}
use Rattle.skew_algebra.proofs.Moves.{earlier_turned, length_later}
use Rattle.pin_waves.proofs.Pins.{length_moved}
use Rattle.element_kinds.specs.declared.kind.Kind.{Kind}
use Rattle.element_kinds.specs.declared.kind.Kind.TheVariants.{Buf, And, Or, Xor, Mux2, Mux4, Mux8, Chg, Reg, RegRs, Latch, LatchRs, SetupHold, RiseFall, MinPulse}
use Rattle.element_kinds.specs.Kinds.{may_split}
use Rattle.flat_circuit.specs.declared.instance.Instance.{Instance}
use Rattle.flat_circuit.specs.declared.instance.Pin.{Pin}
use Rattle.flat_circuit.specs.Circuit.{Circuit}
use Rattle.flat_circuit.specs.Instances.{InstanceFits}
use Rattle.gate_eval.specs.Instance.{MarkFits, gate_image, gate_wave, is_gate}
use Rattle.gate_eval.specs.Meeting.{period_of}
use Rattle.gate_eval.proofs.Chosen.{delayed_is, mark_fits}
use Rattle.gate_eval.proofs.Fitting.{AllFit}
use Rattle.fixpoint_engine.specs.Pins.{read}
use Rattle.fixpoint_engine.specs.Waves.{Waves, marked_pin, pin_waves}
use Rattle.fixpoint_engine.proofs.Fits.{AreLong}
use Rattle.fixpoint_engine.proofs.Made.{length_made}
use Rattle.fixpoint_engine.proofs.OnePeriod.{length_pins, period_of_pins, pins_fit_period}
use Rattle.pulse_check.specs.Pulse.{Slots, least_width, narrow_at}
use Rattle.slack_rows.specs.Pulse.{Pulse, narrowest}
use Rattle.slack_rows.proofs.Narrowed.{narrowest_none}

abbrev pub at_once : Bounds
at_once = record { min = 0; max = 0 }

-- ---- waves that never change

quiet_begins : (level : Bool) (v : Value) → is_quiet v ≡ true → has v (not level) level ≡ false
quiet_begins true v quiet = values_lawful.quiet_rise v quiet
quiet_begins false v quiet = values_lawful.quiet_fall v quiet

no_pulse : (p : ℕ) (level : Bool) (wave : Slots) → ((t : ℕ) → is_quiet (wave t) ≡ true) →
    narrowest p level wave ≡ None
no_pulse p level wave quiet =
    narrowest_none (narrow_at level wave p) p 0
    (λ k from below. ap (λ (b : Bool). cond b
    (option_map (λ width. let pair : Pulse = (k, width) in pair) (least_width level wave p k)) None)
    (quiet_begins level (wave k) (quiet k)))

quiet_joins : (v w : Value) → is_quiet v ≡ true → is_quiet w ≡ true → is_quiet (join v w) ≡ true
quiet_joins v w one other =
    implied (is_quiet v && is_quiet w) (is_quiet (join v w))
    (at_values (λ v w. not (is_quiet v && is_quiet w) || is_quiet (join v w)) refl v w)
    (and_from (is_quiet v) (is_quiet w) one other)

all_quiet : (f : ℕ → Value) (n : ℕ) → ((i : ℕ) → i ≤ n → is_quiet (f i) ≡ true) →
    is_quiet (join_to values f n) ≡ true
all_quiet f zero quiet = quiet 0 (omega arith)
all_quiet f (suc n) quiet =
    quiet_joins (join_to values f n) (f (suc n)) (all_quiet f n (λ i less. quiet i (omega (arith, less))))
    (quiet (suc n) (omega arith))

joined_quiet : (cells : List Value) → 0 < length cells → is_steady values cells ≡ true →
    is_quiet (joined values cells) ≡ true
joined_quiet cells some steady =
    all_quiet (cell_at values cells) (length cells - 1)
    (λ i less. all_at is_quiet cells i U steady (omega (arith, less, some)))

quiet_read : (cells : List Value) → 0 < length cells → is_steady values cells ≡ true → (t : ℕ) →
    is_quiet (read cells t) ≡ true
unfolding earlier
quiet_read cells some steady t =
    all_at is_quiet cells (back (length cells) t 0) U steady (back_lt (length cells) t 0 some)

-- ---- moved by nothing

module _ (w : Wave Value) (some : 0 < length w.cells) (p : ℕ) (level : Bool) where
  abbrev late : List Value
  late = later values w.cells 0

  same_read : (t : ℕ) → read late t ≡ read w.cells t
  same_read t = earlier_turned values w.cells 0 t 0 some

  late_some : 0 < length late
  late_some =
      let long : length late ≡ length w.cells = length_later values w.cells 0 in
      omega (arith, long, some)

  moved_narrowest : narrowest p level (read (moved values w at_once).cells) ≡ narrowest p level (read w.cells)
  unfolding moved normal
  moved_narrowest = by (is_steady values late) refl
    where
      by : (b : Bool) → is_steady values late ≡ b →
          narrowest p level (read (cond {A = Wave Value} b
          (record { cells = slots (length late) (λ p. joined values late); skew = 0 })
          (record {
            cells = late;
            skew = cond (all_equal values late) 0 (min (w.skew + (0 - 0)) (length late - 1));
          })).cells) ≡ narrowest p level (read w.cells)
      by true steady =
          no_pulse p level (read (slots (length late) (λ p. joined values late)))
          (λ t. ap is_quiet (earlier_slots values (length late) (λ p. joined values late) t 0 late_some)
          ∙ joined_quiet late late_some steady)
          ∙ sym (no_pulse p level (read w.cells)
          (λ t. ap is_quiet (sym (same_read t)) ∙ quiet_read late late_some steady t))
      by false moves = λ i. narrowest p level (λ t. same_read t i)

-- ---- what a gate makes

gate_long : (kind : Kind) (waves : List (Wave Value)) (marked : Option ℕ) (d : Bounds) → may_split kind ≡ true →
    AllFit values (period_of waves) waves → MarkFits kind marked (length waves) →
    length (gate_wave kind waves marked d).cells ≡ period_of waves
gate_long Buf waves marked d may fits mark = length_made Buf waves marked d None fits mark
gate_long And waves marked d may fits mark = length_made And waves marked d None fits mark
gate_long Or waves marked d may fits mark = length_made Or waves marked d None fits mark
gate_long Xor waves marked d may fits mark = length_made Xor waves marked d None fits mark
gate_long Mux2 waves marked d may fits mark = length_made Mux2 waves marked d None fits mark
gate_long Mux4 waves marked d may fits mark = length_made Mux4 waves marked d None fits mark
gate_long Mux8 waves marked d may fits mark = length_made Mux8 waves marked d None fits mark
gate_long Chg waves marked d may fits mark = absurd (cc)
gate_long Reg waves marked d may fits mark = absurd (cc)
gate_long RegRs waves marked d may fits mark = absurd (cc)
gate_long Latch waves marked d may fits mark = absurd (cc)
gate_long LatchRs waves marked d may fits mark = absurd (cc)
gate_long SetupHold waves marked d may fits mark = absurd (cc)
gate_long RiseFall waves marked d may fits mark = absurd (cc)
gate_long MinPulse waves marked d may fits mark = absurd (cc)

module _ (c : Circuit) (ws : Waves) (j : Instance) (some : 0 < period c.header) (long : AreLong c ws)
    (fits : InstanceFits c.header (length c.nets) j) (may : may_split j.kind ≡ true) (made : Wave Value)
    (is : made ≡ gate_wave j.kind (pin_waves c ws j) (marked_pin j) at_once) where
  pub made_long : length made.cells ≡ period c.header
  made_long =
      let mark : MarkFits j.kind (marked_pin j) (length (pin_waves c ws j)) =
      subst (MarkFits j.kind (marked_pin j)) (sym (length_pins c ws j))
      (mark_fits j.kind (λ (p : Pin). p.hold) j.pins fits.pins.marks) in
      ap (λ (w : Wave Value). length w.cells) is
      ∙ gate_long j.kind (pin_waves c ws j) (marked_pin j) at_once may (pins_fit_period c ws j some long fits) mark
      ∙ period_of_pins c ws j some long fits

  pub made_narrowest : (level : Bool) → narrowest (period c.header) level (read made.cells)
      ≡ narrowest (period c.header) level (read (gate_image j.kind (pin_waves c ws j) (marked_pin j)).cells)
  made_narrowest level =
      let image : Wave Value = gate_image j.kind (pin_waves c ws j) (marked_pin j) in
      let moves : made ≡ moved values image at_once =
      is ∙ sym (delayed_is j.kind (pin_waves c ws j) (marked_pin j) at_once may) in
      let all : length made.cells ≡ period c.header = made_long in
      let same : length made.cells ≡ length image.cells =
      ap (λ (w : Wave Value). length w.cells) moves ∙ length_moved image at_once in
      ap (λ (w : Wave Value). narrowest (period c.header) level (read w.cells)) moves
      ∙ moved_narrowest image (omega (arith, all, same, some)) (period c.header) level

-- the kinds that may have two delays are evaluated as gates
pub is_gate_of : (kind : Kind) → may_split kind ≡ true → is_gate kind ≡ true
is_gate_of Buf may = refl
is_gate_of And may = refl
is_gate_of Or may = refl
is_gate_of Xor may = refl
is_gate_of Mux2 may = refl
is_gate_of Mux4 may = refl
is_gate_of Mux8 may = refl
is_gate_of Chg may = absurd (cc)
is_gate_of Reg may = absurd (cc)
is_gate_of RegRs may = absurd (cc)
is_gate_of Latch may = absurd (cc)
is_gate_of LatchRs may = absurd (cc)
is_gate_of SetupHold may = absurd (cc)
is_gate_of RiseFall may = absurd (cc)
is_gate_of MinPulse may = absurd (cc)
