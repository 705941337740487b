-- What the wave at a pin permits has no pulse that is narrower than the wave's own.
use Rattle.std.proofs.Common.{◌≡◌, ℕ, ◌+◌, ◌-◌, ◌<◌, ◌≤◌, max, Bool, true, false, not, cond, List, length, refl, sym, ap, ◌∙◌, arith, Option, Some, None}
use Rattle.std.specs.Prelude.{slice_index_or}
use Rattle.std.specs.List.{list_any}
use Rattle.std.specs.Option.{option_map}
use Rattle.std.proofs.lemmas.Option.{slice_get_within}
use Rattle.scald_base.specs.Time.{period}
use Rattle.scald_base.specs.Signal.{Signal}
use Rattle.scald_base.specs.Clock.{back}
use Rattle.scald_base.proofs.Back.{back_lt, back_sooner}
use Rattle.step_values.specs.declared.value.Value.{Value}
use Rattle.step_values.specs.declared.value.Value.TheVariants.{U}
use Rattle.step_values.specs.Steps.{has}
use Rattle.step_values.specs.Cell.{values}
use Rattle.wave_core.specs.Slots.{earlier}
use Rattle.skew_algebra.specs.Wave.{Wave}
use Rattle.skew_algebra.specs.Permits.{Permits}
use Rattle.element_kinds.specs.declared.kind.Kind.{Kind}
use Rattle.element_kinds.specs.declared.kind.Kind.TheVariants.{MinPulse}
use Rattle.flat_circuit.specs.declared.instance.Instance.{Instance}
use Rattle.flat_circuit.specs.declared.fault.Fault.{Fault}
use Rattle.flat_circuit.specs.Kind.{PinsFit, pin_counts}
use Rattle.flat_circuit.specs.Instances.{InstanceFits}
use Rattle.flat_circuit.specs.Circuit.{Circuit, IsCircuit}
use Rattle.flat_circuit.specs.Run.{Run, Choice}
use Rattle.gate_eval.specs.Instance.{wave_of_pin}
use Rattle.gate_eval.proofs.Held.{first_some_none, map_none}
use Rattle.fixpoint_engine.specs.Waves.{Waves, pin_waves}
use Rattle.fixpoint_engine.specs.Pins.{wire_to, pin_at, PinsPermit, PinsPermitAt, read}
use Rattle.flat_circuit.proofs.Numbered.{fits_of}
use Rattle.fixpoint_engine.proofs.Fits.{AreLong, long_pin_at}
use Rattle.pulse_check.specs.Pulse.{may_begin, may_end, may_last, least_width, narrow_at, first_narrow}
use Rattle.pulse_check.specs.Faults.{faults_by_kind, instance_faults, width_faults}
use Rattle.pulse_check.specs.Break.{IsPulse, limit_of, BreaksWidth, BreaksKind, BreaksPulse}
use Rattle.pulse_check.specs.Sound.{is_of_pulse, KeepsWidths}
use Rattle.pulse_check.proofs.Narrow.{width_at, is_wide}
use Rattle.pulse_check.proofs.Listed.{none_limited, none_of_checker, none_of_instance, by_kind}

-- the slot j on from where a tick lies is where the tick j on lies, with the same offset
read_later : (cells : List Value) (t o j : ℕ) → read cells (back (length cells) t o + j) ≡ earlier values cells (t + j) o
unfolding earlier
read_later cells t o j =
    let none : o + 0 ≡ o = omega arith in
    ap (λ (s : ℕ). slice_index_or cells s U) (back_sooner_zero ∙ ap (back (length cells) (t + j)) none)
  where
    back_sooner_zero : back (length cells) (back (length cells) t o + j) 0 ≡ back (length cells) (t + j) (o + 0)
    back_sooner_zero = back_sooner (length cells) t o j 0

some_none : (x : ℕ) (o : Option ℕ) → o ≡ Some x → o ≡ None → ⊥
some_none x o some none = cc

module _ (level : Bool) (wave : Wave Value) (n v start end limit : ℕ) (x : Signal) (pos : 0 < length wave.cells) (permits : Permits values wave n x v) (pulse : IsPulse x level start end)
    (one : 1 ≤ start) (late : v ≤ start) (within : end < n) (narrow : end < start + limit) where
  abbrev slot : ℕ
  slot = back (length wave.cells) start permits.offset

  -- a step of the pulse is in the value of its slot
  step : (t j : ℕ) (before after : Bool) → t ≡ start + j → t < n → x (t - 1) ≡ before → x t ≡ after → has (read wave.cells (slot + j)) before after ≡ true
  step t j before after at below was is =
      let same : read wave.cells (slot + j) ≡ earlier values wave.cells t permits.offset =
      read_later wave.cells start permits.offset j ∙ ap (λ (s : ℕ). earlier values wave.cells s permits.offset) (sym at) in
      (λ i. has (same i) (sym was i) (sym is i)) ∙ permits.steps t (omega (arith, at)) (omega (arith, at)) below

  ordered : start < end
  ordered = pulse.ordered

  begins : may_begin level (read wave.cells slot) ≡ true
  begins =
      let here : slot ≡ slot + 0 = omega arith in
      let at : start ≡ start + 0 = omega arith in
      ap (λ (s : ℕ). has (read wave.cells s) (not level) level) here
      ∙ step start 0 (not level) level at (omega (arith, ordered)) pulse.before (pulse.during start (omega arith) ordered)

  goes_on : (k : ℕ) → 1 ≤ k → k < end - start → may_last level (read wave.cells (slot + k)) ≡ true
  goes_on k some less =
      step (start + k) k level level refl (omega (arith, ordered))
      (pulse.during (start + k - 1) (omega arith) (omega (arith, ordered))) (pulse.during (start + k) (omega arith) (omega (arith, ordered)))

  ends : may_end level (read wave.cells (slot + (end - start))) ≡ true
  ends = step end (end - start) level (not level) (omega (arith, ordered)) within (pulse.during (end - 1) (omega (arith, ordered)) (omega (arith, ordered))) pulse.behind

  is_width : width_at level (read wave.cells) limit slot (end - start) ≡ Some (end - start)
  is_width = ap (λ b. cond b (Some (end - start)) None) (is_wide level (read wave.cells) limit slot (end - start) (omega (arith, ordered)) goes_on ends)

  no_width : narrow_at level (read wave.cells) limit slot ≡ None → least_width level (read wave.cells) limit slot ≡ None
  no_width none =
      map_none (λ (w : ℕ). (slot, w)) (least_width level (read wave.cells) limit slot)
      (ap (λ b. cond b (option_map (λ (w : ℕ). (slot, w)) (least_width level (read wave.cells) limit slot)) None) (sym begins) ∙ none)

  pub narrow_kept : first_narrow (length wave.cells) level (read wave.cells) limit ≡ None → ⊥
  narrow_kept none =
      let below = back_lt (length wave.cells) start permits.offset pos in
      some_none (end - start) (width_at level (read wave.cells) limit slot (end - start)) is_width
      (first_some_none (width_at level (read wave.cells) limit slot) (limit - 1) 1 (end - start)
      (no_width (first_some_none (narrow_at level (read wave.cells) limit) (length wave.cells) 0 slot none (omega arith) (omega (arith, below))))
      (omega (arith, ordered)) (omega (arith, ordered, narrow)))

-- ---- one checker

module _ (c : Circuit) (ws : Waves) (run : Run) (k : ℕ) (j : Instance) (choice : Choice) (level : Bool) (start : ℕ) (pos : 0 < period c.header) (long : AreLong c ws)
    (fits : InstanceFits c.header (length c.nets) j) (permit : PinsPermit c ws run j choice start) where
  keeps_width : j.kind ≡ MinPulse → list_any (is_of_pulse k level) (faults_by_kind MinPulse c ws k j) ≡ false → ¬ BreaksWidth run j choice level start
  keeps_width is none b =
      let some : 0 < length j.pins = a_pin is fits.pins in
      let size = long_pin_at c ws j.pins 0 long fits.exists.reads some in
      let after = b.at.start_in.after in
      let begins = b.at.start_in.begins in
      narrow_kept level (wave_of_pin (pin_waves c ws j) 0) run.ticks (max start (wire_to choice 0 + 1)) b.start b.end (limit_of j level) (pin_at run j choice 0)
      (omega (arith, size, pos)) (permit 0 some) b.at.is_pulse (omega (arith, begins)) (omega (arith, after, begins)) b.at.end_in.ends b.at.narrow
      (ap (λ (p : ℕ). first_narrow p level (read (wave_of_pin (pin_waves c ws j) 0).cells) (limit_of j level)) size
      ∙ none_limited c ws k j level (limit_of j level) (wave_of_pin (pin_waves c ws j) 0) (none_of_checker c ws k j level none))
    where
      a_pin : j.kind ≡ MinPulse → PinsFit j.kind j.pins → 0 < length j.pins
      a_pin is fits = let least = fits.least in let one = ap (λ (q : Kind). (pin_counts q).0) is in omega (arith, least, one)

  keeps_kind : (kind : Kind) → j.kind ≡ kind → list_any (is_of_pulse k level) (faults_by_kind kind c ws k j) ≡ false → BreaksKind kind run j choice level start → ⊥
  keeps_kind MinPulse is none b = keeps_width is none b
  keeps_kind kind is none b = absurd b

-- ---- all

keeps_pulse : (c : Circuit) (ws : Waves) (run : Run) (k : ℕ) (level : Bool) (start : ℕ) →
    0 < period c.header → IsCircuit c → AreLong c ws → list_any (is_of_pulse k level) (width_faults c ws) ≡ false →
    PinsPermitAt c ws run k start → ¬ BreaksPulse c run k level start
keeps_pulse c ws run k level start pos known long none permit b =
    keeps_kind c ws run k b.instance b.choice level start pos long (fits_of c k b.instance known b.instance_is) (permit b.instance b.choice b.instance_is b.choice_is)
    b.instance.kind refl
    (ap (list_any (is_of_pulse k level)) (sym (by_kind c ws k b.instance (instance_faults c ws k) b.instance_is refl))
    ∙ none_of_instance c ws k (is_of_pulse k level) (slice_get_within c.instances k b.instance b.instance_is) none)
    b.breaks

pub keeps_widths : (c : Circuit) (ws : Waves) (faults : List Fault) → 0 < period c.header → IsCircuit c → AreLong c ws → faults ≡ width_faults c ws → KeepsWidths c ws faults
keeps_widths c ws faults pos known long is run k level start none permit = keeps_pulse c ws run k level start pos known long (ap (list_any (is_of_pulse k level)) (sym is) ∙ none) permit
