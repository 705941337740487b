-- What each kind makes is sound, and has the period of its pins' waves.
use Rattle.std.proofs.Common.{◌≡◌, ℕ, ◌<◌, ◌≤◌, Bool, true, false, if◌then◌else◌, List, [], ◌∷◌, length, refl, sym, subst, ap, ◌∙◌, arith, Option, Some, None}
use Rattle.std.proofs.lemmas.List.{length-map}
use Rattle.scald_base.specs.Time.{Bounds, period}
use Rattle.step_values.specs.declared.value.Value.{Value}
use Rattle.step_values.specs.declared.value.Value.TheVariants.{S}
use Rattle.step_values.specs.Cell.{values}
use Rattle.step_values.specs.Steps.{flip}
use Rattle.skew_algebra.specs.Wave.{Wave, skewed}
use Rattle.wave_core.proofs.Slots.{length_slots}
use Rattle.skew_algebra.proofs.Normal.{length_normal}
use Rattle.element_kinds.specs.declared.kind.Kind.{Kind}
use Rattle.element_kinds.specs.declared.kind.Kind.TheVariants.{Chg, Reg, RegRs, Latch, LatchRs, SetupHold, RiseFall, MinPulse}
use Rattle.flat_circuit.specs.declared.instance.Pin.{Pin}
use Rattle.flat_circuit.specs.declared.instance.Instance.{Instance}
use Rattle.flat_circuit.specs.declared.split.Split.{Split}
use Rattle.element_kinds.specs.Kinds.{has_output, may_split}
use Rattle.flat_circuit.specs.Kind.{pin_counts}
use Rattle.flat_circuit.specs.Instances.{InstanceFits}
use Rattle.flat_circuit.specs.Split.{either_delay, two_delays, SplitFits}
use Rattle.flat_circuit.specs.Circuit.{Circuit}
use Rattle.pin_waves.proofs.Pins.{length_moved}
use Rattle.gate_eval.specs.Meeting.{period_of}
use Rattle.gate_eval.specs.Gates.{gate_value}
use Rattle.gate_eval.specs.Hold.{hazard}
use Rattle.gate_eval.specs.Instance.{wave_of_pin, image_by, gate_image, gate_wave, MarkFits, IsSound}
use Rattle.gate_eval.specs.Split.{split_value, late_by_two, split_wave, IsSplitSound}
use Rattle.gate_eval.proofs.Fitting.{Fits, AllFit}
use Rattle.gate_eval.proofs.Meets.{length_meeting}
use Rattle.gate_eval.proofs.Chosen.{mark_fits}
use Rattle.gate_eval.proofs.Sound.{fit_at, gate_sound, length_change, mark_below}
use Rattle.gate_eval.proofs.SplitSound.{split_sound}
use Rattle.gate_eval.specs.Change.{change_wave}
use Rattle.storage_eval.proofs.Sounds.{storage_sound}
use Rattle.storage_eval.proofs.Dependence.{length_storage_wave}
use Rattle.fixpoint_engine.specs.Waves.{Waves, pin_waves, marked_pin}
use Rattle.fixpoint_engine.proofs.Fits.{AreLong, normal_fits}
use Rattle.fixpoint_engine.proofs.OnePeriod.{length_pins, period_of_pins, pins_fit_period}
use Rattle.fixpoint_engine.specs.Value.{gate_late, made_by, turned_wave, instance_wave}

-- ---- the period

length_image : (kind : Kind) (waves : List (Wave Value)) (marked : Option ℕ) (h : Option (ℕ × ℕ)) → AllFit values (period_of waves) waves → MarkFits kind marked (length waves) →
    length (image_by (gate_value kind) waves marked h).cells ≡ period_of waves
length_image kind waves None h fits mark = length_meeting values (gate_value kind) waves
length_image kind waves (Some marked) (Some h) fits mark = length_meeting values (gate_value kind) waves
length_image kind waves (Some marked) None fits mark =
    length-map (wave_of_pin waves marked).cells (λ v. gate_value kind (v ∷ S ∷ []))
    ∙ (fit_at values (period_of waves) waves marked (skewed [] 0) fits (mark_below kind marked (length waves) mark)).long

length_gate : (kind : Kind) (waves : List (Wave Value)) (marked : Option ℕ) (d : Bounds) → AllFit values (period_of waves) waves → MarkFits kind marked (length waves) →
    length (gate_wave kind waves marked d).cells ≡ period_of waves
unfolding gate_wave
length_gate Chg waves marked d fits mark = length_normal values (change_wave waves d) ∙ length_change waves d
length_gate kind waves marked d fits mark =
    length_moved (gate_image kind waves marked) d ∙ length_image kind waves marked (hazard kind waves marked) fits mark

length_split : (kind : Kind) (waves : List (Wave Value)) (marked : Option ℕ) (s : Split) → AllFit values (period_of waves) waves → MarkFits kind marked (length waves) →
    length (split_wave kind waves marked s).cells ≡ period_of waves
unfolding split_wave
length_split kind waves marked s fits mark =
    let image : Wave Value = gate_image kind waves marked in
    length_normal values (late_by_two image s) ∙ length_slots (length image.cells) (split_value s image.cells)
    ∙ length_image kind waves marked (hazard kind waves marked) fits mark

length_late : (kind : Kind) (waves : List (Wave Value)) (marked : Option ℕ) (d : Bounds) (split : Option Split) →
    AllFit values (period_of waves) waves → MarkFits kind marked (length waves) →
    length (gate_late kind waves marked d split).cells ≡ period_of waves
length_late kind waves marked d None fits mark = length_gate kind waves marked d fits mark
length_late kind waves marked d (Some s) fits mark = length_split kind waves marked s fits mark

pub length_made : (kind : Kind) (waves : List (Wave Value)) (marked : Option ℕ) (d : Bounds) (split : Option Split) →
    AllFit values (period_of waves) waves → MarkFits kind marked (length waves) →
    length (made_by kind waves marked d split).cells ≡ period_of waves
length_made Reg waves marked d split fits mark = length_storage_wave Reg waves d
length_made RegRs waves marked d split fits mark = length_storage_wave RegRs waves d
length_made Latch waves marked d split fits mark = length_storage_wave Latch waves d
length_made LatchRs waves marked d split fits mark = length_storage_wave LatchRs waves d
length_made Chg waves marked d split fits mark = length_gate Chg waves marked d fits mark
length_made SetupHold waves marked d split fits mark = length_gate SetupHold waves marked d fits mark
length_made RiseFall waves marked d split fits mark = length_gate RiseFall waves marked d fits mark
length_made MinPulse waves marked d split fits mark = length_gate MinPulse waves marked d fits mark
length_made kind waves marked d split fits mark = length_late kind waves marked d split fits mark

-- ---- the kinds

-- if one delay counts
kind_sound : (kind : Kind) (waves : List (Wave Value)) (marked : Option ℕ) (d : Bounds) (split : Option Split) → has_output kind ≡ true → two_delays kind split ≡ None →
    (pin_counts kind).0 ≤ length waves → length waves ≤ (pin_counts kind).1 → MarkFits kind marked (length waves) → 0 < period_of waves → AllFit values (period_of waves) waves →
    IsSound kind d waves (made_by kind waves marked d split)
kind_sound Reg waves marked d split makes one least most mark some fits = storage_sound Reg d waves refl (omega arith) some fits
kind_sound RegRs waves marked d split makes one least most mark some fits = storage_sound RegRs d waves refl (omega arith) some fits
kind_sound Latch waves marked d split makes one least most mark some fits = storage_sound Latch d waves refl (omega arith) some fits
kind_sound LatchRs waves marked d split makes one least most mark some fits = storage_sound LatchRs d waves refl (omega arith) some fits
kind_sound SetupHold waves marked d split makes one least most mark some fits = cc
kind_sound RiseFall waves marked d split makes one least most mark some fits = cc
kind_sound MinPulse waves marked d split makes one least most mark some fits = cc
kind_sound Chg waves marked d split makes one least most mark some fits = gate_sound Chg waves marked d refl mark some fits
kind_sound kind waves marked d None makes one least most mark some fits = gate_sound kind waves marked d refl mark some fits
kind_sound kind waves marked d (Some s) makes one least most mark some fits = cc

-- a kind that may have two delays, with two
of_split : (kind : Kind) (waves : List (Wave Value)) (marked : Option ℕ) (d : Bounds) (s : Split) → may_split kind ≡ true →
    made_by kind waves marked d (Some s) ≡ split_wave kind waves marked s
of_split Reg waves marked d s may = cc
of_split RegRs waves marked d s may = cc
of_split Latch waves marked d s may = cc
of_split LatchRs waves marked d s may = cc
of_split Chg waves marked d s may = cc
of_split SetupHold waves marked d s may = cc
of_split RiseFall waves marked d s may = cc
of_split MinPulse waves marked d s may = cc
of_split kind waves marked d s may = refl

pub made_split : (kind : Kind) (waves : List (Wave Value)) (marked : Option ℕ) (d : Bounds) (split : Option Split) (s : Split) → split ≡ Some s → SplitFits kind d split →
    made_by kind waves marked d split ≡ split_wave kind waves marked s
made_split kind waves marked d split s is fits =
    ap (made_by kind waves marked d) is ∙ of_split kind waves marked d s (subst (SplitFits kind d) is fits).0

-- two delays that count are those that stand there, and the delay beside them goes from the least to the greatest of both
counted_is : (kind : Kind) (split : Option Split) (s : Split) → two_delays kind split ≡ Some s → split ≡ Some s
counted_is kind split s counted = by (may_split kind) counted
  where
    by : (may : Bool) → (if may then split else None) ≡ Some s → split ≡ Some s
    by true is = is
    by false is = cc

pub spans_both : (kind : Kind) (d : Bounds) (split : Option Split) (s : Split) → two_delays kind split ≡ Some s → SplitFits kind d split → d ≡ either_delay s
spans_both kind d split s counted fits = (subst (SplitFits kind d) (counted_is kind split s counted) fits).1

-- ---- an instance of a circuit

pub length_turned : (inverted : Bool) (w : Wave Value) → length (turned_wave inverted w).cells ≡ length w.cells
length_turned true w = length-map w.cells flip
length_turned false w = refl

pub made_mark : (c : Circuit) (ws : Waves) (j : Instance) → InstanceFits c.header (length c.nets) j → MarkFits j.kind (marked_pin j) (length (pin_waves c ws j))
made_mark c ws j fits =
    subst (λ (n : ℕ). MarkFits j.kind (marked_pin j) n) (sym (length_pins c ws j)) (mark_fits j.kind (λ (p : Pin). p.hold) j.pins fits.pins.marks)

pub made_long : (c : Circuit) (ws : Waves) (j : Instance) → 0 < period c.header → AreLong c ws → InstanceFits c.header (length c.nets) j →
    length (made_by j.kind (pin_waves c ws j) (marked_pin j) j.delay j.split).cells ≡ period c.header
made_long c ws j some fit fits =
    length_made j.kind (pin_waves c ws j) (marked_pin j) j.delay j.split (pins_fit_period c ws j some fit fits) (made_mark c ws j fits) ∙ period_of_pins c ws j some fit fits

pub made_sound : (c : Circuit) (ws : Waves) (j : Instance) → 0 < period c.header → AreLong c ws → InstanceFits c.header (length c.nets) j → has_output j.kind ≡ true →
    two_delays j.kind j.split ≡ None → IsSound j.kind j.delay (pin_waves c ws j) (made_by j.kind (pin_waves c ws j) (marked_pin j) j.delay j.split)
made_sound c ws j some fit fits makes counted =
    let long = length_pins c ws j in
    let least = fits.pins.least in
    let most = fits.pins.most in
    let one = period_of_pins c ws j some fit fits in
    kind_sound j.kind (pin_waves c ws j) (marked_pin j) j.delay j.split makes counted (omega (arith, long, least)) (omega (arith, long, most))
    (made_mark c ws j fits) (omega (arith, one, some)) (pins_fit_period c ws j some fit fits)

pub made_split_sound : (c : Circuit) (ws : Waves) (j : Instance) (s : Split) → 0 < period c.header → AreLong c ws → InstanceFits c.header (length c.nets) j →
    two_delays j.kind j.split ≡ Some s → IsSplitSound j.kind s (pin_waves c ws j) (made_by j.kind (pin_waves c ws j) (marked_pin j) j.delay j.split)
made_split_sound c ws j s some fit fits counted =
    let one = period_of_pins c ws j some fit fits in
    subst (λ (w : Wave Value). IsSplitSound j.kind s (pin_waves c ws j) w)
    (sym (made_split j.kind (pin_waves c ws j) (marked_pin j) j.delay j.split s (counted_is j.kind j.split s counted) fits.split))
    (split_sound j.kind (pin_waves c ws j) (marked_pin j) s (made_mark c ws j fits) (omega (arith, one, some)) (pins_fit_period c ws j some fit fits))

pub instance_fits : (c : Circuit) (ws : Waves) (j : Instance) → 0 < period c.header → AreLong c ws → InstanceFits c.header (length c.nets) j →
    Fits values (period c.header) (instance_wave c ws j)
unfolding instance_wave
instance_fits c ws j some fit fits =
    let w : Wave Value = made_by j.kind (pin_waves c ws j) (marked_pin j) j.delay j.split in
    normal_fits (period c.header) (turned_wave j.out_inverted w) some (length_turned j.out_inverted w ∙ made_long c ws j some fit fits)
