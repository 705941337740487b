-- An element whose listening pins do not change where it looks has a quiet output, but for storage with set and reset.
use Rattle.std.proofs.Common.{inl, inr, ◌≡◌, ◌⊎◌, ℕ, ◌<◌, ◌≤◌, true, All, List, length, refl, subst, arith, Option, Some, None}
use Rattle.scald_base.specs.Time.{Bounds, IsDelay, period}
use Rattle.step_values.specs.declared.value.Value.{Value}
use Rattle.skew_algebra.specs.Wave.{Wave}
use Rattle.element_kinds.specs.declared.kind.Kind.{Kind}
use Rattle.element_kinds.specs.declared.kind.Kind.TheVariants.{Chg, Reg, RegRs, Latch, LatchRs, SetupHold, RiseFall, MinPulse}
use Rattle.element_kinds.specs.Kinds.{has_output}
use Rattle.flat_circuit.specs.declared.instance.Instance.{Instance}
use Rattle.flat_circuit.specs.declared.net.Net.{Net}
use Rattle.flat_circuit.specs.declared.split.Split.{Split}
use Rattle.flat_circuit.specs.Split.{SplitFits}
use Rattle.flat_circuit.specs.Circuit.{Circuit}
use Rattle.flat_circuit.specs.Instances.{InstanceFits}
use Rattle.gate_eval.specs.Quiet.{AreFitting, IsQuietAt, IsQuietBefore}
use Rattle.gate_eval.proofs.QuietGates.{gates_are_quiet, splits_are_quiet}
use Rattle.storage_eval.specs.Storage.{listening}
use Rattle.storage_eval.proofs.Quiet.{storage_is_quiet}
use Rattle.fixpoint_engine.specs.Waves.{Waves, marked_pin, pin_waves}
use Rattle.fixpoint_engine.proofs.Fits.{AreLong}
use Rattle.fixpoint_engine.proofs.OnePeriod.{length_pins, period_of_pins, pins_have_one_period}
use Rattle.fixpoint_engine.specs.Value.{instance_wave, made_by, turned_wave}
use Rattle.fixpoint_engine.proofs.Hearing.{listening_all}
use Rattle.fixpoint_engine.proofs.Made.{length_turned, made_long, made_mark}
use Rattle.fault_chain.specs.Chain.{next_link}
use Rattle.fault_chain.specs.Laws.{AreTwoDelays, HasSetAndReset}
use Rattle.fault_chain.proofs.Pins.{listening_quiet, normal_quiet, quiet_turned}

-- by its kind
made_quiet : (kind : Kind) (waves : List (Wave Value)) (marked : Option ℕ) (d : Bounds) (split : Option Split) (p : ℕ) →
    has_output kind ≡ true → AreFitting kind waves marked → d.min ≤ d.max → AreTwoDelays split → SplitFits kind d split →
    All (IsQuietBefore d p) (listening kind waves) → HasSetAndReset kind ⊎ IsQuietAt p (made_by kind waves marked d split)
made_quiet RegRs waves marked d split p makes fits bounds two same quiet = inl (inl refl)
made_quiet LatchRs waves marked d split p makes fits bounds two same quiet = inl (inr refl)
made_quiet Reg waves marked d split p makes fits bounds two same quiet =
    let least = fits.counts.least in
    let most = fits.counts.most in
    inr (storage_is_quiet Reg waves d p (inl refl) (omega (arith, least, most)) fits.periods fits.some bounds quiet)
made_quiet Latch waves marked d split p makes fits bounds two same quiet =
    let least = fits.counts.least in
    let most = fits.counts.most in
    inr (storage_is_quiet Latch waves d p (inr refl) (omega (arith, least, most)) fits.periods fits.some bounds quiet)
made_quiet SetupHold waves marked d split p makes fits bounds two same quiet = absurd (cc)
made_quiet RiseFall waves marked d split p makes fits bounds two same quiet = absurd (cc)
made_quiet MinPulse waves marked d split p makes fits bounds two same quiet = absurd (cc)
made_quiet Chg waves marked d split p makes fits bounds two same quiet =
    inr (gates_are_quiet Chg waves marked d p refl fits bounds
    (subst (All (IsQuietBefore d p)) (listening_all Chg (λ place. refl) 0 waves) quiet))
made_quiet kind waves marked d None p makes fits bounds two same quiet =
    inr (gates_are_quiet kind waves marked d p refl fits bounds
    (subst (All (IsQuietBefore d p)) (listening_all kind (λ place. refl) 0 waves) quiet))
made_quiet kind waves marked d (Some s) p makes fits bounds two same quiet =
    inr (splits_are_quiet kind waves marked s p refl fits two.0.ordered two.1.ordered
    (subst (λ (b : Bounds). All (IsQuietBefore b p) waves) same.1
    (subst (All (IsQuietBefore d p)) (listening_all kind (λ place. refl) 0 waves) quiet)))

module _ (c : Circuit) (ws : Waves) (some : 0 < period c.header) (long : AreLong c ws) (wires : All (λ (n : Net). IsDelay n.wire) c.nets) where
  fitting : (j : Instance) → InstanceFits c.header (length c.nets) j → AreFitting j.kind (pin_waves c ws j) (marked_pin j)
  fitting j fits =
      let pins = length_pins c ws j in
      let least = fits.pins.least in
      let most = fits.pins.most in
      let one = period_of_pins c ws j some long fits in
      record {
        counts = record { least = omega (arith, pins, least); most = omega (arith, pins, most); marks = omega arith };
        mark = made_mark c ws j fits;
        periods = pins_have_one_period c ws j some long fits;
        some = omega (arith, one, some);
      }

  pub element_quiet : (j : Instance) (p : ℕ) → InstanceFits c.header (length c.nets) j → has_output j.kind ≡ true → IsDelay j.delay →
      AreTwoDelays j.split → next_link c ws j p ≡ None → HasSetAndReset j.kind ⊎ IsQuietAt p (instance_wave c ws j)
  unfolding instance_wave
  element_quiet j p fits makes delay two none =
      elim (made_quiet j.kind (pin_waves c ws j) (marked_pin j) j.delay j.split p makes (fitting j fits) delay.ordered two fits.split
      (listening_quiet c ws some long wires p j.delay j.kind 0 j.pins fits.exists.reads delay.ordered none)) [
        | inl forced ↦ inl forced
        | inr quiet ↦
            let made : Wave Value = made_by j.kind (pin_waves c ws j) (marked_pin j) j.delay j.split in
            let cells : length made.cells ≡ period c.header = made_long c ws j some long fits in
            let turned : length (turned_wave j.out_inverted made).cells ≡ length made.cells = length_turned j.out_inverted made in
            inr (normal_quiet (turned_wave j.out_inverted made) p (omega (arith, some, cells, turned))
            (quiet_turned j.out_inverted made p (omega (arith, some, cells)) quiet))
      ]
