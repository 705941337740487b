-- Where a chain starts: a fault that is found at a pin has a change of the pin's net.
use Rattle.std.proofs.Common.{inl, inr, ◌≡◌, ℕ, ◌<◌, ◌≤◌, true, false, List, [], length, map, refl, sym, ap, subst, ◌∙◌, arith, Option, Some, None, slice_get}
use Rattle.std.specs.Prelude.{IfSome}
use Rattle.std.proofs.lemmas.List.{get_or-map}
use Rattle.std.proofs.lemmas.Option.{get_or_from_slice_get, slice_get_cases}
use Rattle.scald_base.specs.Clock.{back}
use Rattle.scald_base.specs.Time.{period}
use Rattle.scald_base.proofs.Back.{back_zero}
use Rattle.step_values.specs.declared.value.Value.{Value}
use Rattle.step_values.specs.Steps.{is_quiet}
use Rattle.step_values.specs.Cell.{values}
use Rattle.skew_algebra.specs.Wave.{Wave, fold, skewed}
use Rattle.skew_algebra.proofs.Moves.{fold_at_mod}
use Rattle.element_kinds.specs.declared.kind.Kind.{Kind}
use Rattle.element_kinds.specs.declared.kind.Kind.TheVariants.{SetupHold, RiseFall}
use Rattle.element_kinds.specs.Kinds.{checks_points}
use Rattle.flat_circuit.specs.declared.instance.Pin.{Pin}
use Rattle.flat_circuit.specs.declared.instance.Instance.{Instance}
use Rattle.flat_circuit.specs.Circuit.{Circuit}
use Rattle.flat_circuit.specs.Instances.{InstanceFits, PinExists}
use Rattle.flat_circuit.specs.Kind.{pin_counts}
use Rattle.fixpoint_engine.specs.Waves.{Waves, pin_wave, pin_waves}
use Rattle.fixpoint_engine.proofs.Fits.{AreLong}
use Rattle.gate_eval.specs.Instance.{wave_of_pin}
use Rattle.fault_chain.specs.declared.chain.Link.{Link}
use Rattle.fault_chain.specs.Chain.{at_pin, link_at_pin, pin_of, through}
use Rattle.fault_chain.specs.Laws.{HasDelays}
use Rattle.fault_chain.proofs.Moving.{IsLink, through_link}
use Rattle.fault_chain.proofs.Pins.{no_delay, pin_quiet}

-- a link is found, which may change
pub record Starts (c : Circuit) (ws : Waves) (found : Option Link) : Type 0 where
  pub link : Link
  pub is : found ≡ Some link
  pub goes : IsLink c ws link

-- ---- how many pins there are

pub two_pins : (kind : Kind) (pins : ℕ) → checks_points kind ≡ true → (pin_counts kind).0 ≤ pins → 1 < pins
two_pins SetupHold pins checks least = omega (arith, least)
two_pins RiseFall pins checks least = omega (arith, least)
two_pins kind pins checks least = absurd (cc)

module _ (c : Circuit) (ws : Waves) (some : 0 < period c.header) (delays : HasDelays c) (long : AreLong c ws) where
  pin_starts : (pin : Pin) (slot : ℕ) → PinExists (length c.nets) pin → is_quiet (fold values (pin_wave c ws pin) slot) ≡ false →
      Starts c ws (through c ws slot no_delay pin.target)
  pin_starts pin slot exists moves = by (through c ws slot no_delay pin.target) refl (through_link c ws slot no_delay pin.target exists)
    where
      by : (found : Option Link) → through c ws slot no_delay pin.target ≡ found → IfSome found (IsLink c ws) → Starts c ws (through c ws slot no_delay pin.target)
      by (Some link) is goes = record { link = link; is = is; goes = goes }
      by None is goes =
          let w : Wave Value = pin_wave c ws pin in
          let quiet : is_quiet (fold values w (back (length w.cells) slot 0)) ≡ true =
          pin_quiet c ws some long delays.wires slot no_delay pin exists (omega arith) is 0 (omega arith) (omega arith) in
          let same : fold values w (back (length w.cells) slot 0) ≡ fold values w slot =
          ap (fold values w) (back_zero (length w.cells) slot) ∙ fold_at_mod values w.cells w.skew slot in
          let clash : false ≡ true = sym moves ∙ sym (ap is_quiet same) ∙ quiet in
          absurd (cc)

  pin_of_list : (ps : List Pin) (place : ℕ) (pin : Pin) → slice_get ps place ≡ Some pin → place < length ps →
      wave_of_pin (map (pin_wave c ws) ps) place ≡ pin_wave c ws pin
  pin_of_list ps place pin is below =
      get_or-map (pin_wave c ws) ps place pin (skewed [] 0) below ∙ ap (pin_wave c ws) (get_or_from_slice_get ps place pin pin is)

  -- at the pin of an instance
  pub starts_at_pin : (k place slot : ℕ) (j : Instance) → slice_get c.instances k ≡ Some j → InstanceFits c.header (length c.nets) j → place < length j.pins →
      is_quiet (fold values (wave_of_pin (pin_waves c ws j) place) slot) ≡ false → Starts c ws (link_at_pin c ws k place slot)
  starts_at_pin k place slot j at fits below moves = elim (slice_get_cases j.pins place).1 [
    | inl found ↦
        let pin : Pin = found.0 in
        let own : PinExists (length c.nets) pin =
        subst (PinExists (length c.nets)) found.3 (fits.exists.reads place pin below) in
        let starts : Starts c ws (through c ws slot no_delay pin.target) =
        pin_starts pin slot own (ap (λ (w : Wave Value). is_quiet (fold values w slot)) (sym (pin_of_list j.pins place pin found.2 below)) ∙ moves) in
        record {
          link = starts.link;
          is = ap (λ (o : Option Instance). at_pin c ws slot (pin_of o place)) at ∙ ap (at_pin c ws slot) found.2 ∙ starts.is;
          goes = starts.goes;
        }
    | inr past ↦ absurd (let far = past.0 in omega (arith, far, below))
  ]
