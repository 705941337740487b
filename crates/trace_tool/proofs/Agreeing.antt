-- Breaks of a run that has given bits before a tick: they end before it, and are those of the bits.
use Rattle.std.proofs.Common.{◌≡◌, ℕ, zero, suc, ◌-◌, ◌<◌, Bool, List, [], ◌∷◌, refl, ap, sym, ◌∙◌, arith}
use Rattle.scald_base.specs.Signal.{Signal, turned}
use Rattle.vector_names.specs.declared.bits.Target.{Target}
use Rattle.vector_names.specs.declared.bits.Target.TheVariants.{Net as OnNet, Constant}
use Rattle.element_kinds.specs.Equation.{nth_signal}
use Rattle.flat_circuit.specs.declared.instance.Pin.{Pin}
use Rattle.flat_circuit.specs.Run.{Run, net_signal, target_signal, pin_signal, pin_signals}
use Rattle.point_check.specs.Break.{Changes, IsHighTo, Leaves, Rises}
use Rattle.pulse_check.specs.Break.{IsPulse}

-- ---- what pins show

module _ (one other : Run) (n : ℕ) (nets : (i t : ℕ) → t < n → net_signal one i t ≡ net_signal other i t) where
  target_agrees : (target : Target) (wire t : ℕ) → t < n → target_signal one target wire t ≡ target_signal other target wire t
  target_agrees (OnNet i) wire t less = nets i (t - wire) (omega arith)
  target_agrees (Constant b) wire t less = refl

  pin_agrees : (p : Pin) (wire t : ℕ) → t < n → pin_signal one p wire t ≡ pin_signal other p wire t
  pin_agrees p wire t less = ap (turned p.inverted) (target_agrees p.target wire t less)

  pub pins_agree : (pins : List Pin) (wires : List ℕ) (i t : ℕ) → t < n →
      nth_signal (pin_signals one pins wires) i t ≡ nth_signal (pin_signals other pins wires) i t
  pins_agree [] wires i t less = refl
  pins_agree (p ∷ ps) [] i t less = refl
  pins_agree (p ∷ ps) (w ∷ ws) zero t less = pin_agrees p w t less
  pins_agree (p ∷ ps) (w ∷ ws) (suc i) t less = pins_agree ps ws i t less

-- ---- steps and pulses

module _ (s x : Signal) (n : ℕ) (same : (t : ℕ) → t < n → s t ≡ x t) where
  back : (t : ℕ) → t < n → s (t - 1) ≡ x (t - 1)
  back t less = same (t - 1) (omega arith)

  pub changes_on : (t : ℕ) → t < n → Changes s t → Changes x t
  changes_on t less h = λ e. h (back t less ∙ e ∙ sym (same t less))

  pub rises_on : (t : ℕ) → t < n → Rises s t → Rises x t
  rises_on t less h = (sym (back t less) ∙ h.0, sym (same t less) ∙ h.1)

  pub high_on : (rise fall : ℕ) → fall < n → IsHighTo s rise fall → IsHighTo x rise fall
  high_on rise fall less h =
      let ordered = h.ordered in
      record {
        rises = rises_on rise (omega arith) h.rises;
        ordered = h.ordered;
        high = λ t from before. sym (same t (omega arith)) ∙ h.high t from before;
        falls = sym (same fall less) ∙ h.falls;
      }

  pub pulse_on : (level : Bool) (start end : ℕ) → end < n → IsPulse s level start end → IsPulse x level start end
  pulse_on level start end less p =
      let ordered = p.ordered in
      record {
        before = sym (back start (omega arith)) ∙ p.before;
        ordered = p.ordered;
        during = λ t from before. sym (same t (omega arith)) ∙ p.during t from before;
        behind = sym (same end less) ∙ p.behind;
      }

  pub leaves_on : (bit : Bool) (t : ℕ) → t < n → Leaves s bit t → Leaves x bit t
  leaves_on bit t less h = λ both. h (back t less ∙ both.0, same t less ∙ both.1)
