-- Whether the rule of a mark holds, by what is found of its pins.
use Rattle.std.proofs.Common.{◌≡◌, ◌∙◌, ℕ, ◌&&◌, Bool, true, false, not, List, refl, sym, ap, Option, Some, None}
use Rattle.std.specs.Prelude.{is_none, is_some}
use Rattle.step_values.specs.declared.value.Value.{Value}
use Rattle.skew_algebra.specs.Wave.{Wave}
use Rattle.flat_circuit.specs.declared.instance.Instance.{Instance}
use Rattle.flat_circuit.specs.Circuit.{Circuit}
use Rattle.gate_eval.specs.Hold.{hazard}
use Rattle.fixpoint_engine.specs.Waves.{Waves, marked_pin, pin_waves}
use Rattle.drawing_notes.specs.Passing.{keeps_mark}

module _ (c : Circuit) (ws : Waves) (j : Instance) (m : Option ℕ) (b : Bool) (at : m ≡ marked_pin j) (test : is_some m ≡ not b) where
  pub unmarked_is : b ≡ true → false ≡ keeps_mark c ws j
  unmarked_is is =
      let none : is_some (marked_pin j) ≡ false = sym (ap is_some at) ∙ test ∙ ap not is in
      sym (ap (λ t. t && is_none (hazard j.kind (pin_waves c ws j) (marked_pin j))) none)

  no_hazard : {X : Type 0} (found : Option X) (free : Bool) → is_some found ≡ not free → free ≡ is_none found
  no_hazard None true is = refl
  no_hazard None false is = absurd cc
  no_hazard (Some x) true is = absurd cc
  no_hazard (Some x) false is = refl

  pub held_is : (waves : List (Wave Value)) (marked : Option ℕ) (found : Option (ℕ × ℕ)) (free : Bool) → waves ≡ pin_waves c ws j → marked ≡ marked_pin j →
      b ≡ false → found ≡ hazard j.kind waves marked → is_some found ≡ not free → free ≡ keeps_mark c ws j
  held_is waves marked found free shown mark is hazards is_free =
      let some : is_some (marked_pin j) ≡ true = sym (ap is_some at) ∙ test ∙ ap not is in
      no_hazard found free is_free ∙ ap is_none (hazards ∙ (λ k. hazard j.kind (shown k) (mark k)))
      ∙ sym (ap (λ t. t && is_none (hazard j.kind (pin_waves c ws j) (marked_pin j))) some)
