-- What the search for a step that an assertion has not has found.
use Rattle.std.proofs.Common.{◌≡◌, ℕ, zero, suc, ◌+◌, ◌<◌, ◌≤◌, get_or, true, false, cond, List, length, refl, sym, ap, ◌∙◌, arith, Option, Some, None}
use Rattle.std.specs.Prelude.{slice_get}
use Rattle.std.specs.Option.{option_map, option_or}
use Rattle.scald_base.proofs.Back.{back_zero, mod_small}
use Rattle.wave_core.specs.Slots.{SameUntil, earlier}
use Rattle.step_values.specs.declared.value.Value.TheVariants.{U}
use Rattle.gate_eval.specs.Hold.{first_some}
use Rattle.scald_base.specs.declared.assertion.AssertSpec.{AssertSpec}
use Rattle.scald_base.specs.Time.{Header, period}
use Rattle.step_values.specs.declared.value.Value.{Value}
use Rattle.step_values.specs.Steps.{letter_of}
use Rattle.step_values.specs.Cell.{values}
use Rattle.skew_algebra.specs.Wave.{Wave, fold, folded, cell_at}
use Rattle.pin_waves.specs.Interface.{wide_wave}
use Rattle.flat_circuit.specs.declared.fault.Fault.TheVariants.{Assertion}
use Rattle.gate_eval.proofs.Found.{first_some_at, first_some_nowhere}
use Rattle.fixpoint_engine.specs.Pins.{read}
use Rattle.fixpoint_engine.proofs.ReadSlots.{read_at, same_read, read_folded, length_folded}
use Rattle.point_check.specs.Window.{Folds}
use Rattle.point_check.specs.Assertion.{exceeds, first_excess, fault_in, assertion_fault}

pub exceeds_read : (found wide : List Value) (s : ℕ) (v w : Value) → s < length found → s < length wide → slice_get found s ≡ Some v → slice_get wide s ≡ Some w →
    exceeds (read found s) (read wide s) ≡ exceeds v w
exceeds_read found wide s v w below below' is is' =
    let v_is : read found s ≡ v = read_at found s s v refl below is in
    let w_is : read wide s ≡ w = read_at wide s s w refl below' is' in
    λ i. exceeds (v_is i) (w_is i)

-- the same in each slot up to where either changes
pub exceeds_run : (found wide : List Value) (slot end end' s : ℕ) (v w : Value) → SameUntil found slot end → SameUntil wide slot end' → slice_get found slot ≡ Some v → slice_get wide slot ≡ Some w →
    slot ≤ s → s < end → s < end' → exceeds (read found s) (read wide s) ≡ exceeds v w
exceeds_run found wide slot end end' s v w until until' is is' above below below' =
    let v_is : read found s ≡ v = same_read found slot end s v until is above below in
    let w_is : read wide s ≡ w = same_read wide slot end' s w until' is' above below' in
    λ i. exceeds (v_is i) (w_is i)

pub excess_here : (p : ℕ) (found wide : Folds) (s : ℕ) → ((k : ℕ) → k < s → exceeds (found k) (wide k) ≡ false) → s < p → exceeds (found s) (wide s) ≡ true → Some s ≡ first_excess p found wide
excess_here p found wide s before below here =
    sym (first_some_at (λ k. cond (exceeds (found k) (wide k)) (Some k) None) p 0 s s (λ k l. ap (λ b. cond b (Some k) None) (before k l)) (omega arith) (omega arith)
    (ap (λ b. cond b (Some s) None) here))

pub excess_nowhere : (p : ℕ) (found wide : Folds) → ((k : ℕ) → k < p → exceeds (found k) (wide k) ≡ false) → None ≡ first_excess p found wide
excess_nowhere p found wide nowhere =
    sym (first_some_nowhere (λ k. cond (exceeds (found k) (wide k)) (Some k) None) p 0 (λ k below. ap (λ b. cond b (Some k) None) (nowhere k (omega arith))))

-- ---- the whole

first_some_same : {A : Type 0} (f g : ℕ → Option A) (n i : ℕ) → ((k : ℕ) → i ≤ k → k < i + n → f k ≡ g k) → first_some f n i ≡ first_some g n i
first_some_same f g zero i same = refl
first_some_same f g (suc n) i same =
    let head = same i (omega arith) (omega arith) in
    let rest = first_some_same f g n (i + 1) (λ k above below. same k (omega arith) (omega arith)) in
    λ j. option_or (head j) (rest j)

read_cell : (cells : List Value) (s : ℕ) → s < length cells → read cells s ≡ cell_at values cells s
unfolding earlier
read_cell cells s below = ap (λ (z : ℕ). get_or cells z U) (back_zero (length cells) s ∙ mod_small s (length cells) below)

module _ (h : Header) (spec : AssertSpec) (i : ℕ) (w : Wave Value) (found wide : List Value) (some : 0 < length w.cells) (long : length w.cells ≡ period h)
    (f_is : found ≡ folded values w) (w_is : wide ≡ wide_wave h spec) (sized : length wide ≡ period h) where
  same_at : (k : ℕ) → k < period h →
      cond (exceeds (read found k) (read wide k)) (Some k) None ≡ cond (exceeds (fold values w k) (cell_at values (wide_wave h spec) k)) (Some k) None
  same_at k below =
      let left : read found k ≡ fold values w k = λ j. read_folded w found some f_is j k in
      let right : read wide k ≡ cell_at values (wide_wave h spec) k = read_cell wide k (omega (arith, sized, below)) ∙ ap (λ (c : List Value). cell_at values c k) w_is in
      λ j. cond (exceeds (left j) (right j)) (Some k) None

  same_excess : first_excess (length found) (read found) (read wide) ≡ first_excess (period h) (fold values w) (cell_at values (wide_wave h spec))
  same_excess =
      ap (λ (p : ℕ). first_excess p (read found) (read wide)) (length_folded w found f_is ∙ long)
      ∙ first_some_same (λ k. cond (exceeds (read found k) (read wide k)) (Some k) None)
      (λ k. cond (exceeds (fold values w k) (cell_at values (wide_wave h spec) k)) (Some k) None) (period h) 0 (λ k above below. same_at k (omega arith))

  pub no_assertion_fault : None ≡ first_excess (length found) (read found) (read wide) → None ≡ assertion_fault h spec i w
  unfolding assertion_fault
  no_assertion_fault none = ap (option_map (fault_in i (fold values w))) (none ∙ same_excess)

  pub an_assertion_fault : (s : ℕ) (v : Value) (letter : ℕ) → Some s ≡ first_excess (length found) (read found) (read wide) → s < length found → slice_get found s ≡ Some v → letter ≡ letter_of v →
      Some (Assertion i s letter) ≡ assertion_fault h spec i w
  unfolding assertion_fault
  an_assertion_fault s v letter first below is says =
      let value : letter ≡ letter_of (fold values w s) = says ∙ ap letter_of (sym (read_at found s s v refl below is) ∙ (λ j. read_folded w found some f_is j s)) in
      ap (λ (l : ℕ). Some (Assertion i s l)) value ∙ ap (option_map (fault_in i (fold values w))) (first ∙ same_excess)
