-- Checkers that ask the same of the same waves have the same fault, each as its own.
use Rattle.std.proofs.Common.{◌≡◌, ℕ, zero, suc, ◌+◌, ◌<◌, Bool, true, false, cond, List, length, refl, sym, ap, ◌∙◌, Option, Some, None}
use Rattle.std.specs.Option.{option_or, option_map}
use Rattle.scald_base.specs.Time.{Bounds, period}
use Rattle.vector_names.specs.declared.bits.Target.TheVariants.{Net as OnNet}
use Rattle.step_values.specs.declared.value.Value.{Value}
use Rattle.step_values.specs.Steps.{has}
use Rattle.step_values.specs.Cell.{values}
use Rattle.skew_algebra.specs.Wave.{Wave, fold}
use Rattle.element_kinds.specs.declared.kind.Kind.{Kind}
use Rattle.flat_circuit.specs.declared.instance.Pin.{Pin}
use Rattle.flat_circuit.specs.declared.fault.Fault.{Fault}
use Rattle.flat_circuit.specs.Circuit.{Circuit}
use Rattle.flat_circuit.specs.declared.limits.Limits.{Limits}
use Rattle.gate_eval.specs.Hold.{first_some}
use Rattle.pin_waves.specs.Pin.{pin_wave as wave_behind}
use Rattle.fixpoint_engine.specs.Waves.{Waves, FitWaves, waves_of, target_wave, target_wire, pin_wave}
use Rattle.point_check.specs.declared.window.Window.{Window}
use Rattle.point_check.specs.Window.{Folds, first_mover, fault_at, window_fault}
use Rattle.point_check.specs.Point.{window_of, edge_fault, checker_fault}
use Rattle.point_check.specs.Again.{Shows, of_instance}

-- ---- what is found first

or_map : {A B : Type 0} (g : A → B) (o p : Option A) (o' p' : Option B) → o' ≡ option_map g o → p' ≡ option_map g p →
    option_or o' p' ≡ option_map g (option_or o p)
or_map g None p o' p' o_is p_is = ap (λ x. option_or x p') o_is ∙ p_is
or_map g (Some x) p o' p' o_is p_is = ap (λ y. option_or y p') o_is

first_map : {A B : Type 0} (g : A → B) (f : ℕ → Option A) (h : ℕ → Option B) (n i : ℕ) → ((s : ℕ) → h s ≡ option_map g (f s)) →
    first_some h n i ≡ option_map g (first_some f n i)
first_map g f h zero i each = refl
first_map g f h (suc n) i each =
    or_map g (f i) (first_some f n (i + 1)) (h i) (first_some h n (i + 1)) (each i) (first_map g f h n (i + 1) each)

-- ---- of another instance

at_place : (p i j : ℕ) (input : Folds) (w : Window) (t : ℕ) (place : Option ℕ) →
    option_map (fault_at p j input w t) place ≡ option_map (of_instance j) (option_map (fault_at p i input w t) place)
at_place p i j input w t None = refl
at_place p i j input w t (Some place) = refl

in_window : (p i j : ℕ) (input : Folds) (t : ℕ) (window : Option Window) →
    window_fault p j input t window ≡ option_map (of_instance j) (window_fault p i input t window)
in_window p i j input t None = refl
in_window p i j input t (Some w) = at_place p i j input w t (first_mover p input w t)

at_edge : (b : Bool) (i j : ℕ) (found found' : Option Fault) → found' ≡ option_map (of_instance j) found →
    cond b found' None ≡ option_map (of_instance j) (cond b found None)
at_edge true i j found found' is = is
at_edge false i j found found' is = refl

of_another : (kind : Kind) (p i j : ℕ) (clock input : Wave Value) (limits : Limits) →
    checker_fault kind p j clock input limits ≡ option_map (of_instance j) (checker_fault kind p i clock input limits)
unfolding checker_fault
of_another kind p i j clock input limits =
    let by = fold values clock in
    let folds = fold values input in
    first_map (of_instance j) (edge_fault kind p i by folds limits) (edge_fault kind p j by folds limits) p 0
    (λ t. at_edge (has (by t) false true) i j (window_fault p i folds t (window_of kind p by limits t))
    (window_fault p j folds t (window_of kind p by limits t)) (in_window p i j folds t (window_of kind p by limits t)))

-- ---- what pins show

module _ (c : Circuit) (xs : List (Wave Value)) (p : Pin) (net : ℕ) (wave : Wave Value) (wire : Bounds) (inverted : Bool) where
  -- that of the net that a pin is on
  pub shows_net : FitWaves c xs → p.target ≡ OnNet net → net < length c.nets → wave ≡ waves_of xs net → wire ≡ target_wire c.nets p.target →
      inverted ≡ p.inverted → Shows c (waves_of xs) wave wire inverted p
  shows_net fit on below wave_is wire_is same =
      let ws = waves_of xs in
      let there : wave ≡ target_wave c.header ws p.target = wave_is ∙ sym (ap (target_wave c.header ws) on) in
      record {
        long = ap (λ (w : Wave Value). length w.cells) wave_is ∙ fit.each_slot net below;
        is = λ i. wave_behind (there i) (wire_is i) (same i);
      }

  -- the same by the bounds of the wire
  pub shows_bounds : FitWaves c xs → p.target ≡ OnNet net → net < length c.nets → wave ≡ waves_of xs net →
      wire.min ≡ (target_wire c.nets p.target).min → wire.max ≡ (target_wire c.nets p.target).max →
      inverted ≡ p.inverted → Shows c (waves_of xs) wave wire inverted p
  shows_bounds fit on below wave_is least greatest same =
      shows_net fit on below wave_is (λ i. record { min = least i; max = greatest i }) same

-- ---- checkers that ask the same of the same waves

module _ (c : Circuit) (ws : Waves) (clock input : Pin) (clock_wave input_wave : Wave Value) (clock_wire input_wire : Bounds) (clock_turned input_turned : Bool)
    (found : Option Fault) (clock_is : Shows c ws clock_wave clock_wire clock_turned clock) (input_is : Shows c ws input_wave input_wire input_turned input) where
  -- as any instance
  pub kept_is : (kind : Kind) (k : ℕ) (limits : Limits) → found ≡ checker_fault kind (period c.header) k (pin_wave c ws clock) (pin_wave c ws input) limits → (j : ℕ) →
      option_map (of_instance j) found ≡ checker_fault kind (length clock_wave.cells) j
      (wave_behind clock_wave clock_wire clock_turned) (wave_behind input_wave input_wire input_turned) limits
  kept_is kind k limits is j =
      ap (option_map (of_instance j)) is ∙ sym (of_another kind (period c.header) k j (pin_wave c ws clock) (pin_wave c ws input) limits)
      ∙ (λ i. checker_fault kind (sym clock_is.long i) j (sym clock_is.is i) (sym input_is.is i) limits)

  pub found_is : (kind kind' : Kind) (j : ℕ) (limits limits' : Limits) → kind ≡ kind' → limits ≡ limits' →
      ((k : ℕ) → option_map (of_instance k) found ≡ checker_fault kind (length clock_wave.cells) k
      (wave_behind clock_wave clock_wire clock_turned) (wave_behind input_wave input_wire input_turned) limits) →
      option_map (of_instance j) found ≡ checker_fault kind' (period c.header) j (pin_wave c ws clock) (pin_wave c ws input) limits'
  found_is kind kind' j limits limits' same asked is =
      is j ∙ (λ i. checker_fault (same i) (clock_is.long i) j (clock_is.is i) (input_is.is i) (asked i))
