-- What the search for the fault of a checker at edges finds.
use Rattle.std.proofs.Common.{◌≡◌, ℕ, ◌<◌, Bool, true, false, cond, refl, ap, ◌∙◌, arith, Option, Some, None}
use Rattle.std.specs.Prelude.{is_none, is_some}
use Rattle.std.specs.Option.{option_map}
use Rattle.step_values.specs.Steps.{has, is_quiet}
use Rattle.element_kinds.specs.declared.kind.Kind.{Kind}
use Rattle.flat_circuit.specs.declared.fault.Fault.{Fault}
use Rattle.flat_circuit.specs.declared.limits.Limits.{Limits}
use Rattle.gate_eval.proofs.Found.{first_some_some}
use Rattle.point_check.specs.declared.window.Window.{Window}
use Rattle.point_check.specs.Window.{Folds, fault_at, first_mover, mover_at, places, slot_at, window_fault}
use Rattle.point_check.specs.Point.{edge_fault, first_fault, window_of}
use Rattle.point_check.proofs.Firsts.{first_some_is}

-- the input may change at a place of the window
pub record IsHit (p : ℕ) (input : Folds) (t : ℕ) (w : Window) : Type 0 where
  pub place : ℕ
  pub within : place < places w
  pub moves : is_quiet (input (slot_at p w t place)) ≡ false

-- it does so in the window of an edge
pub record IsFaulty (at : ℕ → Option Window) (p : ℕ) (clock input : Folds) : Type 0 where
  pub tick : ℕ
  pub below : tick < p
  pub rises : has (clock tick) false true ≡ true
  pub window : Window
  pub is : at tick ≡ Some window
  pub hit : IsHit p input tick window

moved : (b : Bool) (i j : ℕ) → cond b None (Some i) ≡ Some j → b ≡ false
moved true i j is = absurd (cc)
moved false i j is = refl

unmapped : {A B : Type 0} (f : A → B) (o : Option A) → is_some (option_map f o) ≡ true → is_some o ≡ true
unmapped f None none = absurd (cc)
unmapped f (Some x) some = refl

mapped : {A B : Type 0} (f : A → B) (o : Option A) → is_none o ≡ false → is_none (option_map f o) ≡ false
mapped f None none = absurd (cc)
mapped f (Some x) some = refl

some_of : {A : Type 0} (o : Option A) → is_none o ≡ false → is_some o ≡ true
some_of None none = absurd (cc)
some_of (Some x) some = refl

module _ (kind : Kind) (p k : ℕ) (clock input : Folds) (limits : Limits) where
  hit : (t : ℕ) (w : Window) (o : Option ℕ) → first_mover p input w t ≡ o → is_some o ≡ true → IsHit p input t w
  hit t w None is none = absurd (cc)
  hit t w (Some place) is some =
      let found = first_some_is (mover_at p input w t) (places w) 0 place is in
      let below = found.below in
      record {
        place = found.at;
        within = omega (arith, below);
        moves = moved (is_quiet (input (slot_at p w t found.at))) found.at place found.is;
      }

  edge : (t : ℕ) → t < p → is_some (edge_fault kind p k clock input limits t) ≡ true →
      IsFaulty (window_of kind p clock limits) p clock input
  edge t below some = by (has (clock t) false true) refl some
    where
      in_window : (o : Option Window) → window_of kind p clock limits t ≡ o → is_some (window_fault p k input t o) ≡ true →
          has (clock t) false true ≡ true → IsFaulty (window_of kind p clock limits) p clock input
      in_window None is none rises = absurd (cc)
      in_window (Some w) is some rises =
          record {
            tick = t;
            below = below;
            rises = rises;
            window = w;
            is = is;
            hit = hit t w (first_mover p input w t) refl (unmapped (fault_at p k input w t) (first_mover p input w t) some);
          }

      by : (b : Bool) → has (clock t) false true ≡ b →
          is_some (cond b (window_fault p k input t (window_of kind p clock limits t)) None) ≡ true →
          IsFaulty (window_of kind p clock limits) p clock input
      by true rises some = in_window (window_of kind p clock limits t) refl some rises
      by false rises none = absurd (cc)

  pub found_faulty : is_some (first_fault kind p k clock input limits) ≡ true → IsFaulty (window_of kind p clock limits) p clock input
  found_faulty some = by (first_fault kind p k clock input limits) refl some
    where
      by : (o : Option Fault) → first_fault kind p k clock input limits ≡ o → is_some o ≡ true →
          IsFaulty (window_of kind p clock limits) p clock input
      by None is none = absurd (cc)
      by (Some fault) is some =
          let found = first_some_is (edge_fault kind p k clock input limits) p 0 fault is in
          let below = found.below in
          edge found.at (omega (arith, below)) (ap (λ (o : Option Fault). is_some o) found.is)

  pub faulty_found : IsFaulty (window_of kind p clock limits) p clock input → is_some (first_fault kind p k clock input limits) ≡ true
  faulty_found faulty =
      let below = faulty.below in
      let within = faulty.hit.within in
      let rises = faulty.rises in
      let is = faulty.is in
      let moves = faulty.hit.moves in
      let mover : is_none (first_mover p input faulty.window faulty.tick) ≡ false =
      first_some_some (mover_at p input faulty.window faulty.tick) (places faulty.window) 0 faulty.hit.place (omega arith) (omega (arith, within))
      (ap (λ b. is_none (cond b None (Some faulty.hit.place))) moves) in
      let here : is_none (edge_fault kind p k clock input limits faulty.tick) ≡ false =
      (λ i. is_none (cond (rises i) (window_fault p k input faulty.tick (is i)) None))
      ∙ mapped (fault_at p k input faulty.window faulty.tick) (first_mover p input faulty.window faulty.tick) mover in
      some_of (first_fault kind p k clock input limits)
      (first_some_some (edge_fault kind p k clock input limits) p 0 faulty.tick (omega arith) (omega (arith, below)) here)
