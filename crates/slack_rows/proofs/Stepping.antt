-- A clock that rises or falls somewhere.
use Rattle.std.proofs.Common.{◌≡◌, ℕ, ◌<◌, Bool, true, false, cond, refl, sym, ap, ◌∙◌, arith, Option, Some, None}
use Rattle.std.specs.Prelude.{is_none, is_some}
use Rattle.step_values.specs.Steps.{has}
use Rattle.gate_eval.specs.Hold.{first_some}
use Rattle.gate_eval.proofs.Found.{first_some_nowhere, first_some_some}
use Rattle.point_check.specs.Point.{falls_somewhere}
use Rattle.point_check.specs.Window.{Folds}
use Rattle.critical_paths.specs.Event.{Events}
use Rattle.critical_paths.specs.Region.{first_from, some_event}
use Rattle.critical_paths.proofs.Searches.{first_is, first_up_to}

module _ (p : ℕ) (ev : Events) where
  pub event_found : (k : ℕ) → k < p → ev k ≡ true → true ≡ some_event p ev
  event_found k below here =
      let found = first_up_to ev p 0 k (omega arith) (omega (arith, below)) here in
      sym (ap (λ (o : Option ℕ). is_some o) found.is)

  pub event_nowhere : ((k : ℕ) → k < p → ev k ≡ false) → false ≡ some_event p ev
  event_nowhere none = by (first_from ev p 0) refl
    where
      by : (o : Option ℕ) → first_from ev p 0 ≡ o → false ≡ is_some o
      by None is = refl
      by (Some x) is =
          let found = first_is ev p 0 x is in
          let below = found.below in
          absurd (cc (sym (none x (omega (arith, below))) ∙ found.passes))

there : {A : Type 0} (o : Option A) → is_none o ≡ false → true ≡ is_some o
there None none = absurd (cc)
there (Some x) some = refl

module _ (p : ℕ) (clock : Folds) where
  abbrev falling : ℕ → Option ℕ
  falling s = cond (has (clock s) true false) (Some s) None

  pub fall_found : (k : ℕ) → k < p → has (clock k) true false ≡ true → true ≡ falls_somewhere p clock
  fall_found k below here =
      there (first_some falling p 0)
      (first_some_some falling p 0 k (omega arith) (omega (arith, below))
      (ap (λ (b : Bool). is_none (cond b (Some k) None)) here))

  pub fall_nowhere : ((k : ℕ) → k < p → has (clock k) true false ≡ false) → false ≡ falls_somewhere p clock
  fall_nowhere none =
      sym (ap (λ (o : Option ℕ). is_some o)
      (first_some_nowhere falling p 0
      (λ k below. ap (λ (b : Bool). cond b (Some k) None) (none k (omega (arith, below))))))
