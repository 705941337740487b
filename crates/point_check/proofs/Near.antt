-- If a checker has no fault in the waves of its pins, what the waves permit does not break its constraint.
use Rattle.std.proofs.Common.{inl, inr, ◌≡◌, ℕ, ◌+◌, ◌-◌, ◌%◌, ◌<◌, ◌≤◌, Bool, true, false, cond, length, refl, sym, ap, ◌∙◌, arith, Option, Some, None}
use Rattle.std.specs.Prelude.{is_some, is_none}
use Rattle.std.proofs.lemmas.Bool.{both_ways, cases_lt}
use Rattle.std.proofs.Math.Nat.{mod-lt, mod-add-mod}
use Rattle.scald_base.specs.Clock.{back}
use Rattle.scald_base.specs.Signal.{Signal}
use Rattle.scald_base.proofs.Back.{back_lt, back_zero, back_later, back_sooner}
use Rattle.step_values.specs.declared.value.Value.{Value}
use Rattle.step_values.specs.Steps.{has, is_quiet}
use Rattle.step_values.specs.Cell.{values}
use Rattle.step_values.specs.Lawful.{values_lawful}
use Rattle.step_values.proofs.Permits.{quiet_same}
use Rattle.skew_algebra.specs.Wave.{Wave, fold}
use Rattle.skew_algebra.specs.Permits.{Permits}
use Rattle.skew_algebra.proofs.Moves.{fold_has}
use Rattle.element_kinds.specs.declared.kind.Kind.{Kind}
use Rattle.element_kinds.specs.declared.kind.Kind.TheVariants.{SetupHold, RiseFall}
use Rattle.flat_circuit.specs.Limits.{setup_of, hold_of}
use Rattle.flat_circuit.specs.declared.fault.Fault.{Fault}
use Rattle.flat_circuit.specs.declared.limits.Limits.{Limits}
use Rattle.gate_eval.specs.Hold.{first_some}
use Rattle.gate_eval.proofs.Fitting.{fold_mod}
use Rattle.gate_eval.proofs.Held.{first_some_none, map_none}
use Rattle.gate_eval.proofs.Found.{first_some_some}
use Rattle.point_check.specs.declared.window.Window.{Window}
use Rattle.point_check.specs.Window.{Folds, places, slot_at, mover_at, first_mover, fault_at, window_fault}
use Rattle.point_check.specs.Point.{first_low, last_fall, falls_somewhere, about, to_last_fall, all_round, high_window_to, window_of, edge_fault, checker_fault}
use Rattle.point_check.specs.Break.{Rises, IsHighTo}
use Rattle.point_check.proofs.Firsts.{first_some_is, last_to_later}

-- ---- slots of a window

slot_mod : (p t i setup : ℕ) → back p (t % p + 1 + i) setup ≡ back p (t + 1 + i) setup
slot_mod p t i setup =
    let first : t % p + 1 + i ≡ back p t 0 + (1 + i) = omega (arith, back_zero p t) in
    let second : t + (1 + i) ≡ t + 1 + i = omega arith in
    let none : 0 + setup ≡ setup = omega arith in
    ap (λ (z : ℕ). back p z setup) first ∙ back_sooner p t 0 (1 + i) setup ∙ ap (λ (z : ℕ). back p z (0 + setup)) second ∙ ap (back p (t + 1 + i)) none

-- a place of the window about tick t has the slot of tick u
slot_near : (p t u i setup : ℕ) → 0 < p → t + 1 + i ≡ u + setup → back p (t % p + 1 + i) setup ≡ u % p
slot_near p t u i setup pos e =
    let none : setup ≡ setup + 0 = omega arith in
    slot_mod p t i setup ∙ ap (λ (z : ℕ). back p z setup) e ∙ ap (back p (u + setup)) none ∙ back_later p u setup 0 pos ∙ back_zero p u

-- Behind each tick stands the slot of any other, less than a period away.
slot_behind : (p t u : ℕ) → 0 < p → (t + 1 + back p u (t + 1)) % p ≡ u % p
slot_behind p t u pos =
    let swap : t + 1 + back p u (t + 1) ≡ back p u (t + 1) + (t + 1) = omega arith in
    let none : t + 1 + 0 ≡ t + 1 = omega arith in
    ap (λ (z : ℕ). z % p) swap ∙ sym (back_zero p (back p u (t + 1) + (t + 1))) ∙ back_sooner p u (t + 1) (t + 1) 0 ∙ back_later p u (t + 1) 0 pos ∙ back_zero p u

-- ---- if a window has no fault, the input is quiet in it

unmoved : (quiet : Bool) (place : ℕ) → cond quiet None (Some place) ≡ None → quiet ≡ true
unmoved true place none = refl
unmoved false place none = cc

quiet_place : (p k : ℕ) (input : Folds) (w : Window) (s place : ℕ) → window_fault p k input s (Some w) ≡ None → place < places w → is_quiet (input (slot_at p w s place)) ≡ true
quiet_place p k input w s place none below =
    unmoved (is_quiet (input (slot_at p w s place))) place
    (first_some_none (mover_at p input w s) (places w) 0 place (map_none (fault_at p k input w s) (first_mover p input w s) none) (omega arith) (omega arith))

-- a tick whose slot is quiet
still_in : (p : ℕ) (input : Wave Value) (n change v s : ℕ) (x : Signal) → length input.cells ≡ p → Permits values input n x v → is_quiet (fold values input s) ≡ true → s ≡ change % p →
    1 ≤ change → v ≤ change → change < n → x (change - 1) ≡ x change
still_in p input n change v s x long permits quiet at c1 cv cn =
    let same : fold values input s ≡ fold values input change = ap (fold values input) at ∙ fold_mod values p input change long in
    quiet_same (fold values input change) (x (change - 1)) (x change) (ap is_quiet (sym same) ∙ quiet) (fold_has values values_lawful input n v change x permits c1 cv cn)

still_near : (p k : ℕ) (input : Wave Value) (w : Window) (n edge change v : ℕ) (x : Signal) → 0 < p → length input.cells ≡ p → Permits values input n x v →
    window_fault p k (fold values input) (edge % p) (Some w) ≡ None → edge + 1 ≤ change + w.setup → change + w.setup < edge + 1 + places w →
    1 ≤ change → v ≤ change → change < n → x (change - 1) ≡ x change
still_near p k input w n edge change v x pos long permits none near far c1 cv cn =
    let place : ℕ = change + w.setup - (edge + 1) in
    still_in p input n change v (slot_at p w (edge % p) (change + w.setup - (edge + 1))) x long permits
    (quiet_place p k (fold values input) w (edge % p) (change + w.setup - (edge + 1)) none (omega arith))
    (slot_near p edge change (change + w.setup - (edge + 1)) w.setup pos (omega arith)) c1 cv cn

-- ---- edges

step_has : (p : ℕ) (w : Wave Value) (n t v s : ℕ) (x : Signal) (before after : Bool) → length w.cells ≡ p → Permits values w n x v → s % p ≡ t % p → x (t - 1) ≡ before → x t ≡ after →
    1 ≤ t → v ≤ t → t < n → has (fold values w s) before after ≡ true
step_has p w n t v s x before after long permits at was is t1 tv tn =
    let same : fold values w s ≡ fold values w t = sym (fold_mod values p w s long) ∙ ap (fold values w) at ∙ fold_mod values p w t long in
    (λ i. has (same i) (sym was i) (sym is i)) ∙ fold_has values values_lawful w n v t x permits t1 tv tn

module _ (kind : Kind) (p k : ℕ) (clock input : Wave Value) (limits : Limits) where
  if_rises : (b : Bool) (o : Option Fault) → b ≡ true → cond b o None ≡ None → o ≡ None
  if_rises true o e none = none
  if_rises false o e none = cc

  quiet_edge : (s : ℕ) → checker_fault kind p k clock input limits ≡ None → s < p → has (fold values clock s) false true ≡ true →
      window_fault p k (fold values input) s (window_of kind p (fold values clock) limits s) ≡ None
  unfolding checker_fault
  quiet_edge s none below rises =
      if_rises (has (fold values clock s) false true) (window_fault p k (fold values input) s (window_of kind p (fold values clock) limits s)) rises
      (first_some_none (edge_fault kind p k (fold values clock) (fold values input) limits) p 0 s none (omega arith) (omega arith))

  -- the edge of a tick
  quiet_rise : (n edge v : ℕ) (c : Signal) → 0 < p → length clock.cells ≡ p → Permits values clock n c v →
      checker_fault kind p k clock input limits ≡ None → Rises c edge → 1 ≤ edge → v ≤ edge → edge < n →
      window_fault p k (fold values input) (edge % p) (window_of kind p (fold values clock) limits (edge % p)) ≡ None
  quiet_rise n edge v c pos long permits none up e1 ev en =
      quiet_edge (edge % p) none (mod-lt edge pos)
      (ap (λ (u : Value). has u false true) (fold_mod values p clock edge long) ∙ step_has p clock n edge v edge c false true long permits refl up.0 up.1 e1 ev en)

-- ---- setup and hold

pub setup_hold_kept : (p k : ℕ) (clock input : Wave Value) (limits : Limits) (n edge change v u : ℕ) (c x : Signal) → 0 < p → length clock.cells ≡ p → length input.cells ≡ p →
    Permits values clock n c v → Permits values input n x u → checker_fault SetupHold p k clock input limits ≡ None → Rises c edge → 1 ≤ edge → v ≤ edge → edge < n →
    1 ≤ change → u ≤ change → change < n → edge + 1 ≤ change + setup_of limits → change ≤ edge + hold_of limits → x (change - 1) ≡ x change
setup_hold_kept p k clock input limits n edge change v u c x pos long long' permits permits' none up e1 ev en c1 cu cn near far =
    still_near p k input (about limits) n edge change u x pos long' permits'
    (quiet_rise SetupHold p k clock input limits n edge v c pos long permits none up e1 ev en) near (omega arith) c1 cu cn

-- ---- rise and fall

low_at : (b : Bool) (j m : ℕ) → cond b None (Some j) ≡ Some m → (b ≡ false) × (j ≡ m)
low_at true j m e = cc
low_at false j m e = (refl, cc)

some_not_none : (o : Option ℕ) → is_none o ≡ false → is_some o ≡ true
some_not_none None e = cc
some_not_none (Some x) e = refl

module _ (p k : ℕ) (clock input : Wave Value) (limits : Limits) (n edge fall change v u : ℕ) (c x : Signal) (pos : 0 < p) (long : length clock.cells ≡ p) (long' : length input.cells ≡ p)
    (permits : Permits values clock n c v) (permits' : Permits values input n x u) (high : IsHighTo c edge fall) (e1 : 1 ≤ edge) (ev : v ≤ edge) (fn : fall < n)
    (c1 : 1 ≤ change) (cu : u ≤ change) (cn : change < n) (near : edge + 1 ≤ change + setup_of limits) (far : change ≤ fall + hold_of limits) where
  ordered : edge < fall
  ordered = high.ordered

  -- so many slots after the edge's, the clock falls
  falls_then : has (fold values clock (edge % p + (fall - edge))) true false ≡ true
  falls_then =
      let before = ordered in
      let there : edge + (fall - edge) ≡ fall = omega (arith, before) in
      step_has p clock n fall v (edge % p + (fall - edge)) c true false long permits (mod-add-mod edge p (fall - edge) ∙ ap (λ (z : ℕ). z % p) there)
      (high.high (fall - 1) (omega (arith, before)) (omega (arith, before))) high.falls (omega (arith, before)) (omega (arith, before)) fn

  -- and before it stays high
  stays_till : (j : ℕ) → 1 ≤ j → edge + j < fall → has (fold values clock (edge % p + j)) true true ≡ true
  stays_till j one before =
      step_has p clock n (edge + j) v (edge % p + j) c true true long permits (mod-add-mod edge p j)
      (high.high (edge + j - 1) (omega arith) (omega arith)) (high.high (edge + j) (omega arith) before) (omega arith) (omega arith) (omega arith)

  low_late : (m : ℕ) → first_low p (fold values clock) (edge % p) ≡ Some m → fall ≤ edge + m
  low_late m low = elim (cases_lt (edge + m) fall) [
    | inr after ↦ after
    | inl before ↦
        let found = first_some_is (λ j. cond (has (fold values clock (edge % p + j)) true true) None (Some j)) p 1 m low in
        let at = found.at in
        let one : 1 ≤ found.at = found.above in
        let is : (has (fold values clock (edge % p + found.at)) true true ≡ false) × (found.at ≡ m) = low_at (has (fold values clock (edge % p + found.at)) true true) found.at m found.is in
        let same : found.at ≡ m = is.1 in
        let stays : has (fold values clock (edge % p + found.at)) true true ≡ true = stays_till found.at one (omega (arith, same, before)) in
        absurd (both_ways (has (fold values clock (edge % p + found.at)) true true) is.0 stays)
  ]

  by_last : (m : ℕ) → fall ≤ edge + m → window_fault p k (fold values input) (edge % p) (to_last_fall limits (last_fall (fold values clock) (edge % p) m)) ≡ None → x (change - 1) ≡ x change
  by_last m within none =
      let before = ordered in
      let later = last_to_later (λ j. has (fold values clock (edge % p + j)) true false) m (fall - edge) (omega (arith, before)) (omega (arith, within)) falls_then in
      let last : fall - edge ≤ later.last = later.later in
      still_near p k input (record { setup = setup_of limits; high = later.last; hold = hold_of limits }) n edge change u x pos long' permits'
      (ap (λ (o : Option ℕ). window_fault p k (fold values input) (edge % p) (to_last_fall limits o)) (sym later.is) ∙ none)
      near (omega (arith, last, far)) c1 cu cn

  falls_anywhere : falls_somewhere p (fold values clock) ≡ true
  falls_anywhere =
      let before = ordered in
      let slot : fall % p < p = mod-lt fall pos in
      let here : has (fold values clock (fall % p)) true false ≡ true =
      ap (λ (w : Value). has w true false) (fold_mod values p clock fall long)
      ∙ step_has p clock n fall v fall c true false long permits refl
      (high.high (fall - 1) (omega (arith, before)) (omega (arith, before))) high.falls (omega (arith, before)) (omega (arith, before)) fn in
      some_not_none (first_some (λ s. cond (has (fold values clock s) true false) (Some s) None) p 0)
      (first_some_some (λ s. cond (has (fold values clock s) true false) (Some s) None) p 0 (fall % p) (omega arith) (omega (arith, slot)) (ap (λ b. is_none (cond b (Some (fall % p)) None)) here))

  by_round : window_fault p k (fold values input) (edge % p) (all_round p limits (falls_somewhere p (fold values clock))) ≡ None → x (change - 1) ≡ x change
  by_round none =
      let w : Window = record { setup = setup_of limits; high = p; hold = 0 } in
      let j : ℕ = back p change (edge + 1) in
      let small : back p change (edge + 1) < p = back_lt p change (edge + 1) pos in
      still_in p input n change u (slot_at p (record { setup = setup_of limits; high = p; hold = 0 }) (edge % p) (setup_of limits + back p change (edge + 1))) x long' permits'
      (quiet_place p k (fold values input) (record { setup = setup_of limits; high = p; hold = 0 }) (edge % p) (setup_of limits + back p change (edge + 1))
      (ap (λ b. window_fault p k (fold values input) (edge % p) (all_round p limits b)) (sym falls_anywhere) ∙ none) (omega (arith, small)))
      (slot_near p edge (edge + 1 + back p change (edge + 1)) (setup_of limits + back p change (edge + 1)) (setup_of limits) pos (omega arith) ∙ slot_behind p edge change pos)
      c1 cu cn

  by_low : (o : Option ℕ) → first_low p (fold values clock) (edge % p) ≡ o →
      window_fault p k (fold values input) (edge % p) (high_window_to p (fold values clock) limits (edge % p) o) ≡ None → x (change - 1) ≡ x change
  by_low (Some m) low none = by_last m (low_late m low) none
  by_low None low none = by_round none

  pub rise_fall_kept : checker_fault RiseFall p k clock input limits ≡ None → x (change - 1) ≡ x change
  rise_fall_kept none =
      by_low (first_low p (fold values clock) (edge % p)) refl
      (quiet_rise RiseFall p k clock input limits n edge v c pos long permits none high.rises e1 ev (let before = ordered in omega (arith, before)))
