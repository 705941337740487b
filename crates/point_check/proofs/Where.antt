-- What a scan that goes from run to run has found.
use Rattle.std.proofs.Common.{inl, inr, ◌≡◌, ℕ, zero, suc, ◌+◌, ◌-◌, ◌%◌, ◌<◌, ◌≤◌, Bool, true, false, not, cond, get_or, List, length, refl, sym, ap, subst, ◌∙◌, arith, Option, Some, None}
use Rattle.std.specs.Prelude.{IfSome}
use Rattle.std.proofs.lemmas.Bool.{cases_eq, not-false, not-true}
use Rattle.std.proofs.Math.Nat.{mod-add-mod}
use Rattle.scald_base.specs.Clock.{back}
use Rattle.scald_base.proofs.Back.{back_back, back_sooner}
use Rattle.step_values.specs.declared.value.Value.{Value}
use Rattle.step_values.specs.declared.value.Value.TheVariants.{U}
use Rattle.step_values.specs.Steps.{has, is_quiet}
use Rattle.step_values.specs.Cell.{values}
use Rattle.wave_core.specs.Slots.{earlier}
use Rattle.skew_algebra.proofs.Moves.{earlier_mod}
use Rattle.element_kinds.specs.declared.kind.Kind.{Kind}
use Rattle.fixpoint_engine.specs.Pins.{read}
use Rattle.fixpoint_engine.proofs.ReadSlots.{below_run}
use Rattle.point_check.specs.declared.window.Window.{Window}
use Rattle.point_check.specs.Window.{Folds, places, slot_at, mover_at, first_mover}
use Rattle.point_check.specs.Next.{IsNextEdge}
use Rattle.point_check.specs.Point.{first_low, last_to, falls_somewhere, edge_fault}
use Rattle.point_check.proofs.Found.{no_mover, a_mover, first_mover_here, first_mover_nowhere, stays_high, gets_low, first_low_here, first_low_nowhere, falls_here, falls_nowhere, no_edge}
use Rattle.flat_circuit.specs.declared.limits.Limits.{Limits}

-- places of a window are counted on from its first slot
read_place : (cells : List Value) (w : Window) (t from place : ℕ) → from ≡ slot_at (length cells) w t 0 → read cells (slot_at (length cells) w t place) ≡ read cells (from + place)
unfolding earlier
read_place cells w t from place is =
    let p : ℕ = length cells in
    let on : t + 1 + place ≡ t + 1 + 0 + place = omega arith in
    ap (λ (z : ℕ). get_or cells z U)
    (back_back p (t + 1 + place) w.setup 0 ∙ ap (λ (z : ℕ). back p z (w.setup + 0)) on ∙ sym (back_sooner p (t + 1 + 0) w.setup place 0) ∙ ap (λ (z : ℕ). back p (z + place) 0) (sym is))

module _ (cells : List Value) (w : Window) (t from : ℕ) (is : from ≡ slot_at (length cells) w t 0) where
  still_quiet : (k : ℕ) → false ≡ not (is_quiet (read cells (from + k))) → mover_at (length cells) (read cells) w t k ≡ None
  still_quiet k says = no_mover (length cells) (read cells) w t k (read cells (from + k)) (read_place cells w t from k is) (not-false _ (sym says))

  pub all_quiet : ((k : ℕ) → k < places w → false ≡ not (is_quiet (read cells (from + k)))) → None ≡ first_mover (length cells) (read cells) w t
  all_quiet none = first_mover_nowhere (length cells) (read cells) w t (λ k below. still_quiet k (none k below))

  pub mover_where : (place : ℕ) → place < places w → ((k : ℕ) → k < place → false ≡ not (is_quiet (read cells (from + k)))) → true ≡ not (is_quiet (read cells (from + place))) →
      Some place ≡ first_mover (length cells) (read cells) w t
  mover_where place within before here =
      first_mover_here (length cells) (read cells) w t place (λ k below. still_quiet k (before k below)) within
      (a_mover (length cells) (read cells) w t place (read cells (from + place)) (read_place cells w t from place is) (not-true _ (sym here)))

-- the slot that many after a rise, counted from the slot after it
read_behind : (cells : List Value) (period t from k : ℕ) → period ≡ length cells → from ≡ (t + 1) % period → read cells (t + (k + 1)) ≡ read cells (from + k)
read_behind cells period t from k same is =
    let on : t + (k + 1) ≡ t + 1 + k = omega arith in
    let there : (t + (k + 1)) % length cells ≡ (from + k) % length cells =
    ap (λ (z : ℕ). z % length cells) on ∙ sym (mod-add-mod (t + 1) (length cells) k) ∙ ap (λ (z : ℕ). ((t + 1) % z + k) % length cells) (sym same) ∙ ap (λ (z : ℕ). (z + k) % length cells) (sym is) in
    sym (earlier_mod values cells (t + (k + 1)) 0) ∙ ap (read cells) there ∙ earlier_mod values cells (from + k) 0

module _ (cells : List Value) (period t from : ℕ) (same : period ≡ length cells) (is : from ≡ (t + 1) % period) where
  still_high : (n k : ℕ) → ((k : ℕ) → k < n → false ≡ not (has (read cells (from + k)) true true)) → 1 ≤ k → k < n + 1 → cond (has (read cells (t + k)) true true) None (Some k) ≡ None
  still_high n k none one below =
      let more : k - 1 + 1 ≡ k = omega arith in
      subst (λ (z : ℕ). cond (has (read cells (t + z)) true true) None (Some z) ≡ None) more
      (stays_high (read cells) t (k - 1 + 1) (read cells (from + (k - 1))) (read_behind cells period t from (k - 1) same is) (not-false _ (sym (none (k - 1) (omega arith)))))

  pub never_low : ((k : ℕ) → k < period → false ≡ not (has (read cells (from + k)) true true)) → None ≡ first_low (length cells) (read cells) t
  never_low none = first_low_nowhere (length cells) (read cells) t (λ k one below. still_high period k none one (omega (arith, same, below)))

  pub low_where : (place : ℕ) → place < period → ((k : ℕ) → k < place → false ≡ not (has (read cells (from + k)) true true)) → true ≡ not (has (read cells (from + place)) true true) →
      Some (place + 1) ≡ first_low (length cells) (read cells) t
  low_where place within before here =
      first_low_here (length cells) (read cells) t (place + 1) (λ k one less. still_high place k before one less) (omega arith) (omega (arith, within, same))
      (gets_low (read cells) t (place + 1) (read cells (from + place)) (read_behind cells period t from place same is) (not-true _ (sym here)))

module _ (cells : List Value) (period : ℕ) (same : period ≡ length cells) where
  falls_at : (k : ℕ) → has (read cells k) true false ≡ has (read cells (0 + k)) true false
  falls_at k = let on : k ≡ 0 + k = omega arith in ap (λ (z : ℕ). has (read cells z) true false) on

  pub never_falls : ((k : ℕ) → k < period → false ≡ has (read cells (0 + k)) true false) → false ≡ falls_somewhere (length cells) (read cells)
  never_falls none = falls_nowhere (length cells) (read cells) (λ k below. falls_at k ∙ sym (none k (omega (arith, same, below))))

  pub falls_where : (slot : ℕ) → slot < period → ((k : ℕ) → k < slot → false ≡ has (read cells (0 + k)) true false) → true ≡ has (read cells (0 + slot)) true false →
      true ≡ falls_somewhere (length cells) (read cells)
  falls_where slot within before here =
      falls_here (length cells) (read cells) slot (λ k below. falls_at k ∙ sym (before k below)) (omega (arith, within, same)) (falls_at slot ∙ sym here)

-- ---- the next edge

module _ (cells : List Value) (period from left : ℕ) (same : period ≡ length cells) (most : from ≤ period) (is : left ≡ period - from) where
  no_rise : (n s : ℕ) → ((k : ℕ) → k < n → false ≡ has (read cells (from + k)) false true) → from ≤ s → s < from + n → has (read cells s) false true ≡ false
  no_rise n s none above below =
      let on : from + (s - from) ≡ s = omega arith in
      ap (λ (z : ℕ). has (read cells z) false true) (sym on) ∙ sym (none (s - from) (omega arith))

  pub no_next : ((k : ℕ) → k < left → false ≡ has (read cells (from + k)) false true) → IsNextEdge (read cells) from (length cells) period
  no_next none = record {
    after = most;
    within = omega (arith, same);
    none =
        λ s above below. no_rise left s none above (omega (arith, is, below, most));
    at = λ below. absurd (omega (arith, same, below));
  }

  pub is_next : (place : ℕ) → place < left → ((k : ℕ) → k < place → false ≡ has (read cells (from + k)) false true) → true ≡ has (read cells (from + place)) false true →
      IsNextEdge (read cells) from (length cells) (from + place)
  is_next place within before here =
      record { after = omega arith; within = omega (arith, is, within, most, same); none = λ s above below. no_rise place s before above below; at = λ below. sym here }

pub past_edges : (kind : Kind) (p k : ℕ) (clock input : Folds) (limits : Limits) (edge next : ℕ) → ((s : ℕ) → s < edge → edge_fault kind p k clock input limits s ≡ None) →
    None ≡ edge_fault kind p k clock input limits edge → IsNextEdge clock (edge + 1) p next → (s : ℕ) → s < next → edge_fault kind p k clock input limits s ≡ None
past_edges kind p k clock input limits edge next before here to =
    below_run (λ s. edge_fault kind p k clock input limits s ≡ None) edge next before (λ s above below. elim (cases_eq edge s) [
      | inl e ↦ subst (λ (z : ℕ). edge_fault kind p k clock input limits z ≡ None) e (sym here)
      | inr ne ↦ sym (no_edge kind p k clock input limits s (clock s) refl (to.none s (omega arith) below))
    ])

-- ---- the last of a run

pub last_to_run : (test : ℕ → Bool) (n m : ℕ) (b : Bool) → n < m → ((k : ℕ) → n < k → k ≤ m → test k ≡ b) → last_to test m ≡ cond b (Some m) (last_to test n)
last_to_run test n zero b less run = absurd (omega arith)
last_to_run test n (suc m) true less run = ap (λ b. cond b (Some (suc m)) (last_to test m)) (run (suc m) (omega arith) (omega arith))
last_to_run test n (suc m) false less run = elim (cases_eq n m) [
  | inl e ↦ ap (λ b. cond b (Some (suc m)) (last_to test m)) (run (suc m) (omega arith) (omega arith)) ∙ ap (last_to test) (sym e)
  | inr ne ↦ ap (λ b. cond b (Some (suc m)) (last_to test m)) (run (suc m) (omega arith) (omega arith))
      ∙ last_to_run test n m false (omega arith) (λ k above most. run k above (omega arith))
]

small_either : (n m : ℕ) (o : Option ℕ) (b : Bool) → suc n ≤ m → IfSome o (λ j. j ≤ m) → IfSome (cond b (Some (suc n)) o) (λ j. j ≤ m)
small_either n m o true most before = most
small_either n m o false most before = before

pub last_to_small : (test : ℕ → Bool) (n m : ℕ) → n ≤ m → IfSome (last_to test n) (λ j. j ≤ m)
last_to_small test zero m most = tt
last_to_small test (suc n) m most = small_either n m (last_to test n) (test (suc n)) most (last_to_small test n m (omega arith))
