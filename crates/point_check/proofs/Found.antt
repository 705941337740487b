-- What the search for a checker's fault has found, step by step.
use Rattle.std.proofs.Common.{◌≡◌, ℕ, ◌+◌, ◌<◌, ◌≤◌, true, false, cond, sym, ap, ◌∙◌, arith, Option, Some, None}
use Rattle.std.specs.Prelude.{is_some}
use Rattle.std.specs.Option.{option_map}
use Rattle.step_values.specs.declared.value.Value.{Value}
use Rattle.step_values.specs.Steps.{has, is_quiet, letter_of}
use Rattle.element_kinds.specs.declared.kind.Kind.{Kind}
use Rattle.flat_circuit.specs.declared.fault.PointKind.{PointKind}
use Rattle.flat_circuit.specs.declared.fault.Fault.{Fault}
use Rattle.flat_circuit.specs.declared.fault.Fault.TheVariants.{Point}
use Rattle.flat_circuit.specs.declared.limits.Limits.{Limits}
use Rattle.gate_eval.proofs.Found.{first_some_at, first_some_from, first_some_beyond, first_some_nowhere}
use Rattle.point_check.specs.declared.window.Window.{Window}
use Rattle.point_check.specs.Window.{Folds, places, slot_at, kind_at, mover_at, first_mover, fault_at, window_fault}
use Rattle.point_check.specs.Point.{first_low, falls_somewhere, window_of, edge_fault, first_fault}

-- ---- one place of a window

pub no_mover : (p : ℕ) (input : Folds) (w : Window) (t place : ℕ) (v : Value) → input (slot_at p w t place) ≡ v → is_quiet v ≡ true → mover_at p input w t place ≡ None
no_mover p input w t place v is quiet = ap (λ b. cond b None (Some place)) (ap is_quiet is ∙ quiet)

pub a_mover : (p : ℕ) (input : Folds) (w : Window) (t place : ℕ) (v : Value) → input (slot_at p w t place) ≡ v → is_quiet v ≡ false → mover_at p input w t place ≡ Some place
a_mover p input w t place v is moves = ap (λ b. cond b None (Some place)) (ap is_quiet is ∙ moves)

pub first_mover_here : (p : ℕ) (input : Folds) (w : Window) (t place : ℕ) → ((k : ℕ) → k < place → mover_at p input w t k ≡ None) → place < places w → mover_at p input w t place ≡ Some place →
    Some place ≡ first_mover p input w t
first_mover_here p input w t place before below here =
    sym (first_some_at (mover_at p input w t) (places w) 0 place place before (omega arith) (omega arith) here)

pub first_mover_nowhere : (p : ℕ) (input : Folds) (w : Window) (t : ℕ) → ((k : ℕ) → k < places w → mover_at p input w t k ≡ None) → None ≡ first_mover p input w t
first_mover_nowhere p input w t nowhere = sym (first_some_nowhere (mover_at p input w t) (places w) 0 (λ k below. nowhere k (omega arith)))

-- ---- the fault of an edge

pub same_fault : (p k : ℕ) (input : Folds) (w : Window) (t place : ℕ) (kind : PointKind) (slot : ℕ) (v : Value) (letter : ℕ) → kind ≡ kind_at w place → slot ≡ slot_at p w t place →
    input slot ≡ v → letter ≡ letter_of v → Point kind k t slot letter ≡ fault_at p k input w t place
same_fault p k input w t place kind slot v letter of at is says =
    let value : letter ≡ letter_of (input (slot_at p w t place)) = says ∙ ap letter_of (sym is ∙ ap input at) in
    λ i. Point (of i) k t (at i) (value i)

pub no_window_fault : (p k : ℕ) (input : Folds) (w : Window) (t : ℕ) → None ≡ first_mover p input w t → None ≡ window_fault p k input t (Some w)
no_window_fault p k input w t none = ap (option_map (fault_at p k input w t)) none

pub a_window_fault : (p k : ℕ) (input : Folds) (w : Window) (t place : ℕ) (fault : Fault) → Some place ≡ first_mover p input w t → fault ≡ fault_at p k input w t place →
    Some fault ≡ window_fault p k input t (Some w)
a_window_fault p k input w t place fault first is = ap (λ (f : Fault). Some f) is ∙ ap (option_map (fault_at p k input w t)) first

-- ---- the time while a clock may be high

pub stays_high : (clock : Folds) (t j : ℕ) (v : Value) → clock (t + j) ≡ v → has v true true ≡ true → cond (has (clock (t + j)) true true) None (Some j) ≡ None
stays_high clock t j v is high = ap (λ b. cond b None (Some j)) (ap (λ (u : Value). has u true true) is ∙ high)

pub gets_low : (clock : Folds) (t j : ℕ) (v : Value) → clock (t + j) ≡ v → has v true true ≡ false → cond (has (clock (t + j)) true true) None (Some j) ≡ Some j
gets_low clock t j v is low = ap (λ b. cond b None (Some j)) (ap (λ (u : Value). has u true true) is ∙ low)

pub first_low_here : (p : ℕ) (clock : Folds) (t j : ℕ) → ((k : ℕ) → 1 ≤ k → k < j → cond (has (clock (t + k)) true true) None (Some k) ≡ None) → 1 ≤ j → j < p + 1 →
    cond (has (clock (t + j)) true true) None (Some j) ≡ Some j → Some j ≡ first_low p clock t
first_low_here p clock t j before one below here =
    sym (first_some_from (λ k. cond (has (clock (t + k)) true true) None (Some k)) p 1 j j before one (omega arith) here)

pub first_low_nowhere : (p : ℕ) (clock : Folds) (t : ℕ) → ((k : ℕ) → 1 ≤ k → k < p + 1 → cond (has (clock (t + k)) true true) None (Some k) ≡ None) → None ≡ first_low p clock t
first_low_nowhere p clock t nowhere =
    sym (first_some_beyond (λ k. cond (has (clock (t + k)) true true) None (Some k)) p 1 (λ k one below. nowhere k one (omega arith)))

pub falls_here : (p : ℕ) (clock : Folds) (s : ℕ) → ((k : ℕ) → k < s → has (clock k) true false ≡ false) → s < p → has (clock s) true false ≡ true → true ≡ falls_somewhere p clock
falls_here p clock s before below here =
    sym (ap is_some (first_some_at (λ k. cond (has (clock k) true false) (Some k) None) p 0 s s
    (λ k l. ap (λ b. cond b (Some k) None) (before k l)) (omega arith) (omega arith) (ap (λ b. cond b (Some s) None) here)))

pub falls_nowhere : (p : ℕ) (clock : Folds) → ((k : ℕ) → k < p → has (clock k) true false ≡ false) → false ≡ falls_somewhere p clock
falls_nowhere p clock nowhere =
    sym (ap is_some (first_some_nowhere (λ k. cond (has (clock k) true false) (Some k) None) p 0
    (λ k below. ap (λ b. cond b (Some k) None) (nowhere k (omega arith)))))

-- ---- all edges

pub no_edge : (kind : Kind) (p k : ℕ) (clock input : Folds) (limits : Limits) (t : ℕ) (v : Value) → clock t ≡ v → has v false true ≡ false → None ≡ edge_fault kind p k clock input limits t
no_edge kind p k clock input limits t v is low =
    sym (ap (λ b. cond b (window_fault p k input t (window_of kind p clock limits t)) None) (ap (λ (u : Value). has u false true) is ∙ low))

pub an_edge : (kind : Kind) (p k : ℕ) (clock input : Folds) (limits : Limits) (t : ℕ) (v : Value) (window : Option Window) (found : Option Fault) → clock t ≡ v → has v false true ≡ true →
    window ≡ window_of kind p clock limits t → found ≡ window_fault p k input t window → found ≡ edge_fault kind p k clock input limits t
an_edge kind p k clock input limits t v window found is rises of so =
    so ∙ ap (window_fault p k input t) of
    ∙ sym (ap (λ b. cond b (window_fault p k input t (window_of kind p clock limits t)) None) (ap (λ (u : Value). has u false true) is ∙ rises))

pub first_fault_here : (kind : Kind) (p k : ℕ) (clock input : Folds) (limits : Limits) (t : ℕ) (fault : Fault) → ((s : ℕ) → s < t → edge_fault kind p k clock input limits s ≡ None) → t < p →
    Some fault ≡ edge_fault kind p k clock input limits t → Some fault ≡ first_fault kind p k clock input limits
first_fault_here kind p k clock input limits t fault before below here =
    sym (first_some_at (edge_fault kind p k clock input limits) p 0 t fault before (omega arith) (omega arith) (sym here))

pub first_fault_nowhere : (kind : Kind) (p k : ℕ) (clock input : Folds) (limits : Limits) → ((s : ℕ) → s < p → edge_fault kind p k clock input limits s ≡ None) →
    None ≡ first_fault kind p k clock input limits
first_fault_nowhere kind p k clock input limits nowhere =
    sym (first_some_nowhere (edge_fault kind p k clock input limits) p 0 (λ s below. nowhere s (omega arith)))
