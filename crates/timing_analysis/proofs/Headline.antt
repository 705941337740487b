-- What has no fault in settled waves is never broken.
use Rattle.std.proofs.Common.{◌≡◌, ℕ, ◌+◌, ◌*◌, ◌<◌, ◌≤◌, Bool, true, false, List, [], ◌∷◌, ◌++◌, length, refl, sym, ap, ◌∙◌, arith}
use Rattle.std.specs.Prelude.{◌||◌}
use Rattle.std.specs.List.{All, list_any}
use Rattle.std.proofs.lemmas.List.Elements.{All-head, All-tail, All-cons, All-nil}
use Rattle.std.proofs.lemmas.List.Sums.{sum_by-cons}
use Rattle.std.proofs.lemmas.List.Folds.{list_any-append}
use Rattle.scald_base.specs.Time.{Header, period}
use Rattle.flat_circuit.specs.declared.fault.Fault.{Fault}
use Rattle.flat_circuit.specs.Circuit.{Circuit, IsCircuit}
use Rattle.fixpoint_engine.specs.Waves.{Waves}
use Rattle.fixpoint_engine.proofs.Fits.{AreLong}
use Rattle.fixpoint_engine.specs.Reach.{reach}
use Rattle.flat_circuit.specs.declared.case.CaseValue.{CaseValue}
use Rattle.case_analysis.specs.Case.{PermitCase}
use Rattle.case_analysis.specs.Tick.{tick}
use Rattle.point_check.specs.Faults.{is_of_instance, is_of_net}
use Rattle.point_check.specs.Sound.{KeepsConstraints}
use Rattle.timing_analysis.proofs.Reached.{all_pins_permit, no_instance_breaks, no_net_breaks}
use Rattle.pulse_check.specs.Sound.{is_of_pulse, KeepsWidths}
use Rattle.timing_analysis.specs.Case.{Case, faults, fault_count}
use Rattle.timing_analysis.specs.Laws.{FaultlessIsUnbroken}
use Rattle.timing_analysis.specs.Promise.{by_instance, by_pulse, by_net, IsUnbroken, KeepsFaultless, IsKept, IsSafe}

-- ---- the faults of both checks together

or_left : (a b : Bool) → (a || b) ≡ false → a ≡ false
or_left true b e = absurd cc
or_left false b e = refl

or_right : (a b : Bool) → (a || b) ≡ false → b ≡ false
or_right true b e = absurd cc
or_right false b e = e

none_first : (test : Fault → Bool) (fs gs all : List Fault) → all ≡ fs ++ gs → list_any test all ≡ false → list_any test fs ≡ false
none_first test fs gs all e none = or_left (list_any test fs) (list_any test gs) (sym (list_any-append test fs gs) ∙ ap (list_any test) (sym e) ∙ none)

none_second : (test : Fault → Bool) (fs gs all : List Fault) → all ≡ fs ++ gs → list_any test all ≡ false → list_any test gs ≡ false
none_second test fs gs all e none = or_right (list_any test fs) (list_any test gs) (sym (list_any-append test fs gs) ∙ ap (list_any test) (sym e) ∙ none)

-- the printed tick lies a reach less one tick after the tick from which on the settled waves permit the nets
printed_after : (b r n : ℕ) → (b + r) * n + 1 + n ≤ (b + r + 1) * n + 1
printed_after b r n = omega arith

module _ (c : Circuit) (ws : Waves) (fs gs all : List Fault) (some : 0 < period c.header) (known : IsCircuit c) (long : AreLong c ws)
    (points : KeepsConstraints c ws fs) (widths : KeepsWidths c ws gs) (are : all ≡ fs ++ gs) (values : List CaseValue) (b r : ℕ) (permits : PermitCase c values (b + r) ws) where
  -- What has no fault is not broken, from the tick on that is printed after so many rounds.
  pub keeps_faultless : KeepsFaultless c values all (tick (reach c) b r)
  keeps_faultless = record {
    instances = λ run k is_run meets inside none.
        no_instance_breaks c run ws fs ((b + r) * reach c + 1) (tick (reach c) b r) some known long points is_run (permits run is_run meets inside) (omega arith) (printed_after b r (reach c)) k
        (none_first (is_of_instance k) fs gs all are none);
    pulses = λ run k level is_run meets inside none.
        widths run k level (tick (reach c) b r) (none_second (is_of_pulse k level) fs gs all are none)
        (all_pins_permit c run ws k ((b + r) * reach c + 1) (tick (reach c) b r) some known long is_run (permits run is_run meets inside) (omega arith) (printed_after b r (reach c)));
    nets = λ run i is_run meets inside none.
        no_net_breaks c run ws fs ((b + r) * reach c + 1) (tick (reach c) b r) some known long points is_run (permits run is_run meets inside) (omega arith) (printed_after b r (reach c)) i
        (none_first (is_of_net i) fs gs all are none);
  }

-- ---- no fault at all

pub faultless_is_unbroken : FaultlessIsUnbroken
faultless_is_unbroken c base case clean keeps run is_run meets inside broken =
    elim broken as (λ _. ⊥) [
      | by_instance k b ↦ keeps.instances run k is_run meets inside (ap (list_any (is_of_instance k)) clean) b
      | by_pulse k level b ↦ keeps.pulses run k level is_run meets inside (ap (list_any (is_of_pulse k level)) clean) b
      | by_net i b ↦ keeps.nets run i is_run meets inside (ap (list_any (is_of_net i)) clean) b
    ]

no_fault : (fs : List Fault) → length fs ≡ 0 → fs ≡ []
no_fault [] e = refl
no_fault (f ∷ fs) e = absurd (omega arith)

-- If no fault is counted, no case has one, and nothing is broken.
all_unbroken : (c : Circuit) (base : ℕ) (cases : List Case) → fault_count c cases ≡ 0 → All (IsKept c base) cases → All (IsUnbroken c base) cases
all_unbroken c base [] none keeps = All-nil (IsUnbroken c base)
all_unbroken c base (case ∷ cases) none keeps =
    let counted : fault_count c (case ∷ cases) ≡ length (faults c case) + fault_count c cases = sum_by-cons (λ (k : Case). length (faults c k)) case cases in
    All-cons (IsUnbroken c base) case cases
    (faultless_is_unbroken c base case (no_fault (faults c case) (omega (arith, counted, none))) (All-head (IsKept c base) case cases keeps))
    (all_unbroken c base cases (omega (arith, counted, none)) (All-tail (IsKept c base) case cases keeps))

-- What is safe but for its faults is safe if there is none.
pub faultless_is_safe : (c : Circuit) (values : List (List CaseValue)) (limit : ℕ)
    (safe : IsSafe c values limit (IsKept c)) → fault_count c safe.cases ≡ 0 →
    IsSafe c values limit (IsUnbroken c)
faultless_is_safe c values limit safe none = record {
  base = safe.base;
  settles = safe.settles;
  cases = safe.cases;
  are_settled = safe.are_settled;
  each = all_unbroken c safe.base safe.cases none safe.each;
}

-- a period has a tick
pub some_period : (h k : Header) → h ≡ k → 2 ≤ period h → 0 < period k
some_period h k same two = omega (arith, ap period same, two)
