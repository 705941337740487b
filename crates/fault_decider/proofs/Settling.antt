-- Where each fault of settled cases is refuted, nothing is broken from the latest tick on.
use Rattle.std.specs.Prelude.{◌==◌, ◌&&◌, ◌||◌, if◌then◌else◌, slice_get}
use Rattle.std.proofs.Common.{◌≡◌, ℕ, ◌+◌, ◌≤◌, Bool, true, false, true≢false, not, List, [], ◌∷◌, ◌++◌, refl, sym, ap, subst, ◌∙◌, arith}
use Rattle.std.specs.List.{AllByRecursion, list_any, sum_by}
use Rattle.std.proofs.lemmas.Bool.{and_parts, eqb-true}
use Rattle.std.proofs.lemmas.List.Elements.{All-from_recursion, All-nil, recursion_from_All}
use Rattle.std.proofs.lemmas.List.Sums.{sum_by-append, sum_by-cons}
use Rattle.flat_circuit.specs.declared.case.CaseValue.{CaseValue}
use Rattle.flat_circuit.specs.declared.fault.Fault.{Fault}
use Rattle.flat_circuit.specs.declared.fault.Fault.TheVariants.{Point, Width, Hazard, Assertion}
use Rattle.flat_circuit.specs.Circuit.{Circuit}
use Rattle.flat_circuit.specs.Run.{IsRun, Run}
use Rattle.fixpoint_engine.specs.Interface.{MeetsInterface}
use Rattle.case_analysis.specs.Case.{IsInCase}
use Rattle.point_check.specs.Faults.{is_of_instance}
use Rattle.pulse_check.specs.Faults.{IsPulseChecker}
use Rattle.timing_analysis.specs.Case.{Case, faults, printed_tick}
use Rattle.timing_analysis.specs.Promise.{Breaks, IsKept, by_instance, by_net, by_pulse}
use Rattle.narrowing.specs.declared.constraint.Constraint.{Constraint}
use Rattle.narrowing.specs.declared.constraint.Constraint.TheVariants.{Instance as OfInstance, Pulse as OfPulse, Net as OfNet}
use Rattle.narrowing.specs.Constraint.{BreaksOf, constraint_of, is_of}
use Rattle.narrowing.proofs.Breaks.{breaks_sooner}
use Rattle.fault_decider.specs.declared.outcome.DecideOutcome.TheVariants.{Settled, Faulty}
use Rattle.fault_decider.specs.declared.verdict.Verdict.{Verdict}
use Rattle.fault_decider.specs.declared.verdict.Verdict.TheVariants.{Shown, Refuted, Window, Open}
use Rattle.fault_decider.specs.Decided.{AreCasesDecided, AreDecided, case_more, fault_more, no_case, no_fault, open_one, outcome_of, shown_one}
use Rattle.fault_decider.specs.Latest.{latest, latest_case, latest_verdict}
use Rattle.fault_decider.specs.Laws.{SettledIsUnbroken}
use Rattle.fault_decider.specs.Promise.{IsUnbrokenFrom}
use Rattle.fault_decider.specs.Verdict.{IsVerdict}
use Rattle.fault_decider.proofs.Widths.{IsOfPulses, all_of_pulses, pulses_unbroken}

by_bit : {P : Type 0} (b : Bool) → (b ≡ true → P) → (b ≡ false → P) → P
by_bit true p q = p refl
by_bit false p q = q refl

-- ---- nothing is shown, and nothing is open

pub none_left : (vs : List Verdict) → outcome_of vs ≡ Settled →
    (sum_by shown_one vs ≡ 0) × (sum_by open_one vs ≡ 0)
none_left vs settled = by (sum_by shown_one vs == 0) (sum_by open_one vs == 0) refl refl settled
  where
    by : (s o : Bool) → (sum_by shown_one vs == 0) ≡ s → (sum_by open_one vs == 0) ≡ o →
        (if s && o then Settled else Faulty) ≡ Settled →
        (sum_by shown_one vs ≡ 0) × (sum_by open_one vs ≡ 0)
    by true true shown left_open same =
        (eqb-true (sum_by shown_one vs) 0 shown, eqb-true (sum_by open_one vs) 0 left_open)
    by true false shown left_open same = absurd (cc)
    by false o shown left_open same = absurd (cc)

-- ---- whose a fault is

abbrev is_width : Fault → Bool
is_width (Width k high start width) = true
is_width (Point kind k edge slot value) = false
is_width (Hazard k slot pin) = false
is_width (Assertion net slot value) = false

-- the fault is of the constraint, and of no other
abbrev is_own : Constraint → Fault → Bool
is_own (OfInstance k) f = is_of_instance k f && not (is_width f)
is_own (OfPulse k high) f = is_of (OfPulse k high) f
is_own (OfNet i) f = is_of (OfNet i) f

same_bit : (a b : Bool) → (if a then b else not b) ≡ true → a ≡ b
same_bit true true is = refl
same_bit true false is = absurd (true≢false (sym is))
same_bit false true is = absurd (true≢false (sym is))
same_bit false false is = refl

own_constraint : (x : Constraint) (f : Fault) → is_own x f ≡ true → constraint_of f ≡ x
own_constraint (OfInstance k) (Point kind j edge slot value) own =
    ap OfInstance (eqb-true j k (and_parts (j == k) true own).0)
own_constraint (OfInstance k) (Hazard j slot pin) own =
    ap OfInstance (eqb-true j k (and_parts (j == k) true own).0)
own_constraint (OfInstance k) (Width j high start width) own =
    absurd (true≢false (sym (and_parts (j == k) false own).1))
own_constraint (OfInstance k) (Assertion net slot value) own = absurd (true≢false (sym own))
own_constraint (OfPulse k level) (Width j high start width) own =
    let both = and_parts (j == k) (if high then level else not level) own in
    ap (λ (n : ℕ). OfPulse n high) (eqb-true j k both.0)
    ∙ ap (OfPulse k) (same_bit high level both.1)
own_constraint (OfPulse k level) (Point kind j edge slot value) own = absurd (true≢false (sym own))
own_constraint (OfPulse k level) (Hazard j slot pin) own = absurd (true≢false (sym own))
own_constraint (OfPulse k level) (Assertion net slot value) own = absurd (true≢false (sym own))
own_constraint (OfNet i) (Assertion net slot value) own = ap OfNet (eqb-true net i own)
own_constraint (OfNet i) (Point kind j edge slot value) own = absurd (true≢false (sym own))
own_constraint (OfNet i) (Hazard j slot pin) own = absurd (true≢false (sym own))
own_constraint (OfNet i) (Width j high start width) own = absurd (true≢false (sym own))

-- an instance of which all faults are of widths measures pulses
widths_alone : (c : Circuit) (k : ℕ) (fs : List Fault) → AllByRecursion (IsOfPulses c) fs →
    list_any (is_of_instance k) fs ≡ true → list_any (is_own (OfInstance k)) fs ≡ false →
    IsPulseChecker (slice_get c.instances k)
widths_alone c k [] all some none = absurd (true≢false (sym some))
widths_alone c k (Width j high start width ∷ fs) all some none =
    by_bit (j == k)
    (λ here. subst (λ (n : ℕ). IsPulseChecker (slice_get c.instances n)) (eqb-true j k here) all.0)
    (λ other.
    widths_alone c k fs all.1
    (sym (ap (λ (b : Bool). b || list_any (is_of_instance k) fs) other) ∙ some)
    (sym (ap (λ (b : Bool). (b && false) || list_any (is_own (OfInstance k)) fs) other) ∙ none))
widths_alone c k (Point kind j edge slot value ∷ fs) all some none =
    by_bit (j == k)
    (λ here.
    absurd (true≢false (sym (ap (λ (b : Bool). (b && true) || list_any (is_own (OfInstance k)) fs) here) ∙ none)))
    (λ other.
    widths_alone c k fs all.1
    (sym (ap (λ (b : Bool). b || list_any (is_of_instance k) fs) other) ∙ some)
    (sym (ap (λ (b : Bool). (b && true) || list_any (is_own (OfInstance k)) fs) other) ∙ none))
widths_alone c k (Hazard j slot pin ∷ fs) all some none =
    by_bit (j == k)
    (λ here.
    absurd (true≢false (sym (ap (λ (b : Bool). (b && true) || list_any (is_own (OfInstance k)) fs) here) ∙ none)))
    (λ other.
    widths_alone c k fs all.1
    (sym (ap (λ (b : Bool). b || list_any (is_of_instance k) fs) other) ∙ some)
    (sym (ap (λ (b : Bool). (b && true) || list_any (is_own (OfInstance k)) fs) other) ∙ none))
widths_alone c k (Assertion net slot value ∷ fs) all some none = widths_alone c k fs all.1 some none

-- ---- faults of a case

module _ (c : Circuit) (values : List CaseValue) (run : Run) (is : IsRun c run)
    (meets : MeetsInterface c run) (in_case : IsInCase values run) where
  -- a verdict that is neither shown nor open refutes
  verdict_unbroken : (x : Constraint) (printed from : ℕ) (v : Verdict) → shown_one v ≡ 0 →
      open_one v ≡ 0 → latest_verdict (v ∷ []) ≤ from → IsVerdict c values x printed v →
      BreaksOf c run x from → ⊥
  verdict_unbroken x printed from (Shown s) shown left_open late verdict breaks =
      absurd (omega (arith, shown))
  verdict_unbroken x printed from Open shown left_open late verdict breaks =
      absurd (omega (arith, left_open))
  verdict_unbroken x printed from (Window tick) shown left_open late verdict breaks =
      verdict.never run is meets in_case (breaks_sooner c run x from tick (omega (arith, late)) breaks)
  verdict_unbroken x printed from (Refuted tick found) shown left_open late verdict breaks =
      verdict.never run is meets
      (record { in_case = in_case; keeps = All-nil _ })
      (breaks_sooner c run x from tick (omega (arith, late)) breaks)

  own_unbroken : (x : Constraint) (printed from : ℕ) (fs : List Fault) (vs : List Verdict)
      (lines : List ℕ) → AreDecided c values printed fs vs lines → sum_by shown_one vs ≡ 0 →
      sum_by open_one vs ≡ 0 → latest_verdict vs ≤ from → list_any (is_own x) fs ≡ true →
      BreaksOf c run x from → ⊥
  own_unbroken x printed from _ _ _ no_fault shown left_open late own breaks = true≢false (sym own)
  own_unbroken x printed from _ _ _ (fault_more {f = f} {fs = fs} {v = v} {vs = vs} {bytes = bytes}
      {others = others} here rest) shown left_open late own breaks =
      let shown_all = sum_by-cons shown_one v vs in
      let open_all = sum_by-cons open_one v vs in
      by_bit (is_own x f)
      (λ (same : is_own x f ≡ true).
      verdict_unbroken x printed from v (omega (arith, shown, shown_all))
      (omega (arith, left_open, open_all)) (omega (arith, late))
      (subst (λ (y : Constraint). IsVerdict c values y printed v) (own_constraint x f same) here.is)
      breaks)
      (λ (other : is_own x f ≡ false).
      own_unbroken x printed from fs vs others rest (omega (arith, shown, shown_all))
      (omega (arith, left_open, open_all)) (omega (arith, late))
      (sym (ap (λ (b : Bool). b || list_any (is_own x) fs) other) ∙ own) breaks)

-- ---- a case

module _ (c : Circuit) (base : ℕ) (k : Case) (from : ℕ) (vs : List Verdict) (lines : List ℕ)
    (kept : IsKept c base k)
    (are : AreDecided c k.listed.values (printed_tick c base k) (faults c k) vs lines)
    (shown : sum_by shown_one vs ≡ 0) (left_open : sum_by open_one vs ≡ 0)
    (printed : printed_tick c base k ≤ from) (late : latest_verdict vs ≤ from) (run : Run)
    (is : IsRun c run) (meets : MeetsInterface c run) (in_case : IsInCase k.listed.values run) where
  by_own : (x : Constraint) → list_any (is_own x) (faults c k) ≡ true → BreaksOf c run x from → ⊥
  by_own x =
      own_unbroken c k.listed.values run is meets in_case x (printed_tick c base k) from (faults c k) vs
      lines are shown left_open late

  instance_unbroken : (n : ℕ) → BreaksOf c run (OfInstance n) from → ⊥
  instance_unbroken n breaks =
      by_bit (list_any (is_own (OfInstance n)) (faults c k))
      (λ own. by_own (OfInstance n) own breaks)
      (λ none.
      by_bit (list_any (is_of_instance n) (faults c k))
      (λ some.
      pulses_unbroken c run n from
      (widths_alone c n (faults c k) (all_of_pulses c k) some none) breaks)
      (λ free.
      kept.instances run n is meets in_case free
      (breaks_sooner c run (OfInstance n) from (printed_tick c base k) printed breaks)))

  pulse_unbroken : (n : ℕ) (level : Bool) → BreaksOf c run (OfPulse n level) from → ⊥
  pulse_unbroken n level breaks =
      by_bit (list_any (is_of (OfPulse n level)) (faults c k))
      (λ own. by_own (OfPulse n level) own breaks)
      (λ free.
      kept.pulses run n level is meets in_case free
      (breaks_sooner c run (OfPulse n level) from (printed_tick c base k) printed breaks))

  net_unbroken : (i : ℕ) → BreaksOf c run (OfNet i) from → ⊥
  net_unbroken i breaks =
      by_bit (list_any (is_of (OfNet i)) (faults c k))
      (λ own. by_own (OfNet i) own breaks)
      (λ free.
      kept.nets run i is meets in_case free
      (breaks_sooner c run (OfNet i) from (printed_tick c base k) printed breaks))

  case_unbroken : Breaks c run from → ⊥
  case_unbroken (by_instance n breaks) = instance_unbroken n breaks
  case_unbroken (by_pulse n level breaks) = pulse_unbroken n level breaks
  case_unbroken (by_net i breaks) = net_unbroken i breaks

-- ---- all cases

latest_both : (us vs : List Verdict) (from : ℕ) → latest_verdict (us ++ vs) ≤ from →
    (latest_verdict us ≤ from) × (latest_verdict vs ≤ from)
latest_both [] vs from late = (omega arith, late)
latest_both (u ∷ us) vs from late =
    let others = latest_both us vs from (omega (arith, late)) in
    let some = others.0 in
    (omega (arith, late, some), others.1)

cases_unbroken : (c : Circuit) (base from : ℕ) (ks : List Case) (vs : List Verdict)
    (lines : List ℕ) → AreCasesDecided c base ks vs lines → AllByRecursion (IsKept c base) ks →
    sum_by shown_one vs ≡ 0 → sum_by open_one vs ≡ 0 → latest_case c base ks ≤ from →
    latest_verdict vs ≤ from → AllByRecursion (IsUnbrokenFrom c from base) ks
cases_unbroken c base from _ _ _ no_case kept shown left_open printed late = tt
cases_unbroken c base from _ _ _ (case_more {k = k} {ks = ks} {vs = us} {others = others}
    {bytes = bytes} {rest = rest} here more) kept shown left_open printed late =
    let shown_all = sum_by-append shown_one us others in
    let open_all = sum_by-append open_one us others in
    let both = latest_both us others from late in (
      λ run is meets in_case breaks.
          case_unbroken c base k from us bytes kept.0 here (omega (arith, shown, shown_all))
          (omega (arith, left_open, open_all)) (omega (arith, printed)) both.0 run is meets in_case
          breaks,
      cases_unbroken c base from ks others rest more kept.1 (omega (arith, shown, shown_all))
          (omega (arith, left_open, open_all)) (omega (arith, printed)) both.1,
    )

pub settled_is_unbroken : SettledIsUnbroken
settled_is_unbroken c base cases vs bytes are kept settled =
    let none = none_left vs settled in
    All-from_recursion (IsUnbrokenFrom c (latest c base cases vs) base) cases
    (cases_unbroken c base (latest c base cases vs) cases vs bytes are
    (recursion_from_All (IsKept c base) cases kept) none.0 none.1 (omega arith) (omega arith))
