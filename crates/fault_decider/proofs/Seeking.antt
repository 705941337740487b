-- One fault that is sought by its number, while faults and cases pass.
use Rattle.std.proofs.Common.{◌≡◌, ℕ, ◌+◌, ◌≤◌, true, List, [], ◌∷◌, ◌++◌, length, refl, sym, ap, subst, ◌∙◌, append_assoc, length-append, arith}
use Rattle.std.proofs.lemmas.List.Sums.{sum_by-append, sum_by-cons, sum_by_push}
use Rattle.flat_circuit.specs.declared.case.CaseValue.{CaseValue}
use Rattle.flat_circuit.specs.declared.fault.Fault.{Fault}
use Rattle.flat_circuit.specs.Circuit.{Circuit}
use Rattle.timing_analysis.specs.Case.{Case, fault_count, faults, printed_tick}
use Rattle.narrowing.specs.Constraint.{constraint_of}
use Rattle.trace_tool.specs.Trace.{trace_text}
use Rattle.fault_decider.specs.declared.answer.Answer.{Answer}
use Rattle.fault_decider.specs.declared.showing.Showing.{Showing}
use Rattle.fault_decider.specs.declared.verdict.Verdict.{Verdict}
use Rattle.fault_decider.specs.declared.verdict.Verdict.TheVariants.{Shown, Refuted, Window, Open}
use Rattle.fault_decider.specs.Decided.{IsNumbered}
use Rattle.fault_decider.specs.Reporting.{AreSought, HasSought, HasTrace, IsSought, TraceAdded, found, has_trace, no_trace, unfound}
use Rattle.fault_decider.specs.Verdict.{IsVerdict}

-- ---- faults of a case

module _ (c : Circuit) (values : List CaseValue) (printed i : ℕ) where
  pub sought_none : (start : Answer) → AreSought c values printed [] i start start
  sought_none start = record { passed = omega arith; has = unfound refl refl }

  -- one that is not wanted, or not shown
  module _ (g : Fault) (before : List Fault) (start old new : Answer)
      (next : new.faults ≡ old.faults + 1) (so_far : AreSought c values printed before i start old) where
    passed_one : new.faults ≡ start.faults + length (before ++ g ∷ [])
    passed_one =
        let long = length-append before (g ∷ []) in
        let past = so_far.passed in
        omega (arith, next, long, past)

    still_has : new.is_traced ≡ old.is_traced → new.bytes ≡ old.bytes →
        HasSought c values printed before i start old →
        HasSought c values printed (before ++ g ∷ []) i start new
    still_has traced bytes (unfound t b) = unfound (traced ∙ t) (bytes ∙ b)
    still_has traced bytes (found earlier later f s split number is t b) =
        found earlier (later ++ g ∷ []) f s
        (ap (λ (fs : List Fault). fs ++ g ∷ []) split ∙ append_assoc earlier (f ∷ later) (g ∷ []))
        number is (traced ∙ t) (bytes ∙ b)

    pub sought_passed : new.is_traced ≡ old.is_traced → new.bytes ≡ old.bytes →
        AreSought c values printed (before ++ g ∷ []) i start new
    sought_passed traced bytes = record {
      passed = passed_one;
      has = still_has traced bytes so_far.has;
    }

    -- the one that is wanted
    now_has : (s : Showing) → i ≡ new.faults → IsVerdict c values (constraint_of g) printed (Shown s) →
        new.is_traced ≡ true → new.bytes ≡ old.bytes ++ trace_text c s.trace →
        HasSought c values printed before i start old →
        HasSought c values printed (before ++ g ∷ []) i start new
    now_has s wanted is traced bytes (unfound t b) =
        let past = so_far.passed in
        found before [] g s refl (omega (arith, wanted, next, past)) is traced
        (bytes ∙ ap (λ (text : List ℕ). text ++ trace_text c s.trace) b)
    now_has s wanted is traced bytes (found earlier later f r split number shown t b) =
        let past = so_far.passed in
        let long = ap length split in
        let parts = length-append earlier (f ∷ later) in
        absurd (omega (arith, wanted, next, past, number, long, parts))

    pub sought_here : (v : Verdict) → i ≡ new.faults → IsVerdict c values (constraint_of g) printed v →
        TraceAdded c v old new → AreSought c values printed (before ++ g ∷ []) i start new
    sought_here (Shown s) wanted is added = record {
      passed = passed_one;
      has = now_has s wanted is added.0 added.1 so_far.has;
    }
    sought_here (Refuted from leaves) wanted is added = sought_passed added.0 added.1
    sought_here (Window from) wanted is added = sought_passed added.0 added.1
    sought_here Open wanted is added = sought_passed added.0 added.1

-- what a verdict adds is added to whatever has the same bytes
pub added_same : (c : Circuit) (v : Verdict) (old between new : Answer) →
    between.is_traced ≡ old.is_traced → between.bytes ≡ old.bytes → TraceAdded c v between new →
    TraceAdded c v old new
added_same c (Shown s) old between new traced bytes added =
    (added.0, added.1 ∙ ap (λ (text : List ℕ). text ++ trace_text c s.trace) bytes)
added_same c (Refuted from leaves) old between new traced bytes added = (added.0 ∙ traced, added.1 ∙ bytes)
added_same c (Window from) old between new traced bytes added = (added.0 ∙ traced, added.1 ∙ bytes)
added_same c Open old between new traced bytes added = (added.0 ∙ traced, added.1 ∙ bytes)

-- ---- cases

module _ (c : Circuit) (base i : ℕ) where
  pub seek_none : (answer : Answer) → answer.faults ≡ 0 → HasTrace c base [] i answer →
      IsSought c base i answer []
  seek_none answer none has = record { passed = none; has = has }

  number_within : (cases : List Case) (k : Case) (f : Fault) → IsNumbered c cases i k f →
      i ≤ fault_count c cases
  number_within cases k f is =
      let count : Case → ℕ = λ (x : Case). length (faults c x) in
      let all = ap (fault_count c) is.in_cases in
      let parts = sum_by-append count is.before (k ∷ is.after) in
      let here = sum_by-cons count k is.after in
      let long = ap length is.in_case in
      let inside = length-append is.earlier (f ∷ is.later) in
      let number = is.number in
      omega (arith, all, parts, here, long, inside, number)

  still_numbered : (cases : List Case) (k l : Case) (f : Fault) → IsNumbered c cases i k f →
      IsNumbered c (cases ++ l ∷ []) i k f
  still_numbered cases k l f is = record {
    before = is.before;
    after = is.after ++ l ∷ [];
    earlier = is.earlier;
    later = is.later;
    in_cases =
        ap (λ (ks : List Case). ks ++ l ∷ []) is.in_cases
        ∙ append_assoc is.before (k ∷ is.after) (l ∷ []);
    in_case = is.in_case;
    number = is.number;
  }

  module _ (k : Case) (values : List CaseValue) (tick : ℕ) (fs : List Fault) (old new : Answer)
      (cases : List Case) (are_values : k.listed.values ≡ values) (is_tick : tick ≡ printed_tick c base k)
      (are_faults : fs ≡ faults c k) (past : old.faults ≡ fault_count c cases) where
    case_has : HasTrace c base cases i old → HasSought c values tick fs i old new →
        HasTrace c base (cases ++ k ∷ []) i new
    case_has (no_trace t b) (unfound t' b') = no_trace (t' ∙ t) (b' ∙ b)
    case_has (no_trace t b) (found earlier later f s split number is t' b') =
        has_trace k f s
        (record {
          before = cases;
          after = [];
          earlier = earlier;
          later = later;
          in_cases = refl;
          in_case = sym are_faults ∙ split;
          number = omega (arith, number, past);
        })
        (subst (λ (vs : List CaseValue). IsVerdict c vs (constraint_of f) (printed_tick c base k) (Shown s))
        (sym are_values)
        (subst (λ (t : ℕ). IsVerdict c values (constraint_of f) t (Shown s)) is_tick is))
        t' (b' ∙ ap (λ (text : List ℕ). text ++ trace_text c s.trace) b)
    case_has (has_trace l f s numbered is t b) (unfound t' b') =
        has_trace l f s (still_numbered cases l k f numbered) is (t' ∙ t) (b' ∙ b)
    case_has (has_trace l f s numbered is t b) (found earlier later g r split number shown t' b') =
        let within = number_within cases l f numbered in
        absurd (omega (arith, within, number, past))

    pub seek_more : AreSought c values tick fs i old new → HasTrace c base cases i old →
        IsSought c base i new (cases ++ k ∷ [])
    seek_more sought has =
        let count : Case → ℕ = λ (x : Case). length (faults c x) in
        let all = sum_by_push count cases k in
        let here = ap length are_faults in
        let more = sought.passed in
        record {
          passed = omega (arith, all, here, more, past);
          has = case_has has sought.has;
        }
