-- What is found, and how many faults there are, with one case more.
use Rattle.std.proofs.Common.{◌≡◌, ◌∙◌, ℕ, ◌+◌, Bool, true, false, cond, refl, List, [], ◌∷◌, ◌++◌, length, sym, ap, eq-eqb, Option, Some, None, OnOk, Result, Ok, Err}
use Rattle.std.specs.Prelude.{◌==◌, find}
use Rattle.std.proofs.lemmas.List.Sums.{sum_by_push}
use Rattle.step_values.specs.declared.value.Value.{Value}
use Rattle.skew_algebra.specs.Wave.{Wave}
use Rattle.flat_circuit.specs.declared.fault.Fault.{Fault}
use Rattle.flat_circuit.specs.Circuit.{Circuit}
use Rattle.fixpoint_engine.specs.Waves.{waves_of}
use Rattle.timing_analysis.specs.Case.{Case, Listed, faults, faults_of, printed_tick}
use Rattle.timing_analysis.specs.Settled.{IsSettledCase, settled_case}
use Rattle.program_call.specs.Reporter.{OfCases}
use Rattle.program_call.proofs.Reporting.{of_more}
use Rattle.draw_report.specs.Picture.{case_drawn}
use Rattle.draw_report.specs.Row.{rows_of}
use Rattle.draw_report.specs.declared.sought.Found.{Found}
use Rattle.draw_report.specs.declared.sought.Found.TheVariants.{Much, Nothing, Picture}
use Rattle.draw_report.specs.declared.sought.Sought.{Sought}
use Rattle.draw_report.specs.Case.{IsSought, found_among, found_in, found_on, head_of, is_nothing, is_numbered, next_found, number_of, picture_in, settled_head}

-- both hold of what is given
pub both_on_ok : {T E : Type 0} (P Q : Type 0) (r : Result T E) → OnOk r P → OnOk r Q →
    OnOk r (P × Q)
both_on_ok P Q (Ok v) p q = (p, q)
both_on_ok P Q (Err e) p q = tt

-- ---- the first of some, with one more behind them

abbrev or_last : {X : Type 0} → Option X → Bool → X → Option X
or_last (Some found) passes x = Some found
or_last None true x = Some x
or_last None false x = None

found_or_last : {X : Type 0} (test : X → Bool) (y x : X) (ys : List X) (passes : Bool) →
    find test (ys ++ x ∷ []) ≡ or_last (find test ys) (test x) x →
    cond passes (Some y) (find test (ys ++ x ∷ []))
    ≡ or_last (cond passes (Some y) (find test ys)) (test x) x
found_or_last test y x ys true later = refl
found_or_last test y x ys false later = later

only_last : {X : Type 0} (x : X) (passes : Bool) → cond passes (Some x) None ≡ or_last None passes x
only_last x true = refl
only_last x false = refl

find_more : {X : Type 0} (test : X → Bool) (xs : List X) (x : X) →
    find test (xs ++ x ∷ []) ≡ or_last (find test xs) (test x) x
find_more test [] x = only_last x (test x)
find_more test (y ∷ ys) x = found_or_last test y x ys (test y) (find_more test ys x)

-- ---- what is found

-- if it has not come yet, and is asked for
next_taken : (found more : Found) (is_asked : Bool) → is_asked ≡ true → is_nothing found ≡ true →
    next_found found is_asked more ≡ more
next_taken Nothing more true asked none = refl
next_taken Nothing more false asked none = absurd (cc)
next_taken Much more is_asked asked none = absurd (cc)
next_taken (Picture bytes) more is_asked asked none = absurd (cc)

-- the picture of a case that is asked for
pub taken : (c : Circuit) (asked number tick : ℕ) (named : Option ℕ) (ws vs : List (Wave Value))
    (old new : Found) → number ≡ asked → is_nothing old ≡ true → ws ≡ vs →
    named ≡ number_of number →
    new ≡ found_on c (waves_of ws) (record { number = named; tick = tick }) →
    new ≡ next_found old (number == asked) (found_on c (waves_of vs) (settled_head number tick))
taken c asked number tick named ws vs old new is none waves names drawn =
    drawn
    ∙ (λ k. found_on c (waves_of (waves k)) (record { number = names k; tick = tick }))
    ∙ sym (next_taken old (found_on c (waves_of vs) (settled_head number tick)) (number == asked)
    (eq-eqb number asked is) none)

module _ (c : Circuit) (base : ℕ) where
  drawn_stays : (drawn : Option (List ℕ)) (is_asked : Bool) (more : Found) →
      next_found (picture_in drawn) is_asked more ≡ picture_in drawn
  drawn_stays None true more = refl
  drawn_stays None false more = refl
  drawn_stays (Some bytes) true more = refl
  drawn_stays (Some bytes) false more = refl

  next_is : (found : Option Case) (is_asked : Bool) (case : Case) →
      next_found (found_in c base found) is_asked (found_in c base (Some case))
      ≡ found_in c base (or_last found is_asked case)
  next_is (Some one) is_asked case =
      drawn_stays (case_drawn c one.waves (rows_of c one.waves) (head_of c base one) [] None) is_asked
      (found_in c base (Some case))
  next_is None true case = refl
  next_is None false case = refl

  pub among_more : (asked : ℕ) (cases : List Case) (case : Case) →
      next_found (found_among c base asked cases) (is_numbered asked case) (found_in c base (Some case))
      ≡ found_among c base asked (cases ++ case ∷ [])
  among_more asked cases case =
      next_is (find (is_numbered asked) cases) (is_numbered asked case) case
      ∙ sym (ap (found_in c base) (find_more (is_numbered asked) cases case))

  -- with a case of this number, for which this tick is printed, and with these faults
  sought_more : (asked number tick : ℕ) (cases : List Case) (case : Case) (fs : List Fault)
      (old new : Sought) →
      number ≡ case.listed.number → tick ≡ printed_tick c base case → fs ≡ faults_of c case.waves →
      new.faults ≡ old.faults + length fs →
      new.found ≡ next_found old.found (number == asked)
      (found_on c case.waves (settled_head number tick)) →
      IsSought old asked c base cases → IsSought new asked c base (cases ++ case ∷ [])
  sought_more asked number tick cases case fs old new numbered printed are count found so_far = record {
    found_is =
        found
        ∙ (λ k. next_found (so_far.found_is k) (numbered k == asked)
        (found_on c case.waves (settled_head (numbered k) (printed k))))
        ∙ among_more asked cases case;
    faults_are =
        count
        ∙ (λ k. so_far.faults_are k + length (are k))
        ∙ sym (sum_by_push (λ (one : Case). length (faults c one)) cases case);
  }

  -- the same of a settled case after those before it
  pub of_sought : (limit asked : ℕ) (before : List Listed) (listed : Listed)
      (number rounds tick : ℕ) (ws : List (Wave Value)) (fs : List Fault) (old new : Sought) →
      IsSettledCase c limit base listed number rounds tick ws fs →
      new.faults ≡ old.faults + length fs →
      new.found ≡ next_found old.found (number == asked)
      (found_on c (waves_of ws) (settled_head number tick)) →
      OfCases c limit base before (λ (cases : List Case). IsSought old asked c base cases) →
      OfCases c limit base (before ++ listed ∷ [])
      (λ (cases : List Case). IsSought new asked c base cases)
  of_sought limit asked before listed number rounds tick ws fs old new settled count found so_far =
      of_more c limit base before listed (λ (cases : List Case). IsSought old asked c base cases)
      (λ (cases : List Case). IsSought new asked c base cases) number rounds tick ws fs settled
      (λ cases holds. sought_more asked number tick cases (settled_case listed rounds ws) fs old new
      settled.numbered settled.printed settled.found count found holds)
      so_far

  -- nothing is found of no case
  pub none_sought : (asked : ℕ) (s : Sought) → s.found ≡ Nothing → s.faults ≡ 0 →
      IsSought s asked c base []
  none_sought asked s found faults = record { found_is = found; faults_are = faults }
