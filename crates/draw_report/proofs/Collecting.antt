-- The slacks and the faults of cases, with one case more, and what is told of all.
use Rattle.std.specs.Prelude.{◌==◌}
use Rattle.std.proofs.Common.{◌≡◌, ◌∙◌, ℕ, ◌+◌, ◌<◌, false, List, [], ◌∷◌, ◌++◌, length, refl, sym, subst, arith}
use Rattle.std.proofs.lemmas.Bool.Decides.{nat_tests}
use Rattle.std.proofs.lemmas.List.{map-append}
use Rattle.std.proofs.lemmas.List.Sums.{sum_by_push}
use Rattle.step_values.specs.declared.value.Value.{Value}
use Rattle.skew_algebra.specs.Wave.{Wave}
use Rattle.flat_circuit.specs.declared.case.CaseValue.{CaseValue}
use Rattle.flat_circuit.specs.declared.fault.Fault.{Fault}
use Rattle.flat_circuit.specs.Circuit.{Circuit}
use Rattle.fixpoint_engine.specs.Rounds.{SettlesAt}
use Rattle.fixpoint_engine.specs.Table.{waves_at}
use Rattle.fixpoint_engine.specs.Waves.{waves_of}
use Rattle.case_analysis.specs.Base.{base_round}
use Rattle.timing_analysis.specs.declared.settled.SettledCase.{SettledCase}
use Rattle.timing_analysis.specs.Case.{Case, Listed, fault_count, faults, faults_of, numbered}
use Rattle.timing_analysis.specs.Settled.{IsCaseIn, IsSettledCase, settled_case}
use Rattle.slack_rows.specs.Limit.{Case as Numbered}
use Rattle.slack_report.specs.Answer.{AreRows, case_of, cases_of}
use Rattle.program_call.specs.Reporter.{OfCases}
use Rattle.program_call.proofs.Reporting.{of_more, of_none, of_weaker, some_listed}
use Rattle.draw_report.specs.declared.asked.Limits.{Limits}
use Rattle.draw_report.specs.declared.collected.Collected.{Collected}
use Rattle.draw_report.specs.declared.drawn.Drawn.{Drawn}
use Rattle.draw_report.specs.declared.job.Told.{Told}
use Rattle.draw_report.specs.Drawn.{IsCollected, IsDrawn, IsToldOf}

module _ (c : Circuit) where
  pub none_collected : (t : Collected) → AreRows c [] t.rows → t.faults ≡ 0 → IsCollected t c []
  none_collected t rows faults = record { rows_are = rows; faults_are = faults }

  collected_more : (cases : List Case) (case : Case) (number : ℕ) (fs : List Fault)
      (old new : Collected) → number ≡ case.listed.number → fs ≡ faults_of c case.waves →
      new.faults ≡ old.faults + length fs →
      ((before : List Numbered) → AreRows c before old.rows →
      AreRows c (before ++ record { number = number; waves = case.waves } ∷ []) new.rows) →
      IsCollected old c cases → IsCollected new c (cases ++ case ∷ [])
  collected_more cases case number fs old new numbered are count more so_far = record {
    rows_are =
        subst (λ (some : List Numbered). AreRows c some new.rows)
        (sym (map-append case_of cases (case ∷ [])))
        (subst (λ (n : ℕ). AreRows c (cases_of cases ++ record { number = n; waves = case.waves } ∷ [])
        new.rows) numbered
        (more (cases_of cases) so_far.rows_are));
    faults_are =
        count
        ∙ (λ k. so_far.faults_are k + length (are k))
        ∙ sym (sum_by_push (λ (one : Case). length (faults c one)) cases case);
  }

  -- the same of a settled case after those before it
  pub of_collected : (limit base : ℕ) (before : List Listed) (listed : Listed)
      (number rounds tick : ℕ) (ws : List (Wave Value)) (fs : List Fault) (old new : Collected) →
      IsSettledCase c limit base listed number rounds tick ws fs →
      new.faults ≡ old.faults + length fs →
      ((some : List Numbered) → AreRows c some old.rows →
      AreRows c (some ++ record { number = number; waves = waves_of ws } ∷ []) new.rows) →
      OfCases c limit base before (λ (cases : List Case). IsCollected old c cases) →
      OfCases c limit base (before ++ listed ∷ [])
      (λ (cases : List Case). IsCollected new c cases)
  of_collected limit base before listed number rounds tick ws fs old new settled count more so_far =
      of_more c limit base before listed (λ (cases : List Case). IsCollected old c cases)
      (λ (cases : List Case). IsCollected new c cases) number rounds tick ws fs settled
      (λ cases holds. collected_more cases (settled_case listed rounds ws) number fs old new
      settled.numbered settled.found count more holds)
      so_far

-- ---- what is told

some_count : (n : ℕ) → 0 < n → (n == 0) ≡ false
some_count n some = grind (arith, nat_tests)

-- of all cases that are listed
pub told_listed : (asked : Limits) (c : Circuit) (values : List (List CaseValue))
    (limit base : ℕ) (t : Collected) (drawn : Drawn) → 0 < length values →
    SettlesAt (base_round c) limit base →
    OfCases c limit base (numbered 1 values) (λ (cases : List Case). IsCollected t c cases) →
    IsDrawn asked drawn →
    IsToldOf asked c values limit (record { drawn = drawn; faults = t.faults })
told_listed asked c values limit base t drawn some settles collected is = record {
  base = base;
  settles = settles;
  of_cases =
      some_listed c limit base values (λ (cases : List Case). t.faults ≡ fault_count c cases)
      (some_count (length values) some)
      (of_weaker c limit base (numbered 1 values) (λ (cases : List Case). IsCollected t c cases)
      (λ (cases : List Case). t.faults ≡ fault_count c cases) (λ cases holds. holds.faults_are)
      collected);
  drawn = is;
}

from_none : (n m : ℕ) → n ≡ m → n ≡ 0 + m
from_none n m same = omega (arith, same)

-- of the only case, if none is listed
pub told_only : (asked : Limits) (c : Circuit) (values : List (List CaseValue)) (limit base : ℕ)
    (table : List (Wave Value)) (case : SettledCase) (told : Told) → length values ≡ 0 →
    SettlesAt (base_round c) limit base →
    IsCaseIn c limit base (record { number = 0; values = [] }) table case →
    IsDrawn asked told.drawn → told.faults ≡ length case.faults →
    IsToldOf asked c values limit told
told_only asked c (one ∷ values) limit base table case told none settles is drawn count =
    absurd (omega (arith, none))
told_only asked c [] limit base table case told none settles is drawn count = record {
  base = base;
  settles = settles;
  of_cases =
      of_more c limit base [] (record { number = 0; values = [] })
      (λ (cases : List Case). 0 ≡ fault_count c cases)
      (λ (cases : List Case). told.faults ≡ fault_count c cases) case.number case.settled.rounds
      case.tick (waves_at table case.settled.numbers) case.faults is.settled
      (λ cases holds.
      from_none told.faults (length case.faults) count
      ∙ (λ k. holds k + length (is.settled.found k))
      ∙ sym (sum_by_push (λ (one : Case). length (faults c one)) cases
      (settled_case (record { number = 0; values = [] }) case.settled.rounds
      (waves_at table case.settled.numbers))))
      (of_none c limit base (λ (cases : List Case). 0 ≡ fault_count c cases) refl);
  drawn = drawn;
}
