-- Cases that are reported one after the other, and what is reported of them in the end.
use Rattle.std.specs.Prelude.{◌==◌}
use Rattle.std.proofs.Common.{◌≡◌, ℕ, ◌+◌, ◌<◌, true, false, refl, List, [], ◌∷◌, ◌++◌, length}
use Rattle.std.proofs.Common.{take, drop, sym, ap, subst, ◌∙◌, arith}
use Rattle.std.proofs.lemmas.Bool.{eqb-true}
use Rattle.std.proofs.lemmas.List.{take_more}
use Rattle.std.proofs.lemmas.List.Elements.{All-nil, All-push}
use Rattle.step_values.specs.declared.value.Value.{Value}
use Rattle.skew_algebra.specs.Wave.{Wave}
use Rattle.flat_circuit.specs.declared.case.CaseValue.{CaseValue}
use Rattle.flat_circuit.specs.declared.fault.Fault.{Fault}
use Rattle.flat_circuit.specs.Circuit.{Circuit}
use Rattle.fixpoint_engine.specs.Rounds.{SettlesAt}
use Rattle.fixpoint_engine.specs.declared.rounds.EngineEnd.{EngineEnd}
use Rattle.fixpoint_engine.specs.declared.rounds.EngineEnd.TheVariants.{Unsettled, NoMemory}
use Rattle.case_analysis.specs.Base.{base_round}
use Rattle.case_analysis.specs.Case.{case_at}
use Rattle.timing_analysis.specs.Case.{Listed, Case, listed_cases, numbered}
use Rattle.timing_analysis.specs.Ended.{EndsCase, EndsEarly, by_case}
use Rattle.timing_analysis.specs.Promise.{IsKept}
use Rattle.timing_analysis.specs.Settled.{IsSettledCase, settled_case}
use Rattle.timing_analysis.proofs.Cases.{none_settled, one_more_settled, numbered_here, around_here}
use Rattle.timing_analysis.proofs.Cases.{first_that_never_settles}
use Rattle.program_call.specs.Reporter.{OfCases}

module _ (c : Circuit) (limit base : ℕ) where
  pub of_none : (Holds : List Case → Type 0) → Holds [] → OfCases c limit base [] Holds
  of_none Holds holds = record {
    cases = [];
    are_settled = none_settled c limit base;
    kept = All-nil (IsKept c base);
    holds = holds;
  }

  -- a settled case is reported after those before it
  pub of_more : (listed : List Listed) (l : Listed) (Before After : List Case → Type 0)
      (number rounds tick : ℕ)
      (ws : List (Wave Value)) (fs : List Fault) →
      IsSettledCase c limit base l number rounds tick ws fs →
      ((cases : List Case) → Before cases → After (cases ++ settled_case l rounds ws ∷ [])) →
      OfCases c limit base listed Before → OfCases c limit base (listed ++ l ∷ []) After
  of_more listed l Before After number rounds tick ws fs is more so_far =
      let case : Case = settled_case l rounds ws in
      record {
        cases = so_far.cases ++ case ∷ [];
        are_settled = one_more_settled c limit base listed l so_far.cases case so_far.are_settled refl
            is.settled;
        kept = All-push (IsKept c base) so_far.cases case so_far.kept is.kept;
        holds = more so_far.cases so_far.holds;
      }

  pub of_weaker : (listed : List Listed) (P Q : List Case → Type 0) →
      ((cases : List Case) → P cases → Q cases) →
      OfCases c limit base listed P → OfCases c limit base listed Q
  of_weaker listed P Q weaker of_cases = record {
    cases = of_cases.cases;
    are_settled = of_cases.are_settled;
    kept = of_cases.kept;
    holds = weaker of_cases.cases of_cases.holds;
  }

-- ---- the cases that are listed

some_are_listed : (cases : List (List CaseValue)) → (length cases == 0) ≡ false →
    numbered 1 cases ≡ listed_cases cases
some_are_listed [] some = absurd (cc)
some_are_listed (values ∷ cases) some = refl

-- if there are some, they are those that are numbered
pub some_listed : (c : Circuit) (limit base : ℕ) (cases : List (List CaseValue))
    (Holds : List Case → Type 0) →
    (length cases == 0) ≡ false → OfCases c limit base (numbered 1 cases) Holds →
    OfCases c limit base (listed_cases cases) Holds
some_listed c limit base cases Holds some of_cases =
    subst (λ (ls : List Listed). OfCases c limit base ls Holds) (some_are_listed cases some)
    of_cases

-- if there are none, it is the one case that is listed
pub none_listed : (c : Circuit) (limit base : ℕ) (cases : List (List CaseValue))
    (Before After : List Case → Type 0) →
    (length cases == 0) ≡ true →
    (OfCases c limit base [] Before →
    OfCases c limit base (record { number = 0; values = [] } ∷ []) After) →
    OfCases c limit base (numbered 1 cases) Before → OfCases c limit base (listed_cases cases) After
none_listed c limit base [] Before After none more of_cases = more of_cases
none_listed c limit base (values ∷ cases) Before After none more of_cases =
    absurd (omega (arith, eqb-true (length (values ∷ cases)) 0 none))

pub none_long : (cases : List (List CaseValue)) → (length cases == 0) ≡ true → length cases ≡ 0
none_long cases none = eqb-true (length cases) 0 none

module _ (cases : List (List CaseValue)) (k : ℕ) (inside : k < length cases) where
  abbrev pub here : Listed
  here = record { number = k + 1; values = case_at cases k }

  pub next_listed : numbered 1 (take (k + 1) cases) ≡ numbered 1 (take k cases) ++ here ∷ []
  next_listed =
      let next : take (k + 1) cases ≡ take k cases ++ case_at cases k ∷ [] =
      take_more cases k [] inside in
      ap (numbered 1) next ∙ numbered_here cases k inside []

  -- if there is a case, all are listed by their numbers
  all_listed : (all : List (List CaseValue)) → k < length all → numbered 1 all ≡ listed_cases all
  all_listed [] some = absurd (omega (arith, some))
  all_listed (values ∷ others) some = refl

  -- the case after those is the first that never settles
  pub ends_early : (c : Circuit) (limit base : ℕ) (Holds : List Case → Type 0) (end : EngineEnd) →
      SettlesAt (base_round c) limit base →
      OfCases c limit base (numbered 1 (take k cases)) Holds → EndsCase c limit base here end →
      EndsEarly c cases limit end
  ends_early c limit base Holds NoMemory settles so_far ends = tt
  ends_early c limit base Holds (Unsettled place round) settles so_far ends = (
    by_case base settles
        (first_that_never_settles c limit base (numbered 1 (take k cases)) (listed_cases cases)
        (numbered (k + 1 + 1) (drop (k + 1) cases))
        here so_far.cases place so_far.are_settled
        (sym (numbered_here cases k inside (drop (k + 1) cases))
        ∙ ap (numbered 1) (around_here cases k inside) ∙ all_listed cases inside) ends.0),
    ends.1,
  )
