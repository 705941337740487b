-- A settled case, and the base as the one case of a drawing that lists none.
use Rattle.std.proofs.Common.{◌≡◌, ℕ, ◌+◌, ◌≤◌, Bool, false, List, [], length, refl, sym, ap, subst, ◌∙◌, arith}
use Rattle.step_values.specs.declared.value.Value.{Value}
use Rattle.skew_algebra.specs.Wave.{Wave}
use Rattle.flat_circuit.specs.declared.case.CaseValue.{CaseValue}
use Rattle.flat_circuit.specs.declared.fault.Fault.{Fault}
use Rattle.flat_circuit.specs.Circuit.{Circuit}
use Rattle.fixpoint_engine.specs.Waves.{Waves, FitWaves, waves_of}
use Rattle.fixpoint_engine.specs.declared.rounds.EngineEnd.{EngineEnd}
use Rattle.fixpoint_engine.specs.declared.rounds.EngineEnd.TheVariants.{Unsettled, NoMemory}
use Rattle.fixpoint_engine.specs.Reach.{reach}
use Rattle.fixpoint_engine.specs.Rounds.{round, AreSame}
use Rattle.fixpoint_engine.specs.End.{EndsFor}
use Rattle.fixpoint_engine.proofs.Reached.{round_next, inactive_stays}
use Rattle.case_analysis.specs.Base.{base_round, IsBase, PermitInputs}
use Rattle.case_analysis.specs.Case.{InCone, Is_set, Hears_one, IsCone, IsCase, HasCone, EndsInCone, PermitCase, case_active, case_start, case_round}
use Rattle.case_analysis.specs.Tick.{tick}
use Rattle.timing_analysis.specs.Case.{Listed, IsSettled, faults_of}
use Rattle.timing_analysis.specs.Ended.{EndsCase}
use Rattle.timing_analysis.specs.Promise.{IsKept, KeepsFaultless}
use Rattle.timing_analysis.specs.Settled.{IsSettledCase, settled_case}
use Rattle.timing_analysis.proofs.Headline.{faultless_is_unbroken}
use Rattle.timing_analysis.proofs.SettlesOneWay.{same_waves}

-- ---- what is known of a settled case

module _ (c : Circuit) (limit base : ℕ) (listed : Listed) (rounds : ℕ) (ws : List (Wave Value)) (fs : List Fault) where
  pub case_settled : (number printed far : ℕ) → number ≡ listed.number → rounds ≤ limit → FitWaves c ws →
      IsSettled c limit base (settled_case listed rounds ws) → printed ≡ tick far base rounds → far ≡ reach c →
      fs ≡ faults_of c (waves_of ws) → length fs ≤ 458752 →
      KeepsFaultless c listed.values fs (tick (reach c) base rounds) →
      IsSettledCase c limit base listed number rounds printed ws fs
  case_settled number printed far same within fit settled at reached found few keeps =
      let kept : IsKept c base (settled_case listed rounds ws) =
      subst (λ (xs : List Fault). KeepsFaultless c listed.values xs (tick (reach c) base rounds)) found keeps in
      record {
        numbered = same;
        within = within;
        fit = fit;
        settled = settled;
        printed = at ∙ ap (λ (r : ℕ). tick r base rounds) reached;
        found = found;
        few = few;
        kept = kept;
        unbroken = λ none. faultless_is_unbroken c base (settled_case listed rounds ws) (sym found ∙ none) kept;
      }

-- ---- a drawing that lists no case

none_in : (c : Circuit) (i : ℕ) → InCone c [] i → ⊥
none_in c i (Is_set e) = cc
none_in c i (Hears_one {from} h hears) = none_in c from h

no_cone : (c : Circuit) → IsCone c [] (λ i. false)
no_cone c i = ((λ e. absurd (cc)), (λ h. absurd (none_in c i h)))

round_first : (c : Circuit) (active : ℕ → Bool) (start : Waves) (i : ℕ) → round c active start 0 i ≡ start i
unfolding round
round_first c active start i = refl

-- The base is the one case of a drawing that lists none.
pub base_settles : (c : Circuit) (limit base : ℕ) (ws : Waves) → IsBase c limit base ws →
    IsSettled c limit base (record { listed = record { number = 0; values = [] }; rounds = 0; waves = ws })
base_settles c limit base ws is =
    let active : ℕ → Bool = case_active c (λ k. false) in
    let start : Waves = case_start c [] (λ k. false) (base_round c base) in
    record {
      cone = λ i. false;
      is_cone = no_cone c;
      is = record {
        settles = record {
          still = λ i. round_next c active start 0 i ∙ inactive_stays c active (round c active start 0) i refl;
          first = λ s less. absurd (omega arith);
          within = omega arith;
        };
        waves = λ i. is.waves i ∙ sym (round_first c active start i);
      };
    }

pub base_permits : (c : Circuit) (base : ℕ) (ws : Waves) → PermitInputs c base ws → PermitCase c [] (base + 0) ws
base_permits c base ws permits =
    let same : base ≡ base + 0 = omega arith in
    subst (λ (n : ℕ). PermitCase c [] n ws) same (λ run is_run meets inside. permits run is_run meets)

-- ---- a case that is listed

module _ (c : Circuit) (limit base number : ℕ) (values : List CaseValue) (before : Waves)
    (same : AreSame before (base_round c base)) where
  abbrev listed : Listed
  listed = record { number = number; values = values }

  pub case_settles : (rounds : ℕ) (ws : Waves) → HasCone c values →
      ((cone : ℕ → Bool) → IsCone c values cone → IsCase c values cone before limit rounds ws) →
      IsSettled c limit base (record { listed = listed; rounds = rounds; waves = ws })
  case_settles rounds ws has is = record {
    cone = has.cone;
    is_cone = has.is;
    is =
        subst (λ (b : Waves). IsCase c values has.cone b limit rounds ws)
        (same_waves before (base_round c base) same) (is has.cone has.is);
  }

  -- rounds of a case that never settles
  pub case_ends : (end : EngineEnd) → EndsInCone c values end →
      ((cone : ℕ → Bool) → IsCone c values cone → EndsFor c.order (case_round c values cone before) limit end) →
      EndsCase c limit base listed end
  case_ends NoMemory has ends = tt
  case_ends (Unsettled place round) has ends =
      let end = subst (λ (b : Waves). EndsFor c.order (case_round c values has.cone b) limit (Unsettled place round))
      (same_waves before (base_round c base) same) (ends has.cone has.is) in
      (record { cone = has.cone; is_cone = has.is; is = end.0 }, end.1)
