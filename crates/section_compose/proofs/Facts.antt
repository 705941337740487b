-- What it is worth that sections have settled and have no fault.
use Rattle.std.proofs.Common.{◌≡◌, ℕ, zero, suc, ◌≤◌, List, [], ◌∷◌, length, slice_get, refl, subst, arith, Some}
use Rattle.flat_circuit.specs.declared.fault.Fault.{Fault}
use Rattle.flat_circuit.specs.Circuit.{Circuit}
use Rattle.section_compose.specs.Evaluated.{AllSettled, IsSettled, Settling, all_faults, faults_in, greatest_tick, tick_of}

-- A section has settled without a fault, and its printed tick is T at most.
pub record SettlesClean (whole : List Circuit) (T : ℕ) (c : Circuit) : Type 0 where
  pub settling : Settling
  pub at : IsSettled whole c settling
  pub clean : faults_in c settling ≡ []
  pub sooner : tick_of c settling ≤ T

no_fault : (faults : List Fault) → length faults ≡ 0 → faults ≡ []
no_fault [] none = refl
no_fault (fault ∷ faults) none = absurd (omega arith)

later : (whole : List Circuit) (T U : ℕ) (c : Circuit) → T ≤ U → SettlesClean whole T c → SettlesClean whole U c
later whole T U c below r = record {
  settling = r.settling;
  at = r.at;
  clean = r.clean;
  sooner = let sooner = r.sooner in omega (arith, sooner, below);
}

-- If no fault is counted, each section is so.
pub each_settles : (whole sections : List Circuit) (settlings : List Settling) → AllSettled whole sections settlings →
    all_faults sections settlings ≡ 0 → (s : ℕ) (c : Circuit) → slice_get sections s ≡ Some c →
    SettlesClean whole (greatest_tick sections settlings) c
each_settles whole [] settlings settled none s c is = absurd (cc)
each_settles whole (first ∷ sections) [] settled none s c is = absurd settled
each_settles whole (first ∷ sections) (settling ∷ settlings) settled none zero c is =
    let same : first ≡ c = cc in
    subst (SettlesClean whole (greatest_tick (first ∷ sections) (settling ∷ settlings))) same (record {
      settling = settling;
      at = settled.0;
      clean = no_fault (faults_in first settling) (omega (arith, none));
      sooner = omega arith;
    })
each_settles whole (first ∷ sections) (settling ∷ settlings) settled none (suc s) c is =
    later whole (greatest_tick sections settlings) (greatest_tick (first ∷ sections) (settling ∷ settlings)) c (omega arith)
    (each_settles whole sections settlings settled.1 (omega (arith, none)) s c is)
