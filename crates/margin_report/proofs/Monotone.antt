-- A greater value of a parameter keeps every fault.
use Rattle.std.proofs.Common.{◌≡◌, ℕ, ◌≤◌, true, false, is_none, List, [], ◌∷◌, refl, sym, ap, ◌∙◌, arith, Option, Some, None}
use Rattle.std.proofs.lemmas.Bool.{and_from, and_parts}
use Rattle.scald_base.specs.Time.{period}
use Rattle.flat_circuit.specs.Limits.{setup_of, hold_of}
use Rattle.flat_circuit.specs.declared.instance.Instance.{Instance}
use Rattle.flat_circuit.specs.declared.fault.Fault.{Fault}
use Rattle.flat_circuit.specs.Circuit.{Circuit}
use Rattle.fixpoint_engine.specs.Waves.{Waves}
use Rattle.point_check.proofs.Longer.{longer_times_keep_faults}
use Rattle.pulse_check.proofs.Greater.{greater_widths_keep_faults}
use Rattle.timing_analysis.specs.Case.{Case}
use Rattle.margin_report.specs.declared.margin.Parameter.{Parameter}
use Rattle.margin_report.specs.declared.margin.Parameter.TheVariants.{Setup, Hold, High, Low}
use Rattle.margin_report.specs.Margin.{fault_with, faults_with, fits}
use Rattle.margin_report.specs.Laws.{FittingIsMonotone}

pub none_from : {A : Type 0} (o : Option A) → is_none o ≡ true → o ≡ None
none_from None none = refl
none_from (Some x) none = absurd (cc)

pub none_with_less : (c : Circuit) (ws : Waves) (k : ℕ) (j : Instance) (parameter : Parameter) (less value : ℕ) → 1 ≤ period c.header → less ≤ value →
    fault_with c ws k j parameter value ≡ None → fault_with c ws k j parameter less ≡ None
none_with_less c ws k j Setup less value some most none =
    longer_times_keep_faults c ws k j less (hold_of j.limits) value (hold_of j.limits) some most (omega arith) none
none_with_less c ws k j Hold less value some most none =
    longer_times_keep_faults c ws k j (setup_of j.limits) less (setup_of j.limits) value some (omega arith) most none
none_with_less c ws k j High less value some most none = greater_widths_keep_faults c ws k j true less value most none
none_with_less c ws k j Low less value some most none = greater_widths_keep_faults c ws k j false less value most none

module _ (c : Circuit) (k : ℕ) (j : Instance) (parameter : Parameter) where
  pub fits_with_less : (cases : List Case) (less value : ℕ) → 1 ≤ period c.header → less ≤ value →
      fits c cases k j parameter value ≡ true → fits c cases k j parameter less ≡ true
  fits_with_less [] less value some most fitting = refl
  fits_with_less (case ∷ cases) less value some most fitting =
      let parts = and_parts (is_none (fault_with c case.waves k j parameter value)) (fits c cases k j parameter value) fitting in
      and_from (is_none (fault_with c case.waves k j parameter less)) (fits c cases k j parameter less)
      (ap is_none (none_with_less c case.waves k j parameter less value some most (none_from (fault_with c case.waves k j parameter value) parts.0)))
      (fits_with_less cases less value some most parts.1)

  -- ---- fitting is having no fault

  pub no_faults : (cases : List Case) (value : ℕ) → fits c cases k j parameter value ≡ true → faults_with c cases k j parameter value ≡ []
  no_faults [] value fitting = refl
  no_faults (case ∷ cases) value fitting =
      let parts = and_parts (is_none (fault_with c case.waves k j parameter value)) (fits c cases k j parameter value) fitting in
      go (fault_with c case.waves k j parameter value) refl parts.0 (no_faults cases value parts.1)
    where
      go : (found : Option Fault) → fault_with c case.waves k j parameter value ≡ found → is_none found ≡ true →
          faults_with c cases k j parameter value ≡ [] → faults_with c (case ∷ cases) k j parameter value ≡ []
      go None is none rest = rw is rest
      go (Some fault) is none rest = absurd (cc)

  pub fits_without : (cases : List Case) (value : ℕ) → faults_with c cases k j parameter value ≡ [] → fits c cases k j parameter value ≡ true
  fits_without [] value none = refl
  fits_without (case ∷ cases) value none = go (fault_with c case.waves k j parameter value) refl (λ rest. fits_without cases value rest)
    where
      go : (found : Option Fault) → fault_with c case.waves k j parameter value ≡ found →
          (faults_with c cases k j parameter value ≡ [] → fits c cases k j parameter value ≡ true) → fits c (case ∷ cases) k j parameter value ≡ true
      go None is others =
          let rest : faults_with c cases k j parameter value ≡ [] = sym (rw is refl) ∙ none in
          and_from (is_none (fault_with c case.waves k j parameter value)) (fits c cases k j parameter value) (ap is_none is) (others rest)
      go (Some fault) is others =
          let some : (case.listed.number, fault) ∷ faults_with c cases k j parameter value ≡ [] = sym (rw is refl) ∙ none in
          absurd (cc)

pub fitting_is_monotone : FittingIsMonotone
fitting_is_monotone c cases k j parameter less value is most fitting =
    let shortest = is.shortest in
    fits_with_less c k j parameter cases less value (omega (arith, shortest)) most fitting
