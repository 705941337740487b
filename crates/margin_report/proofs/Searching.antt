-- The search by halves for the least value that has a fault.
use Rattle.std.proofs.Common.{inl, inr, ◌≡◌, ℕ, ◌+◌, ◌<◌, ◌≤◌, sym, ap, subst, ◌∙◌, arith, Some, None}
use Rattle.std.proofs.lemmas.Bool.{cases_eq}
use Rattle.flat_circuit.specs.declared.instance.Instance.{Instance}
use Rattle.flat_circuit.specs.declared.fault.Fault.{Fault}
use Rattle.flat_circuit.specs.Circuit.{Circuit}
use Rattle.flat_circuit.specs.declared.limits.Limits.{Limits}
use Rattle.fixpoint_engine.specs.Waves.{Waves}
use Rattle.margin_report.specs.declared.margin.Parameter.{Parameter}
use Rattle.margin_report.specs.declared.margin.Parameter.TheVariants.{Setup, Hold, High, Low}
use Rattle.margin_report.specs.Margin.{AreWithin, StopsAt, fault_with, spare, written}

-- so much more than the written value is at most the period
pub value_within : (p : ℕ) (limits : Limits) (parameter : Parameter) (more : ℕ) → AreWithin p limits parameter →
    more ≤ spare p limits parameter → written limits parameter + more ≤ p
value_within p limits Setup more within most = omega (arith, within, most)
value_within p limits Hold more within most = omega (arith, within, most)
value_within p limits High more within most = omega (arith, within, most)
value_within p limits Low more within most = omega (arith, within, most)

module _ (c : Circuit) (ws : Waves) (k : ℕ) (j : Instance) (parameter : Parameter) where
  -- With `fits` more there is no fault, and with `faulty` more this one.
  pub record IsBetween (most fits faulty : ℕ) (fault : Fault) : Type 0 where
    pub below : fault_with c ws k j parameter (written j.limits parameter + fits) ≡ None
    pub above : fault_with c ws k j parameter (written j.limits parameter + faulty) ≡ Some fault
    pub apart : fits < faulty
    pub within : faulty ≤ most

  pub between_start : (most : ℕ) (fault : Fault) → fault_with c ws k j parameter (written j.limits parameter + 0) ≡ None →
      fault_with c ws k j parameter (written j.limits parameter + most) ≡ Some fault → IsBetween most 0 most fault
  between_start most fault none some = record { below = none; above = some; apart = some_more; within = omega arith }
    where
      some_more : 0 < most
      some_more = elim (cases_eq most 0) [
        | inl same ↦
            let both : Some fault ≡ None = sym some ∙ ap (λ (m : ℕ). fault_with c ws k j parameter (written j.limits parameter + m)) same ∙ none in
            absurd (cc)
        | inr other ↦ omega (arith, other)
      ]

  pub between_stops : (most fits faulty : ℕ) (fault : Fault) → IsBetween most fits faulty fault → faulty ≤ fits + 1 →
      StopsAt c ws k j parameter fits fault
  between_stops most fits faulty fault is close =
      let apart = is.apart in
      let next : faulty ≡ fits + 1 = omega (arith, apart, close) in
      record {
        fits = is.below;
        stops = subst (λ (m : ℕ). fault_with c ws k j parameter (written j.limits parameter + m) ≡ Some fault) next is.above;
      }
