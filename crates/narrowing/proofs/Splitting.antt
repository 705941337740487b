-- Halves of delays.
use Rattle.std.proofs.Common.{◌≡◌, ℕ, true, List, ap, subst, sym, ◌∙◌, arith, slice_get, Option, Some, None, IfSome}
use Rattle.scald_base.specs.Time.{Bounds}
use Rattle.element_kinds.specs.Kinds.{may_split}
use Rattle.flat_circuit.specs.declared.case.CaseValue.{CaseValue}
use Rattle.flat_circuit.specs.declared.instance.Instance.{Instance}
use Rattle.flat_circuit.specs.declared.split.Split.{Split}
use Rattle.flat_circuit.specs.Circuit.{Circuit}
use Rattle.narrowing.specs.declared.part.Part.{Part}
use Rattle.narrowing.specs.declared.part.Part.TheVariants.{Delay, Fall, Rise}
use Rattle.narrowing.specs.Narrowed.{by_parts, narrowed}
use Rattle.narrowing.specs.Part.{HasOneDelay}
use Rattle.narrowing.specs.Tree.{AreHalves, IsSplit, SplitsTwo}
use Rattle.narrowing.proofs.Breaks.{narrowed_there}

pub splits_two : (j : Instance) (which : Split → Bounds) (s : Split) (least last first greatest : ℕ) →
    may_split j.kind ≡ true → j.split ≡ Some s → AreHalves (which s) least last first greatest →
    SplitsTwo j which least last first greatest
splits_two j which s least last first greatest may is halves =
    let begins = halves.begins in
    let ordered = halves.ordered in
    let more = halves.more in
    let ends = halves.ends in
    record {
      has = record {
        may = may;
        split = s;
        two = is;
        within = record {
          least_in = omega (arith, begins);
          ordered = omega (arith, ordered, more);
          greatest_in = omega (arith, ends);
        };
      };
      halves = halves;
    }

-- ---- a narrowing

pub instance_there : (c : Circuit) (parts : List Part) (k : ℕ) (i : Instance) (found : Option Instance) →
    slice_get c.instances k ≡ Some i → IfSome found (λ j. j ≡ by_parts k i parts) →
    IfSome found (λ j. slice_get (narrowed c parts).instances k ≡ Some j)
instance_there c parts k i None here is = tt
instance_there c parts k i (Some j) here is = narrowed_there parts k c.instances i here ∙ ap Some (sym is)

module _ (c : Circuit) (values : List CaseValue) (parts : List Part) (k other : ℕ) (j : Instance)
    (least last first greatest : ℕ) (upper : Part) (same : other ≡ k)
    (there : slice_get (narrowed c parts).instances k ≡ Some j) where
  pub split_one : upper ≡ Delay other first greatest → HasOneDelay j least greatest →
      AreHalves j.delay least last first greatest → IsSplit c values parts (Delay k least last) upper
  split_one is has halves =
      subst (IsSplit c values parts (Delay k least last)) (sym is)
      (same, record { instance = j; there = there; is = (has, halves) })

  pub split_rise : upper ≡ Rise other first greatest →
      SplitsTwo j (λ (s : Split). s.rise) least last first greatest →
      IsSplit c values parts (Rise k least last) upper
  split_rise is splits =
      subst (IsSplit c values parts (Rise k least last)) (sym is)
      (same, record { instance = j; there = there; is = splits })

  pub split_fall : upper ≡ Fall other first greatest →
      SplitsTwo j (λ (s : Split). s.fall) least last first greatest →
      IsSplit c values parts (Fall k least last) upper
  split_fall is splits =
      subst (IsSplit c values parts (Fall k least last)) (sym is)
      (same, record { instance = j; there = there; is = splits })
