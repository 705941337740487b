-- A margin is the greatest by which a parameter may be greater, and nothing else is.
use Rattle.std.proofs.Common.{inl, inr, ◌≡◌, ◌≢◌, ℕ, zero, suc, ◌+◌, ◌≤◌, Bool, true, false, cond, List, [], ◌∷◌, get_or, refl, sym, ap, subst, ◌∙◌, arith, add-zero, eq-eqb, true≢false}
use Rattle.std.specs.Prelude.{◌==◌}
use Rattle.std.proofs.lemmas.Bool.{cases_eq, eqb-true}
use Rattle.scald_base.specs.Time.{period}
use Rattle.flat_circuit.specs.declared.instance.Instance.{Instance}
use Rattle.flat_circuit.specs.declared.fault.Fault.{Fault}
use Rattle.flat_circuit.specs.Circuit.{Circuit}
use Rattle.timing_analysis.specs.Case.{Case}
use Rattle.margin_report.specs.declared.margin.Parameter.{Parameter}
use Rattle.margin_report.specs.declared.margin.Margin.{Margin}
use Rattle.margin_report.specs.declared.margin.Margin.TheVariants.{Fault as Faulty, Limit, Next}
use Rattle.margin_report.specs.Margin.{bounded_by, faults_with, fits, greatest_to, margin, most_more, spare, up_to, written}
use Rattle.margin_report.specs.Laws.{IsGreatest, IsTrueOf, MarginsAreTrue}
use Rattle.margin_report.proofs.Monotone.{fits_with_less, fits_without}

-- ---- the greatest number that passes

greatest_either : (test : ℕ → Bool) (n : ℕ) (P : ℕ → Type 0) (b : Bool) → test (suc n) ≡ b → (b ≡ true → P (suc n)) → (b ≡ false → P (greatest_to test n)) → P (greatest_to test (suc n))
greatest_either test n P true is here below = subst P (sym (ap (λ (b : Bool). cond b (suc n) (greatest_to test n)) is)) (here refl)
greatest_either test n P false is here below = subst P (sym (ap (λ (b : Bool). cond b (suc n) (greatest_to test n)) is)) (below refl)

pub greatest_passes : (test : ℕ → Bool) (n : ℕ) → test 0 ≡ true → test (greatest_to test n) ≡ true
greatest_passes test zero first = first
greatest_passes test (suc n) first =
    greatest_either test n (λ (m : ℕ). test m ≡ true) (test (suc n)) refl (λ is. is) (λ is. greatest_passes test n first)

pub greatest_below : (test : ℕ → Bool) (n : ℕ) → greatest_to test n ≤ n
greatest_below test zero = omega arith
greatest_below test (suc n) =
    greatest_either test n (λ (m : ℕ). m ≤ suc n) (test (suc n)) refl (λ is. omega arith)
    (λ is. let less = greatest_below test n in omega (arith, less))

pub greatest_most : (test : ℕ → Bool) (n m : ℕ) → m ≤ n → test m ≡ true → m ≤ greatest_to test n
greatest_most test zero m most passes = most
greatest_most test (suc n) m most passes = elim (cases_eq m (suc n)) [
  | inl same ↦ greatest_either test n (λ (g : ℕ). m ≤ g) (test (suc n)) refl (λ is. omega (arith, same)) (λ is. absurd (cc (same, is, passes)))
  | inr other ↦ greatest_either test n (λ (g : ℕ). m ≤ g) (test (suc n)) refl (λ is. most) (λ is. greatest_most test n m (omega (arith, most, other)) passes)
]

-- ---- what a margin says

module _ (c : Circuit) (cases : List Case) (k : ℕ) (j : Instance) (parameter : Parameter) where
  abbrev most : ℕ
  most = spare (period c.header) j.limits parameter

  abbrev passes : ℕ → Bool
  passes m = fits c cases k j parameter (written j.limits parameter + m)

  is_greatest : fits c cases k j parameter (written j.limits parameter) ≡ true → IsGreatest c cases k j parameter (greatest_to passes most)
  is_greatest fitting = record {
    may = greatest_below passes most;
    fitting = greatest_passes passes most (ap (fits c cases k j parameter) (add-zero (written j.limits parameter)) ∙ fitting);
    greatest = λ m few passing. greatest_most passes most m few passing;
  }

  up_to_true : (more : ℕ) (found : List (ℕ × Fault)) → faults_with c cases k j parameter (written j.limits parameter + (more + 1)) ≡ found →
      IsGreatest c cases k j parameter more → more ≢ most → IsTrueOf c cases k j parameter (up_to more found)
  up_to_true more [] is greatest less =
      let may = greatest.may in
      let beyond = greatest.greatest (more + 1) (omega (arith, may, less)) (fits_without c k j parameter cases (written j.limits parameter + (more + 1)) is) in
      absurd (omega (arith, beyond))
  up_to_true more (found ∷ others) is greatest less =
      let may = greatest.may in
      ((greatest, omega (arith, may, less)), record { others = others; is = is })

  bounded_true : (more : ℕ) → IsGreatest c cases k j parameter more → IsTrueOf c cases k j parameter (bounded_by c cases k j parameter more)
  bounded_true more greatest = by (more == most) refl
    where
      by : (b : Bool) → (more == most) ≡ b →
          IsTrueOf c cases k j parameter (cond b (Limit more) (up_to more (faults_with c cases k j parameter (written j.limits parameter + (more + 1)))))
      by true is = (greatest, eqb-true more most is)
      by false is =
          up_to_true more (faults_with c cases k j parameter (written j.limits parameter + (more + 1))) refl greatest
          (λ same. true≢false (sym (eq-eqb more most same) ∙ is))

  pub margin_is_true : IsTrueOf c cases k j parameter (margin c cases k j parameter)
  unfolding margin
  margin_is_true = by (fits c cases k j parameter (written j.limits parameter)) refl
    where
      by : (b : Bool) → fits c cases k j parameter (written j.limits parameter) ≡ b →
          IsTrueOf c cases k j parameter (cond b (bounded_by c cases k j parameter (most_more c cases k j parameter)) Faulty)
      by true is = bounded_true (most_more c cases k j parameter) (is_greatest is)
      by false is = is

  -- ---- nothing else is true of a parameter

  same_more : (more other : ℕ) → IsGreatest c cases k j parameter more → IsGreatest c cases k j parameter other → more ≡ other
  same_more more other a b =
      let less = a.greatest other b.may b.fitting in
      let most = b.greatest more a.may a.fitting in
      omega (arith, less, most)

  not_faulty : (more : ℕ) → 1 ≤ period c.header → IsGreatest c cases k j parameter more → fits c cases k j parameter (written j.limits parameter) ≡ false → ⊥
  not_faulty more some greatest none =
      true≢false (sym (fits_with_less c k j parameter cases (written j.limits parameter) (written j.limits parameter + more) some (omega arith) greatest.fitting) ∙ none)

  pub one_margin : 1 ≤ period c.header → (m n : Margin) → IsTrueOf c cases k j parameter m → IsTrueOf c cases k j parameter n → m ≡ n
  one_margin some Faulty Faulty a b = refl
  one_margin some Faulty (Limit more) a b = absurd (not_faulty more some b.0 a)
  one_margin some Faulty (Next more number fault) a b = absurd (not_faulty more some b.0.0 a)
  one_margin some (Limit more) Faulty a b = absurd (not_faulty more some a.0 b)
  one_margin some (Limit more) (Limit other) a b = ap Limit (same_more more other a.0 b.0)
  one_margin some (Limit more) (Next other number fault) a b =
      let same = same_more more other a.0 b.0.0 in
      let all = a.1 in
      let less = b.0.1 in
      absurd (omega (arith, same, all, less))
  one_margin some (Next more number fault) Faulty a b = absurd (not_faulty more some a.0.0 b)
  one_margin some (Next more number fault) (Limit other) a b =
      let same = same_more more other a.0.0 b.0 in
      let all = b.1 in
      let less = a.0.1 in
      absurd (omega (arith, same, all, less))
  one_margin some (Next more number fault) (Next other number' fault') a b =
      let same : more ≡ other = same_more more other a.0.0 b.0.0 in
      let lists : (number, fault) ∷ a.1.others ≡ (number', fault') ∷ b.1.others =
      sym a.1.is ∙ ap (λ (m : ℕ). faults_with c cases k j parameter (written j.limits parameter + (m + 1))) same ∙ b.1.is in
      let first : (number, fault) ≡ (number', fault') = ap (λ (xs : List (ℕ × Fault)). get_or xs 0 (number, fault)) lists in
      let numbers : number ≡ number' = ap (λ (f : ℕ × Fault). f.0) first in
      let faults : fault ≡ fault' = ap (λ (f : ℕ × Fault). f.1) first in
      (λ i. Next (same i) (numbers i) (faults i))

pub margins_are_true : MarginsAreTrue
margins_are_true c cases k j parameter = margin_is_true c cases k j parameter
