-- A margin over one case more.
use Rattle.std.proofs.Common.{inl, inr, ◌≡◌, ℕ, ◌+◌, ◌<◌, ◌≤◌, Bool, true, false, List, [], ◌∷◌, ◌++◌, refl, sym, ap, subst, ◌∙◌, arith, add-zero, true≢false, Option, Some, None, is_some}
use Rattle.std.proofs.lemmas.Bool.{cases_lt}
use Rattle.std.proofs.lemmas.Option.{same_Some}
use Rattle.std.proofs.lemmas.List.Elements.{filter_map-append}
use Rattle.scald_base.specs.Time.{period}
use Rattle.flat_circuit.specs.declared.instance.Instance.{Instance}
use Rattle.flat_circuit.specs.declared.fault.Fault.{Fault}
use Rattle.flat_circuit.specs.Circuit.{Circuit}
use Rattle.fixpoint_engine.specs.Waves.{Waves}
use Rattle.timing_analysis.specs.Case.{Case}
use Rattle.margin_report.specs.declared.margin.Parameter.{Parameter}
use Rattle.margin_report.specs.declared.margin.Margin.{Margin}
use Rattle.margin_report.specs.declared.margin.Margin.TheVariants.{Fault as Faulty, Limit, Next}
use Rattle.margin_report.specs.Margin.{StopsAt, fault_with, faults_with, fits, margin, more_in, numbered_fault, spare, written}
use Rattle.margin_report.specs.Laws.{IsGreatest, IsTrueOf}
use Rattle.margin_report.proofs.Monotone.{fits_with_less, fits_without, no_faults, none_with_less}
use Rattle.margin_report.proofs.Greatest.{margin_is_true, one_margin}

module _ (c : Circuit) (cases : List Case) (one : Case) (k : ℕ) (j : Instance) (parameter : Parameter) where
  abbrev all : List Case
  all = cases ++ one ∷ []

  abbrev own : ℕ → Option Fault
  own value = fault_with c one.waves k j parameter value

  -- the faults over one case more
  faults_more : (value : ℕ) → faults_with c all k j parameter value ≡
      faults_with c cases k j parameter value ++ faults_with c (one ∷ []) k j parameter value
  faults_more value = filter_map-append (numbered_fault c k j parameter value) cases (one ∷ [])

  own_none : (value : ℕ) → own value ≡ None → faults_with c (one ∷ []) k j parameter value ≡ []
  own_none value is = no_faults c k j parameter (one ∷ []) value (rw is refl)

  own_some : (value : ℕ) (fault : Fault) → own value ≡ Some fault → faults_with c (one ∷ []) k j parameter value ≡ (one.listed.number, fault) ∷ []
  own_some value fault is = rw is refl

  -- a value fits all cases if it fits those before and the one has no fault
  fits_all : (value : ℕ) → fits c cases k j parameter value ≡ true → own value ≡ None → fits c all k j parameter value ≡ true
  fits_all value fitting none =
      fits_without c k j parameter all value
      (faults_more value ∙ (λ i. no_faults c k j parameter cases value fitting i ++ own_none value none i))

  fits_before : (value : ℕ) → fits c all k j parameter value ≡ true → fits c cases k j parameter value ≡ true
  fits_before value fitting =
      fits_without c k j parameter cases value
      (front_none (faults_with c cases k j parameter value) (faults_with c (one ∷ []) k j parameter value)
      (sym (faults_more value) ∙ no_faults c k j parameter all value fitting))
    where
      front_none : (xs ys : List (ℕ × Fault)) → xs ++ ys ≡ [] → xs ≡ []
      front_none [] ys none = refl
      front_none (x ∷ xs) ys none = absurd (cc)

  fits_own : (value : ℕ) → fits c all k j parameter value ≡ true → own value ≡ None
  fits_own value fitting = by (own value) refl
    where
      by : (found : Option Fault) → own value ≡ found → own value ≡ None
      by None is = is
      by (Some fault) is =
          let some : faults_with c cases k j parameter value ++ (one.listed.number, fault) ∷ [] ≡ [] =
          ap (λ (xs : List (ℕ × Fault)). faults_with c cases k j parameter value ++ xs) (sym (own_some value fault is))
          ∙ sym (faults_more value) ∙ no_faults c k j parameter all value fitting in
          absurd (not_empty (faults_with c cases k j parameter value) some)
        where
          not_empty : (xs : List (ℕ × Fault)) → xs ++ (one.listed.number, fault) ∷ [] ≡ [] → ⊥
          not_empty [] none = absurd (cc)
          not_empty (x ∷ xs) none = absurd (cc)

  abbrev w : ℕ
  w = written j.limits parameter

  abbrev most : ℕ
  most = spare (period c.header) j.limits parameter

  -- ---- what was true stays true if the one has no fault with so much more

  still_greatest : (more : ℕ) → IsGreatest c cases k j parameter more → own (w + more) ≡ None → IsGreatest c all k j parameter more
  still_greatest more greatest none = record {
    may = greatest.may;
    fitting = fits_all (w + more) greatest.fitting none;
    greatest = λ m few passing. greatest.greatest m few (fits_before (w + m) passing);
  }

  as_before : (m : Margin) → IsTrueOf c cases k j parameter m → ((more : ℕ) → more_in m ≡ Some more → own (w + more) ≡ None) → IsTrueOf c all k j parameter m
  as_before Faulty true_before none = not_fitting (fits c all k j parameter w) refl
    where
      not_fitting : (b : Bool) → fits c all k j parameter w ≡ b → fits c all k j parameter w ≡ false
      not_fitting false is = is
      not_fitting true is = absurd (true≢false (sym (fits_before w is) ∙ true_before))
  as_before (Limit m) true_before none = (still_greatest m true_before.0 (none m refl), true_before.1)
  as_before (Next m number fault) true_before none = (
    (still_greatest m true_before.0.0 (none m refl), true_before.0.1),
    record {
      others = true_before.1.others ++ faults_with c (one ∷ []) k j parameter (w + (m + 1));
      is =
          faults_more (w + (m + 1))
          ∙ ap (λ (xs : List (ℕ × Fault)). xs ++ faults_with c (one ∷ []) k j parameter (w + (m + 1))) true_before.1.is;
    },
  )

  -- ---- the written value does not fit the one

  faulty_now : (fault : Fault) → own (w + 0) ≡ Some fault → IsTrueOf c all k j parameter Faulty
  faulty_now fault is = by (fits c all k j parameter w) refl
    where
      by : (b : Bool) → fits c all k j parameter w ≡ b → fits c all k j parameter w ≡ false
      by false now = now
      by true now =
          let none : own w ≡ None = fits_own w now in
          let both : Some fault ≡ None = sym is ∙ ap own (add-zero w) ∙ none in
          absurd (cc)

  -- ---- it fits the one with less

  less_now : (before more : ℕ) (fault : Fault) → 1 ≤ period c.header → IsGreatest c cases k j parameter before → more < before →
      StopsAt c one.waves k j parameter more fault → IsTrueOf c all k j parameter (Next more one.listed.number fault)
  less_now before more fault some greatest less stops =
      let may = greatest.may in
      let fitting : fits c cases k j parameter (w + more) ≡ true =
      fits_with_less c k j parameter cases (w + more) (w + before) some (omega (arith, less)) greatest.fitting in
      let next : fits c cases k j parameter (w + (more + 1)) ≡ true =
      fits_with_less c k j parameter cases (w + (more + 1)) (w + before) some (omega (arith, less)) greatest.fitting in (
        (
          record {
            may = omega (arith, less, may);
            fitting = fits_all (w + more) fitting stops.fits;
            greatest = λ m few passing. no_more m passing;
          },
          omega (arith, less, may),
        ),
        record {
          others = [];
          is = faults_more (w + (more + 1)) ∙ (λ i. no_faults c k j parameter cases (w + (more + 1)) next i ++ own_some (w + (more + 1)) fault stops.stops i);
        },
      )
    where
      no_more : (m : ℕ) → fits c all k j parameter (w + m) ≡ true → m ≤ more
      no_more m passing = elim (cases_lt more m) [
        | inl beyond ↦
            let none : own (w + (more + 1)) ≡ None =
            none_with_less c one.waves k j parameter (w + (more + 1)) (w + m) some (omega (arith, beyond)) (fits_own (w + m) passing) in
            let both : Some fault ≡ None = sym stops.stops ∙ none in
            absurd (cc)
        | inr within ↦ within
      ]

  -- ---- so each is the margin over all of them, if the one has these waves

  module _ (ws : Waves) (here : one.waves ≡ ws) (some : 1 ≤ period c.header) where
    is_margin : (m : Margin) → IsTrueOf c all k j parameter m → m ≡ margin c all k j parameter
    is_margin m now = one_margin c all k j parameter some m (margin c all k j parameter) now (margin_is_true c all k j parameter)

    true_of : (m : Margin) → m ≡ margin c cases k j parameter → IsTrueOf c cases k j parameter m
    true_of m is = subst (IsTrueOf c cases k j parameter) (sym is) (margin_is_true c cases k j parameter)

    own_is : (value : ℕ) (found : Option Fault) → fault_with c ws k j parameter value ≡ found → own value ≡ found
    own_is value found is = ap (λ (ws : Waves). fault_with c ws k j parameter value) here ∙ is

    pub stays : (m : Margin) → m ≡ margin c cases k j parameter →
        ((more : ℕ) → more_in m ≡ Some more → fault_with c ws k j parameter (w + more) ≡ None) → m ≡ margin c all k j parameter
    stays m is none = is_margin m (as_before m (true_of m is) (λ more has. own_is (w + more) None (none more has)))

    pub fails : (found : Option Fault) → found ≡ fault_with c ws k j parameter (w + 0) → is_some found ≡ true → Faulty ≡ margin c all k j parameter
    fails (Some fault) is has = is_margin Faulty (faulty_now fault (own_is (w + 0) (Some fault) (sym is)))
    fails None is has = absurd (cc)

    pub lessens : (m : Margin) (before more : ℕ) (fault : Fault) → m ≡ margin c cases k j parameter → more_in m ≡ Some before →
        more < before → StopsAt c ws k j parameter more fault → Next more one.listed.number fault ≡ margin c all k j parameter
    lessens m before more fault is has less stops =
        is_margin (Next more one.listed.number fault)
        (less_now before more fault some (greatest_in m (true_of m is) has) less
        (record { fits = own_is (w + more) None stops.fits; stops = own_is (w + (more + 1)) (Some fault) stops.stops }))
      where
        greatest_in : (m : Margin) → IsTrueOf c cases k j parameter m → more_in m ≡ Some before → IsGreatest c cases k j parameter before
        greatest_in Faulty now has = absurd (cc)
        greatest_in (Limit most) now has = subst (IsGreatest c cases k j parameter) (same_Some most before has) now.0
        greatest_in (Next most number fault) now has = subst (IsGreatest c cases k j parameter) (same_Some most before has) now.0.0
