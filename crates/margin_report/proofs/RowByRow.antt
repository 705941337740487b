-- The rows of margins: those over no case, and those over one case more, from those before.
use Rattle.std.proofs.Common.{◌≡◌, ℕ, zero, suc, ◌+◌, ◌<◌, ◌≤◌, Bool, true, false, cond, List, [], ◌∷◌, ◌++◌, length, map, take, drop, set, get_or, refl, sym, ap, subst, ◌∙◌, arith, add-one, zero-add, append_assoc, append-nil, Option, Some, None}
use Rattle.std.specs.Prelude.{◌==◌, slice_get}
use Rattle.std.specs.List.{All, flat_map, range_with_len}
use Rattle.std.proofs.lemmas.List.{flat_map_more, get_or_default, get_or-map, length-map, length-set, map-append, drop_all, take_all, take_more}
use Rattle.std.proofs.lemmas.List.Elements.{All-append, All-cons, All-set}
use Rattle.std.proofs.lemmas.Option.{get_or_from_slice_get, none-some, same_Some, slice_get_within}
use Rattle.vector_names.proofs.Ranges.{range_more}
use Rattle.scald_base.specs.Time.{Header, period}
use Rattle.element_kinds.specs.declared.kind.Kind.{Kind}
use Rattle.element_kinds.specs.declared.kind.Kind.TheVariants.{MinPulse}
use Rattle.element_kinds.specs.declared.form.Check.{Check}
use Rattle.element_kinds.specs.declared.form.Check.TheVariants.{SetupHold as AboutRise, RiseFall as RiseToFall, MinPulse as Widths}
use Rattle.element_kinds.specs.Kinds.{check_in, check_of, checks_points, checks_pulses, checks_so, is_at_edges, is_of_points, is_of_pulses, is_of_widths}
use Rattle.element_kinds.proofs.Forms.{of_form}
use Rattle.flat_circuit.specs.Limits.{high_of, low_of}
use Rattle.flat_circuit.specs.declared.instance.Instance.{Instance}
use Rattle.flat_circuit.specs.Kind.{LimitsFit, LimitsFitCheck, PulsesFit}
use Rattle.flat_circuit.specs.Instances.{InstanceFits}
use Rattle.flat_circuit.specs.Circuit.{Circuit, IsCircuit}
use Rattle.flat_circuit.specs.declared.limits.Limits.TheVariants.{None as Unlimited, Edges, Pulses}
use Rattle.flat_circuit.specs.declared.limits.Limits.{Limits}
use Rattle.fixpoint_engine.specs.Waves.{Waves}
use Rattle.point_check.proofs.Gathered.{edges_limits, points_limits}
use Rattle.timing_analysis.specs.Case.{Case}
use Rattle.margin_report.specs.declared.margin.Parameter.{Parameter}
use Rattle.margin_report.specs.declared.margin.Parameter.TheVariants.{Setup, Hold, High, Low}
use Rattle.margin_report.specs.declared.margin.Margin.{Margin}
use Rattle.margin_report.specs.declared.margin.Margin.TheVariants.{Limit}
use Rattle.margin_report.specs.declared.margin.Row.{Row}
use Rattle.margin_report.specs.Margin.{AreWithin, IsAskedBy, IsBelow, greatest_to, margin, most_more, parameters_in, spare}
use Rattle.margin_report.specs.Report.{IsRow, rows, rows_at, rows_in}

-- ---- which parameters a checker has

points_by_check : (kind : Kind) → checks_points kind ≡ checks_so is_at_edges (check_of kind)
points_by_check kind = sym (of_form is_of_points kind) ∙ ap (checks_so is_at_edges) (of_form check_in kind)

pulses_by_check : (kind : Kind) → checks_pulses kind ≡ checks_so is_of_widths (check_of kind)
pulses_by_check kind = sym (of_form is_of_pulses kind) ∙ ap (checks_so is_of_widths) (of_form check_in kind)

widths_limits : (h : Header) (l : Limits) → PulsesFit h l → (high_of l ≤ period h) × (low_of l ≤ period h)
widths_limits h Unlimited fits = absurd fits
widths_limits h (Edges setup hold) fits = absurd fits
widths_limits h (Pulses high low) fits = fits

pulses_limits : (h : Header) (kind : Kind) (l : Limits) → checks_pulses kind ≡ true → LimitsFit h kind l →
    (high_of l ≤ period h) × (low_of l ≤ period h)
pulses_limits h MinPulse l checks fits = widths_limits h l fits
pulses_limits h kind l checks fits = cc

-- A checker has the parameters of its rows, and their written values are those that a period allows.
pub each_asked : (h : Header) (j : Instance) → LimitsFit h j.kind j.limits →
    All (λ (parameter : Parameter). IsAskedBy j parameter × AreWithin (period h) j.limits parameter) (parameters_in (check_of j.kind))
each_asked h j fit = by (check_of j.kind) refl fit
  where
    by : (check : Option Check) → check_of j.kind ≡ check → LimitsFitCheck h check j.limits →
        All (λ (parameter : Parameter). IsAskedBy j parameter × AreWithin (period h) j.limits parameter) (parameters_in check)
    by None is fit i d less = absurd (omega (arith, less))
    by (Some AboutRise) is fit zero d less =
        (points_by_check j.kind ∙ ap (checks_so is_at_edges) is, edges_limits h j.limits fit)
    by (Some AboutRise) is fit (suc zero) d less =
        (points_by_check j.kind ∙ ap (checks_so is_at_edges) is, edges_limits h j.limits fit)
    by (Some AboutRise) is fit (suc (suc i)) d less = absurd (omega (arith, less))
    by (Some RiseToFall) is fit zero d less =
        (points_by_check j.kind ∙ ap (checks_so is_at_edges) is, edges_limits h j.limits fit)
    by (Some RiseToFall) is fit (suc zero) d less =
        (points_by_check j.kind ∙ ap (checks_so is_at_edges) is, edges_limits h j.limits fit)
    by (Some RiseToFall) is fit (suc (suc i)) d less = absurd (omega (arith, less))
    by (Some Widths) is fit zero d less =
        (pulses_by_check j.kind ∙ ap (checks_so is_of_widths) is, (widths_limits h j.limits fit).0)
    by (Some Widths) is fit (suc zero) d less =
        (pulses_by_check j.kind ∙ ap (checks_so is_of_widths) is, (widths_limits h j.limits fit).1)
    by (Some Widths) is fit (suc (suc i)) d less = absurd (omega (arith, less))

-- What a checker has as its limits fits each of its parameters.
pub asked_within : (h : Header) (j : Instance) (parameter : Parameter) → LimitsFit h j.kind j.limits →
    IsAskedBy j parameter → AreWithin (period h) j.limits parameter
asked_within h j Setup fit asked = points_limits h j.kind j.limits asked fit
asked_within h j Hold fit asked = points_limits h j.kind j.limits asked fit
asked_within h j High fit asked = (pulses_limits h j.kind j.limits asked fit).0
asked_within h j Low fit asked = (pulses_limits h j.kind j.limits asked fit).1

-- ---- the checker of a row

module _ (c : Circuit) (row : Row) (j : Instance) (is : IsRow c row) (there : slice_get c.instances row.instance ≡ Some j) where
  one_checker : is.checker ≡ j
  one_checker = same_Some is.checker j (sym is.there ∙ there)

  pub row_asked : IsAskedBy j row.parameter
  row_asked = subst (λ (x : Instance). IsAskedBy x row.parameter) one_checker is.asked

  pub row_below : IsBelow row.margin (spare (period c.header) j.limits row.parameter)
  row_below = subst (λ (x : Instance). IsBelow row.margin (spare (period c.header) x.limits row.parameter)) one_checker is.below

  pub row_within : IsCircuit c → AreWithin (period c.header) j.limits row.parameter
  row_within known =
      let fits : InstanceFits c.header (length c.nets) j =
      subst (InstanceFits c.header (length c.nets)) (get_or_from_slice_get c.instances row.instance j j there)
      (known.each row.instance j (slice_get_within c.instances row.instance j there)) in
      asked_within c.header j row.parameter fits.lim row_asked

  -- with another margin it is a row as well
  pub row_with : (m : Margin) → IsBelow m (spare (period c.header) j.limits row.parameter) →
      IsRow c (record { instance = row.instance; parameter = row.parameter; margin = m })
  row_with m below = record { checker = j; there = there; asked = row_asked; below = below }

-- ---- over no case

greatest_of_all : (n : ℕ) → greatest_to (λ m. true) n ≡ n
greatest_of_all zero = refl
greatest_of_all (suc n) = refl

-- nothing bounds a parameter but the greatest value that may be written
pub over_no_case : (c : Circuit) (k : ℕ) (j : Instance) (parameter : Parameter) →
    margin c [] k j parameter ≡ Limit (spare (period c.header) j.limits parameter)
unfolding margin
over_no_case c k j parameter =
    either (most_more c [] k j parameter == spare (period c.header) j.limits parameter) (most_more c [] k j parameter)
    ∙ ap Limit (greatest_of_all (spare (period c.header) j.limits parameter))
  where
    either : (b : Bool) (more : ℕ) → cond b (Limit more) (Limit more) ≡ Limit more
    either true more = refl
    either false more = refl

-- the rows of the first parameters of a checker over no case, and one more
pub row_more : (c : Circuit) (k : ℕ) (j : Instance) (items : List Parameter) (i : ℕ) (d : Parameter) (old before now : List Row) (q more : ℕ) →
    items ≡ parameters_in (check_of j.kind) → i < length items → slice_get c.instances k ≡ Some j → LimitsFit c.header j.kind j.limits →
    before ≡ old ++ map (λ parameter. record { instance = k; parameter = parameter; margin = margin c [] k j parameter }) (take i (parameters_in (check_of j.kind))) →
    All (IsRow c) before → q ≡ period c.header → more ≡ spare q j.limits (get_or items i d) →
    now ≡ before ++ record { instance = k; parameter = get_or items i d; margin = Limit more } ∷ [] →
    (now ≡ old ++ map (λ parameter. record { instance = k; parameter = parameter; margin = margin c [] k j parameter }) (take (i + 1) (parameters_in (check_of j.kind))))
    × All (IsRow c) now
row_more c k j items i d old before now q more are less there fit so_far each long spared is =
    let ps : List Parameter = parameters_in (check_of j.kind) in
    let p : Parameter = get_or items i d in
    let row : Row = record { instance = k; parameter = p; margin = Limit more } in
    let inside : i < length ps = omega (arith, less, ap length are) in
    let most : more ≡ spare (period c.header) j.limits p = spared ∙ ap (λ (n : ℕ). spare n j.limits p) long in
    let p_is : p ≡ get_or ps i d = ap (λ (xs : List Parameter). get_or xs i d) are in
    let margin_is : Limit more ≡ margin c [] k j p = ap Limit most ∙ sym (over_no_case c k j p) in
    let row_is : row ≡ own (get_or ps i d) = (λ t. record { instance = k; parameter = p; margin = margin_is t }) ∙ ap own p_is in
    let taken : map own (take (i + 1) ps) ≡ map own (take i ps) ++ own (get_or ps i d) ∷ [] =
    ap (map own) (take_more ps i d inside) ∙ map-append own (take i ps) (get_or ps i d ∷ []) in
    let is_row : IsRow c row = record {
      checker = j;
      there = there;
      asked = subst (IsAskedBy j) (sym p_is) (each_asked c.header j fit i d inside).0;
      below = omega (arith, most);
    } in (
      is ∙ (λ t. so_far t ++ row_is t ∷ []) ∙ append_assoc old (map own (take i ps)) (own (get_or ps i d) ∷ []) ∙ ap (λ (rs : List Row). old ++ rs) (sym taken),
      subst (All (IsRow c)) (sym is) (All-append (IsRow c) before (row ∷ []) each (All-cons (IsRow c) row [] is_row (λ n e none. absurd (omega (arith, none))))),
    )
  where
    own : Parameter → Row
    own parameter = record { instance = k; parameter = parameter; margin = margin c [] k j parameter }

-- the rows of the first instances, and of one more
pub rows_more : (c : Circuit) (cases : List Case) (n : ℕ) (before now : List Row) → before ≡ flat_map (rows_at c cases) (range_with_len 0 n) →
    now ≡ before ++ rows_at c cases n → now ≡ flat_map (rows_at c cases) (range_with_len 0 (n + 1))
rows_more c cases n before now so_far is =
    is ∙ (λ i. so_far i ++ rows_at c cases n) ∙ flat_map_more (rows_at c cases) [] (range_with_len 0 n) n
    ∙ ap (flat_map (rows_at c cases)) (sym (range_more 0 n n (zero-add n)))

-- ---- over other cases

-- a row of the same parameter, with its margin over these cases
abbrev pub over_in : Circuit → List Case → Row → Option Instance → Row
over_in c cases row None = row
over_in c cases row (Some j) =
    record { instance = row.instance; parameter = row.parameter; margin = margin c cases row.instance j row.parameter }

abbrev pub over : Circuit → List Case → Row → Row
over c cases row = over_in c cases row (slice_get c.instances row.instance)

again_at : (c : Circuit) (cases others : List Case) (k : ℕ) → map (over c others) (rows_at c cases k) ≡ rows_at c others k
again_at c cases others k = by (slice_get c.instances k) refl
  where
    by : (found : Option Instance) → slice_get c.instances k ≡ found → map (over c others) (rows_in c cases k found) ≡ rows_in c others k found
    by None is = refl
    by (Some j) is = each (parameters_in (check_of j.kind))
      where
        each : (ps : List Parameter) →
            map (over c others) (map (λ parameter. record { instance = k; parameter = parameter; margin = margin c cases k j parameter }) ps)
            ≡ map (λ parameter. record { instance = k; parameter = parameter; margin = margin c others k j parameter }) ps
        each [] = refl
        each (p ∷ ps) =
            (λ i. over_in c others (record { instance = k; parameter = p; margin = margin c cases k j p }) (is i) ∷ each ps i)

again_in : (c : Circuit) (cases others : List Case) (ks : List ℕ) → map (over c others) (flat_map (rows_at c cases) ks) ≡ flat_map (rows_at c others) ks
again_in c cases others [] = refl
again_in c cases others (k ∷ ks) =
    map-append (over c others) (rows_at c cases k) (flat_map (rows_at c cases) ks)
    ∙ (λ i. again_at c cases others k i ++ again_in c cases others ks i)

-- the rows over other cases are those over some with other margins
pub rows_again : (c : Circuit) (cases others : List Case) → map (over c others) (rows c cases) ≡ rows c others
rows_again c cases others = again_in c cases others (range_with_len 0 (length c.instances))

-- ---- row by row over one case more

-- a list that changes into another from its front on
mixed_set : {A : Type 0} (new old : List A) (i : ℕ) (d : A) → length new ≡ length old → i < length old →
    set (take i new ++ drop i old) i (get_or new i d) ≡ take (suc i) new ++ drop (suc i) old
mixed_set [] [] i d same less = absurd (omega (arith, less))
mixed_set [] (o ∷ os) i d same less = absurd (cc)
mixed_set (n ∷ ns) [] i d same less = absurd (omega (arith, less))
mixed_set (n ∷ ns) (o ∷ os) zero d same less = refl
mixed_set {A = A} (n ∷ ns) (o ∷ os) (suc i) d same less = ap (λ (xs : List A). n ∷ xs) (mixed_set ns os i d (omega (arith, same)) (omega (arith, less)))

mixed_at : {A : Type 0} (new old : List A) (i : ℕ) (d : A) → length new ≡ length old → i < length old →
    get_or (take i new ++ drop i old) i d ≡ get_or old i d
mixed_at [] [] i d same less = absurd (omega (arith, less))
mixed_at [] (o ∷ os) i d same less = absurd (cc)
mixed_at (n ∷ ns) [] i d same less = absurd (omega (arith, less))
mixed_at (n ∷ ns) (o ∷ os) zero d same less = refl
mixed_at (n ∷ ns) (o ∷ os) (suc i) d same less = mixed_at ns os i d (omega (arith, same)) (omega (arith, less))

module _ (c : Circuit) (number : ℕ) (ws : Waves) (old : List Row) where
  -- The rows before a place are those over one case more, and the others are as they were.
  abbrev pub IsLoweredTo : ℕ → List Row → Type 0
  IsLoweredTo place now = (cases : List Case) (one : Case) → one.listed.number ≡ number → one.waves ≡ ws → old ≡ rows c cases →
      now ≡ take place (rows c (cases ++ one ∷ [])) ++ drop place (rows c cases)

  pub lowered_start : IsLoweredTo 0 old
  lowered_start cases one numbered waves is = is

  as_many : (cases others : List Case) → length (rows c others) ≡ length (rows c cases)
  as_many cases others = ap length (sym (rows_again c cases others)) ∙ length-map (rows c cases) (over c others)

  pub lowered_more : (place : ℕ) (now : List Row) (row : Row) (checker : Instance) (m : Margin) → IsLoweredTo place now → place < length now →
      row ≡ get_or now place row → slice_get c.instances row.instance ≡ Some checker → length now ≡ length old →
      ((cases : List Case) (one : Case) → one.listed.number ≡ number → one.waves ≡ ws →
      row.margin ≡ margin c cases row.instance checker row.parameter →
      m ≡ margin c (cases ++ one ∷ []) row.instance checker row.parameter) →
      IsLoweredTo (place + 1) (set now place (record { instance = row.instance; parameter = row.parameter; margin = m }))
  lowered_more place now row checker m so_far less here there count is cases one numbered waves begun =
      let new : List Row = rows c (cases ++ one ∷ []) in
      let before : List Row = rows c cases in
      let now_is : now ≡ take place new ++ drop place before = so_far cases one numbered waves begun in
      let same : length new ≡ length before = as_many cases (cases ++ one ∷ []) in
      let within : place < length before = omega (arith, less, count, ap length begun) in
      let row_is : row ≡ get_or before place row = here ∙ ap (λ (xs : List Row). get_or xs place row) now_is ∙ mixed_at new before place row same within in
      let own : row ≡ over c cases row =
      row_is ∙ ap (λ (xs : List Row). get_or xs place row) (sym (rows_again c cases cases)) ∙ get_or-map (over c cases) before place row row within ∙ ap (over c cases) (sym row_is) in
      let margin_is : row.margin ≡ margin c cases row.instance checker row.parameter =
      ap (λ (r : Row). r.margin) own ∙ ap (λ (o : Option Instance). (over_in c cases row o).margin) there in
      let next : record { instance = row.instance; parameter = row.parameter; margin = m } ≡ over c (cases ++ one ∷ []) row =
      (λ i. record { instance = row.instance; parameter = row.parameter; margin = is cases one numbered waves margin_is i })
      ∙ ap (over_in c (cases ++ one ∷ []) row) (sym there) in
      let new_is : over c (cases ++ one ∷ []) row ≡ get_or new place row =
      ap (over c (cases ++ one ∷ [])) row_is ∙ sym (get_or-map (over c (cases ++ one ∷ [])) before place row row within)
      ∙ ap (λ (xs : List Row). get_or xs place row) (rows_again c cases (cases ++ one ∷ [])) in
      (λ i. set (now_is i) place ((next ∙ new_is) i)) ∙ mixed_set new before place row same within
      ∙ ap (λ n. take n new ++ drop n before) (sym (add-one place))

  pub lowered_end : (place : ℕ) (now : List Row) → IsLoweredTo place now → length old ≤ place →
      (cases : List Case) (one : Case) → one.listed.number ≡ number → one.waves ≡ ws → old ≡ rows c cases → now ≡ rows c (cases ++ one ∷ [])
  lowered_end place now is past cases one numbered waves begun =
      let same : length (rows c (cases ++ one ∷ [])) ≡ length (rows c cases) = as_many cases (cases ++ one ∷ []) in
      let whole : length old ≡ length (rows c cases) = ap length begun in
      is cases one numbered waves begun
      ∙ (λ i. take_all place (rows c (cases ++ one ∷ [])) (omega (arith, past, same, whole)) i ++ drop_all place (rows c cases) (omega (arith, past, whole)) i)
      ∙ append-nil (rows c (cases ++ one ∷ []))

  -- a step of the way: one row more, whose checker is found
  pub record Lowering (place : ℕ) (now : List Row) : Type 0 where
    pub count : length now ≡ length old
    pub rows : All (IsRow c) now
    pub lowered : IsLoweredTo place now

  pub lowers : (place : ℕ) (now items : List Row) (d : Row) (checker : Instance) (m : Margin) (next : List Row) → items ≡ now →
      place < length now → length now ≡ length old → All (IsRow c) now → IsLoweredTo place now →
      Some checker ≡ slice_get c.instances (get_or items place d).instance →
      IsBelow m (spare (period c.header) checker.limits (get_or items place d).parameter) →
      ((cases : List Case) (one : Case) → one.listed.number ≡ number → one.waves ≡ ws →
      (get_or items place d).margin ≡ margin c cases (get_or items place d).instance checker (get_or items place d).parameter →
      m ≡ margin c (cases ++ one ∷ []) (get_or items place d).instance checker (get_or items place d).parameter) →
      next ≡ set now place (record { instance = (get_or items place d).instance; parameter = (get_or items place d).parameter; margin = m }) →
      Lowering (place + 1) next
  lowers place now items d checker m next same less count each so_far found below is set_is =
      let row : Row = get_or items place d in
      let changed : Row = record { instance = row.instance; parameter = row.parameter; margin = m } in
      let here : row ≡ get_or now place row = ap (λ (xs : List Row). get_or xs place d) same ∙ get_or_default now place d row less in
      let is_row : IsRow c row = subst (λ (xs : List Row). IsRow c (get_or xs place d)) (sym same) (each place d less) in
      let there : slice_get c.instances row.instance ≡ Some checker = sym found in
      record {
        count = ap length set_is ∙ length-set now place changed ∙ count;
        rows =
            subst (All (IsRow c)) (sym set_is)
            (All-set (IsRow c) now place changed (row_with c row checker is_row there m below) each);
        lowered = subst (IsLoweredTo (place + 1)) (sym set_is) (lowered_more place now row checker m so_far less here there count is);
      }

  -- each row has a checker
  pub has_checker : (place : ℕ) (now items : List Row) (d : Row) → items ≡ now → place < length now → All (IsRow c) now →
      slice_get c.instances (get_or items place d).instance ≡ None → ⊥
  has_checker place now items d same less each none =
      let is_row : IsRow c (get_or items place d) = subst (λ (xs : List Row). IsRow c (get_or xs place d)) (sym same) (each place d less) in
      none-some is_row.checker (sym none ∙ is_row.there)
