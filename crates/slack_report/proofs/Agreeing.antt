-- Some limit is broken exactly where some case has a fault.
use Rattle.std.proofs.Common.{inl, inr, ◌≡◌, ◌∙◌, ◌⊎◌, ℕ, ◌==◌, Bool, true, false, not, ◌||◌, cond, List, [], ◌∷◌, length, map, refl, sym, ap, Option, Some, None}
use Rattle.std.specs.Prelude.{◌↔◌, is_some, slice_get}
use Rattle.std.specs.List.{AllByRecursion, filter_map, list_any, range_with_len}
use Rattle.std.proofs.lemmas.List.Folds.{list_any-append}
use Rattle.std.proofs.lemmas.Option.{slice_get_within}
use Rattle.element_kinds.specs.declared.form.Check.{Check}
use Rattle.element_kinds.specs.declared.form.Check.TheVariants.{SetupHold as AboutRise, RiseFall as RiseToFall, MinPulse as Widths}
use Rattle.element_kinds.specs.Kinds.{check_of, checks_points, checks_pulses, checks_so, is_at_edges, is_of_widths, may_be_marked}
use Rattle.flat_circuit.specs.declared.fault.Fault.{Fault}
use Rattle.flat_circuit.specs.declared.instance.Instance.{Instance}
use Rattle.flat_circuit.specs.declared.net.Net.{Net}
use Rattle.flat_circuit.specs.Circuit.{Circuit}
use Rattle.fixpoint_engine.specs.Waves.{Waves, marked_pin}
use Rattle.point_check.specs.Assertion.{is_held}
use Rattle.point_check.specs.Faults.{fault_by, fault_if_held, fault_of, fault_of_net, instance_fault, net_fault, point_faults}
use Rattle.pulse_check.specs.Faults.{faults_by, faults_of as widths_of, instance_faults, limited_fault, listed, width_faults}
use Rattle.flat_circuit.specs.Limits.{high_of, low_of}
use Rattle.timing_analysis.specs.Case.{faults_of}
use Rattle.slack_rows.specs.declared.parameter.Parameter.{Parameter}
use Rattle.slack_rows.specs.declared.parameter.Subject.{Subject}
use Rattle.slack_rows.specs.declared.parameter.Subject.TheVariants.{Instance as OfInstance, Net as OfNet}
use Rattle.slack_rows.specs.declared.parameter.Word.{Word as Limit}
use Rattle.slack_rows.specs.declared.parameter.Word.TheVariants.{Setup, Hold, High, Low, Gate, Before as GateBefore, After as GateAfter, Assert, From as StableFrom, To as StableTo}
use Rattle.slack_rows.specs.Laws.{AreWaves, SomeOf}
use Rattle.critical_paths.specs.declared.direction.Direction.TheVariants.{Change}
use Rattle.slack_rows.specs.Limit.{Case, beside, least_finding, finding_case, finding_check, finding_in, finding_instance, finding_mark, finding_pin}
use Rattle.slack_rows.specs.Rows.{all_limits, if_some, limits_at, limits_of, limits_of_check, limits_of_instance, limits_of_mark, limits_of_net, limit_with, some_broken, subjects}
use Rattle.slack_rows.specs.Slack.{Free, Finding, is_broken, least, finding_alone, finding_of}
use Rattle.slack_rows.proofs.Broken.{BrokenAt, least_breaks, least_broken}
use Rattle.slack_rows.proofs.Checkers.{edges_break_with_faults}
use Rattle.slack_rows.proofs.Gates.{marks_break_with_faults}
use Rattle.slack_rows.proofs.Nets.{nets_break_with_faults}
use Rattle.slack_rows.proofs.Pulses.{widths_break_with_faults}
use Rattle.slack_report.specs.Answer.{fault_total}
use Rattle.slack_report.proofs.Checking.{marked_checks, points_by, pulses_by}
use Rattle.slack_report.proofs.Tests.{any_each, any_flat, any_map, any_or, any_swap, none_in_sum, none_is, or_none, or_same, same_test, some_append, some_filtered, some_flat, some_of, three_are, two_are}

-- ---- in the waves of a case

module _ (c : Circuit) (ws : Waves) (are : AreWaves c ws) where
  abbrev breaks : Subject → Limit → Bool
  breaks subject limit = is_broken (finding_in c ws subject limit).slack

  abbrev some_breaks : Subject → Bool
  some_breaks subject = list_any (breaks subject) (limits_of c subject)

  -- ---- nets

  net_fault_is : (i : ℕ) (o : Option Net) → slice_get c.nets i ≡ o →
      net_fault c ws i ≡ fault_of_net c ws i o
  unfolding net_fault
  net_fault_is i o at = ap (fault_of_net c ws i) at

  of_net : (i : ℕ) → some_breaks (OfNet i) ≡ is_some (net_fault c ws i)
  of_net i = by (slice_get c.nets i) refl
    where
      held : (net : Net) → slice_get c.nets i ≡ Some net → (holds : Bool) → is_held net ≡ holds →
          list_any (breaks (OfNet i)) (cond holds (Assert ∷ StableFrom ∷ StableTo ∷ []) [])
          ≡ is_some (net_fault c ws i)
      held net at true is =
          three_are (is_some (net_fault c ws i)) (breaks (OfNet i) Assert)
          (breaks (OfNet i) StableFrom) (breaks (OfNet i) StableTo)
          (nets_break_with_faults c ws i are (slice_get_within c.nets i net at))
      held net at false is =
          sym (ap is_some (net_fault_is i (Some net) at)
          ∙ ap (λ (b : Bool). is_some (fault_if_held b c ws i net)) is)

      by : (o : Option Net) → slice_get c.nets i ≡ o →
          some_breaks (OfNet i) ≡ is_some (net_fault c ws i)
      by None at =
          ap (λ (o : Option Net). list_any (breaks (OfNet i)) (limits_of_net o)) at
          ∙ sym (ap is_some (net_fault_is i None at))
      by (Some net) at =
          ap (λ (o : Option Net). list_any (breaks (OfNet i)) (limits_of_net o)) at
          ∙ held net at (is_held net) refl

  -- ---- instances

  abbrev has_faults : ℕ → Bool
  has_faults k = is_some (instance_fault c ws k) || some_of (instance_faults c ws k)

  fault_is : (k : ℕ) (o : Option Instance) → slice_get c.instances k ≡ o →
      instance_fault c ws k ≡ fault_of c ws k o
  unfolding instance_fault
  fault_is k o at = ap (fault_of c ws k) at

  widths_are : (k : ℕ) (o : Option Instance) → slice_get c.instances k ≡ o →
      instance_faults c ws k ≡ widths_of c ws k o
  unfolding instance_faults
  widths_are k o at = ap (widths_of c ws k) at

  finding_is : (k : ℕ) (o : Option Instance) (limit : Limit) → slice_get c.instances k ≡ o →
      finding_in c ws (OfInstance k) limit ≡ finding_instance c ws limit o
  unfolding finding_in
  finding_is k o limit at = ap (finding_instance c ws limit) at

  module _ (k : ℕ) (j : Instance) (at : slice_get c.instances k ≡ Some j) where
    abbrev breaks_at : Limit → Bool
    breaks_at limit = breaks (OfInstance k) limit

    -- the faults of pulses, by what the kind checks
    widths_by : (check : Option Check) → check_of j.kind ≡ check →
        instance_faults c ws k ≡ faults_by (checks_so is_of_widths check) c ws k j
    widths_by check is =
        widths_are k (Some j) at
        ∙ ap (λ (b : Bool). faults_by b c ws k j)
        (pulses_by j.kind ∙ ap (checks_so is_of_widths) is)

    faults_are : (check : Option Check) → check_of j.kind ≡ check →
        has_faults k ≡ (is_some (instance_fault c ws k)
        || some_of (faults_by (checks_so is_of_widths check) c ws k j))
    faults_are check is =
        ap (λ (fs : List Fault). is_some (instance_fault c ws k) || some_of fs) (widths_by check is)

    -- one without marks, by what the kind checks
    fault_by_check : (check : Option Check) → check_of j.kind ≡ check →
        may_be_marked j.kind ≡ false →
        instance_fault c ws k ≡ fault_by (checks_so is_at_edges check) false c ws k j
    fault_by_check check is free =
        fault_is k (Some j) at
        ∙ (λ i. fault_by ((points_by j.kind ∙ ap (checks_so is_at_edges) is) i) (free i) c ws k j)

    points : (check : Check) → check_of j.kind ≡ Some check → is_at_edges check ≡ true →
        checks_points j.kind ≡ true
    points check is edges = points_by j.kind ∙ ap (checks_so is_at_edges) is ∙ edges

    of_edges : (check : Check) → check_of j.kind ≡ Some check → is_at_edges check ≡ true →
        (breaks_at Setup || (breaks_at Hold || false)) ≡ is_some (instance_fault c ws k)
    of_edges check is edges =
        two_are (is_some (instance_fault c ws k)) (breaks_at Setup) (breaks_at Hold)
        (edges_break_with_faults c ws k j are at (points check is edges))

    listed_some : (o : Option Fault) → some_of (listed o) ≡ is_some o
    listed_some None = refl
    listed_some (Some fault) = refl

    widths : check_of j.kind ≡ Some Widths →
        (breaks_at High || (breaks_at Low || false))
        ≡ some_of (faults_by true c ws k j)
    widths is =
        let pulses : checks_pulses j.kind ≡ true = pulses_by j.kind ∙ ap (checks_so is_of_widths) is in
        let high = limited_fault c ws k j true (high_of j.limits) in
        let low = limited_fault c ws k j false (low_of j.limits) in
        let high_is : breaks_at High ≡ is_some high =
        same_test (breaks_at High) (is_some high)
        (widths_break_with_faults c ws k j true are at pulses).1
        (widths_break_with_faults c ws k j true are at pulses).0 in
        let low_is : breaks_at Low ≡ is_some low =
        same_test (breaks_at Low) (is_some low)
        (widths_break_with_faults c ws k j false are at pulses).1
        (widths_break_with_faults c ws k j false are at pulses).0 in
        or_same (breaks_at High) (breaks_at Low || false) (some_of (listed high))
        (some_of (listed low)) (high_is ∙ sym (listed_some high))
        (or_none (breaks_at Low) ∙ low_is ∙ sym (listed_some low))
        ∙ sym (some_append (listed high) (listed low))

    unmarked : may_be_marked j.kind ≡ false → (check : Option Check) → check_of j.kind ≡ check →
        list_any breaks_at (limits_of_check check) ≡ has_faults k
    unmarked free None is =
        sym (faults_are None is
        ∙ ap (λ (o : Option Fault). is_some o || false) (fault_by_check None is free))
    unmarked free (Some AboutRise) is =
        of_edges AboutRise is refl
        ∙ sym (faults_are (Some AboutRise) is ∙ or_none (is_some (instance_fault c ws k)))
    unmarked free (Some RiseToFall) is =
        of_edges RiseToFall is refl
        ∙ sym (faults_are (Some RiseToFall) is ∙ or_none (is_some (instance_fault c ws k)))
    unmarked free (Some Widths) is =
        widths is
        ∙ sym (faults_are (Some Widths) is
        ∙ ap (λ (o : Option Fault). is_some o || some_of (faults_by true c ws k j))
        (fault_by_check (Some Widths) is free))

    -- with a marked pin, or without
    finding_marked : may_be_marked j.kind ≡ true → (limit : Limit) (marked : Option ℕ) →
        marked_pin j ≡ marked → breaks_at limit ≡ is_broken (finding_mark c ws j limit marked).slack
    finding_marked marks limit marked is =
        ap (λ (finding : Finding). is_broken finding.slack)
        (finding_is k (Some j) limit at
        ∙ ap (λ (b : Bool). cond b (finding_mark c ws j limit (marked_pin j)) (finding_check c ws j limit (check_of j.kind))) marks
        ∙ ap (finding_mark c ws j limit) is)

    law_of_marks : may_be_marked j.kind ≡ true → (is_some (instance_fault c ws k) ≡ true)
        ↔ ((breaks_at Gate ≡ true) ⊎ ((breaks_at GateBefore ≡ true) ⊎ (breaks_at GateAfter ≡ true)))
    law_of_marks marks = marks_break_with_faults c ws k j are at marks

    alone : may_be_marked j.kind ≡ true → (marked : ℕ) → marked_pin j ≡ Some marked →
        (pins : List ℕ) → beside j marked ≡ pins → (limit : Limit) →
        breaks_at limit ≡ is_broken (least (map (λ i. finding_of i Change (finding_pin c ws j limit marked i)) pins)).slack
    alone marks marked is pins are_pins limit =
        finding_marked marks limit (Some marked) is
        ∙ ap (λ (is : List ℕ). is_broken (least (map (λ i. finding_of i Change (finding_pin c ws j limit marked i)) is)).slack) are_pins

    of_pins : may_be_marked j.kind ≡ true → (marked : ℕ) → marked_pin j ≡ Some marked →
        (pins : List ℕ) → beside j marked ≡ pins →
        list_any breaks_at (if_some pins (Gate ∷ GateBefore ∷ GateAfter ∷ []))
        ≡ is_some (instance_fault c ws k)
    of_pins marks marked is [] none =
        none_is (is_some (instance_fault c ws k)) (breaks_at Gate) (breaks_at GateBefore)
        (breaks_at GateAfter) (law_of_marks marks) (alone marks marked is [] none Gate)
        (alone marks marked is [] none GateBefore) (alone marks marked is [] none GateAfter)
    of_pins marks marked is (pin ∷ pins) some =
        three_are (is_some (instance_fault c ws k)) (breaks_at Gate) (breaks_at GateBefore)
        (breaks_at GateAfter) (law_of_marks marks)

    of_mark : may_be_marked j.kind ≡ true → (marked : Option ℕ) → marked_pin j ≡ marked →
        list_any breaks_at (limits_of_mark j marked) ≡ is_some (instance_fault c ws k)
    of_mark marks None is =
        none_is (is_some (instance_fault c ws k)) (breaks_at Gate) (breaks_at GateBefore)
        (breaks_at GateAfter) (law_of_marks marks) (finding_marked marks Gate None is)
        (finding_marked marks GateBefore None is) (finding_marked marks GateAfter None is)
    of_mark marks (Some marked) is = of_pins marks marked is (beside j marked) refl

    of_kind : (marks : Bool) → may_be_marked j.kind ≡ marks →
        list_any breaks_at (cond marks (limits_of_mark j (marked_pin j)) (limits_of_check (check_of j.kind)))
        ≡ has_faults k
    of_kind false free = unmarked free (check_of j.kind) refl
    of_kind true marks =
        of_mark marks (marked_pin j) refl
        ∙ sym (faults_are None (marked_checks j.kind marks) ∙ or_none (is_some (instance_fault c ws k)))

  of_instance : (k : ℕ) → some_breaks (OfInstance k) ≡ has_faults k
  of_instance k = by (slice_get c.instances k) refl
    where
      by : (o : Option Instance) → slice_get c.instances k ≡ o →
          some_breaks (OfInstance k) ≡ has_faults k
      by None at =
          ap (λ (o : Option Instance). list_any (breaks (OfInstance k)) (limits_of_instance o)) at
          ∙ sym (or_same (is_some (instance_fault c ws k)) (some_of (instance_faults c ws k)) false false
          (ap is_some (fault_is k None at)) (ap some_of (widths_are k None at)))
      by (Some j) at =
          ap (λ (o : Option Instance). list_any (breaks (OfInstance k)) (limits_of_instance o)) at
          ∙ of_kind k j at (may_be_marked j.kind) refl

  -- ---- all of them

  abbrev numbers : List ℕ
  numbers = range_with_len 0 (length c.instances)

  abbrev has_point : ℕ → Bool
  has_point k = is_some (instance_fault c ws k)

  abbrev has_width : ℕ → Bool
  has_width k = some_of (instance_faults c ws k)

  abbrev has_net : ℕ → Bool
  has_net i = is_some (net_fault c ws i)

  limits_broken : list_any (λ (q : Parameter). breaks q.subject q.word) (all_limits c)
      ≡ (list_any has_faults numbers || list_any has_net c.order)
  limits_broken =
      any_flat (λ (q : Parameter). breaks q.subject q.word) (limits_at c) (subjects c)
      ∙ any_each
      (λ (s : Subject). list_any (λ (q : Parameter). breaks q.subject q.word) (limits_at c s))
      some_breaks
      (λ (s : Subject). any_map (λ (q : Parameter). breaks q.subject q.word) (limit_with c s) (limits_of c s))
      (subjects c)
      ∙ list_any-append some_breaks (map OfInstance numbers) (map OfNet c.order)
      ∙ or_same (list_any some_breaks (map OfInstance numbers)) (list_any some_breaks (map OfNet c.order))
      (list_any has_faults numbers) (list_any has_net c.order)
      (any_map some_breaks OfInstance numbers
      ∙ any_each (λ k. some_breaks (OfInstance k)) has_faults of_instance numbers)
      (any_map some_breaks OfNet c.order
      ∙ any_each (λ i. some_breaks (OfNet i)) has_net of_net c.order)

  or_turn : (a b d : Bool) → ((a || b) || d) ≡ ((a || d) || b)
  or_turn true b d = refl
  or_turn false true true = refl
  or_turn false true false = refl
  or_turn false false true = refl
  or_turn false false false = refl

  faults_there : some_of (faults_of c ws)
      ≡ (list_any has_faults numbers || list_any has_net c.order)
  faults_there =
      some_append (point_faults c ws) (width_faults c ws)
      ∙ or_same (some_of (point_faults c ws)) (some_of (width_faults c ws))
      (list_any has_point numbers || list_any has_net c.order) (list_any has_width numbers)
      (some_append (filter_map (instance_fault c ws) numbers) (filter_map (net_fault c ws) c.order)
      ∙ or_same (some_of (filter_map (instance_fault c ws) numbers))
      (some_of (filter_map (net_fault c ws) c.order)) (list_any has_point numbers)
      (list_any has_net c.order) (some_filtered (instance_fault c ws) numbers)
      (some_filtered (net_fault c ws) c.order))
      (some_flat (instance_faults c ws) numbers)
      ∙ or_turn (list_any has_point numbers) (list_any has_net c.order) (list_any has_width numbers)
      ∙ ap (λ (b : Bool). b || list_any has_net c.order) (sym (any_or has_point has_width numbers))

  pub breaks_with_faults : list_any (λ (q : Parameter). breaks q.subject q.word) (all_limits c)
      ≡ some_of (faults_of c ws)
  breaks_with_faults = limits_broken ∙ sym faults_there

-- ---- over all cases

module _ (c : Circuit) where
  abbrev breaks_in : Parameter → Case → Bool
  breaks_in q case = is_broken (finding_case c q.subject q.word case).slack

  some_true : (q : Parameter) (cases : List Case) →
      SomeOf (BrokenAt (finding_case c q.subject q.word)) cases → list_any (breaks_in q) cases ≡ true
  some_true q [] none = absurd none
  some_true q (case ∷ cases) (inl broken) =
      ap (λ (b : Bool). b || list_any (breaks_in q) cases) broken
  some_true q (case ∷ cases) (inr more) = by (breaks_in q case) (some_true q cases more)
    where
      by : (b : Bool) → list_any (breaks_in q) cases ≡ true → (b || list_any (breaks_in q) cases) ≡ true
      by true is = refl
      by false is = is

  true_some : (q : Parameter) (cases : List Case) → list_any (breaks_in q) cases ≡ true →
      SomeOf (BrokenAt (finding_case c q.subject q.word)) cases
  true_some q [] is = absurd (cc)
  true_some q (case ∷ cases) is = by (breaks_in q case) refl (true_some q cases) is
    where
      by : (b : Bool) → breaks_in q case ≡ b →
          (list_any (breaks_in q) cases ≡ true → SomeOf (BrokenAt (finding_case c q.subject q.word)) cases) →
          (breaks_in q case || list_any (breaks_in q) cases) ≡ true →
          SomeOf (BrokenAt (finding_case c q.subject q.word)) (case ∷ cases)
      by true here more is = inl here
      by false here more is = inr (more (sym (ap (λ (b : Bool). b || list_any (breaks_in q) cases) here) ∙ is))

  -- the least slack of a limit is broken exactly where it is in some case
  least_is : (cases : List Case) (q : Parameter) →
      is_broken (least_finding c cases q.subject q.word).slack ≡ list_any (breaks_in q) cases
  least_is cases q =
      same_test (is_broken (least_finding c cases q.subject q.word).slack) (list_any (breaks_in q) cases)
      (λ broken. by (least_broken (finding_case c q.subject q.word) (finding_alone Free) cases broken))
      (λ found. least_breaks (finding_case c q.subject q.word) (finding_alone Free) cases (inr (true_some q cases found)))
    where
      by : (false ≡ true) ⊎ SomeOf (BrokenAt (finding_case c q.subject q.word)) cases →
          list_any (breaks_in q) cases ≡ true
      by (inl never) = absurd (cc)
      by (inr some) = some_true q cases some

  each_case : (cases : List Case) → AllByRecursion (λ (case : Case). AreWaves c case.waves) cases →
      list_any (λ (case : Case). list_any (λ (q : Parameter). breaks_in q case) (all_limits c)) cases
      ≡ list_any (λ (case : Case). some_of (faults_of c case.waves)) cases
  each_case [] are = refl
  each_case (case ∷ cases) are =
      or_same (list_any (λ (q : Parameter). breaks_in q case) (all_limits c))
      (list_any (λ (case : Case). list_any (λ (q : Parameter). breaks_in q case) (all_limits c)) cases)
      (some_of (faults_of c case.waves))
      (list_any (λ (case : Case). some_of (faults_of c case.waves)) cases)
      (breaks_with_faults c case.waves are.0) (each_case cases are.1)

  pub broken_with_faults : (cases : List Case) →
      AllByRecursion (λ (case : Case). AreWaves c case.waves) cases →
      not (some_broken c cases) ≡ (fault_total c cases == 0)
  broken_with_faults cases are =
      ap not
      (any_each (λ (q : Parameter). is_broken (least_finding c cases q.subject q.word).slack)
      (λ (q : Parameter). list_any (breaks_in q) cases) (least_is cases) (all_limits c)
      ∙ any_swap breaks_in (all_limits c) cases ∙ each_case cases are)
      ∙ sym (none_in_sum (λ (case : Case). faults_of c case.waves) cases)
