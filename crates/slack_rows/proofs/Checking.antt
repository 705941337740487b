-- What is told of a checker at edges, by what its pins show.
use Rattle.std.proofs.Common.{◌≡◌, ℕ, ◌≤◌, Bool, true, false, not, ◌&&◌, cond, refl, sym, ap, subst, ◌∙◌, List, length, Option, Some, None}
use Rattle.std.specs.Prelude.{◌==◌, Result, IfOk, slice_get}
use Rattle.std.specs.List.{All}
use Rattle.std.proofs.lemmas.Option.{get_or_from_slice_get, slice_get_within}
use Rattle.std.proofs.lemmas.Result.{IfOk-weaker}
use Rattle.scald_base.specs.Time.{period}
use Rattle.element_kinds.specs.declared.form.Check.{Check}
use Rattle.element_kinds.specs.declared.form.Check.TheVariants.{SetupHold as AboutRise, RiseFall as RiseToFall, MinPulse as Widths}
use Rattle.flat_circuit.specs.declared.instance.Instance.{Instance}
use Rattle.flat_circuit.specs.declared.instance.Pin.{Pin}
use Rattle.flat_circuit.specs.Circuit.{Circuit}
use Rattle.flat_circuit.specs.Instances.{PinExists, TargetExists}
use Rattle.fixpoint_engine.specs.Waves.{Waves}
use Rattle.critical_paths.specs.declared.direction.Direction.TheVariants.{Rise, Fall, Change}
use Rattle.critical_paths.specs.declared.direction.Direction.{Direction}
use Rattle.critical_paths.specs.declared.region.Slots.{Slots as Found}
use Rattle.critical_paths.specs.declared.region.Region.{Region as Ticked}
use Rattle.critical_paths.specs.Event.{Events, events}
use Rattle.critical_paths.specs.Region.{IsCyclic, some_event}
use Rattle.critical_paths.specs.Views.{IsPin}
use Rattle.slack_rows.specs.declared.parameter.Word.TheVariants.{Setup, Hold}
use Rattle.slack_rows.specs.declared.held.Held.{Held}
use Rattle.slack_rows.specs.declared.slack.Slacks.{Slacks}
use Rattle.slack_rows.specs.declared.slack.Finding.{Finding as Answer}
use Rattle.slack_rows.specs.Held.{AreSlots, IsHeld, TellSides, TellWatch, launches_of, two_of}
use Rattle.slack_rows.specs.Launched.{checker_launches, two_at_ends}
use Rattle.slack_rows.specs.Limit.{check_by_arrivals, edge_limits, has_no_window, is_by_arrivals, pin_folds, rises_of, spans_of, still_after, still_before, finding_check, edge_pair}
use Rattle.slack_rows.specs.Slack.{Free, Finding, Watch, after_window, before_window, finding_after, finding_before, finding_of}
use Rattle.slack_rows.specs.Views.{Tells, checks_edges}
use Rattle.slack_rows.proofs.Alike.{alike_none, alike_finding}
use Rattle.slack_rows.proofs.Parting.{check_after, check_alike, check_before, none_parts, quiet_free, some_parts}
use Rattle.slack_rows.proofs.Watching.{nothing_here, some_where_all, something_here, finding_free}

-- ---- pins

pub exists_at : (nets : ℕ) (pins : List Pin) (i : ℕ) (pin : Pin) → All (PinExists nets) pins → slice_get pins i ≡ Some pin → PinExists nets pin
exists_at nets pins i pin all at =
    subst (PinExists nets) (get_or_from_slice_get pins i pin pin at) (all i pin (slice_get_within pins i pin at))

is_pin : (c : Circuit) (pin : Pin) → PinExists (length c.nets) pin → IsPin c pin
is_pin c pin exists i is = subst (TargetExists (length c.nets)) is exists

pub is_held : (c : Circuit) (held : Held) → PinExists (length c.nets) held.pin → PinExists (length c.nets) held.clock → IsHeld c held
is_held c held pin clock = record { pin = is_pin c held.pin pin; clock = is_pin c held.clock clock }

-- ---- whether something changes

module _ (p : ℕ) (ev : Events) (slots : Found) (cyclic : IsCyclic p ev) (long : 2 ≤ p) (are : AreSlots p ev slots) where
  pub event_none : (not slots.are_all && (length slots.regions == 0)) ≡ true → some_event p ev ≡ false
  event_none none =
      let parts = none_parts slots.are_all (length slots.regions) none in
      nothing_here p ev cyclic long (sym are.all ∙ parts.0) (ap (λ (rs : List Ticked). length rs) (sym are.regions) ∙ parts.1)

  pub event_some : (not slots.are_all && (length slots.regions == 0)) ≡ false → some_event p ev ≡ true
  event_some some = by slots.are_all refl
    where
      by : (b : Bool) → slots.are_all ≡ b → some_event p ev ≡ true
      by true is = some_where_all p ev cyclic long (sym are.all ∙ is)
      by false is =
          something_here p ev cyclic long
          (λ none. some_parts slots.are_all (length slots.regions) some is (ap (λ (rs : List Ticked). length rs) are.regions ∙ none))

-- ---- what is told

module _ (c : Circuit) (ws : Waves) (j : Instance) where
  abbrev p : ℕ
  p = period c.header

  abbrev pub FindingBoth : Check → Slacks → Type 0
  FindingBoth check found =
      TellSides p (check_by_arrivals c ws j (Some check)) (finding_check c ws j Setup (Some check)) (finding_check c ws j Hold (Some check)) found

  abbrev AreFree : Check → Type 0
  AreFree check =
      ((finding_check c ws j Setup (Some check)).slack ≡ Free) × ((finding_check c ws j Hold (Some check)).slack ≡ Free)

  -- an input that never changes
  pub free_check : (check : Check) → checks_edges check ≡ true → IsCyclic p (events Change (pin_folds c ws j 1)) → 2 ≤ p →
      some_event p (events Change (pin_folds c ws j 1)) ≡ false → AreFree check
  free_check Widths edges cyclic long none = absurd (cc)
  free_check RiseToFall edges cyclic long none =
      let launches = checker_launches c ws j Fall (spans_of c ws j).windows in (
        ap (λ (finding : Finding). finding.slack)
            (finding_free (before_window p (spans_of c ws j).changes launches) p (spans_of c ws j) launches.last_way none),
        ap (λ (finding : Finding). finding.slack)
            (finding_free (after_window p (spans_of c ws j).changes launches) p (spans_of c ws j) launches.first_way none),
      )
  free_check AboutRise edges cyclic long none = by (has_no_window (edge_limits j.limits))
    where
      by : (b : Bool) →
          ((cond b (edge_pair still_before c ws j) (finding_before p (checker_launches c ws j Rise (rises_of c ws j).windows) (rises_of c ws j))).slack ≡ Free)
          × ((cond b (edge_pair still_after c ws j) (finding_after p (checker_launches c ws j Rise (rises_of c ws j).windows) (rises_of c ws j))).slack ≡ Free)
      by true =
          let free = quiet_free p (events Change (pin_folds c ws j 1)) cyclic long none (events Rise (pin_folds c ws j 0)) in
          (ap (λ (finding : Finding). finding.slack) free.0, ap (λ (finding : Finding). finding.slack) free.1)
      by false =
          let launches = checker_launches c ws j Rise (rises_of c ws j).windows in (
            ap (λ (finding : Finding). finding.slack)
                (finding_free (before_window p (rises_of c ws j).changes launches) p (rises_of c ws j) launches.last_way none),
            ap (λ (finding : Finding). finding.slack)
                (finding_free (after_window p (rises_of c ws j).changes launches) p (rises_of c ws j) launches.first_way none),
          )

  pub free_both : (check : Check) (found : Slacks) → found ≡ record { level = None; before = None; after = None } → AreFree check → FindingBoth check found
  free_both check found is free =
      let before = ap (λ (s : Slacks). s.before) is in
      let after = ap (λ (s : Slacks). s.after) is in
      record {
        before = λ exact. subst (λ (o : Option Answer). Tells p o (finding_check c ws j Setup (Some check))) (sym before) free.0;
        after = λ exact. subst (λ (o : Option Answer). Tells p o (finding_check c ws j Hold (Some check))) (sym after) free.1;
        alike = alike_none found (finding_check c ws j Setup (Some check)).slack (finding_check c ws j Hold (Some check)).slack before after free.0 free.1;
      }

  -- what is told exactly
  exact_both : (check : Check) (found : Slacks) → Tells p found.before (finding_check c ws j Setup (Some check)) →
      Tells p found.after (finding_check c ws j Hold (Some check)) → FindingBoth check found
  exact_both check found before after =
      record {
        before = λ exact. before;
        after = λ exact. after;
        alike = alike_finding p found (finding_check c ws j Setup (Some check)) (finding_check c ws j Hold (Some check)) before after;
      }

  -- a checker that asks for nothing
  pub quiet_check : (check : Check) (found : Slacks) → check ≡ AboutRise → has_no_window (edge_limits j.limits) ≡ true →
      Tells p found.before (finding_of 1 Change (edge_pair still_before c ws j)) →
      Tells p found.after (finding_of 1 Change (edge_pair still_after c ws j)) → FindingBoth check found
  quiet_check check found is nothing before after =
      subst (λ (x : Check). FindingBoth x found) (sym is)
      (exact_both AboutRise found
      (subst (λ (b : Bool).
      Tells p found.before (finding_of 1 Change (cond b (edge_pair still_before c ws j) (finding_before p (checker_launches c ws j Rise (rises_of c ws j).windows) (rises_of c ws j)))))
      (sym nothing) before)
      (subst (λ (b : Bool).
      Tells p found.after (finding_of 1 Change (cond b (edge_pair still_after c ws j) (finding_after p (checker_launches c ws j Rise (rises_of c ws j).windows) (rises_of c ws j)))))
      (sym nothing) after))

  module _ (held : Held) (pin_is : slice_get j.pins 1 ≡ Some held.pin) (clock_is : slice_get j.pins 0 ≡ Some held.clock)
      (opens_is : held.opens ≡ Rise) (place_is : held.place ≡ 1) where
    abbrev HeldWatch : Watch → Slacks → Type 0
    HeldWatch watch found =
        TellWatch p (launches_of c ws (Some held)) (is_by_arrivals p (two_of c ws (Some held)) watch) held.place Change watch found

    checked : (closing : Direction) (watch : Watch) (found : Slacks) → HeldWatch watch found →
        TellSides p (is_by_arrivals p (two_at_ends c ws j 0 1 Rise) watch)
        (finding_of 1 Change (finding_before p (checker_launches c ws j closing watch.windows) watch))
        (finding_of 1 Change (finding_after p (checker_launches c ws j closing watch.windows) watch)) found
    checked closing watch found tell =
        let at = subst (λ (n : ℕ). TellWatch p (launches_of c ws (Some held)) (is_by_arrivals p (two_of c ws (Some held)) watch) n Change watch found) place_is tell in
        record {
          before = check_before c ws j held pin_is clock_is opens_is found closing watch at;
          after = check_after c ws j held pin_is clock_is opens_is found closing watch at;
          alike = check_alike c ws j held pin_is clock_is opens_is found closing watch at;
        }

    -- from rises to falls
    pub span_check : {E : Type 0} (check : Check) (r : Result Slacks E) → check ≡ RiseToFall →
        IfOk r (HeldWatch (spans_of c ws j)) → IfOk r (FindingBoth check)
    span_check check r is finding =
        IfOk-weaker r (HeldWatch (spans_of c ws j)) (FindingBoth check)
        (λ found tell. subst (λ (x : Check). FindingBoth x found) (sym is) (checked Fall (spans_of c ws j) found tell))
        finding

    -- about rises
    abbrev FindingBy : Bool → Slacks → Type 0
    FindingBy none found =
        TellSides p (cond none false (is_by_arrivals p (two_at_ends c ws j 0 1 Rise) (rises_of c ws j)))
        (finding_of 1 Change (cond none (edge_pair still_before c ws j) (finding_before p (checker_launches c ws j Rise (rises_of c ws j).windows) (rises_of c ws j))))
        (finding_of 1 Change (cond none (edge_pair still_after c ws j) (finding_after p (checker_launches c ws j Rise (rises_of c ws j).windows) (rises_of c ws j)))) found

    pub rise_check : {E : Type 0} (check : Check) (r : Result Slacks E) → check ≡ AboutRise → has_no_window (edge_limits j.limits) ≡ false →
        IfOk r (HeldWatch (rises_of c ws j)) → IfOk r (FindingBoth check)
    rise_check check r is some finding =
        IfOk-weaker r (HeldWatch (rises_of c ws j)) (FindingBoth check)
        (λ found tell. subst (λ (x : Check). FindingBoth x found) (sym is)
        (subst (λ (b : Bool). FindingBy b found) (sym some) (checked Rise (rises_of c ws j) found tell)))
        finding
