use Rattle.std.proofs.Common.{◌≡◌, ℕ, ◌≤◌, Bool, true, false, not, ◌&&◌, ◌||◌, cond, List, [], ◌∷◌, length, map, Option, Some, None, refl, sym, ap, subst, ◌∙◌, arith, is_some}
use Rattle.std.specs.Prelude.{◌==◌, IfSome}
use Rattle.std.specs.List.{AllByRecursion}
use Rattle.scald_base.specs.Time.{period}
use Rattle.flat_circuit.specs.Circuit.{Circuit}
use Rattle.fixpoint_engine.specs.Waves.{Waves, waves_of}
use Rattle.critical_paths.specs.declared.path.Paths.{Paths}
use Rattle.critical_paths.specs.declared.region.Region.{Region as Ticked}
use Rattle.critical_paths.specs.declared.region.Slots.{Slots}
use Rattle.critical_paths.specs.Event.{Events}
use Rattle.critical_paths.specs.Region.{IsCyclic, Region, all_events, regions, some_event}
use Rattle.critical_paths.specs.Views.{ticks_of_region}
use Rattle.critical_paths.specs.declared.direction.Direction.{Direction}
use Rattle.slack_rows.specs.declared.held.Held.{Held}
use Rattle.slack_rows.specs.declared.slack.Reason.TheVariants.{Data, Mark, Still}
use Rattle.slack_rows.specs.declared.slack.Slacks.{Slacks}
use Rattle.slack_rows.specs.Held.{AreChanges, AreSlots, are_none, launches_of, place_in, same_both, two_of, windows_about, without_windows}
use Rattle.slack_rows.specs.Laws.{IsPlaced}
use Rattle.slack_rows.specs.Sides.{AreAtSlots, AreLeastAbout}
use Rattle.slack_rows.specs.Slack.{NoNumber, Nowhere, finding_alone, finding_of}
use Rattle.slack_rows.specs.Views.{finding_by_found, finding_none, window_about}
use Rattle.slack_rows.specs.Window.{about, extent_of}
use Rattle.slack_rows.proofs.Checkers.{all_placed}
use Rattle.slack_rows.proofs.Parting.{no_first_way, no_last_way, none_parts, parts_always, parts_free, parts_never, parts_unmet, parts_windows, some_parts}
use Rattle.slack_rows.proofs.Watching.{changes_are, nothing_here, some_where_all, something_here, windows_are}
use Rattle.slack_rows.proofs.watch.still_slacks.Goals as goal

none_of : (f : Region → Ticked) (rs : List Region) → length (map f rs) ≡ 0 → rs ≡ []
none_of f [] none = refl
none_of f (r ∷ rs) none = absurd (omega (arith, none))

-- a region, or all slots, tell an event
some_of : (p : ℕ) (ev : Events) (slots : Slots) → 2 ≤ p → IsCyclic p ev → AreSlots p ev slots →
    (not slots.are_all && (length slots.regions == 0)) ≡ false → some_event p ev ≡ true
some_of p ev slots long cyclic are some = by (all_events p ev) refl
  where
    by : (b : Bool) → all_events p ev ≡ b → some_event p ev ≡ true
    by true all = some_where_all p ev cyclic long all
    by false all =
        something_here p ev cyclic long
        (λ none. some_parts slots.are_all (length slots.regions) some (are.all ∙ all) (ap length are.regions ∙ none))

pub returns-then-is_free-clause-finding : goal.returns-then-is_free-clause-finding
returns-then-is_free-clause-finding g c =
    let circuit = c.args.view.now.circuit.now in
    let ws = waves_of c.args.view.now.waves.now in
    let p = period circuit.header in
    let least = c.period-period.ensures.shortest in
    let long : 2 ≤ p = omega (arith, least, c.period-period.ensures.is) in
    let held = c.args.held in
    let changes = c.args.changes.now in
    let none : Slacks = record { level = None; before = None; after = None } in
    let parts = none_parts changes.are_all (length changes.regions) (sym c.are_none-is_free.ensures ∙ c.if-is_free.true) in
    λ ev quiet cyclic still are are_quiet.
    parts_free p long ev quiet cyclic still (launches_of circuit ws held) (two_of circuit ws held) (place_in held) c.args.direction
    none (no_last_way circuit ws held) (no_first_way circuit ws held)
    (nothing_here p ev cyclic long (sym are.all ∙ parts.0) (sym (ap length are.regions) ∙ parts.1)) refl

pub returns-then-is_unmet-clause-finding : goal.returns-then-is_unmet-clause-finding
returns-then-is_unmet-clause-finding g c =
    let circuit = c.args.view.now.circuit.now in
    let ws = waves_of c.args.view.now.waves.now in
    let p = period circuit.header in
    let least = c.period-period.ensures.shortest in
    let long : 2 ≤ p = omega (arith, least, c.period-period.ensures.is) in
    let held = c.args.held in
    let slots = c.args.still.now in
    let none : Slacks = record { level = None; before = None; after = None } in
    let parts = none_parts slots.are_all (length slots.regions) (sym c.are_none-is_unmet.ensures ∙ c.if-is_unmet.true) in
    λ ev quiet cyclic still are are_quiet.
    parts_unmet p long ev quiet cyclic still (launches_of circuit ws held) (two_of circuit ws held) (place_in held) c.args.direction
    none (no_last_way circuit ws held) (no_first_way circuit ws held)
    (none_of ticks_of_region (regions p quiet) (sym (ap length are_quiet.regions) ∙ parts.1)) (sym are_quiet.all ∙ parts.0) refl

pub returns-then-still-clause-finding : goal.returns-then-still-clause-finding
returns-then-still-clause-finding g c =
    let circuit = c.args.view.now.circuit.now in
    let ws = waves_of c.args.view.now.waves.now in
    let p = period circuit.header in
    let least = c.period-period.ensures.shortest in
    let long : 2 ≤ p = omega (arith, least, c.period-period.ensures.is) in
    let held = c.args.held in
    let d = c.args.direction in
    let changes = c.args.changes.now in
    let finding = finding_none c.never_still.result c.place_of.result d in
    let finding_is : finding_of (place_in held) d (finding_alone NoNumber) ≡ finding_by_found p finding =
    (λ i. record {
      slack = NoNumber;
      place = sym c.never_still.ensures.place i;
      pin = sym c.place_of.ensures i;
      direction = d;
    }) in
    λ ev quiet cyclic still are are_quiet.
    parts_never p long ev quiet cyclic still (launches_of circuit ws held) (two_of circuit ws held) (place_in held) d
    c.level.result (no_last_way circuit ws held) (no_first_way circuit ws held) finding (sym are_quiet.all ∙ c.if-still.true)
    (some_of p ev changes long cyclic are (sym c.are_none-is_free.ensures ∙ c.if-is_free.false)) record { is = finding_is; near = tt } c.level.ensures

pub returns-then-changes-clause-finding : goal.returns-then-changes-clause-finding
returns-then-changes-clause-finding g c =
    let circuit = c.args.view.now.circuit.now in
    let ws = waves_of c.args.view.now.waves.now in
    let p = period circuit.header in
    let least = c.period-period.ensures.shortest in
    let long : 2 ≤ p = omega (arith, least, c.period-period.ensures.is) in
    let held = c.args.held in
    let d = c.args.direction in
    let slots = c.args.still.now in
    let finding = finding_none Data c.place_of-then-changes.result d in
    let finding_is : finding_of (place_in held) d (finding_alone NoNumber) ≡ finding_by_found p finding =
    (λ i. record { slack = NoNumber; place = Nowhere; pin = sym c.place_of-then-changes.ensures i; direction = d }) in
    λ ev quiet cyclic still are are_quiet.
    parts_always p long ev quiet cyclic still (launches_of circuit ws held) (two_of circuit ws held) (place_in held) d
    c.none.result (no_last_way circuit ws held) (no_first_way circuit ws held) finding (sym are_quiet.all ∙ c.if-still.false)
    (λ none. some_parts slots.are_all (length slots.regions) (sym c.are_none-is_unmet.ensures ∙ c.if-is_unmet.false) c.if-still.false
    (ap length are_quiet.regions ∙ ap (λ (rs : List Region). length (map ticks_of_region rs)) none))
    (sym are.all ∙ c.if-changes.true) record { is = finding_is; near = tt } c.none.ensures

pub about_all-requires-clause-extent : goal.about_all-requires-clause-extent
about_all-requires-clause-extent g c =
    let least = c.period-period.ensures.shortest in
    omega (arith, least, c.period-period.ensures.is)

pub returns-clause-finding : goal.returns-clause-finding
returns-clause-finding g c =
    let circuit = c.args.view.now.circuit.now in
    let ws = waves_of c.args.view.now.waves.now in
    let p = period circuit.header in
    let least = c.period-period.ensures.shortest in
    let long : 2 ≤ p = omega (arith, least, c.period-period.ensures.is) in
    let held = c.args.held in
    let d = c.args.direction in
    let changes = c.args.changes.now in
    λ ev quiet cyclic still are are_quiet.
    let edges_are = c.as_slice-edges.ensures ∙ are_quiet.regions in
    let windows = windows_about p (extent_of 1 0) c.as_slice-edges.result.now in
    let are_windows : windows ≡ map (about p (extent_of 1 0)) (regions p quiet) =
    ap (windows_about p (extent_of 1 0)) edges_are ∙ windows_are p (extent_of 1 0) (regions p quiet) (omega (arith, long)) in
    parts_windows p long ev quiet cyclic still (launches_of circuit ws held) (two_of circuit ws held) (place_in held) d
    c.in_ok-found.found (no_last_way circuit ws held) (no_first_way circuit ws held) windows are_windows
    (sym are_quiet.all ∙ c.if-still.false)
    (some_of p ev changes long cyclic are (sym c.are_none-is_free.ensures ∙ c.if-is_free.false)) (sym are.all ∙ c.if-changes.false)
    (c.in_ok-found.ensures.finding ev
    (subst (AreChanges p ev) (sym c.as_slice-moving.ensures) (changes_are p ev changes cyclic are c.if-changes.false))
    (subst (AllByRecursion (IsPlaced p)) (sym are_windows) (all_placed p quiet (extent_of 1 0) (omega arith) (omega (arith, long)))))

-- ---- without windows

told : (o : Option Slacks) (found finding : Slacks) → o ≡ Some found → finding ≡ found → IfSome o (λ f. finding ≡ f)
told None found finding is same = absurd (cc)
told (Some f) found finding is same = same ∙ sym (let own : f ≡ found = cc in own)

nowhere : (o : Option Slacks) (P : Slacks → Type 0) → o ≡ None → IfSome o P
nowhere None P none = tt
nowhere (Some f) P none = absurd (cc)

has_some : (o : Option Slacks) (found : Slacks) → o ≡ None → o ≡ Some found → ⊥
has_some None found none some = absurd (cc)
has_some (Some f) found none some = absurd (cc)

at_slots : (c : Circuit) (ws : Waves) (start : Paths) (held : Option Held) (d : Direction) (changes still : Slots) (found finding : Slacks) →
    without_windows held d changes still ≡ Some found → finding ≡ found → AreAtSlots c ws start held d changes still finding
at_slots c ws start held d changes still found finding is same = record {
  without = told (without_windows held d changes still) found finding is same;
  about = λ none. absurd (has_some (without_windows held d changes still) found none is);
}

abbrev without : Option Held → Direction → Bool → Bool → Bool → Bool → Option Slacks
without held d free unmet still all =
    cond (free || unmet) (Some (same_both None))
    (cond still (Some (record { level = Some (finding_none (cond (is_some held) Mark Still) (place_in held) d); before = None; after = None }))
    (cond all (Some (same_both (Some (finding_none Data (place_in held) d)))) None))

pub returns-then-is_free-clause-are : goal.returns-then-is_free-clause-are
returns-then-is_free-clause-are g c =
    let held = c.args.held in
    let d = c.args.direction in
    let changes = c.args.changes.now in
    let still = c.args.still.now in
    at_slots c.args.view.now.circuit.now (waves_of c.args.view.now.waves.now) c.args.paths.now held d changes still (same_both None) _
    (ap (λ (b : Bool). without held d b (are_none still) still.are_all changes.are_all) (sym c.are_none-is_free.ensures ∙ c.if-is_free.true)) refl

pub returns-then-is_unmet-clause-are : goal.returns-then-is_unmet-clause-are
returns-then-is_unmet-clause-are g c =
    let held = c.args.held in
    let d = c.args.direction in
    let changes = c.args.changes.now in
    let still = c.args.still.now in
    let free : are_none changes ≡ false = sym c.are_none-is_free.ensures ∙ c.if-is_free.false in
    let unmet : are_none still ≡ true = sym c.are_none-is_unmet.ensures ∙ c.if-is_unmet.true in
    at_slots c.args.view.now.circuit.now (waves_of c.args.view.now.waves.now) c.args.paths.now held d changes still (same_both None) _
    (λ i. without held d (free i) (unmet i) still.are_all changes.are_all) refl

pub returns-then-still-clause-are : goal.returns-then-still-clause-are
returns-then-still-clause-are g c =
    let held = c.args.held in
    let d = c.args.direction in
    let changes = c.args.changes.now in
    let still = c.args.still.now in
    let free : are_none changes ≡ false = sym c.are_none-is_free.ensures ∙ c.if-is_free.false in
    let unmet : are_none still ≡ false = sym c.are_none-is_unmet.ensures ∙ c.if-is_unmet.false in
    let all : still.are_all ≡ true = c.if-still.true in
    at_slots c.args.view.now.circuit.now (waves_of c.args.view.now.waves.now) c.args.paths.now held d changes still
    (record { level = Some (finding_none (cond (is_some held) Mark Still) (place_in held) d); before = None; after = None }) _
    (λ i. without held d (free i) (unmet i) (all i) changes.are_all)
    (c.level.ensures
    ∙ (λ i. record { level = Some (finding_none (c.never_still.ensures.is i) (c.place_of.ensures i) d); before = None; after = None }))

pub returns-then-changes-clause-are : goal.returns-then-changes-clause-are
returns-then-changes-clause-are g c =
    let held = c.args.held in
    let d = c.args.direction in
    let changes = c.args.changes.now in
    let still = c.args.still.now in
    let free : are_none changes ≡ false = sym c.are_none-is_free.ensures ∙ c.if-is_free.false in
    let unmet : are_none still ≡ false = sym c.are_none-is_unmet.ensures ∙ c.if-is_unmet.false in
    let some : still.are_all ≡ false = c.if-still.false in
    let all : changes.are_all ≡ true = c.if-changes.true in
    at_slots c.args.view.now.circuit.now (waves_of c.args.view.now.waves.now) c.args.paths.now held d changes still
    (same_both (Some (finding_none Data (place_in held) d))) _
    (λ i. without held d (free i) (unmet i) (some i) (all i))
    (c.none.ensures ∙ (λ i. same_both (Some (finding_none Data (c.place_of-then-changes.ensures i) d))))

-- ---- windows

pub returns-clause-are : goal.returns-clause-are
returns-clause-are g c =
    let circuit = c.args.view.now.circuit.now in
    let ws = waves_of c.args.view.now.waves.now in
    let held = c.args.held in
    let d = c.args.direction in
    let changes = c.args.changes.now in
    let still = c.args.still.now in
    let free : are_none changes ≡ false = sym c.are_none-is_free.ensures ∙ c.if-is_free.false in
    let unmet : are_none still ≡ false = sym c.are_none-is_unmet.ensures ∙ c.if-is_unmet.false in
    let some : still.are_all ≡ false = c.if-still.false in
    let moves : changes.are_all ≡ false = c.if-changes.false in
    record {
      without = nowhere (without_windows held d changes still) (λ found. c.in_ok-found.found ≡ found)
          (λ i. without held d (free i) (unmet i) (some i) (moves i));
      about = λ none.
          subst (λ (edges : List Ticked). AreLeastAbout circuit ws c.args.paths.now held d changes.regions
          (map (λ e. window_about e (extent_of 1 0)) edges) c.in_ok-found.found) c.as_slice-edges.ensures
          (subst (λ (moving : List Ticked). AreLeastAbout circuit ws c.args.paths.now held d moving
          (map (λ e. window_about e (extent_of 1 0)) c.as_slice-edges.result.now) c.in_ok-found.found) c.as_slice-moving.ensures
          c.in_ok-found.ensures.are);
    }
