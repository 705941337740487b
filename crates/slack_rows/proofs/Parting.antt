-- What is told of changes that are not to come in some slots, and of the pins of a checker and of a gate.
use Rattle.std.proofs.Common.{◌≡◌, ℕ, zero, suc, ◌+◌, ◌-◌, ◌≤◌, Bool, true, false, not, ◌&&◌, ◌||◌, cond, refl, sym, ap, subst, ◌∙◌, arith, List, [], ◌∷◌, length, map, Option, Some, None}
use Rattle.std.specs.Prelude.{◌==◌, filter, slice_get}
use Rattle.std.specs.List.{list_any, range_with_len}
use Rattle.std.proofs.lemmas.Bool.{eqb-true}
use Rattle.std.proofs.lemmas.List.{get_or-map}
use Rattle.std.proofs.lemmas.Option.{get_or_from_slice_get, slice_get_within}
use Rattle.scald_base.specs.Time.{Header, period}
use Rattle.scald_base.specs.Clock.{back}
use Rattle.step_values.specs.Cell.{values}
use Rattle.skew_algebra.specs.Wave.{fold, skewed}
use Rattle.element_kinds.specs.declared.form.Check.{Check}
use Rattle.element_kinds.specs.declared.form.Check.TheVariants.{MinPulse as Widths}
use Rattle.element_kinds.specs.declared.kind.Kind.{Kind}
use Rattle.element_kinds.specs.declared.kind.Kind.TheVariants.{Buf, And, Or, Xor, Mux2, Mux4, Mux8, Chg, Reg, RegRs, Latch, LatchRs, SetupHold, RiseFall, MinPulse}
use Rattle.element_kinds.specs.Kinds.{check_of}
use Rattle.flat_circuit.specs.Kind.{LimitsFit, pin_counts}
use Rattle.flat_circuit.specs.Instances.{InstanceFits}
use Rattle.flat_circuit.specs.Limits.{setup_of, hold_of}
use Rattle.flat_circuit.specs.declared.instance.Pin.{Pin}
use Rattle.flat_circuit.specs.declared.instance.Instance.{Instance}
use Rattle.flat_circuit.specs.Circuit.{Circuit}
use Rattle.gate_eval.specs.Hold.{closed_bit}
use Rattle.fixpoint_engine.specs.Waves.{Waves, pin_wave}
use Rattle.point_check.specs.Window.{Folds}
use Rattle.critical_paths.specs.declared.direction.Corner.{Corner}
use Rattle.critical_paths.specs.declared.direction.Corner.TheVariants.{Late as LateCorner, Early as EarlyCorner}
use Rattle.critical_paths.specs.declared.direction.Direction.{Direction}
use Rattle.critical_paths.specs.declared.direction.Direction.TheVariants.{Rise, Change}
use Rattle.critical_paths.specs.Event.{Events, events}
use Rattle.critical_paths.specs.Region.{IsCyclic, Region, all_events, regions, some_event}
use Rattle.critical_paths.specs.Walk.{pin_path_of}
use Rattle.critical_paths.specs.Launch.{Edge, ago, edge_of_pin}
use Rattle.critical_paths.specs.Arrival.{arrivals_of}
use Rattle.slack_rows.specs.declared.held.Held.{Held}
use Rattle.slack_rows.specs.declared.slack.Slacks.{Slacks}
use Rattle.slack_rows.specs.declared.slack.Finding.{Finding as Found}
use Rattle.slack_rows.specs.Window.{Window, about, ahead, extent_of}
use Rattle.slack_rows.specs.Slack.{Free, Launches, NoNumber, Finding, Watch, after_window, before_window, is_met, least, finding_after, finding_alone, finding_before, finding_by, finding_of, two_in}
use Rattle.slack_rows.specs.Watch.{opens}
use Rattle.slack_rows.specs.Launched.{are_two, checker_launches, gate_launches, launches_at, opening, side_by, two_at_ends, two_by}
use Rattle.slack_rows.specs.Limit.{in_windows, is_beside, is_by_arrivals, least_still, pin_folds, still_after, still_before, finding_never, finding_still}
use Rattle.slack_rows.specs.Views.{IsFinding, Tells, checks_edges}
use Rattle.slack_rows.specs.Held.{AreAlike, TellBeside, TellParts, TellWatch, TellWindows, launches_of, two_of, watch_at}
use Rattle.slack_rows.proofs.Checkers.{edges_short}
use Rattle.slack_rows.proofs.Nothing.{nothing_from}
use Rattle.slack_rows.proofs.Alike.{alike_none, alike_finding}
use Rattle.slack_rows.proofs.Watching.{all_here, alike_ways, or_parts, same_ways, some_where_all, tells_free, finding_always, finding_free, finding_unmet, finding_windows}
use Rattle.slack_rows.proofs.Watched.{in_some_slot}

and_none : (a : Bool) → (a && false) ≡ false
and_none true = refl
and_none false = refl

-- ---- nothing, by a test of the program

pub none_parts : (all : Bool) (n : ℕ) → (not all && (n == 0)) ≡ true → (all ≡ false) × (n ≡ 0)
none_parts true n none = absurd (cc)
none_parts false n none = (refl, eqb-true n 0 none)

pub some_parts : (all : Bool) (n : ℕ) → (not all && (n == 0)) ≡ false → all ≡ false → n ≡ 0 → ⊥
some_parts all zero some none is = absurd (cc (sym some ∙ ap (λ (b : Bool). not b && (zero == 0)) none))
some_parts all (suc n) some none is = absurd (omega (arith, is))

-- ---- changes that are not to come in some slots

module _ (p : ℕ) (long : 2 ≤ p) (ev quiet : Events) (cyclic : IsCyclic p ev) (still_cyclic : IsCyclic p quiet)
    (launches : Launches) (two : Window → Region → Bool) (pin : ℕ) (d : Direction) (found : Slacks)
    (no_last : launches.last_way ≡ None) (no_first : launches.first_way ≡ None) where
  abbrev watch : Watch
  watch = watch_at p ev quiet

  abbrev parts : Watch
  parts = in_windows watch

  abbrev before : Window → Finding
  before = before_window p ev launches

  abbrev after : Window → Finding
  after = after_window p ev launches

  no_windows : regions p quiet ≡ [] → watch.windows ≡ []
  no_windows none = ap (map (about p (extent_of 1 0))) none

  pub parts_free : some_event p ev ≡ false → found ≡ record { level = None; before = None; after = None } →
      TellParts p launches two pin d watch found
  parts_free none is =
      record {
        level = tells_free p pin d (finding_never p watch) found.level
            (ap (λ (s : Bool). cond (watch.never && s) (finding_alone NoNumber) (finding_alone Free)) none
            ∙ ap (λ (s : Bool). cond s (finding_alone NoNumber) (finding_alone Free)) (and_none watch.never))
            (ap (λ (s : Slacks). s.level) is);
        before = λ exact. tells_free p pin d (finding_before p launches parts) found.before (finding_free before p parts launches.last_way none) (ap (λ (s : Slacks). s.before) is);
        after = λ exact. tells_free p pin d (finding_after p launches parts) found.after (finding_free after p parts launches.first_way none) (ap (λ (s : Slacks). s.after) is);
        alike = alike_none found (finding_before p launches parts).slack (finding_after p launches parts).slack
            (ap (λ (s : Slacks). s.before) is) (ap (λ (s : Slacks). s.after) is)
            (ap (λ (t : Finding). t.slack) (finding_free before p parts launches.last_way none))
            (ap (λ (t : Finding). t.slack) (finding_free after p parts launches.first_way none));
      }

  pub parts_unmet : regions p quiet ≡ [] → all_events p quiet ≡ false → found ≡ record { level = None; before = None; after = None } →
      TellParts p launches two pin d watch found
  parts_unmet none some is =
      record {
        level = tells_free p pin d (finding_never p watch) found.level
            (ap (λ (s : Bool). cond (s && some_event p ev) (finding_alone NoNumber) (finding_alone Free)) some)
            (ap (λ (s : Slacks). s.level) is);
        before = λ exact. tells_free p pin d (finding_before p launches parts) found.before (finding_unmet before p parts launches.last_way (no_windows none) refl) (ap (λ (s : Slacks). s.before) is);
        after = λ exact. tells_free p pin d (finding_after p launches parts) found.after (finding_unmet after p parts launches.first_way (no_windows none) refl) (ap (λ (s : Slacks). s.after) is);
        alike = alike_none found (finding_before p launches parts).slack (finding_after p launches parts).slack
            (ap (λ (s : Slacks). s.before) is) (ap (λ (s : Slacks). s.after) is)
            (ap (λ (t : Finding). t.slack) (finding_unmet before p parts launches.last_way (no_windows none) refl))
            (ap (λ (t : Finding). t.slack) (finding_unmet after p parts launches.first_way (no_windows none) refl));
      }

  pub parts_never : (finding : Found) → all_events p quiet ≡ true → some_event p ev ≡ true → IsFinding p finding (finding_of pin d (finding_alone NoNumber)) →
      found ≡ record { level = Some finding; before = None; after = None } → TellParts p launches two pin d watch found
  parts_never finding all some finding_is is =
      let none = all_here p quiet still_cyclic long all in
      record {
        level = subst (λ (o : Option Found). Tells p o (finding_of pin d (finding_never p watch))) (sym (ap (λ (s : Slacks). s.level) is))
            (subst (IsFinding p finding) (sym (ap (finding_of pin d) (λ i. cond (all i && some i) (finding_alone NoNumber) (finding_alone Free)))) finding_is);
        before = λ exact. tells_free p pin d (finding_before p launches parts) found.before (finding_unmet before p parts launches.last_way (no_windows none) refl) (ap (λ (s : Slacks). s.before) is);
        after = λ exact. tells_free p pin d (finding_after p launches parts) found.after (finding_unmet after p parts launches.first_way (no_windows none) refl) (ap (λ (s : Slacks). s.after) is);
        alike = alike_none found (finding_before p launches parts).slack (finding_after p launches parts).slack
            (ap (λ (s : Slacks). s.before) is) (ap (λ (s : Slacks). s.after) is)
            (ap (λ (t : Finding). t.slack) (finding_unmet before p parts launches.last_way (no_windows none) refl))
            (ap (λ (t : Finding). t.slack) (finding_unmet after p parts launches.first_way (no_windows none) refl));
      }

  windows_met : (regions p quiet ≡ [] → ⊥) → watch.windows ≡ [] → ⊥
  windows_met some none = by (regions p quiet) refl none
    where
      by : (rs : List Region) → regions p quiet ≡ rs → map (about p (extent_of 1 0)) rs ≡ [] → ⊥
      by [] is none = some is
      by (r ∷ rs) is none = absurd (cc)

  never_is : all_events p quiet ≡ false → finding_never p watch ≡ finding_alone Free
  never_is some = ap (λ (s : Bool). cond (s && some_event p ev) (finding_alone NoNumber) (finding_alone Free)) some

  module _ (finding : Found) (some : all_events p quiet ≡ false) (met : regions p quiet ≡ [] → ⊥) (all : all_events p ev ≡ true)
      (finding_is : IsFinding p finding (finding_of pin d (finding_alone NoNumber)))
      (is : found ≡ record { level = None; before = Some finding; after = Some finding }) where
    always_before : Tells p found.before (finding_of pin d (finding_before p launches parts))
    always_before =
        let event = some_where_all p ev cyclic long all in
        subst (λ (o : Option Found). Tells p o (finding_of pin d (finding_before p launches parts))) (sym (ap (λ (s : Slacks). s.before) is))
        (subst (IsFinding p finding)
        (sym (ap (finding_of pin d) (ap (λ way. finding_by before way p parts) no_last ∙ finding_always before p parts event all refl (windows_met met)))) finding_is)

    always_after : Tells p found.after (finding_of pin d (finding_after p launches parts))
    always_after =
        let event = some_where_all p ev cyclic long all in
        subst (λ (o : Option Found). Tells p o (finding_of pin d (finding_after p launches parts))) (sym (ap (λ (s : Slacks). s.after) is))
        (subst (IsFinding p finding)
        (sym (ap (finding_of pin d) (ap (λ way. finding_by after way p parts) no_first ∙ finding_always after p parts event all refl (windows_met met)))) finding_is)

    pub parts_always : TellParts p launches two pin d watch found
    parts_always =
        record {
          level = tells_free p pin d (finding_never p watch) found.level (never_is some) (ap (λ (s : Slacks). s.level) is);
          before = λ exact. always_before;
          after = λ exact. always_after;
          alike = alike_finding p found (finding_of pin d (finding_before p launches parts)) (finding_of pin d (finding_after p launches parts))
              always_before always_after;
        }

  pub parts_windows : (windows : List Window) → windows ≡ watch.windows → all_events p quiet ≡ false → some_event p ev ≡ true → all_events p ev ≡ false →
      TellWindows p ev launches two pin d windows found → TellParts p launches two pin d watch found
  parts_windows windows are some event not_all tells =
      record {
        level = tells_free p pin d (finding_never p watch) found.level (never_is some) tells.level;
        before = λ exact.
            subst (Tells p found.before)
            (ap (finding_of pin d) (ap (λ (ws : List Window). least (map before ws)) are ∙ sym (finding_windows before p parts launches.last_way event not_all refl)))
            (tells.before (ap (list_any (two_in p ev two)) are ∙ exact));
        after = λ exact.
            subst (Tells p found.after)
            (ap (finding_of pin d) (ap (λ (ws : List Window). least (map after ws)) are ∙ sym (finding_windows after p parts launches.first_way event not_all refl)))
            (tells.after (ap (list_any (two_in p ev two)) are ∙ exact));
        alike =
            subst (λ (t : Finding). AreAlike found t.slack (finding_after p launches parts).slack)
            (ap (λ (ws : List Window). least (map before ws)) are ∙ sym (finding_windows before p parts launches.last_way event not_all refl))
            (subst (λ (t : Finding). AreAlike found (least (map before windows)).slack t.slack)
            (ap (λ (ws : List Window). least (map after ws)) are ∙ sym (finding_windows after p parts launches.first_way event not_all refl)) tells.alike);
      }

-- ---- pins of an instance

module _ (c : Circuit) (ws : Waves) where
  pub no_last_way : (held : Option Held) → (launches_of c ws held).last_way ≡ None
  no_last_way None = refl
  no_last_way (Some held) = refl

  pub no_first_way : (held : Option Held) → (launches_of c ws held).first_way ≡ None
  no_first_way None = refl
  no_first_way (Some held) = refl

  abbrev edge_by : Corner → Option Pin → Direction → ℕ → Option Edge
  edge_by corner o d tick = edge_of_pin c corner tick (pin_path_of c ws corner (back (period c.header) tick 0) d o)

  -- the launches of a pin, and against which steps of another one
  abbrev twos_by : Option Pin → Option Pin → Direction → Window → Region → Bool
  twos_by o q d w r =
      are_two (ago (edge_by LateCorner o Change r.last) (edge_by EarlyCorner q d w.edge_first))
      (ago (edge_by EarlyCorner o Change r.first) (edge_by EarlyCorner q d w.edge_first))

  abbrev launches_by : Option Pin → Option Pin → Direction → Launches
  launches_by o q d =
      record {
        side = λ w r. side_by (ago (edge_by LateCorner o Change r.last) (edge_by EarlyCorner q d w.edge_first))
            (ago (edge_by EarlyCorner o Change r.first) (edge_by EarlyCorner q d w.edge_first));
        two = λ w r. cond (twos_by o q d w r)
            (two_by (period c.header) r (edge_by EarlyCorner q d w.edge_first) (arrivals_of c ws LateCorner Change o) (arrivals_of c ws EarlyCorner Change o))
            None;
        last_way = None;
        first_way = None;
      }

  module _ (j : Instance) (clock i : ℕ) (d : Direction) (held : Held) (pin_is : slice_get j.pins i ≡ Some held.pin)
      (clock_is : slice_get j.pins clock ≡ Some held.clock) (opens_is : held.opens ≡ d) where
    pub launches_are : launches_of c ws (Some held) ≡ launches_at c ws j clock i d
    launches_are =
        ap (launches_by (Some held.pin) (Some held.clock)) opens_is ∙ ap (λ (q : Option Pin). launches_by (Some held.pin) q d) (sym clock_is)
        ∙ ap (λ (o : Option Pin). launches_by o (slice_get j.pins clock) d) (sym pin_is)

    pub twos_are : two_of c ws (Some held) ≡ two_at_ends c ws j clock i d
    twos_are =
        ap (twos_by (Some held.pin) (Some held.clock)) opens_is ∙ ap (λ (q : Option Pin). twos_by (Some held.pin) q d) (sym clock_is)
        ∙ ap (λ (o : Option Pin). twos_by o (slice_get j.pins clock) d) (sym pin_is)

  -- what a pin shows is what the wave of its place shows
  pub folds_are : (j : Instance) (i : ℕ) (pin : Pin) → slice_get j.pins i ≡ Some pin → pin_folds c ws j i ≡ fold values (pin_wave c ws pin)
  folds_are j i pin is =
      ap (fold values)
      (get_or-map (pin_wave c ws) j.pins i pin (skewed [] 0) (slice_get_within j.pins i pin is) ∙ ap (pin_wave c ws) (get_or_from_slice_get j.pins i pin pin is))

  -- ---- a checker

  module _ (j : Instance) (held : Held) (pin_is : slice_get j.pins 1 ≡ Some held.pin) (clock_is : slice_get j.pins 0 ≡ Some held.clock)
      (opens_is : held.opens ≡ Rise) (found : Slacks) (closing : Direction) (watch : Watch)
      (finding : TellWatch (period c.header) (launches_of c ws (Some held)) (is_by_arrivals (period c.header) (two_of c ws (Some held)) watch) 1 Change watch found) where
    exactly : is_by_arrivals (period c.header) (two_at_ends c ws j 0 1 Rise) watch ≡ false → is_by_arrivals (period c.header) (two_of c ws (Some held)) watch ≡ false
    exactly exact = ap (λ (two : Window → Region → Bool). is_by_arrivals (period c.header) two watch) (twos_are j 0 1 Rise held pin_is clock_is opens_is) ∙ exact

    unmet : is_by_arrivals (period c.header) (two_at_ends c ws j 0 1 Rise) watch ≡ false →
        (all_events (period c.header) watch.changes && is_met watch.windows false) ≡ false
    unmet exact =
        (or_parts (all_events (period c.header) watch.changes && is_met watch.windows false)
        (list_any (two_in (period c.header) watch.changes (two_at_ends c ws j 0 1 Rise)) watch.windows) exact).0

    pub check_before : is_by_arrivals (period c.header) (two_at_ends c ws j 0 1 Rise) watch ≡ false →
        Tells (period c.header) found.before (finding_of 1 Change (finding_before (period c.header) (checker_launches c ws j closing watch.windows) watch))
    check_before exact =
        let launches = launches_are j 0 1 Rise held pin_is clock_is opens_is in
        subst (Tells (period c.header) found.before)
        (ap (finding_of 1 Change) (ap (λ (l : Launches). finding_before (period c.header) l watch) launches
        ∙ same_ways (before_window (period c.header) watch.changes (launches_at c ws j 0 1 Rise)) (period c.header) watch None
        (checker_launches c ws j closing watch.windows).last_way (unmet exact)))
        (finding.before (exactly exact))

    pub check_after : is_by_arrivals (period c.header) (two_at_ends c ws j 0 1 Rise) watch ≡ false →
        Tells (period c.header) found.after (finding_of 1 Change (finding_after (period c.header) (checker_launches c ws j closing watch.windows) watch))
    check_after exact =
        let launches = launches_are j 0 1 Rise held pin_is clock_is opens_is in
        subst (Tells (period c.header) found.after)
        (ap (finding_of 1 Change) (ap (λ (l : Launches). finding_after (period c.header) l watch) launches
        ∙ same_ways (after_window (period c.header) watch.changes (launches_at c ws j 0 1 Rise)) (period c.header) watch None
        (checker_launches c ws j closing watch.windows).first_way (unmet exact)))
        (finding.after (exactly exact))

    pub check_alike : AreAlike found (finding_before (period c.header) (checker_launches c ws j closing watch.windows) watch).slack
        (finding_after (period c.header) (checker_launches c ws j closing watch.windows) watch).slack
    check_alike =
        let launches = launches_are j 0 1 Rise held pin_is clock_is opens_is in
        let at : AreAlike found (finding_before (period c.header) (launches_at c ws j 0 1 Rise) watch).slack
        (finding_after (period c.header) (launches_at c ws j 0 1 Rise) watch).slack =
        subst (λ (l : Launches). AreAlike found (finding_before (period c.header) l watch).slack (finding_after (period c.header) l watch).slack) launches finding.alike in
        let last = alike_ways (before_window (period c.header) watch.changes (launches_at c ws j 0 1 Rise)) (period c.header) watch None
        (checker_launches c ws j closing watch.windows).last_way in
        let first = alike_ways (after_window (period c.header) watch.changes (launches_at c ws j 0 1 Rise)) (period c.header) watch None
        (checker_launches c ws j closing watch.windows).first_way in
        record {
          before = at.before ∙ last.0;
          after = at.after ∙ first.0;
          broken = at.broken ∙ (λ i. last.1 i || first.1 i);
        }

  -- ---- a pin beside a marked one

  pub tell_beside : (j : Instance) (marked i : ℕ) (held : Held) (found : Slacks) → slice_get j.pins i ≡ Some held.pin → slice_get j.pins marked ≡ Some held.clock →
      held.opens ≡ opening (closed_bit j.kind) → held.place ≡ i → is_beside j marked i ≡ true →
      TellParts (period c.header) (launches_of c ws (Some held)) (two_of c ws (Some held)) held.place Change
      (watch_at (period c.header) (events Change (fold values (pin_wave c ws held.pin))) (opens j.kind (pin_folds c ws j marked))) found →
      TellBeside c ws j marked i found
  tell_beside j marked i held found pin_is clock_is opens_is place_is beside tells =
      let launches = launches_are j marked i (opening (closed_bit j.kind)) held pin_is clock_is opens_is in
      let twos = twos_are j marked i (opening (closed_bit j.kind)) held pin_is clock_is opens_is in
      let shown = folds_are j i held.pin pin_is in
      let at : TellParts (period c.header) (gate_launches c ws j marked i) (two_at_ends c ws j marked i (opening (closed_bit j.kind))) i Change
      (watch_at (period c.header) (events Change (pin_folds c ws j i)) (opens j.kind (pin_folds c ws j marked))) found =
      subst (λ (f : Folds). TellParts (period c.header) (gate_launches c ws j marked i) (two_at_ends c ws j marked i (opening (closed_bit j.kind))) i Change
      (watch_at (period c.header) (events Change f) (opens j.kind (pin_folds c ws j marked))) found) (sym shown)
      (subst (λ (n : ℕ). TellParts (period c.header) (gate_launches c ws j marked i) (two_at_ends c ws j marked i (opening (closed_bit j.kind))) n Change
      (watch_at (period c.header) (events Change (fold values (pin_wave c ws held.pin))) (opens j.kind (pin_folds c ws j marked))) found) place_is
      (subst (λ (two : Window → Region → Bool). TellParts (period c.header) (gate_launches c ws j marked i) two held.place Change
      (watch_at (period c.header) (events Change (fold values (pin_wave c ws held.pin))) (opens j.kind (pin_folds c ws j marked))) found) twos
      (subst (λ (l : Launches). TellParts (period c.header) l (two_of c ws (Some held)) held.place Change
      (watch_at (period c.header) (events Change (fold values (pin_wave c ws held.pin))) (opens j.kind (pin_folds c ws j marked))) found) launches tells))) in
      record {
        level = λ is. at.level;
        before = λ is exact. at.before exact;
        after = λ is exact. at.after exact;
        alike = λ is. at.alike;
        none = λ is. absurd (cc (sym beside ∙ is));
      }

-- ---- without an event nothing is told of quiet ticks

module _ (p : ℕ) (ev : Events) (cyclic : IsCyclic p ev) (long : 2 ≤ p) (none : some_event p ev ≡ false) where
  never_here : (t : ℕ) → ev t ≡ false
  never_here t = by (ev t) refl
    where
      by : (b : Bool) → ev t ≡ b → b ≡ false
      by false is = refl
      by true is = absurd (cc (sym none ∙ in_some_slot p ev cyclic long t t (omega (arith, long)) is))

  least_free : {A : Type 0} (at : A → Finding) (xs : List A) → ((x : A) → at x ≡ finding_alone Free) → least (map at xs) ≡ finding_alone Free
  least_free at [] free = refl
  least_free at (x ∷ xs) free = ap (λ (finding : Finding). least (finding ∷ map at xs)) (free x) ∙ least_free at xs free

  none_before : (t : ℕ) → still_before p ev t ≡ None
  none_before t = nothing_from (λ n. ev (ahead p t - n)) p 0 (λ u from below. never_here (ahead p t - u))

  none_after : (t : ℕ) → still_after p ev t ≡ None
  none_after t = nothing_from (λ n. ev (t + 1 + n)) p 0 (λ u from below. never_here (t + 1 + u))

  pub quiet_free : (clock : Events) →
      (least_still (still_before p ev) p clock ≡ finding_alone Free) × (least_still (still_after p ev) p clock ≡ finding_alone Free)
  quiet_free clock = (
    least_free (λ (t : ℕ). finding_still (still_before p ev t)) (filter clock (range_with_len 0 p)) (λ t. ap finding_still (none_before t)),
    least_free (λ (t : ℕ). finding_still (still_after p ev t)) (filter clock (range_with_len 0 p)) (λ t. ap finding_still (none_after t)),
  )

-- ---- the pins and limits of a checker at edges

pub checker_fits : (h : Header) (nets : ℕ) (j : Instance) (check : Check) → InstanceFits h nets j → check_of j.kind ≡ Some check → checks_edges check ≡ true →
    (2 ≤ length j.pins) × (setup_of j.limits + hold_of j.limits ≤ period h)
checker_fits h nets j check fits is edges = by j.kind refl is
  where
    by : (kind : Kind) → j.kind ≡ kind → check_of kind ≡ Some check → (2 ≤ length j.pins) × (setup_of j.limits + hold_of j.limits ≤ period h)
    by Buf same is = absurd (cc)
    by And same is = absurd (cc)
    by Or same is = absurd (cc)
    by Xor same is = absurd (cc)
    by Mux2 same is = absurd (cc)
    by Mux4 same is = absurd (cc)
    by Mux8 same is = absurd (cc)
    by Chg same is = absurd (cc)
    by Reg same is = absurd (cc)
    by RegRs same is = absurd (cc)
    by Latch same is = absurd (cc)
    by LatchRs same is = absurd (cc)
    by MinPulse same is = let widths : Widths ≡ check = cc in absurd (cc (ap checks_edges widths ∙ edges))
    by SetupHold same is =
        let two : 2 ≤ length j.pins = subst (λ kind. (pin_counts kind).0 ≤ length j.pins) same fits.pins.least in
        (two, edges_short h j.limits (subst (λ kind. LimitsFit h kind j.limits) same fits.lim))
    by RiseFall same is =
        let two : 2 ≤ length j.pins = subst (λ kind. (pin_counts kind).0 ≤ length j.pins) same fits.pins.least in
        (two, edges_short h j.limits (subst (λ kind. LimitsFit h kind j.limits) same fits.lim))
