use Rattle.std.proofs.Common.{◌≡◌, ◌≤◌, Bool, true, false, List, Some, map, refl, sym, ap, subst, ◌∙◌, arith}
use Rattle.std.specs.List.{AllByRecursion}
use Rattle.scald_base.specs.Time.{period}
use Rattle.fixpoint_engine.specs.Pins.{read}
use Rattle.fixpoint_engine.specs.Waves.{waves_of}
use Rattle.critical_paths.specs.declared.direction.Direction.TheVariants.{Rise, Change}
use Rattle.critical_paths.specs.Event.{Events, events}
use Rattle.critical_paths.specs.Region.{all_events, regions}
use Rattle.critical_paths.specs.Views.{ticks_of_region}
use Rattle.critical_paths.specs.declared.region.Region.{Region as Ticked}
use Rattle.slack_rows.specs.declared.slack.Reason.TheVariants.{Clock}
use Rattle.slack_rows.specs.declared.slack.Slacks.{Slacks}
use Rattle.slack_rows.specs.declared.window.Extent.{Extent}
use Rattle.slack_rows.specs.Sides.{AreAboutEdges}
use Rattle.slack_rows.specs.Held.{AreOfWays, launches_of, two_of, windows_about}
use Rattle.slack_rows.specs.Slack.{is_met}
use Rattle.slack_rows.specs.Laws.{IsPlaced}
use Rattle.slack_rows.specs.Limit.{edge_limits}
use Rattle.slack_rows.specs.Views.{finding_none, window_about, window_in}
use Rattle.slack_rows.specs.Watch.{rise_watch}
use Rattle.slack_rows.specs.Window.{Window, about}
use Rattle.slack_rows.proofs.Checkers.{all_placed}
use Rattle.slack_rows.proofs.Watching.{changes_are, may_are, met_edges, tell_never, tell_watch, windows_are}
use Rattle.slack_rows.proofs.checker.rise_slacks.Goals as goal

pub returns-then-edges-clause-finding : goal.returns-then-edges-clause-finding
returns-then-edges-clause-finding g c =
    let circuit = c.args.view.now.circuit.now in
    let ws = waves_of c.args.view.now.waves.now in
    let p = period circuit.header in
    let held = c.args.held in
    let cells = g.W.CyclicWave.cells c.args.clock.now in
    λ input cyclic some are.
    tell_never p (launches_of circuit ws (Some held)) (two_of circuit ws (Some held)) held.place Change
    (rise_watch p (edge_limits c.args.limits) (read cells) input) c.none.result (finding_none Clock held.place Change) some
    (sym (c.in_ok-edges.ensures.are.all ∙ ap (all_events p) (may_are Rise cells)) ∙ c.if-edges.true) record { is = refl; near = tt } c.none.ensures

pub returns-clause-finding : goal.returns-clause-finding
returns-clause-finding g c =
    let circuit = c.args.view.now.circuit.now in
    let ws = waves_of c.args.view.now.waves.now in
    let p = period circuit.header in
    let held = c.args.held in
    let limits = edge_limits c.args.limits in
    let cells = g.W.CyclicWave.cells c.args.clock.now in
    let rises = events Rise (read cells) in
    let one = c.requires.some in
    let most = c.requires.short in
    let short : limits.before ≤ p = omega (arith, most) in
    let edges_are : c.as_slice-regions.result.now ≡ map ticks_of_region (regions p rises) =
    c.as_slice-regions.ensures ∙ c.in_ok-edges.ensures.are.regions
    ∙ ap (λ (ev : Events). map ticks_of_region (regions p ev)) (may_are Rise cells) in
    let windows = windows_about p c.edge_limits.result c.as_slice-regions.result.now in
    let are_windows : windows ≡ map (about p limits) (regions p rises) =
    (λ i. windows_about p (c.edge_limits.ensures i) (edges_are i)) ∙ windows_are p limits (regions p rises) short in
    λ input cyclic some are.
    tell_watch p (launches_of circuit ws (Some held)) (two_of circuit ws (Some held)) held.place Change
    (rise_watch p limits (read cells) input) c.in_ok-found.found windows are_windows some
    (sym (c.in_ok-edges.ensures.are.all ∙ ap (all_events p) (may_are Rise cells)) ∙ c.if-edges.false)
    c.in_ok-found.ensures.level
    (λ all. c.in_ok-found.ensures.finding (events Change input)
    (changes_are p (events Change input) c.args.changes.now cyclic are (are.all ∙ all)) (are.all ∙ all)
    (subst (AllByRecursion (IsPlaced p)) (sym are_windows) (all_placed p rises limits one most)))
    (λ all. subst (λ (b : Bool). AreOfWays b c.in_ok-found.found)
    (met_edges (λ (e : Ticked). window_in p (window_about e c.edge_limits.result)) c.as_slice-regions.result.now
    ∙ ap (λ (ws : List Window). is_met ws false) are_windows) (c.in_ok-found.ensures.ways (are.all ∙ all)))

pub returns-then-edges-clause-never : goal.returns-then-edges-clause-never
returns-then-edges-clause-never g c input always = ap (λ (s : Slacks). s.before) c.none.ensures

pub returns-clause-never : goal.returns-clause-never
returns-clause-never g c input always =
    let p = period c.args.view.now.circuit.now.header in
    let cells = g.W.CyclicWave.cells c.args.clock.now in
    let not_all = sym (c.in_ok-edges.ensures.are.all ∙ ap (all_events p) (may_are Rise cells)) ∙ c.if-edges.false in
    let bad : true ≡ false = sym always ∙ not_all in
    absurd (cc)

pub returns-then-edges-clause-are : goal.returns-then-edges-clause-are
returns-then-edges-clause-are g c input some =
    let p = period c.args.view.now.circuit.now.header in
    let cells = g.W.CyclicWave.cells c.args.clock.now in
    let all = sym (c.in_ok-edges.ensures.are.all ∙ ap (all_events p) (may_are Rise cells)) ∙ c.if-edges.true in
    let bad : true ≡ false = sym all ∙ some in
    absurd (cc)

pub returns-clause-are : goal.returns-clause-are
returns-clause-are g c input some =
    let circuit = c.args.view.now.circuit.now in
    let ws = waves_of c.args.view.now.waves.now in
    let p = period circuit.header in
    let cells = g.W.CyclicWave.cells c.args.clock.now in
    let paths = c.about_edges.new.paths in
    let edges_are : c.as_slice-regions.result.now ≡ map ticks_of_region (regions p (events Rise (read cells))) =
    c.as_slice-regions.ensures ∙ c.in_ok-edges.ensures.are.regions
    ∙ ap (λ (ev : Events). map ticks_of_region (regions p ev)) (may_are Rise cells) in
    subst (λ (extent : Extent). AreAboutEdges circuit ws c.args.paths.now paths c.args.held extent
    (map ticks_of_region (regions p (events Rise (read cells)))) c.args.changes.now c.in_ok-found.found) c.edge_limits.ensures
    (subst (λ (edges : List Ticked). AreAboutEdges circuit ws c.args.paths.now paths c.args.held c.edge_limits.result edges c.args.changes.now
    c.in_ok-found.found) edges_are c.in_ok-found.ensures.are)
