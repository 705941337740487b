use Rattle.std.proofs.Common.{◌≡◌, ℕ, ◌≤◌, Bool, true, false, ◌&&◌, List, Some, length, map, sym, ap, subst, ◌∙◌, arith}
use Rattle.std.specs.List.{All, AllByRecursion}
use Rattle.scald_base.specs.Time.{period}
use Rattle.fixpoint_engine.specs.Pins.{read}
use Rattle.fixpoint_engine.specs.Waves.{waves_of}
use Rattle.point_check.specs.Point.{falls_somewhere}
use Rattle.critical_paths.specs.declared.direction.Direction.TheVariants.{Rise, Change}
use Rattle.critical_paths.specs.Event.{events}
use Rattle.critical_paths.specs.Region.{some_event}
use Rattle.critical_paths.specs.Views.{ticks_of_region}
use Rattle.critical_paths.specs.declared.region.Region.{Region as Ticked}
use Rattle.slack_rows.specs.declared.slack.Slacks.{Slacks}
use Rattle.slack_rows.specs.declared.window.Extent.{Extent}
use Rattle.slack_rows.specs.Sides.{AreAboutEdges}
use Rattle.slack_rows.specs.Slack.{is_met}
use Rattle.slack_rows.specs.Views.{window_about, window_in}
use Rattle.slack_rows.specs.Held.{AreOfWays, IsInPeriod, launches_of, two_of, windows_about}
use Rattle.slack_rows.specs.Laws.{IsPlaced}
use Rattle.slack_rows.specs.Limit.{edge_limits}
use Rattle.slack_rows.specs.Watch.{may_stay_high, span_watch, spans}
use Rattle.slack_rows.specs.Window.{Window, about}
use Rattle.slack_rows.proofs.Bounded.{spans_within}
use Rattle.slack_rows.proofs.Cyclic.{read_again}
use Rattle.slack_rows.proofs.Spans.{all_spans_placed}
use Rattle.slack_rows.proofs.Watching.{changes_are, met_edges, tell_watch, windows_are}
use Rattle.slack_rows.proofs.checker.span_slacks.Goals as goal

pub about_edges-requires-clause-edges : goal.about_edges-requires-clause-edges
about_edges-requires-clause-edges g c =
    let p = period c.args.view.now.circuit.now.header in
    let cells = g.W.CyclicWave.cells c.args.clock.now in
    let least = c.period-period.ensures.shortest in
    let long : 2 ≤ p = omega (arith, least, c.period-period.ensures.is) in
    let edges_are = c.as_slice-regions.ensures ∙ c.in_ok-spans.ensures
    ∙ ap (λ (n : ℕ). map ticks_of_region (spans n (read cells))) c.requires.clock in
    subst (All (IsInPeriod p)) (sym edges_are)
    (spans_within p long (read cells) (read_again cells p c.requires.clock) c.args.limits c.requires.short)

pub returns-clause-finding : goal.returns-clause-finding
returns-clause-finding g c =
    let circuit = c.args.view.now.circuit.now in
    let ws = waves_of c.args.view.now.waves.now in
    let p = period circuit.header in
    let held = c.args.held in
    let limits = edge_limits c.args.limits in
    let cells = g.W.CyclicWave.cells c.args.clock.now in
    let clock = read cells in
    let least = c.period-period.ensures.shortest in
    let long : 2 ≤ p = omega (arith, least, c.period-period.ensures.is) in
    let most = c.requires.short in
    let short : limits.before ≤ p = omega (arith, most) in
    let edges_are : c.as_slice-regions.result.now ≡ map ticks_of_region (spans p clock) =
    c.as_slice-regions.ensures ∙ c.in_ok-spans.ensures ∙ ap (λ (n : ℕ). map ticks_of_region (spans n clock)) c.requires.clock in
    let windows = windows_about p c.edge_limits.result c.as_slice-regions.result.now in
    let are_windows : windows ≡ map (about p limits) (spans p clock) =
    (λ i. windows_about p (c.edge_limits.ensures i) (edges_are i)) ∙ windows_are p limits (spans p clock) short in
    let again = read_again cells p c.requires.clock in
    let never = subst (λ (n : ℕ). (may_stay_high n clock && (some_event n (events Rise clock) && falls_somewhere n clock)) ≡ false)
    c.requires.clock (sym c.stays_high.ensures ∙ c.if-stays_high.false) in
    λ input cyclic some are.
    tell_watch p (launches_of circuit ws (Some held)) (two_of circuit ws (Some held)) held.place Change
    (span_watch p limits clock input) c.in_ok-found.found windows are_windows some never c.in_ok-found.ensures.level
    (λ all. c.in_ok-found.ensures.finding (events Change input)
    (changes_are p (events Change input) c.args.changes.now cyclic are (are.all ∙ all)) (are.all ∙ all)
    (subst (AllByRecursion (IsPlaced p)) (sym are_windows) (all_spans_placed p long clock clock again again c.args.limits most)))
    (λ all. subst (λ (b : Bool). AreOfWays b c.in_ok-found.found)
    (met_edges (λ (e : Ticked). window_in p (window_about e c.edge_limits.result)) c.as_slice-regions.result.now
    ∙ ap (λ (ws : List Window). is_met ws false) are_windows) (c.in_ok-found.ensures.ways (are.all ∙ all)))

pub returns-then-stays_high-clause-never : goal.returns-then-stays_high-clause-never
returns-then-stays_high-clause-never g c input always =
    ap (λ (s : Slacks). s.before) c.none.ensures

pub returns-clause-never : goal.returns-clause-never
returns-clause-never g c input always =
    let bad : true ≡ false = sym always ∙ sym c.stays_high.ensures ∙ c.if-stays_high.false in
    absurd (cc)

pub returns-then-stays_high-clause-are : goal.returns-then-stays_high-clause-are
returns-then-stays_high-clause-are g c input some =
    let bad : true ≡ false = sym c.if-stays_high.true ∙ c.stays_high.ensures ∙ some in
    absurd (cc)

pub returns-clause-are : goal.returns-clause-are
returns-clause-are g c input some =
    let circuit = c.args.view.now.circuit.now in
    let ws = waves_of c.args.view.now.waves.now in
    let cells = g.W.CyclicWave.cells c.args.clock.now in
    let paths = c.about_edges.new.paths in
    let edges_are : c.as_slice-regions.result.now ≡ map ticks_of_region (spans (length cells) (read cells)) =
    c.as_slice-regions.ensures ∙ c.in_ok-spans.ensures in
    subst (λ (extent : Extent). AreAboutEdges circuit ws c.args.paths.now paths c.args.held extent
    (map ticks_of_region (spans (length cells) (read cells))) c.args.changes.now c.in_ok-found.found) c.edge_limits.ensures
    (subst (λ (edges : List Ticked). AreAboutEdges circuit ws c.args.paths.now paths c.args.held c.edge_limits.result edges c.args.changes.now
    c.in_ok-found.found) edges_are c.in_ok-found.ensures.are)
