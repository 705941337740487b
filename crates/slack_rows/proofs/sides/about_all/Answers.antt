use Rattle.std.proofs.Common.{List, map, refl, subst}
use Rattle.std.proofs.lemmas.List.{take_all}
use Rattle.scald_base.specs.Time.{period}
use Rattle.fixpoint_engine.specs.Waves.{waves_of}
use Rattle.critical_paths.specs.declared.region.Region.{Region}
use Rattle.slack_rows.specs.Held.{TellWindows, launches_of, place_in, two_of, windows_about}
use Rattle.slack_rows.specs.Sides.{AreLeastAbout}
use Rattle.slack_rows.specs.Views.{window_about}
use Rattle.slack_rows.proofs.Guarding.{least_edge, least_none}
use Rattle.slack_rows.proofs.Gathering.{edge_at, level_more, placed_at, tell_edge, tell_none}
use Rattle.slack_rows.proofs.Launching.{goes_none, goes_then}
use Rattle.slack_rows.proofs.sides.about_all.Goals as goal

pub loop-edge-init : goal.loop-edge-init
loop-edge-init g c =
    let circuit = c.args.view.now.circuit.now in
    let ws = waves_of c.args.view.now.waves.now in
    record {
      goes = goes_none circuit ws c.args.paths.now c.requires.knows;
      level = refl;
      finding = λ ev are placed. tell_none (period circuit.header) ev (launches_of circuit ws c.args.watch.held) (two_of circuit ws c.args.watch.held)
          (place_in c.args.watch.held) c.args.watch.direction _ refl;
      are = least_none circuit ws c.args.paths.now c.args.watch.held c.args.watch.direction c.args.watch.changes.now _ refl;
    }

pub window_of-window-requires-clause-edge : goal.window_of-window-requires-clause-edge
window_of-window-requires-clause-edge g c =
    edge_at (period c.args.view.now.circuit.now.header) c.period.result c.args.watch.edges.now c.loop-edge.edge-index _ c.period.ensures.is
    c.loop-edge-test.true c.requires.edges

pub loop-edge-preserved : goal.loop-edge-preserved
loop-edge-preserved g c =
    let circuit = c.args.view.now.circuit.now in
    let ws = waves_of c.args.view.now.waves.now in
    let so = c.loop-edge.invariant in
    record {
      goes = goes_then _ _ _ _ _ so.goes c.in_ok-found.ensures.paths;
      level = level_more c.loop-edge.all.level c.in_ok-found.found.level c.lesser-all.result.level c.lesser-all.ensures.level so.level c.in_ok-found.ensures.level;
      finding = λ ev are placed. tell_edge (period circuit.header) ev (launches_of circuit ws c.args.watch.held) (two_of circuit ws c.args.watch.held)
          (place_in c.args.watch.held) c.args.watch.direction c.args.watch.extent c.args.watch.edges.now c.loop-edge.edge-index _
          c.window_of-window.result c.loop-edge.all c.in_ok-found.found c.lesser-all.result c.loop-edge-test.true (so.finding ev are placed)
          c.window_of-window.ensures.is
          (c.in_ok-found.ensures.finding ev are (placed_at (period circuit.header) c.args.watch.extent c.args.watch.edges.now c.loop-edge.edge-index _
          c.window_of-window.result c.loop-edge-test.true placed c.window_of-window.ensures.is))
          c.in_ok-found.ensures.level c.lesser-all.ensures.level c.lesser-all.ensures.before c.lesser-all.ensures.after;
      are = least_edge circuit ws c.args.paths.now c.args.watch.held c.args.watch.direction c.args.watch.changes.now c.args.watch.extent c.args.watch.edges.now
          c.loop-edge.edge-index _ c.window_of-window.result c.loop-edge.all c.in_ok-found.found c.lesser-all.result c.loop-edge-test.true so.are
          c.window_of-window.ensures.is
          record {
            paths = c.about.new.paths;
            keeps = λ exact. c.in_ok-found.ensures.paths.keeps (so.goes.keeps exact);
            are = c.in_ok-found.ensures.are;
          }
          c.lesser-all.ensures.level c.lesser-all.ensures.before c.lesser-all.ensures.after;
    }

pub returns-clause-finding : goal.returns-clause-finding
returns-clause-finding g c =
    λ ev are placed.
    let circuit = c.args.view.now.circuit.now in
    let ws = waves_of c.args.view.now.waves.now in
    subst (λ (es : List Region). TellWindows (period circuit.header) ev (launches_of circuit ws c.args.watch.held) (two_of circuit ws c.args.watch.held)
    (place_in c.args.watch.held) c.args.watch.direction (windows_about (period circuit.header) c.args.watch.extent es) c.loop-edge.all)
    (take_all c.loop-edge.edge-index c.args.watch.edges.now c.loop-edge-test.false) (c.loop-edge.invariant.finding ev are placed)

pub returns-clause-are : goal.returns-clause-are
returns-clause-are g c =
    let circuit = c.args.view.now.circuit.now in
    let ws = waves_of c.args.view.now.waves.now in
    subst (λ (es : List Region). AreLeastAbout circuit ws c.args.paths.now c.args.watch.held c.args.watch.direction c.args.watch.changes.now
    (map (λ e. window_about e c.args.watch.extent) es) c.loop-edge.all)
    (take_all c.loop-edge.edge-index c.args.watch.edges.now c.loop-edge-test.false) c.loop-edge.invariant.are
