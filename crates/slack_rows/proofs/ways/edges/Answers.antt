use Rattle.std.proofs.Common.{map, ap, subst, ◌∙◌, ◌≡◌, List}
use Rattle.std.proofs.lemmas.List.{take_all}
use Rattle.fixpoint_engine.specs.Waves.{waves_of}
use Rattle.critical_paths.specs.declared.region.Region.{Region as Ticked}
use Rattle.slack_rows.specs.Sides.{guarded, guards_of}
use Rattle.slack_rows.proofs.Guarding.{guards_more}
use Rattle.slack_rows.proofs.Launching.{goes_none, goes_then}
use Rattle.slack_rows.proofs.ways.edges.Goals as goal

pub loop-edge-init : goal.loop-edge-init
loop-edge-init g c =
    record {
      goes = goes_none c.args.view.now.circuit.now (waves_of c.args.view.now.waves.now) c.args.paths.now c.requires.knows;
      are = ap (map guarded) c.new-found.ensures;
    }

pub loop-edge-preserved : goal.loop-edge-preserved
loop-edge-preserved g c =
    let circuit = c.args.view.now.circuit.now in
    let ws = waves_of c.args.view.now.waves.now in
    let so = c.loop-edge.invariant in
    record {
      goes = goes_then circuit ws c.args.paths.now c.loop-edge.paths _ so.goes c.in_ok-against.ensures.paths;
      are = ap (map guarded) c.in_ok-add_guard.ensures
          ∙ guards_more circuit ws c.args.held c.args.corner c.args.watch.extent c.args.watch.edges.now c.loop-edge.edge-index _ c.loop-edge.found
          c.guard_of.result c.window_of-window.result c.in_ok-against.against c.loop-edge-test.true so.are c.guard_of.ensures
          c.window_of-window.ensures.is c.in_ok-against.ensures.edge;
    }

pub returns-clause-are : goal.returns-clause-are
returns-clause-are g c =
    let circuit = c.args.view.now.circuit.now in
    let ws = waves_of c.args.view.now.waves.now in
    subst (λ (es : List Ticked). map guarded c.loop-edge.found ≡ guards_of circuit ws c.args.held c.args.corner c.args.watch.extent es)
    (take_all c.loop-edge.edge-index c.args.watch.edges.now c.loop-edge-test.false) c.loop-edge.invariant.are
