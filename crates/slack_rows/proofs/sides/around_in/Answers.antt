use Rattle.std.proofs.Common.{◌+◌, arith}
use Rattle.scald_base.specs.Time.{period}
use Rattle.fixpoint_engine.specs.Waves.{waves_of}
use Rattle.slack_rows.specs.Views.{meets_window, window_in}
use Rattle.slack_rows.specs.Held.{side_held, two_of}
use Rattle.slack_rows.proofs.Gathering.{around_begin, around_step, around_whole, met_step}
use Rattle.slack_rows.proofs.Launching.{goes_none, goes_then}
use Rattle.slack_rows.proofs.sides.around_in.Goals as goal

pub loop-region-init : goal.loop-region-init
loop-region-init g c =
    let circuit = c.args.view.now.circuit.now in
    let ws = waves_of c.args.view.now.waves.now in
    let w = window_in (period circuit.header) c.args.window in
    record {
      goes = goes_none circuit ws c.args.paths.now c.requires.knows;
      met = omega arith;
      are = around_begin (period circuit.header) (side_held circuit ws c.args.watch.held w) (two_of circuit ws c.args.watch.held w) w c.args.begin
          c.args.watch.changes.now c.args.before;
    }

pub loop-region-preserved : goal.loop-region-preserved
loop-region-preserved g c =
    let circuit = c.args.view.now.circuit.now in
    let ws = waves_of c.args.view.now.waves.now in
    let w = window_in (period circuit.header) c.args.window in
    let more = c.with-all.ensures in
    let so = c.loop-region.invariant in
    let most = met_step (meets_window c.in_ok-side.side) c.loop-region.all.met (c.args.before.met + c.loop-region.region-index) so.met in
    let met = more.met in
    record {
      goes = goes_then _ _ _ _ _ so.goes c.in_ok-side.ensures.paths;
      met = omega (arith, most, met);
      are = around_step (period circuit.header) (side_held circuit ws c.args.watch.held w) (two_of circuit ws c.args.watch.held w) w c.args.begin
          c.args.watch.changes.now c.args.before c.loop-region.all c.with-all.result c.loop-region.region-index _ c.moved_to-moved.result c.in_ok-side.side
          c.loop-region-test.true so.are c.moved_to-moved.ensures.is c.in_ok-side.ensures.lies c.moved_to-moved.ensures.close
          more.last more.first more.met more.two;
    }

pub returns-clause-are : goal.returns-clause-are
returns-clause-are g c =
    let circuit = c.args.view.now.circuit.now in
    let ws = waves_of c.args.view.now.waves.now in
    let w = window_in (period circuit.header) c.args.window in
    around_whole (period circuit.header) (side_held circuit ws c.args.watch.held w) (two_of circuit ws c.args.watch.held w) w c.args.begin
    c.args.watch.changes.now c.args.before c.loop-region.all c.loop-region.region-index c.loop-region-test.false c.loop-region.invariant.are
