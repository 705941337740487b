use Rattle.std.proofs.Common.{◌∙◌, ap, arith, sym, Option}
use Rattle.std.specs.Prelude.{fold, map}
use Rattle.std.proofs.lemmas.Option.{slice_get-map}
use Rattle.scald_base.specs.Time.{period}
use Rattle.fixpoint_engine.specs.Waves.{target_wire}
use Rattle.critical_paths.specs.Path.{bound}
use Rattle.critical_paths.specs.Reached.{arrived}
use Rattle.critical_paths.proofs.Arriving.{taken_more, taken_none}
use Rattle.slack_rows.specs.declared.slack.Finding.{Finding as Found}
use Rattle.slack_rows.specs.Arrived.{with_arrival}
use Rattle.slack_rows.proofs.ways.best_of.Goals as goal

pub loop-number-init : goal.loop-number-init
loop-number-init g c =
    let all = map arrived c.args.paths.now.arrivals in
    let p = period c.args.view.now.circuit.now.header in
    let wire = bound c.args.sought.corner (target_wire c.args.view.now.circuit.now.nets c.args.sought.held.pin.target) in
    record {
      from = omega arith;
      to = c.requires.ordered;
      is = ap (fold (with_arrival p wire c.args.edges.now c.args.sought) c.args.so_far)
          (sym (taken_none all c.args.numbers.0));
      starred = c.requires.best;
    }

pub loop-number-preserved : goal.loop-number-preserved
loop-number-preserved g c =
    let so = c.loop-number.invariant in
    let all = map arrived c.args.paths.now.arrivals in
    let p = period c.args.view.now.circuit.now.header in
    let wire = bound c.args.sought.corner (target_wire c.args.view.now.circuit.now.nets c.args.sought.held.pin.target) in
    let step = with_arrival p wire c.args.edges.now c.args.sought in
    let from = so.from in
    let below = c.loop-number-test.true in
    record {
      from = omega (arith, from);
      to = omega (arith, below);
      is = c.with_arrival-best.ensures.is
          ∙ ap (λ (o : Option Found). step o c.arrival-arrival.result) so.is
          ∙ sym (taken_more step c.args.so_far all c.args.numbers.0 c.loop-number.number
          c.arrival-arrival.result from
          (slice_get-map arrived c.args.paths.now.arrivals c.loop-number.number ∙ c.arrival-arrival.ensures.is));
      starred = c.with_arrival-best.ensures.starred;
    }
