use Rattle.std.proofs.Common.{◌≡◌, true, take}
use Rattle.std.specs.Prelude.{IfSome, fold, None}
use Rattle.slack_rows.specs.declared.slack.Reason.TheVariants.{Data}
use Rattle.slack_rows.specs.Arrived.{with_guard}
use Rattle.slack_rows.specs.Views.{is_starred, slack_by}
use Rattle.slack_rows.proofs.ways.least_finding.Given as goal

abbrev pub invariant-loop-edge : goal.invariant-loop-edge
invariant-loop-edge g l =
    record {
      is : l.least ≡ fold (with_guard l.view.circuit.now l.paths.known.entries l.paths.arrivals l.edges
          l.held l.corner) (record { best = None; reason = Data }) (take l.edge-index l.edges);
      starred : IfSome l.least.best (λ finding. is_starred (slack_by finding.slack) ≡ true);
    }
