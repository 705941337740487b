use Rattle.std.proofs.Common.{◌≡◌, ◌≤◌, List, take, true}
use Rattle.std.specs.List.{count_by}
use Rattle.flat_circuit.specs.Circuit.{Circuit}
use Rattle.slack_rows.specs.Known.{are_sure}
use Rattle.slack_rows.specs.Limit.{Case}
use Rattle.slack_report.specs.Answer.{AreRows, has_row}
use Rattle.slack_report.proofs.counts.row_count.Given as goal

abbrev pub invariant-loop-place : goal.invariant-loop-place
invariant-loop-place l =
    record {
      few : l.count ≤ l.place;
      have : (c : Circuit) (cases : List Case) → AreRows c cases l.rows → are_sure c cases ≡ true →
          l.count ≡ count_by (has_row c cases) (take l.place l.rows.parameters);
    }
