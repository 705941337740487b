use Rattle.std.proofs.Common.{◌≡◌, ◌≤◌, List, take, true}
use Rattle.std.specs.List.{count_by}
use Rattle.scald_base.specs.Time.{period}
use Rattle.flat_circuit.specs.Circuit.{Circuit}
use Rattle.slack_rows.specs.declared.parameter.Parameter.{Parameter}
use Rattle.slack_rows.specs.Known.{AreKnown, are_sure}
use Rattle.slack_rows.specs.Limit.{Case}
use Rattle.slack_rows.specs.Rows.{is_own_row, row}
use Rattle.slack_rows.proofs.Totals.{Counts}
use Rattle.slack_rows.proofs.rows.Rows.broken_count.Given as goal

abbrev pub invariant-loop-place : goal.invariant-loop-place
invariant-loop-place l =
    record {
      few : l.count ≤ l.place;
      counts : Counts l.self.least l.place l.count;
      own : (c : Circuit) (cases : List Case) →
          AreKnown c cases l.self.parameters l.self.least l.self.cases l.self.sets.keys →
          l.self.period ≡ period c.header → are_sure c cases ≡ true →
          l.count ≡ count_by (λ (q : Parameter). is_own_row c cases (row c cases q.subject q.word)) (take l.place l.self.parameters);
    }
