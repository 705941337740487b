use Rattle.std.proofs.Common.{◌≡◌, ◌≤◌, List, take}
use Rattle.std.specs.List.{count_by}
use Rattle.flat_circuit.specs.Circuit.{Circuit}
use Rattle.slack_rows.specs.declared.parameter.Parameter.{Parameter}
use Rattle.slack_rows.specs.Known.{AreKnown}
use Rattle.slack_rows.specs.Limit.{Case}
use Rattle.slack_rows.specs.Rows.{is_free_limit, row}
use Rattle.slack_rows.proofs.rows.Rows.free_count.Given as goal

abbrev pub invariant-loop-place : goal.invariant-loop-place
invariant-loop-place l =
    record {
      few : l.count ≤ l.place;
      free : (c : Circuit) (cases : List Case) →
          AreKnown c cases l.self.parameters l.self.least l.self.cases l.self.sets.keys →
          l.count ≡ count_by (λ (q : Parameter). is_free_limit c cases (row c cases q.subject q.word)) (take l.place l.self.parameters);
    }
