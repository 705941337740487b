use Rattle.std.proofs.Common.{◌∙◌, ◌++◌, length, refl}
use Rattle.std.specs.List.{flat_map}
use Rattle.listing.specs.Head.{period_line}
use Rattle.margin_report.specs.Report.{count_line, margin_line}
use Rattle.margin_report.proofs.reporter.MarginsReporter.end.Goals as goal

pub returns : goal.returns
returns c = λ asked version base cases holds.
    let d = c.args.circuit.now in
    record {
      outcome = refl;
      text =
          c.whole.ensures
          ∙ c.in_ok-add_count.ensures
          ∙ (λ j. c.in_ok-add_rows.ensures j ++ count_line (c.len.ensures j))
          ∙ (λ j. (c.in_ok-write_period.ensures.ok j ++ flat_map (margin_line d)
          (c.as_slice.ensures j)) ++ count_line (length c.args.self.rows))
          ∙ (λ j. ((c.new-bytes.ensures j ++ period_line (holds.0 j) d) ++ flat_map (margin_line d)
          (holds.1 j)) ++ count_line (length (holds.1 j)));
    }
