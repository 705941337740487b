use Rattle.std.proofs.Common.{◌∙◌, ℕ, List, ◌++◌, ap}
use Rattle.slack_report.specs.Answer.{first_line, last_lines}
use Rattle.slack_report.proofs.Agreeing.{broken_with_faults}
use Rattle.slack_report.proofs.collected.reply.Goals as goal

pub returns : goal.returns
returns c = λ cases are.
    let circuit = c.args.circuit.now in
    let broken = c.broken_count-broken.result in
    let none = c.broken_count-broken.ensures.none circuit cases are.known in
    let lines : ℕ → List ℕ =
    λ free. first_line circuit ++ c.args.lines.now
    ++ last_lines c.args.part free broken c.row_count.result in
    record {
      broken = broken;
      are_broken = record {
        none = none;
        faultless = none ∙ broken_with_faults circuit cases are.are_waves;
        exact = c.broken_count-broken.ensures.are circuit cases are.known are.same_period;
      };
      outcome = c.verdict.ensures;
      limits = c.row_count.result;
      have_rows = c.row_count.ensures circuit cases are;
      lines = c.args.lines.now;
      text = c.whole.ensures ∙ c.in_ok-bytes.ensures
          ∙ ap lines (c.free_count.ensures circuit cases are.known);
    }
