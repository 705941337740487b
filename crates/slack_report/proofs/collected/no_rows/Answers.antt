use Rattle.slack_report.proofs.collected.no_rows.Goals as goal

pub returns : goal.returns
returns c = record {
  known = c.in_ok-rows.ensures.known;
  same_period = c.in_ok-rows.ensures.period;
  are_waves = tt;
}
