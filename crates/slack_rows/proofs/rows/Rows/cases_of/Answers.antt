use Rattle.std.proofs.Common.{ℕ, ◌∙◌, ap}
use Rattle.std.specs.Prelude.{Option, unwrap_or}
use Rattle.slack_rows.proofs.Beginning.{number_more}
use Rattle.slack_rows.proofs.rows.Rows.cases_of.Goals as goal

pub loop-back-preserved : goal.loop-back-preserved
loop-back-preserved c =
    c.in_ok-push.ensures.ok
    ∙ number_more c.args.self.now.cases c.as_slice-places.result.now c.loop-back.numbers c.loop-back.back _ c.unwrap_or.result
    c.loop-back-test.true
    (c.unwrap_or.ensures ∙ ap (λ (o : Option ℕ). unwrap_or o 0) (c.copied.ensures ∙ c.get.ensures)) c.loop-back.invariant
