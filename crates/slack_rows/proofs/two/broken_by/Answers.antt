use Rattle.std.proofs.Common.{inl, inr, ap, to_z, of_z, w64}
use Rattle.slack_rows.specs.declared.slack.Finding.{Finding as Found}
use Rattle.slack_rows.specs.Views.{slack_by}
use Rattle.slack_rows.proofs.Alike.{two_break}
use Rattle.slack_rows.proofs.two.broken_by.Goals as goal
use Rattle.slack_rows.proofs.two.broken_by.Goals.{else-before-ge0-via-then-before-ge0+else-after-ge0, else-before-ge0-via-else-before-ge0}

pub returns-clause-broken : goal.returns-clause-broken
returns-clause-broken c =
    two_break (slack_by c.finding.result.slack) (slack_by c.finding-2.result.slack) (to_z w64 (of_z w64 c.spare_at-before.result))
    (to_z w64 (of_z w64 c.spare_at-after.result)) (ap (λ (t : Found). slack_by t.slack) c.finding.ensures)
    (ap (λ (t : Found). slack_by t.slack) c.finding-2.ensures)
    (elim c.else-before-ge0.branch [
      | else-before-ge0-via-then-before-ge0+else-after-ge0 w ↦ inr w.if-after-ge0.false
      | else-before-ge0-via-else-before-ge0 w ↦ inl w.if-before-ge0.false
    ])
