use Rattle.std.proofs.Common.{◌≡◌, true, subst, sym, Option, Some}
use Rattle.std.specs.Prelude.{IfSome}
use Rattle.slack_rows.specs.declared.slack.Finding.{Finding as Found}
use Rattle.slack_rows.specs.Views.{is_starred, slack_by}
use Rattle.slack_rows.proofs.Alike.{starred_lesser}
use Rattle.slack_rows.proofs.ways.with_arrival.Goals as goal

pub returns-then-is_next-clause-starred : goal.returns-then-is_next-clause-starred
returns-then-is_next-clause-starred g c =
    subst (λ (o : Option Found). IfSome o (λ finding. is_starred (slack_by finding.slack) ≡ true)) (sym c.lesser.ensures)
    (starred_lesser c.args.best (Some c.way.result) c.requires.best c.way.ensures.starred)
