use Rattle.std.proofs.Common.{sym, subst, arith}
use Rattle.slack_rows.specs.declared.window.Window.{Window}
use Rattle.slack_rows.specs.Held.{IsCloseWindow}
use Rattle.slack_rows.proofs.Gathering.{window_close}
use Rattle.slack_rows.proofs.sides.window_of.Goals as goal

pub returns-clause-close : goal.returns-clause-close
returns-clause-close c =
    subst (λ (w : Window). IsCloseWindow c.args.period w) (sym c.about.ensures)
    (window_close c.args.period c.args.extent c.args.edge c.requires.period c.requires.extent (omega arith) c.requires.edge)
