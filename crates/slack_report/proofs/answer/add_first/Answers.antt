use Rattle.std.proofs.Common.{◌≡◌, ℕ, ◌∙◌, ◌++◌, ◌∷◌, [], codes, decimal, ap, subst}
use Rattle.std.specs.Prelude.{OnOk}
use Rattle.scald_base.specs.Time.{period}
use Rattle.listing.specs.Text.{line}
use Rattle.slack_report.specs.Answer.{first_line}
use Rattle.slack_report.proofs.answer.add_first.Goals as goal

pub returns : goal.returns
unfolding first_line
returns c =
    let written : ℕ → Type 0 =
    λ n. OnOk c.add_line.result
    (c.add_line.new.out
    ≡ c.args.out.now ++ line (codes "SLACK PERIOD " ∷ decimal n ∷ [])) in
    subst written (c.from.ensures ∙ c.period.ensures.is ∙ ap period c.header.ensures)
    c.add_line.ensures.ok
