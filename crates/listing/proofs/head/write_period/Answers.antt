use Rattle.std.proofs.Common.{◌≡◌, ℕ, ◌∙◌, ◌++◌, ◌∷◌, [], codes, decimal, ap, subst}
use Rattle.std.specs.Prelude.{OnOk}
use Rattle.scald_base.specs.Time.{period}
use Rattle.listing.specs.Head.{period_line}
use Rattle.listing.specs.Text.{line}
use Rattle.listing.proofs.head.write_period.Goals as goal

pub returns-clause-ok : goal.returns-clause-ok
unfolding period_line
returns-clause-ok c =
    let v = c.args.version in
    let written : ℕ → ℕ → Type 0 =
    λ k n. OnOk c.add_line.result (c.add_line.new.out ≡ c.args.out.now ++ line (codes "SCALD " ∷ decimal k ∷ codes " PERIOD " ∷ decimal n ∷ [])) in
    subst (written v) (c.from-2.ensures ∙ c.period.ensures.is ∙ ap period c.header.ensures)
    (subst (λ (k : ℕ). written k c.from-2.result) c.from.ensures c.add_line.ensures.ok)
