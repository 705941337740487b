use Rattle.std.proofs.Common.{ℕ, List, [], sym, subst}
use Rattle.slack_rows.specs.Known.{AreKnown}
use Rattle.slack_rows.proofs.Beginning.{known_none}
use Rattle.slack_rows.proofs.rows.Rows.new.Goals as goal

pub returns-clause-known : goal.returns-clause-known
returns-clause-known c =
    let circuit = c.args.c.now in
    let limits = c.in_ok-parameters.parameters in
    let least = c.in_ok-least.least in
    subst (λ (numbers : List ℕ). AreKnown circuit [] limits least numbers c.new-3.result.keys) (sym c.new-2.ensures)
    (subst (λ (sets : List (ℕ × ℕ)). AreKnown circuit [] limits least [] sets) (sym c.new-3.ensures.empty)
    (known_none circuit limits least c.len.result c.in_ok-parameters.ensures c.in_ok-least.ensures c.len.ensures))
