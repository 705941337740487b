use Rattle.std.proofs.Common.{◌<◌, List, All, subst}
use Rattle.clause_check.specs.declared.literal.Literal.{Literal}
use Rattle.clause_check.proofs.Spans.{rows_all}
use Rattle.clause_check.proofs.rows.Rows+Literal.variables.Goals as goal

pub returns : goal.returns
returns c =
    let Below : Literal → Type 0 = λ l. l.variable < c.variables_of.result in
    let items : All Below c.self.inside.items.items =
    subst (All Below) c.deref.ensures.value c.variables_of.ensures in
    let rows = rows_all Below c.self.inside.items.items c.self.inside.spans.items items in
    subst (λ (clauses : List (List Literal)). All (All Below) clauses) c.self.view_is rows
