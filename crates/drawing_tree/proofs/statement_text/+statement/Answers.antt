use Rattle.std.proofs.Common.{◌++◌, take, sym, ap, ◌∙◌, append_assoc}
use Rattle.drawing_tree.specs.Tree.{statement_of, statements_of}
use Rattle.drawing_tree.specs.Canonical.{statement_lines, statements_lines}
use Rattle.drawing_tree.proofs.Lines.{lines_take}
use Rattle.drawing_tree.proofs.statement_text.+statement.Goals as goal

pub add_statements-statements-preserved : goal.add_statements-statements-preserved
add_statements-statements-preserved t c =
    let margin = c.args.margin.now in
    let ss = c.args.statements.now in
    let i = c.statements.statement-index in
    let s = c.statement-item.result in
    let before = statements_lines margin (statements_of (take i ss)) in
    c.in_ok-add_statement.ensures
    ∙ (ap (λ out. out ++ statement_lines margin (statement_of s)) c.statements.invariant
    ∙ (append_assoc c.args.out.now before (statement_lines margin (statement_of s))
    ∙ ap (λ lines. c.args.out.now ++ lines) (sym (lines_take margin ss i s c.statements-test.true c.statement-item.is))))
