use Rattle.std.proofs.lemmas.Result.{err_from_is_err_and}
use Rattle.drawing_tree.specs.Tree.{macro_of}
use Rattle.drawing_grammar.specs.DoubleNames.{head_declared, labels}
use Rattle.drawing_grammar.proofs.Doubles.{stop_first, given_later}
use Rattle.drawing_reader.proofs.double_names.Declarations.definition.Goals as goal

pub returns-in_err-head : goal.returns-in_err-head
returns-in_err-head c =
    let p = err_from_is_err_and c.from_residual.result c.from_residual.ensures.1 in
    let m = macro_of c.args.definition.now in
    rw (p.1, p.2) (stop_first c.args.self.now (head_declared c.args.scope m c.args.head.now) (labels c.args.scope m.body) c.in_err-head.field-0.0 c.in_err-head.ensures)

pub returns : goal.returns
returns c =
    let m = macro_of c.args.definition.now in
    given_later c.statements.result c.args.self.now c.head.new.self c.statements.new.self (head_declared c.args.scope m c.args.head.now)
    (labels c.args.scope m.body) c.in_ok-head.ensures (rw c.as_slice.ensures.value at c.statements.ensures)
