use Rattle.std.proofs.lemmas.Result.{err_from_is_err_and}
use Rattle.drawing_tree.specs.Tree.{macro_of, use_of}
use Rattle.macro_expander.proofs.Binding.{inside_failed, wires_of_failed, formals_failed, scope_given}
use Rattle.macro_expander.proofs.Ranges.{shapes_are}
use Rattle.macro_expander.proofs.macro_use.inner_scope.Goals as goal

pub bound_formals-requires-clause-ins : goal.bound_formals-requires-clause-ins
bound_formals-requires-clause-ins c = (shapes_are c.args.consts.now (macro_of c.args.definition.now) c.args.given.now c.in_ok-inside.inside c.in_ok-inside.ensures).0

pub bound_formals-requires-clause-outs : goal.bound_formals-requires-clause-outs
bound_formals-requires-clause-outs c = (shapes_are c.args.consts.now (macro_of c.args.definition.now) c.args.given.now c.in_ok-inside.inside c.in_ok-inside.ensures).1

pub returns-in_err-inside : goal.returns-in_err-inside
returns-in_err-inside c =
    let p = err_from_is_err_and c.from_residual.result c.from_residual.ensures.1 in
    rw (p.1, p.2) (inside_failed c.args.consts.now (macro_of c.args.definition.now) c.args.given.now c.args.scope.now
    (use_of c.args.statement.now) c.args.expansion.now c.in_err-inside.field-0.0 c.in_err-inside.ensures)

pub returns-in_err-wires : goal.returns-in_err-wires
returns-in_err-wires c =
    let p = err_from_is_err_and c.from_residual-in_err-wires.result c.from_residual-in_err-wires.ensures.1 in
    rw (p.1, p.2) (wires_of_failed c.args.consts.now (macro_of c.args.definition.now) c.args.given.now c.args.scope.now (use_of c.args.statement.now)
    c.args.expansion.now c.in_ok-inside.inside c.in_ok-inside.ensures c.in_err-wires.field-0.0 c.in_err-wires.ensures)

pub returns-in_err-formals : goal.returns-in_err-formals
returns-in_err-formals c =
    let p = err_from_is_err_and c.from_residual-in_err-formals.result c.from_residual-in_err-formals.ensures.1 in
    rw (p.1, p.2) (formals_failed c.args.consts.now (macro_of c.args.definition.now) c.args.given.now c.args.scope.now (use_of c.args.statement.now)
    c.args.expansion.now c.in_ok-inside.inside c.in_ok-inside.ensures c.all_wires.new.expansion
    c.in_ok-wires.wires c.in_ok-wires.ensures c.in_err-formals.field-0.0 c.in_err-formals.ensures)

pub returns : goal.returns
returns c =
    rw (c.in_ok-path.ensures, c.as_slice.ensures, c.new.ensures)
    (scope_given c.args.consts.now (macro_of c.args.definition.now) c.args.given.now c.args.scope.now (use_of c.args.statement.now) c.args.expansion.now
    c.in_ok-inside.inside c.in_ok-inside.ensures c.all_wires.new.expansion
    c.in_ok-wires.wires c.in_ok-wires.ensures c.in_ok-formals.formals c.in_ok-formals.ensures)
