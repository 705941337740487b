use Rattle.std.proofs.Common.{[], ◌∷◌, ◌+◌, map, drop}
use Rattle.std.proofs.lemmas.Result.{err_from_is_err_and}
use Rattle.drawing_tree.specs.Tree.{assignment_of}
use Rattle.drawing_grammar.specs.declared.declared.Kind.TheVariants.{Parameter}
use Rattle.drawing_grammar.specs.DoubleNames.{declaration, parameters}
use Rattle.drawing_grammar.proofs.Doubles.{goes_on, stop_there}
use Rattle.drawing_reader.proofs.Labels.{next_parameter}
use Rattle.drawing_reader.proofs.double_names.Declarations.parameters.Goals as goal

pub returns-in_err-declare : goal.returns-in_err-declare
returns-in_err-declare c =
    let p = err_from_is_err_and c.from_residual.result c.from_residual.ensures.1 in
    let i = c.params.param-index in
    let xs = c.args.params.now in
    rw (p.1, p.2) (stop_there c.args.self.now c.params.self (parameters c.args.scope (map assignment_of xs) c.args.places.now)
    (parameters c.args.scope (map assignment_of (drop i xs)) c.params.rest.now)
    (declaration c.args.scope Parameter c.as_slice.result.now c.in-Some.place.now ∷ []) (parameters c.args.scope (map assignment_of (drop (i + 1) xs)) c.in-Some.more.now) c.in_err-declare.field-0.0
    c.params.invariant (next_parameter c.args.scope xs i c.param-item.result c.as_slice.result.now c.params.rest.now c.in-Some.place.now
    c.in-Some.more.now c.params-test.true c.param-item.is c.as_slice.ensures c.in-Some.ensures.cases.0) c.in_err-declare.ensures)

pub params-preserved : goal.params-preserved
params-preserved c =
    let i = c.params.param-index in
    let xs = c.args.params.now in
    goes_on c.args.self.now c.params.self c.declare.new.self (parameters c.args.scope (map assignment_of xs) c.args.places.now)
    (parameters c.args.scope (map assignment_of (drop i xs)) c.params.rest.now)
    (declaration c.args.scope Parameter c.as_slice.result.now c.in-Some.place.now ∷ []) (parameters c.args.scope (map assignment_of (drop (i + 1) xs)) c.in-Some.more.now)
    c.params.invariant (next_parameter c.args.scope xs i c.param-item.result c.as_slice.result.now c.params.rest.now c.in-Some.place.now
    c.in-Some.more.now c.params-test.true c.param-item.is c.as_slice.ensures c.in-Some.ensures.cases.0) c.in_ok-declare.ensures
