use Rattle.std.proofs.Common.{[], ◌∷◌, ◌+◌, map, drop}
use Rattle.std.proofs.lemmas.Result.{err_from_is_err_and}
use Rattle.drawing_tree.specs.Tree.{assignment_of}
use Rattle.drawing_grammar.specs.declared.declared.Kind.TheVariants.{Constant}
use Rattle.drawing_grammar.specs.DoubleNames.{declaration, constants}
use Rattle.drawing_grammar.proofs.Doubles.{goes_on, stop_there}
use Rattle.drawing_reader.proofs.Labels.{next_constant}
use Rattle.drawing_reader.proofs.double_names.Declarations.constants.Goals as goal

pub returns-in_err-declare : goal.returns-in_err-declare
returns-in_err-declare c =
    let p = err_from_is_err_and c.from_residual.result c.from_residual.ensures.1 in
    let i = c.consts.constant-index in
    let xs = c.args.consts.now in
    rw (p.1, p.2) (stop_there c.args.self.now c.consts.self (constants (map assignment_of xs) c.args.places.now)
    (constants (map assignment_of (drop i xs)) c.consts.rest.now)
    (declaration 0 Constant c.as_slice.result.now c.in-Some.place.now ∷ []) (constants (map assignment_of (drop (i + 1) xs)) c.in-Some.more.now) c.in_err-declare.field-0.0
    c.consts.invariant (next_constant xs i c.constant-item.result c.as_slice.result.now c.consts.rest.now c.in-Some.place.now
    c.in-Some.more.now c.consts-test.true c.constant-item.is c.as_slice.ensures c.in-Some.ensures.cases.0) c.in_err-declare.ensures)

pub consts-preserved : goal.consts-preserved
consts-preserved c =
    let i = c.consts.constant-index in
    let xs = c.args.consts.now in
    goes_on c.args.self.now c.consts.self c.declare.new.self (constants (map assignment_of xs) c.args.places.now)
    (constants (map assignment_of (drop i xs)) c.consts.rest.now)
    (declaration 0 Constant c.as_slice.result.now c.in-Some.place.now ∷ []) (constants (map assignment_of (drop (i + 1) xs)) c.in-Some.more.now)
    c.consts.invariant (next_constant xs i c.constant-item.result c.as_slice.result.now c.consts.rest.now c.in-Some.place.now
    c.in-Some.more.now c.consts-test.true c.constant-item.is c.as_slice.ensures c.in-Some.ensures.cases.0) c.in_ok-declare.ensures
