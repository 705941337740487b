use Rattle.std.proofs.Common.{[], ◌∷◌, ◌+◌, map, drop}
use Rattle.std.proofs.lemmas.Result.{err_from_is_err_and}
use Rattle.drawing_tree.specs.Tree.{formal_of}
use Rattle.drawing_grammar.specs.declared.declared.Kind.TheVariants.{Formal}
use Rattle.drawing_grammar.specs.DoubleNames.{declaration, formals}
use Rattle.drawing_grammar.proofs.Doubles.{goes_on, stop_there}
use Rattle.drawing_reader.proofs.Labels.{next_formal}
use Rattle.drawing_reader.proofs.double_names.Declarations.formals.Goals as goal

pub returns-in_err-declare : goal.returns-in_err-declare
returns-in_err-declare c =
    let p = err_from_is_err_and c.from_residual.result c.from_residual.ensures.1 in
    let i = c.signals.signal-index in
    let xs = c.args.signals.now in
    rw (p.1, p.2) (stop_there c.args.self.now c.signals.self (formals c.args.scope (map formal_of xs) c.args.places.now) (formals c.args.scope (map formal_of (drop i xs)) c.signals.rest.now)
    (declaration c.args.scope Formal c.as_slice.result.now c.in-Some.place.now ∷ []) (formals c.args.scope (map formal_of (drop (i + 1) xs)) c.in-Some.more.now) c.in_err-declare.field-0.0
    c.signals.invariant (next_formal c.args.scope xs i c.signal-item.result c.as_slice.result.now c.signals.rest.now c.in-Some.place.now
    c.in-Some.more.now c.signals-test.true c.signal-item.is c.as_slice.ensures c.in-Some.ensures.cases.0) c.in_err-declare.ensures)

pub signals-preserved : goal.signals-preserved
signals-preserved c =
    let i = c.signals.signal-index in
    let xs = c.args.signals.now in
    goes_on c.args.self.now c.signals.self c.declare.new.self (formals c.args.scope (map formal_of xs) c.args.places.now) (formals c.args.scope (map formal_of (drop i xs)) c.signals.rest.now)
    (declaration c.args.scope Formal c.as_slice.result.now c.in-Some.place.now ∷ []) (formals c.args.scope (map formal_of (drop (i + 1) xs)) c.in-Some.more.now)
    c.signals.invariant (next_formal c.args.scope xs i c.signal-item.result c.as_slice.result.now c.signals.rest.now c.in-Some.place.now
    c.in-Some.more.now c.signals-test.true c.signal-item.is c.as_slice.ensures c.in-Some.ensures.cases.0) c.in_ok-declare.ensures
