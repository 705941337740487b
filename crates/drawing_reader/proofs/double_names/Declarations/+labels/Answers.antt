use Rattle.std.proofs.Common.{[], ◌∷◌, ◌++◌, ◌+◌, drop, sym, ap, ◌∙◌}
use Rattle.std.proofs.lemmas.Result.{err_from_is_err_and}
use Rattle.drawing_tree.specs.Tree.{statements_of, statement_of, if_of, for_of, else_of}
use Rattle.drawing_grammar.specs.declared.declared.Kind.TheVariants.{Label}
use Rattle.drawing_grammar.specs.DoubleNames.{declaration, labels, statement_labels, else_labels}
use Rattle.drawing_grammar.proofs.Doubles.{goes_on, goes_end, stop_there, stop_first, declares_none, declared_as, stopped_as, given_as, given_later}
use Rattle.drawing_reader.proofs.Labels.{next_statement, no_labels, if_labels, for_labels, then_labels, both_labels, label_of, no_label}
use Rattle.drawing_reader.proofs.double_names.Declarations.+labels.Goals as goal

pub statements-returns-in_err-statement : goal.statements-returns-in_err-statement
statements-returns-in_err-statement t c =
    let p = err_from_is_err_and c.from_residual.result c.from_residual.ensures.1 in
    let i = c.statements.statement-index in
    let ss = c.args.statements.now in
    rw (p.1, p.2) (stop_there c.args.self.now c.statements.self (labels c.args.scope (statements_of ss)) (labels c.args.scope (statements_of (drop i ss)))
    (statement_labels c.args.scope (statement_of c.statement-item.result)) (labels c.args.scope (statements_of (drop (i + 1) ss))) c.in_err-statement.field-0.0
    c.statements.invariant (next_statement c.args.scope ss i c.statement-item.result c.statements-test.true c.statement-item.is) c.in_err-statement.ensures)

pub statements-statements-preserved : goal.statements-statements-preserved
statements-statements-preserved t c =
    let i = c.statements.statement-index in
    let ss = c.args.statements.now in
    goes_on c.args.self.now c.statements.self c.statement.new.self (labels c.args.scope (statements_of ss)) (labels c.args.scope (statements_of (drop i ss)))
    (statement_labels c.args.scope (statement_of c.statement-item.result)) (labels c.args.scope (statements_of (drop (i + 1) ss)))
    c.statements.invariant (next_statement c.args.scope ss i c.statement-item.result c.statements-test.true c.statement-item.is) c.in_ok-statement.ensures

pub statements-returns : goal.statements-returns
statements-returns t c =
    let i = c.statements.statement-index in
    let ss = c.args.statements.now in
    goes_end c.args.self.now c.statements.self (labels c.args.scope (statements_of ss))
    (labels c.args.scope (statements_of (drop i ss))) c.statements.invariant (no_labels c.args.scope ss i c.statements-test.false)

pub choice-returns-in_err-statements : goal.choice-returns-in_err-statements
choice-returns-in_err-statements t c =
    let p = err_from_is_err_and c.from_residual.result c.from_residual.ensures.1 in
    let ds = labels c.args.scope (statements_of c.as_slice.result.now) in
    let es = else_labels c.args.scope (else_of c.args.choice.now.no) in
    rw (p.1, p.2) (stopped_as c.args.self.now (ds ++ es) (statement_labels c.args.scope (if_of c.args.choice.now)) c.in_err-statements.field-0.0
    (if_labels c.args.scope c.args.choice.now ∙ ap (λ xs. labels c.args.scope (statements_of xs) ++ es) (sym c.as_slice.ensures.value))
    (stop_first c.args.self.now ds es c.in_err-statements.field-0.0 c.in_err-statements.ensures))

pub choice-returns-in-None : goal.choice-returns-in-None
choice-returns-in-None t c =
    declared_as c.args.self.now c.statements.new.self (labels c.args.scope (statements_of c.as_slice.result.now)) (statement_labels c.args.scope (if_of c.args.choice.now))
    (then_labels c.args.scope c.args.choice.now c.as_slice.result.now c.in-None.is c.as_slice.ensures.value) c.in_ok-statements.ensures

pub choice-returns-in-Some : goal.choice-returns-in-Some
choice-returns-in-Some t c =
    let ds = labels c.args.scope (statements_of c.as_slice.result.now) in
    let es = labels c.args.scope (statements_of c.as_slice-in-Some.result.now) in
    given_as c.statements-in-Some.result c.args.self.now c.statements-in-Some.new.self (ds ++ es) (statement_labels c.args.scope (if_of c.args.choice.now))
    (both_labels c.args.scope c.args.choice.now c.in-Some.otherwise c.as_slice.result.now c.as_slice-in-Some.result.now c.in-Some.is c.as_slice.ensures.value c.as_slice-in-Some.ensures.value)
    (given_later c.statements-in-Some.result c.args.self.now c.statements.new.self c.statements-in-Some.new.self ds es c.in_ok-statements.ensures c.statements-in-Some.ensures)

pub statement-returns-in-Use : goal.statement-returns-in-Use
statement-returns-in-Use t c =
    given_as c.declare.result c.args.self.now c.declare.new.self (declaration c.args.scope Label c.as_slice.result.now c.in-Use.u.place ∷ [])
    (statement_labels c.args.scope (statement_of c.args.statement.now))
    (label_of c.args.scope c.in-Use.u c.args.statement.now c.as_slice.result.now c.in-Use.is c.as_slice.ensures) c.declare.ensures

pub statement-returns-in-Wire : goal.statement-returns-in-Wire
statement-returns-in-Wire t c =
    declared_as c.args.self.now c.args.self.now [] (statement_labels c.args.scope (statement_of c.args.statement.now))
    (no_label c.args.scope c.in-Wire.field-0 c.args.statement.now c.in-Wire.is) (declares_none c.args.self.now)

pub repeated-returns : goal.repeated-returns
repeated-returns t c =
    let ds = labels c.args.scope (statements_of c.as_slice.result.now) in
    given_as c.statements.result c.args.self.now c.statements.new.self ds (statement_labels c.args.scope (for_of c.args.repeated.now))
    (for_labels c.args.scope c.args.repeated.now ∙ ap (λ xs. labels c.args.scope (statements_of xs)) (sym c.as_slice.ensures.value))
    c.statements.ensures
