use Rattle.std.proofs.Common.{[], ◌++◌, ◌+◌, drop}
use Rattle.drawing_tree.specs.Tree.{statements_of, statement_of}
use Rattle.drawing_grammar.specs.DoubleNames.{labels, statement_labels}
use Rattle.drawing_reader.proofs.Labels.{next_statement, no_labels}
use Rattle.drawing_reader.proofs.Climbing.{climbs_none, climbs_both, climbs_as, fresh}
use Rattle.drawing_reader.proofs.ascending.are_ascending.Goals as goal

pub statements-init : goal.statements-init
statements-init c = λ scope end climbs. climbs

pub statements-preserved : goal.statements-preserved
statements-preserved c = λ scope end climbs.
    let i = c.statements.statement-index in
    let ss = c.args.statements.now in
    let step = statement_labels scope (statement_of c.statement-item.result) in
    let more = labels scope (statements_of (drop (i + 1) ss)) in
    c.statements.invariant scope end (climbs_as scope c.statements.last.now end (step ++ more) (labels scope (statements_of (drop i ss)))
    (next_statement scope ss i c.statement-item.result c.statements-test.true c.statement-item.is)
    (climbs_both scope c.statements.last.now c.in-Some.next.now end step more (c.in-Some.ensures scope) climbs))

pub returns : goal.returns
returns c = λ is scope.
    let i = c.statements.statement-index in
    let ss = c.args.statements.now in
    fresh scope c.statements.last.now (labels scope (statements_of ss))
    (c.statements.invariant scope c.statements.last.now (climbs_as scope c.statements.last.now c.statements.last.now
    [] (labels scope (statements_of (drop i ss))) (no_labels scope ss i c.statements-test.false) (climbs_none scope c.statements.last.now)))
