use Rattle.std.proofs.lemmas.Result.{err_from_is_err_and}
use Rattle.drawing_grammar.proofs.Moves.{moves, stops}
use Rattle.drawing_reader.proofs.cursor.Cursor.ends.Goals as goal

pub returns-in_err-first-clause-reads : goal.returns-in_err-first-clause-reads
returns-in_err-first-clause-reads c =
    let p = err_from_is_err_and c.from_residual.result c.from_residual.ensures.1 in
    rw (p.1, p.2) (λ rest. c.in_err-first.ensures.reads _)

pub returns-in_err-keyword-clause-reads : goal.returns-in_err-keyword-clause-reads
returns-in_err-keyword-clause-reads c =
    let p = err_from_is_err_and c.from_residual-in_err-keyword.result c.from_residual-in_err-keyword.ensures.1 in
    rw (p.1, p.2) (λ rest. stops (c.in_ok-first.ensures.reads _) (c.in_err-keyword.ensures.reads _))

pub returns-in_err-last-clause-reads : goal.returns-in_err-last-clause-reads
returns-in_err-last-clause-reads c =
    let p = err_from_is_err_and c.from_residual-in_err-last.result c.from_residual-in_err-last.ensures.1 in
    rw (p.1, p.2) (λ rest. stops (moves (c.in_ok-first.ensures.reads _) (c.in_ok-keyword.ensures.reads _)) (c.in_err-last.ensures.reads _))

pub returns-in_err-keyword-2-clause-reads : goal.returns-in_err-keyword-2-clause-reads
returns-in_err-keyword-2-clause-reads c =
    let p = err_from_is_err_and c.from_residual-in_err-keyword-2.result c.from_residual-in_err-keyword-2.ensures.1 in
    rw (p.1, p.2) (λ rest. stops (moves (moves (c.in_ok-first.ensures.reads _) (c.in_ok-keyword.ensures.reads _))
    (c.in_ok-last.ensures.reads _)) (c.in_err-keyword-2.ensures.reads _))

pub returns-clause-reads : goal.returns-clause-reads
returns-clause-reads c = λ rest. moves (moves (moves (c.in_ok-first.ensures.reads _) (c.in_ok-keyword.ensures.reads _))
    (c.in_ok-last.ensures.reads _)) (c.in_ok-keyword-2.ensures.reads _)
