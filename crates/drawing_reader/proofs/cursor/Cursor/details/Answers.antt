use Rattle.std.proofs.lemmas.Result.{err_from_is_err_and}
use Rattle.drawing_grammar.proofs.Moves.{moves, stops}
use Rattle.drawing_reader.proofs.cursor.Cursor.details.Goals as goal

pub returns-in_err-delays-clause-reads : goal.returns-in_err-delays-clause-reads
returns-in_err-delays-clause-reads c = let p = err_from_is_err_and c.from_residual.result c.from_residual.ensures.1 in rw (p.1, p.2) (λ rest. c.in_err-delays.ensures.reads _)

pub returns-in_err-params-clause-reads : goal.returns-in_err-params-clause-reads
returns-in_err-params-clause-reads c = let p = err_from_is_err_and c.from_residual-in_err-params.result c.from_residual-in_err-params.ensures.1 in
    rw (p.1, p.2) (λ rest. stops (c.in_ok-delays.ensures.reads _) (c.in_err-params.ensures.reads _))

pub returns-in_err-ins-clause-reads : goal.returns-in_err-ins-clause-reads
returns-in_err-ins-clause-reads c = let p = err_from_is_err_and c.from_residual-in_err-ins.result c.from_residual-in_err-ins.ensures.1 in
    rw (p.1, p.2) (λ rest. stops (moves (c.in_ok-delays.ensures.reads _) (c.in_ok-params.ensures.reads _)) (c.in_err-ins.ensures.reads _))

pub returns-clause-reads : goal.returns-clause-reads
returns-clause-reads c = record {
  places = _;
  leads = λ rest.
      moves (moves (c.in_ok-delays.ensures.reads _) (c.in_ok-params.ensures.reads _)) (c.in_ok-ins.ensures.reads _);
}
