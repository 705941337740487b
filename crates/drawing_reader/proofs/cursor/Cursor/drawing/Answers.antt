use Rattle.std.proofs.lemmas.Result.{err_from_is_err_and}
use Rattle.drawing_grammar.proofs.Moves.{moves, stops}
use Rattle.drawing_reader.proofs.cursor.Cursor.drawing.Goals as goal

pub returns-in_err-mark : goal.returns-in_err-mark
returns-in_err-mark c = record { reads = let p = err_from_is_err_and c.from_residual.result c.from_residual.ensures.1 in rw (p.1, p.2) (λ rest. c.in_err-mark.ensures.reads _) }

pub returns-in_err-name : goal.returns-in_err-name
returns-in_err-name c = record {
  reads = let p = err_from_is_err_and c.from_residual-in_err-name.result c.from_residual-in_err-name.ensures.1 in
      rw (p.1, p.2) (λ rest. stops (c.in_ok-mark.ensures.reads _) (c.in_err-name.ensures.reads _));
}

pub returns-in_err-body : goal.returns-in_err-body
returns-in_err-body c = record {
  reads = let p = err_from_is_err_and c.from_residual-in_err-body.result c.from_residual-in_err-body.ensures.1 in
      rw (p.1, p.2) (λ rest. stops (moves (c.in_ok-mark.ensures.reads _) (c.in_ok-name.ensures.reads _)) (c.in_err-body.ensures.reads _));
}

pub returns : goal.returns
returns c = record {
  reads = record {
    word = _;
    is = c.in_ok-name.ensures.text;
    leads = λ rest.
        moves (moves (c.in_ok-mark.ensures.reads _) (c.in_ok-name.ensures.reads _)) (c.in_ok-body.ensures.reads _);
  };
}
