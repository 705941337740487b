use Rattle.std.proofs.lemmas.Result.{err_from_is_err_and}
use Rattle.drawing_reader.specs.Reader.{at}
use Rattle.drawing_grammar.proofs.Moves.{moves, stops}
use Rattle.drawing_reader.proofs.cursor.Cursor.clock.Goals as goal

pub returns-in_err-clock : goal.returns-in_err-clock
returns-in_err-clock c = record { reads = let p = err_from_is_err_and c.from_residual.result c.from_residual.ensures.1 in rw (p.1, p.2) (λ rest. c.in_err-clock.ensures.reads _) }

pub returns-in_err-units : goal.returns-in_err-units
returns-in_err-units c = record {
  reads = let p = err_from_is_err_and c.from_residual-in_err-units.result c.from_residual-in_err-units.ensures.1 in
      rw (p.1, p.2) (λ rest. stops (c.in_ok-clock.ensures.reads _) (c.in_err-units.ensures.reads _));
}

pub returns-in_err-keyword : goal.returns-in_err-keyword
returns-in_err-keyword c = record {
  reads = let p = err_from_is_err_and c.from_residual-in_err-keyword.result c.from_residual-in_err-keyword.ensures.1 in
      rw (p.1, p.2) (λ rest. stops (moves (c.in_ok-clock.ensures.reads _) (c.in_ok-units.ensures.reads _)) (c.in_err-keyword.ensures.reads _));
}

pub returns-in_err-ticks : goal.returns-in_err-ticks
returns-in_err-ticks c = record {
  reads = let p = err_from_is_err_and c.from_residual-in_err-ticks.result c.from_residual-in_err-ticks.ensures.1 in
      rw (p.1, p.2) (λ rest. stops (moves (moves (c.in_ok-clock.ensures.reads _) (c.in_ok-units.ensures.reads _)) (c.in_ok-keyword.ensures.reads _))
      (c.in_err-ticks.ensures.reads _));
}

pub returns-in_err-mark : goal.returns-in_err-mark
returns-in_err-mark c = record {
  reads = let p = err_from_is_err_and c.from_residual-in_err-mark.result c.from_residual-in_err-mark.ensures.1 in
      rw (p.1, p.2) (λ rest. stops (moves (moves (moves (c.in_ok-clock.ensures.reads _) (c.in_ok-units.ensures.reads _))
      (c.in_ok-keyword.ensures.reads _)) (c.in_ok-ticks.ensures.reads _)) (c.in_err-mark.ensures.reads _));
}

pub returns : goal.returns
returns c = record {
  reads = record {
    begin = at c.args.self.now c.in_ok-clock.clock;
    units = at c.item.new.self c.in_ok-units.units;
    ticks = at c.keyword.new.self c.in_ok-ticks.ticks;
    is = c.pair_of.ensures;
    leads = λ rest. moves (moves (moves (moves (c.in_ok-clock.ensures.reads _) (c.in_ok-units.ensures.reads _)) (c.in_ok-keyword.ensures.reads _))
        (c.in_ok-ticks.ensures.reads _)) (c.in_ok-mark.ensures.reads _);
  };
}
