use Rattle.std.proofs.Common.{◌∷◌}
use Rattle.std.proofs.lemmas.Result.{err_from_is_err_and}
use Rattle.drawing_grammar.specs.declared.terminal.Terminal.TheVariants as is
use Rattle.drawing_grammar.specs.Grammar.{mark, item}
use Rattle.drawing_reader.specs.Reader.{ahead, at}
use Rattle.drawing_grammar.proofs.Moves.{moves, stops}
use Rattle.drawing_grammar.proofs.Moves.{stays}
use Rattle.drawing_reader.proofs.cursor.Cursor.pair.Goals as goal

pub returns-in_err-first : goal.returns-in_err-first
returns-in_err-first c = record {
  reads = let p =
      err_from_is_err_and c.from_residual.result c.from_residual.ensures.1 in
      rw (p.1, p.2) (λ rest. stops (stays (ahead c.args.self.now (item is.Number ∷ mark is.Colon ∷ item is.Number ∷ mark is.Semicolon ∷ rest)))
      (c.in_err-first.ensures.reads _));
}

pub returns-in_err-mark : goal.returns-in_err-mark
returns-in_err-mark c = record {
  reads = let p = err_from_is_err_and c.from_residual-in_err-mark.result c.from_residual-in_err-mark.ensures.1 in
      rw (p.1, p.2) (λ rest. stops (moves (stays (ahead c.args.self.now (item is.Number ∷ mark is.Colon ∷ item is.Number ∷ mark is.Semicolon ∷ rest)))
      (c.in_ok-first.ensures.reads _)) (c.in_err-mark.ensures.reads _));
}

pub returns-in_err-second : goal.returns-in_err-second
returns-in_err-second c =
    record {
      reads = let p = err_from_is_err_and c.from_residual-in_err-second.result c.from_residual-in_err-second.ensures.1 in
          rw (p.1, p.2) (λ rest. stops
          (moves (moves (stays (ahead c.args.self.now (item is.Number ∷ mark is.Colon ∷ item is.Number ∷ mark is.Semicolon ∷ rest)))
          (c.in_ok-first.ensures.reads _)) (c.in_ok-mark.ensures.reads _)) (c.in_err-second.ensures.reads _));
    }

pub returns-in_err-mark-2 : goal.returns-in_err-mark-2
returns-in_err-mark-2 c =
    record {
      reads = let p = err_from_is_err_and c.from_residual-in_err-mark-2.result c.from_residual-in_err-mark-2.ensures.1 in
          rw (p.1, p.2) (λ rest. stops
          (moves (moves (moves (stays (ahead c.args.self.now (item is.Number ∷ mark is.Colon ∷ item is.Number ∷ mark is.Semicolon ∷ rest)))
          (c.in_ok-first.ensures.reads _)) (c.in_ok-mark.ensures.reads _)) (c.in_ok-second.ensures.reads _)) (c.in_err-mark-2.ensures.reads _));
    }

pub returns : goal.returns
returns c = record {
  reads = record {
    first = at c.args.self.now c.in_ok-first.first;
    second = at c.mark.new.self c.in_ok-second.second;
    is = c.pair_of.ensures;
    leads = λ rest. moves (moves (moves (moves (stays (ahead c.args.self.now (item is.Number ∷ mark is.Colon ∷ item is.Number ∷ mark is.Semicolon ∷ rest)))
        (c.in_ok-first.ensures.reads _)) (c.in_ok-mark.ensures.reads _)) (c.in_ok-second.ensures.reads _)) (c.in_ok-mark-2.ensures.reads _);
  };
}
