use Rattle.std.proofs.Common.{[]}
use Rattle.std.proofs.lemmas.Result.{err_from_is_err_and}
use Rattle.drawing_grammar.proofs.Moves.{stops}
use Rattle.drawing_grammar.specs.Edition.{edition_of}
use Rattle.drawing_reader.specs.Reader.{tokens_at}
use Rattle.drawing_reader.proofs.Answered.{answers_stop, answers_end}
use Rattle.drawing_reader.proofs.cursor.Cursor.text.Goals as goal

pub returns-in_err-sketch : goal.returns-in_err-sketch
returns-in_err-sketch c = record {
  reads = let p = err_from_is_err_and c.from_residual.result c.from_residual.ensures.1 in
      rw (p.1, p.2) (answers_stop (edition_of (tokens_at c.args.self.now)) c.args.self.now _ c.requires (c.in_err-sketch.ensures.reads []));
}

pub returns-in_err-finish : goal.returns-in_err-finish
returns-in_err-finish c = record {
  reads = let p = err_from_is_err_and c.from_residual-in_err-finish.result c.from_residual-in_err-finish.ensures.1 in
      rw (p.1, p.2) (answers_stop (edition_of (tokens_at c.args.self.now)) c.args.self.now _ c.requires (stops (c.in_ok-sketch.ensures.reads []) c.in_err-finish.ensures.reads));
}

pub returns : goal.returns
returns c = record { reads = answers_end (edition_of (tokens_at c.args.self.now)) c.args.self.now c.sketch.new.self c.requires (c.in_ok-sketch.ensures.reads []) c.in_ok-finish.ensures.reads }
