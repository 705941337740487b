use Rattle.std.proofs.Common.{ℕ, List, ap, ◌∙◌}
use Rattle.std.proofs.lemmas.Result.{err_from_is_err_and}
use Rattle.std.specs.Prelude.{slice_range}
use Rattle.drawing_reader.proofs.cursor.Cursor.next_word.Goals as goal

pub returns-in_err-token-clause-reads : goal.returns-in_err-token-clause-reads
returns-in_err-token-clause-reads c = let p = err_from_is_err_and c.from_residual.result c.from_residual.ensures.1 in rw (p.1, p.2) (λ rest. c.in_err-token.ensures.reads rest)

pub returns-clause-reads : goal.returns-clause-reads
returns-clause-reads c = λ rest. c.in_ok-token.ensures.reads rest

pub returns-clause-text : goal.returns-clause-text
returns-clause-text c = c.in_ok-bytes.ensures ∙ ap (λ (x : List ℕ). slice_range x c.in_ok-token.token.start c.in_ok-token.token.end) c.in_ok-token.ensures.text
