use Rattle.std.proofs.Common.{refl}
use Rattle.std.proofs.lemmas.Result.{err_from_is_err_and}
use Rattle.drawing_grammar.specs.Grammar.{Need, part, group, fresh, mark, item, keyword}
use Rattle.drawing_grammar.specs.Grammar as g
use Rattle.drawing_reader.specs.Reader.{tokens_at}
use Rattle.drawing_grammar.specs.Front.{first_terminal}
use Rattle.drawing_grammar.proofs.Moves.{moves, stops}
use Rattle.drawing_reader.proofs.Cursors.{plainly, stuck}
use Rattle.drawing_grammar.proofs.None as none
use Rattle.drawing_reader.proofs.cursor.Cursor.case_statement.Goals as goal

pub returns-then-not-starts-clause-reads : goal.returns-then-not-starts-clause-reads
returns-then-not-starts-clause-reads c =
    rw c.refused.ensures (λ rest. stuck g.CaseStatement 0 c.args.self.now
    (none.no_case_statement (first_terminal (tokens_at c.args.self.now)) (c.starts.ensures.no (cc))) refl rest)

pub returns-in_err-entries-clause-reads : goal.returns-in_err-entries-clause-reads
returns-in_err-entries-clause-reads c = let p =
    err_from_is_err_and c.from_residual.result c.from_residual.ensures.1 in
    rw (p.1, p.2) (λ rest. stops (plainly g.case_ 0 c.args.self.now c.bump-token.new.self c.bump-token.result
    refl (c.starts.ensures.yes (cc)) c.bump-token.ensures.taken c.bump-token.ensures.operators rest) (c.in_err-entries.ensures.reads _))

pub returns-in_err-mark-clause-reads : goal.returns-in_err-mark-clause-reads
returns-in_err-mark-clause-reads c = let p = err_from_is_err_and c.from_residual-in_err-mark.result c.from_residual-in_err-mark.ensures.1 in
    rw (p.1, p.2) (λ rest. stops
    (moves (plainly g.case_ 0 c.args.self.now c.bump-token.new.self c.bump-token.result refl (c.starts.ensures.yes (cc)) c.bump-token.ensures.taken
    c.bump-token.ensures.operators rest) (c.in_ok-entries.ensures.reads _)) (c.in_err-mark.ensures.reads _))

pub returns-clause-reads : goal.returns-clause-reads
returns-clause-reads c = λ rest.
    moves (moves (plainly g.case_ 0 c.args.self.now c.bump-token.new.self c.bump-token.result refl (c.starts.ensures.yes (cc))
    c.bump-token.ensures.taken c.bump-token.ensures.operators rest) (c.in_ok-entries.ensures.reads _)) (c.in_ok-mark.ensures.reads _)
