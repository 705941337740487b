use Rattle.std.proofs.Common.{None, refl}
use Rattle.std.proofs.lemmas.Result.{err_from_is_err_and}
use Rattle.drawing_grammar.specs.Grammar as g
use Rattle.drawing_reader.specs.Reader.{tokens_at}
use Rattle.drawing_grammar.specs.Front.{first_terminal}
use Rattle.drawing_grammar.proofs.Moves.{moves, stops}
use Rattle.drawing_reader.proofs.Cursors.{plainly, left_out}
use Rattle.drawing_grammar.proofs.None as none
use Rattle.drawing_reader.proofs.cursor.Cursor.fall.Goals as goal

pub returns-then-not-starts-clause-reads : goal.returns-then-not-starts-clause-reads
returns-then-not-starts-clause-reads c = λ rest. left_out g.Fall 0 c.args.self.now None (none.no_fall (first_terminal (tokens_at c.args.self.now)) (c.starts.ensures.no (cc))) refl rest

pub returns-in_err-bounds-clause-reads : goal.returns-in_err-bounds-clause-reads
returns-in_err-bounds-clause-reads c = let p =
    err_from_is_err_and c.from_residual.result c.from_residual.ensures.1 in
    rw (p.1, p.2) (λ rest. stops (plainly g.fall 0 c.args.self.now c.bump.new.self c.bump.result
    refl (c.starts.ensures.yes (cc)) c.bump.ensures.taken c.bump.ensures.operators rest) (c.in_err-bounds.ensures.reads _))

pub returns-clause-reads : goal.returns-clause-reads
returns-clause-reads c = λ rest. rw c.in_ok-bounds-2.ensures (moves (plainly g.fall 0 c.args.self.now c.bump.new.self c.bump.result
    refl (c.starts.ensures.yes (cc)) c.bump.ensures.taken c.bump.ensures.operators rest) (c.in_ok-bounds.ensures.reads _))
