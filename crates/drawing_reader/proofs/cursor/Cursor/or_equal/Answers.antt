use Rattle.std.proofs.Common.{false, refl}
use Rattle.drawing_grammar.specs.Grammar.{Need, part, group, fresh, mark, item, keyword}
use Rattle.drawing_grammar.specs.Grammar as g
use Rattle.drawing_reader.specs.Reader.{tokens_at}
use Rattle.drawing_grammar.specs.Front.{first_terminal}
use Rattle.drawing_reader.proofs.Cursors.{plainly, left_out}
use Rattle.drawing_grammar.proofs.None as none
use Rattle.drawing_reader.proofs.cursor.Cursor.or_equal.Goals as goal

pub returns-then-not-starts-clause-reads : goal.returns-then-not-starts-clause-reads
returns-then-not-starts-clause-reads c = λ n rest. left_out g.OrEqual n c.args.self.now false (none.no_or_equal (first_terminal (tokens_at c.args.self.now)) (c.starts.ensures.no (cc))) refl rest

pub returns-clause-reads : goal.returns-clause-reads
returns-clause-reads c = λ n rest. plainly g.or_equal n c.args.self.now c.bump.new.self c.bump.result refl (c.starts.ensures.yes (cc)) c.bump.ensures.taken c.bump.ensures.operators rest
