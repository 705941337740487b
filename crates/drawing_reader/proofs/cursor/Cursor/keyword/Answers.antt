use Rattle.drawing_reader.specs.Reader.{tokens_at}
use Rattle.drawing_grammar.proofs.Moves.{refuses}
use Rattle.drawing_grammar.proofs.Moves.{keyword_stops}
use Rattle.drawing_reader.proofs.Cursors.{letters}
use Rattle.drawing_reader.proofs.cursor.Cursor.keyword.Goals as goal

pub returns-then-not-at_keyword-clause-reads : goal.returns-then-not-at_keyword-clause-reads
returns-then-not-at_keyword-clause-reads c = λ rest. rw c.refused.ensures (refuses (keyword_stops c.args.keyword c.args.self.now.operators (tokens_at c.args.self.now)
    (c.at_keyword.ensures.no (cc)) rest))

pub returns-clause-reads : goal.returns-clause-reads
returns-clause-reads c = λ rest. letters c.args.keyword c.args.self.now c.bump.new.self c.bump.result (c.at_keyword.ensures.yes (cc)) c.bump.ensures.taken c.bump.ensures.operators rest
