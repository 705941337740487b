use Rattle.std.proofs.Common.{sym, ◌∙◌, arith}
use Rattle.drawing_reader.specs.Reader.{tokens_at}
use Rattle.drawing_grammar.proofs.Moves.{item_stops, refuses}
use Rattle.drawing_reader.proofs.Cursors.{items}
use Rattle.drawing_reader.proofs.cursor.Cursor.item.Goals as goal

pub returns-then-not-starts-clause-reads : goal.returns-then-not-starts-clause-reads
returns-then-not-starts-clause-reads c = λ rest. rw c.refused.ensures (refuses (item_stops c.args.terminal c.args.self.now.operators (tokens_at c.args.self.now) (c.starts.ensures.no (cc)) rest))

pub returns-clause-reads : goal.returns-clause-reads
returns-clause-reads c = λ rest. items c.args.terminal c.args.self.now c.bump.new.self c.bump.result c.requires (c.starts.ensures.yes (cc)) c.bump.ensures.taken c.bump.ensures.operators rest

pub returns-clause-taken : goal.returns-clause-taken
returns-clause-taken c = c.bump.ensures.taken (λ z. c.requires (sym (c.starts.ensures.yes (cc)) ∙ z))

pub returns-clause-shorter : goal.returns-clause-shorter
returns-clause-shorter c = let h = c.bump.ensures.shorter (λ z. c.requires (sym (c.starts.ensures.yes (cc)) ∙ z)) in omega arith
