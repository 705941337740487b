use Rattle.std.proofs.Common.{sym, ◌∙◌}
use Rattle.drawing_grammar.proofs.Choices.{at_for, no_for}
use Rattle.drawing_reader.specs.Reader.{tokens_at}
use Rattle.drawing_reader.proofs.cursor.Cursor.at_for.Goals as goal

pub returns-then-not-at_keyword : goal.returns-then-not-at_keyword
returns-then-not-at_keyword c = sym (no_for (tokens_at c.args.self.now) (c.at_keyword.ensures.no (cc)))

pub returns : goal.returns
returns c = c.no_colon_follows.ensures ∙ sym (at_for (tokens_at c.args.self.now) (c.at_keyword.ensures.yes (cc)))
