use Rattle.std.proofs.Common.{sym}
use Rattle.drawing_grammar.proofs.Reserved.{not_reserved}
use Rattle.drawing_grammar.proofs.terminal.word_terminal.Goals as goal

pub returns-then-not-begins_reserved : goal.returns-then-not-begins_reserved
returns-then-not-begins_reserved c = sym (not_reserved c.args.word.now (let t = c.if-not-begins_reserved.true in let e = c.begins_reserved.ensures in cc))
