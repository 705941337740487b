use Rattle.std.proofs.Common.{[], refl, sym, ◌∙◌}
use Rattle.std.proofs.lemmas.Result.{err_from_is_err_and}
use Rattle.drawing_grammar.specs.Grammar.{Need, part, group, fresh, mark, item, keyword}
use Rattle.drawing_grammar.specs.Grammar as g
use Rattle.drawing_grammar.specs.Machine.{choice}
use Rattle.drawing_reader.specs.Reader.{tokens_at}
use Rattle.drawing_grammar.specs.Front.{first_terminal}
use Rattle.drawing_grammar.proofs.Moves.{moves, stops}
use Rattle.drawing_reader.proofs.Cursors.{lacking}
use Rattle.drawing_reader.proofs.Cursors.{conns_some, none_some}
use Rattle.drawing_reader.proofs.cursor.Cursor.connections.Goals as goal

pub returns-then-not-at_term-clause-reads : goal.returns-then-not-at_term-clause-reads
returns-then-not-at_term-clause-reads c =
    rw c.new.ensures (λ rest. lacking g.Conns 0 c.args.self.now
    [] (none_some (choice g.Term (first_terminal (tokens_at c.args.self.now))) (sym c.at_term.ensures ∙ (cc))) refl rest)

pub returns-in_err-all-clause-reads : goal.returns-in_err-all-clause-reads
returns-in_err-all-clause-reads c = let p = err_from_is_err_and c.from_residual.result c.from_residual.ensures.1 in
    rw (p.1, p.2) (λ rest. stops (conns_some c.args.self.now (sym c.at_term.ensures ∙ (cc)) rest) (c.in_err-all.ensures.reads rest))

pub returns-clause-reads : goal.returns-clause-reads
returns-clause-reads c = λ rest. moves (conns_some c.args.self.now (sym c.at_term.ensures ∙ (cc)) rest) (c.in_ok-all.ensures.reads rest)
