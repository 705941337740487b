use Rattle.std.proofs.Common.{refl, ap}
use Rattle.std.proofs.lemmas.Result.{err_from_is_err_and}
use Rattle.drawing_grammar.specs.Grammar.{Need, part, group, fresh, mark, item, keyword}
use Rattle.drawing_grammar.specs.Grammar as g
use Rattle.drawing_grammar.specs.Sketch as s
use Rattle.drawing_grammar.specs.Machine.{choice}
use Rattle.drawing_reader.specs.Reader.{tokens_at}
use Rattle.drawing_grammar.specs.Front.{first_terminal}
use Rattle.drawing_grammar.proofs.Moves.{moves, stops}
use Rattle.drawing_reader.proofs.Cursors.{lacking}
use Rattle.drawing_grammar.proofs.None as none
use Rattle.std.specs.Prelude.{is_some}
use Rattle.drawing_reader.proofs.Cursors.{formals_some}
use Rattle.drawing_reader.proofs.cursor.Cursor.formals.Goals as goal

pub returns-then-not-starts-clause-reads : goal.returns-then-not-starts-clause-reads
returns-then-not-starts-clause-reads c =
    rw (c.new.ensures, c.new-then-not-starts.ensures) (λ rest. lacking g.Formals 0 c.args.self.now
    s.no_items (none.no_formal (first_terminal (tokens_at c.args.self.now)) (c.starts.ensures.no (cc))) refl rest)

pub returns-in_err-all-clause-reads : goal.returns-in_err-all-clause-reads
returns-in_err-all-clause-reads c = let p =
    err_from_is_err_and c.from_residual.result c.from_residual.ensures.1 in
    rw (p.1, p.2) (λ rest. stops (formals_some c.args.self.now (ap (λ l. is_some (choice g.Formal l)) (c.starts.ensures.yes (cc))) rest)
    (c.in_err-all.ensures.reads _))

pub returns-clause-reads : goal.returns-clause-reads
returns-clause-reads c = λ rest. moves (formals_some c.args.self.now (ap (λ l. is_some (choice g.Formal l)) (c.starts.ensures.yes (cc))) rest) (c.in_ok-all.ensures.reads _)
