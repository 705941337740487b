use Rattle.std.proofs.Common.{◌∷◌, refl}
use Rattle.std.proofs.lemmas.Result.{err_from_is_err_and}
use Rattle.drawing_grammar.specs.Grammar.{Need, part, group, fresh, mark, item, keyword}
use Rattle.drawing_grammar.specs.Grammar as g
use Rattle.drawing_grammar.proofs.Moves.{moves, stops}
use Rattle.drawing_reader.proofs.Cursors.{begins}
use Rattle.drawing_reader.proofs.cursor.Cursor.own_sum.Goals as goal

pub returns-in-Some-clause-reads : goal.returns-in-Some-clause-reads
returns-in-Some-clause-reads c = rw c.number.ensures (λ rest. moves (begins c.args.self.now (record c.args.self.now { operators = 0 }) refl refl (group g.Sum 0 ∷ rest)) (c.in-Some.ensures.found rest))

pub returns-in_err-sum-clause-reads : goal.returns-in_err-sum-clause-reads
returns-in_err-sum-clause-reads c =
    let p = err_from_is_err_and c.from_residual.result c.from_residual.ensures.1 in
    rw (p.1, p.2) (λ rest. stops (moves (begins c.args.self.now (record c.args.self.now { operators = 0 }) refl refl (group g.Sum 0 ∷ rest))
    ((rw c.in_default.is at c.lone_number.ensures.none) rest)) (c.in_err-sum.ensures.reads rest))

pub returns-clause-reads : goal.returns-clause-reads
returns-clause-reads c = λ rest. moves (moves (begins c.args.self.now (record c.args.self.now { operators = 0 }) refl refl (group g.Sum 0 ∷ rest))
    ((rw c.in_default.is at c.lone_number.ensures.none) rest)) (c.in_ok-sum.ensures.reads rest)
