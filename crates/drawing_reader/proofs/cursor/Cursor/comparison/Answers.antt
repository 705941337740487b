use Rattle.std.proofs.Common.{◌≡◌, ◌∷◌, refl, sym, ap, ◌∙◌, arith}
use Rattle.std.proofs.lemmas.Result.{err_from_is_err_and}
use Rattle.drawing_grammar.specs.declared.terminal.Terminal.TheVariants as is
use Rattle.drawing_grammar.specs.Grammar.{Need, part, group, fresh, mark, item, keyword}
use Rattle.drawing_grammar.specs.Grammar as g
use Rattle.drawing_grammar.specs.Machine.{choice}
use Rattle.drawing_reader.specs.Reader.{tokens_at}
use Rattle.drawing_grammar.specs.Front.{first_terminal}
use Rattle.drawing_grammar.proofs.Moves.{moves, stops}
use Rattle.drawing_reader.proofs.Cursors.{operates, is_token, too_many, left_out}
use Rattle.drawing_grammar.proofs.None as none
use Rattle.drawing_reader.proofs.cursor.Cursor.comparison.Goals as goal

pub returns-in_err-operator-in-Equals-clause-reads : goal.returns-in_err-operator-in-Equals-clause-reads
returns-in_err-operator-in-Equals-clause-reads c = let e : first_terminal (tokens_at c.args.self.now) ≡ is.Equals = cc in let p =
    err_from_is_err_and c.from_residual.result c.from_residual.ensures.1 in rw (p.1, p.2, c.in_err-operator-in-Equals.ensures.err.0)
    (λ n rest. too_many g.equal n c.args.self.now refl c.in_err-operator-in-Equals.ensures.err.1 e rest)

pub returns-in_err-operator-in-Exclamation-clause-reads : goal.returns-in_err-operator-in-Exclamation-clause-reads
returns-in_err-operator-in-Exclamation-clause-reads c = let e : first_terminal (tokens_at c.args.self.now) ≡ is.Exclamation =
    cc in let p = err_from_is_err_and c.from_residual-in_err-operator-in-Exclamation.result
    c.from_residual-in_err-operator-in-Exclamation.ensures.1 in rw (p.1, p.2, c.in_err-operator-in-Exclamation.ensures.err.0)
    (λ n rest. too_many g.unequal n c.args.self.now refl c.in_err-operator-in-Exclamation.ensures.err.1 e rest)

pub returns-in_err-operator-in-Less-clause-reads : goal.returns-in_err-operator-in-Less-clause-reads
returns-in_err-operator-in-Less-clause-reads c = let e : first_terminal (tokens_at c.args.self.now) ≡ is.Less = cc in let p =
    err_from_is_err_and c.from_residual-in_err-operator-in-Less.result c.from_residual-in_err-operator-in-Less.ensures.1 in
    rw (p.1, p.2, c.in_err-operator-in-Less.ensures.err.0)
    (λ n rest. too_many g.below n c.args.self.now refl c.in_err-operator-in-Less.ensures.err.1 e rest)

pub returns-in_err-operator-in-Greater-clause-reads : goal.returns-in_err-operator-in-Greater-clause-reads
returns-in_err-operator-in-Greater-clause-reads c = let e : first_terminal (tokens_at c.args.self.now) ≡ is.Greater = cc in let p =
    err_from_is_err_and c.from_residual-in_err-operator-in-Greater.result c.from_residual-in_err-operator-in-Greater.ensures.1 in
    rw (p.1, p.2, c.in_err-operator-in-Greater.ensures.err.0)
    (λ n rest. too_many g.above n c.args.self.now refl c.in_err-operator-in-Greater.ensures.err.1 e rest)

pub returns-in_ok-operator-in-Equals-clause-reads : goal.returns-in_ok-operator-in-Equals-clause-reads
returns-in_ok-operator-in-Equals-clause-reads c = let e : first_terminal (tokens_at c.args.self.now) ≡ is.Equals =
    cc in let k = c.in_ok-operator-in-Equals.ensures.taken (is_token g.equal c.args.self.now e) in λ n rest. operates g.equal n c.args.self.now
    c.operator.new.self k.token refl c.in_ok-operator-in-Equals.ensures.room e k.tokens c.in_ok-operator-in-Equals.ensures.counted rest

pub returns-in_err-mark-in-Exclamation-clause-reads : goal.returns-in_err-mark-in-Exclamation-clause-reads
returns-in_err-mark-in-Exclamation-clause-reads c = let e : first_terminal (tokens_at c.args.self.now) ≡ is.Exclamation = cc in let k =
    c.in_ok-operator-in-Exclamation.ensures.taken (is_token g.unequal c.args.self.now e) in let p =
    err_from_is_err_and c.from_residual-in_err-mark-in-Exclamation.result c.from_residual-in_err-mark-in-Exclamation.ensures.1 in
    rw (p.1, p.2) (λ n rest. stops (operates g.unequal n c.args.self.now c.operator-in-Exclamation.new.self k.token
    refl c.in_ok-operator-in-Exclamation.ensures.room e k.tokens c.in_ok-operator-in-Exclamation.ensures.counted
    rest) (c.in_err-mark-in-Exclamation.ensures.reads (group g.Sum n ∷ rest)))

pub returns-in_ok-mark-in-Exclamation-clause-reads : goal.returns-in_ok-mark-in-Exclamation-clause-reads
returns-in_ok-mark-in-Exclamation-clause-reads c = let e : first_terminal (tokens_at c.args.self.now) ≡ is.Exclamation = cc in let k =
    c.in_ok-operator-in-Exclamation.ensures.taken (is_token g.unequal c.args.self.now e) in
    λ n rest. moves (operates g.unequal n c.args.self.now c.operator-in-Exclamation.new.self k.token refl c.in_ok-operator-in-Exclamation.ensures.room
    e k.tokens c.in_ok-operator-in-Exclamation.ensures.counted rest) (c.in_ok-mark-in-Exclamation.ensures.reads (group g.Sum n ∷ rest))

pub returns-in_ok-operator-in-Less-clause-reads : goal.returns-in_ok-operator-in-Less-clause-reads
returns-in_ok-operator-in-Less-clause-reads c = let e : first_terminal (tokens_at c.args.self.now) ≡ is.Less = cc in let k =
    c.in_ok-operator-in-Less.ensures.taken (is_token g.below c.args.self.now e) in
    rw c.below.ensures (λ n rest. moves (operates g.below n c.args.self.now c.operator-in-Less.new.self
    k.token refl c.in_ok-operator-in-Less.ensures.room e k.tokens c.in_ok-operator-in-Less.ensures.counted
    rest) (c.or_equal-equal.ensures.reads n (group g.Sum n ∷ rest)))

pub returns-in_ok-operator-in-Greater-clause-reads : goal.returns-in_ok-operator-in-Greater-clause-reads
returns-in_ok-operator-in-Greater-clause-reads c = let e : first_terminal (tokens_at c.args.self.now) ≡ is.Greater =
    cc in let k = c.in_ok-operator-in-Greater.ensures.taken (is_token g.above c.args.self.now e) in
    rw c.above.ensures (λ n rest. moves (operates g.above n c.args.self.now c.operator-in-Greater.new.self k.token
    refl c.in_ok-operator-in-Greater.ensures.room e k.tokens c.in_ok-operator-in-Greater.ensures.counted
    rest) (c.or_equal-equal-in-Greater.ensures.reads n (group g.Sum n ∷ rest)))

pub returns-in_default : goal.returns-in_default
returns-in_default c = record {
  reads =
      λ n rest. left_out g.Comparison n c.args.self.now (λ left. left) (ap (choice g.Comparison) (sym c.look.ensures) ∙ none.no_comparison c.look.result
      c.in_default.not-Equals c.in_default.not-Exclamation c.in_default.not-Less c.in_default.not-Greater) refl rest;
  no_longer = omega arith;
}
