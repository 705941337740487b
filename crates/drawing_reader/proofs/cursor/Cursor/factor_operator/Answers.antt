use Rattle.std.proofs.Common.{◌≡◌, refl, sym, ap, ◌∙◌, arith}
use Rattle.std.proofs.lemmas.Result.{err_from_is_err_and}
use Rattle.drawing_grammar.specs.declared.terminal.Terminal.TheVariants as is
use Rattle.drawing_grammar.specs.Grammar.{Need, part, group, fresh, mark, item, keyword}
use Rattle.drawing_grammar.specs.Grammar as g
use Rattle.drawing_grammar.specs.Machine.{choice}
use Rattle.drawing_reader.specs.Reader.{tokens_at}
use Rattle.drawing_grammar.specs.Front.{first_terminal}
use Rattle.drawing_reader.proofs.Cursors.{operates, is_token, too_many, left_out}
use Rattle.drawing_grammar.proofs.None as none
use Rattle.drawing_reader.proofs.cursor.Cursor.factor_operator.Goals as goal

pub returns-in_err-operator-in-Star-clause-reads : goal.returns-in_err-operator-in-Star-clause-reads
returns-in_err-operator-in-Star-clause-reads c = let e : first_terminal (tokens_at c.args.self.now) ≡ is.Star = cc in let p =
    err_from_is_err_and c.from_residual.result c.from_residual.ensures.1 in rw (p.1, p.2, c.in_err-operator-in-Star.ensures.err.0)
    (λ n rest. too_many g.times n c.args.self.now refl c.in_err-operator-in-Star.ensures.err.1 e rest)

pub returns-in_ok-operator-in-Star-clause-reads : goal.returns-in_ok-operator-in-Star-clause-reads
returns-in_ok-operator-in-Star-clause-reads c = let e : first_terminal (tokens_at c.args.self.now) ≡ is.Star =
    cc in let k = c.in_ok-operator-in-Star.ensures.taken (is_token g.times c.args.self.now e) in λ n rest. operates g.times
    n c.args.self.now c.operator.new.self k.token refl c.in_ok-operator-in-Star.ensures.room e k.tokens c.in_ok-operator-in-Star.ensures.counted rest

pub returns-in_err-operator-in-Slash-clause-reads : goal.returns-in_err-operator-in-Slash-clause-reads
returns-in_err-operator-in-Slash-clause-reads c = let e : first_terminal (tokens_at c.args.self.now) ≡ is.Slash = cc in let p =
    err_from_is_err_and c.from_residual-in_err-operator-in-Slash.result c.from_residual-in_err-operator-in-Slash.ensures.1 in
    rw (p.1, p.2, c.in_err-operator-in-Slash.ensures.err.0)
    (λ n rest. too_many g.divided n c.args.self.now refl c.in_err-operator-in-Slash.ensures.err.1 e rest)

pub returns-in_ok-operator-in-Slash-clause-reads : goal.returns-in_ok-operator-in-Slash-clause-reads
returns-in_ok-operator-in-Slash-clause-reads c = let e : first_terminal (tokens_at c.args.self.now) ≡ is.Slash = cc in let k =
    c.in_ok-operator-in-Slash.ensures.taken (is_token g.divided c.args.self.now e) in λ n rest. operates g.divided n c.args.self.now
    c.operator-in-Slash.new.self k.token refl c.in_ok-operator-in-Slash.ensures.room e k.tokens c.in_ok-operator-in-Slash.ensures.counted rest

pub returns-in_default : goal.returns-in_default
returns-in_default c = record {
  reads = λ n rest. left_out g.Factors n c.args.self.now (λ left. left) (ap (choice g.Factors) (sym c.look.ensures)
      ∙ none.no_factors c.look.result c.in_default.not-Star c.in_default.not-Slash) refl rest;
  shorter = tt;
  no_longer = omega arith;
}
