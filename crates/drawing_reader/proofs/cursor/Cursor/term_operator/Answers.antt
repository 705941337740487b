use Rattle.std.proofs.Common.{◌≡◌, refl, sym, ap, ◌∙◌, arith}
use Rattle.std.proofs.lemmas.Result.{err_from_is_err_and}
use Rattle.drawing_grammar.specs.declared.terminal.Terminal.TheVariants as is
use Rattle.drawing_grammar.specs.Grammar.{Need, part, group, fresh, mark, item, keyword}
use Rattle.drawing_grammar.specs.Grammar as g
use Rattle.drawing_grammar.specs.Machine.{choice}
use Rattle.drawing_reader.specs.Reader.{tokens_at}
use Rattle.drawing_grammar.specs.Front.{first_terminal}
use Rattle.drawing_reader.proofs.Cursors.{operates, is_token, too_many, left_out}
use Rattle.drawing_grammar.proofs.None as none
use Rattle.drawing_reader.proofs.cursor.Cursor.term_operator.Goals as goal

pub returns-in_err-operator-in-Plus-clause-reads : goal.returns-in_err-operator-in-Plus-clause-reads
returns-in_err-operator-in-Plus-clause-reads c = let e : first_terminal (tokens_at c.args.self.now) ≡ is.Plus = cc in let p =
    err_from_is_err_and c.from_residual.result c.from_residual.ensures.1 in rw (p.1, p.2, c.in_err-operator-in-Plus.ensures.err.0)
    (λ n rest. too_many g.plus n c.args.self.now refl c.in_err-operator-in-Plus.ensures.err.1 e rest)

pub returns-in_ok-operator-in-Plus-clause-reads : goal.returns-in_ok-operator-in-Plus-clause-reads
returns-in_ok-operator-in-Plus-clause-reads c = let e : first_terminal (tokens_at c.args.self.now) ≡ is.Plus =
    cc in let k = c.in_ok-operator-in-Plus.ensures.taken (is_token g.plus c.args.self.now e) in λ n rest. operates g.plus
    n c.args.self.now c.operator.new.self k.token refl c.in_ok-operator-in-Plus.ensures.room e k.tokens c.in_ok-operator-in-Plus.ensures.counted rest

pub returns-in_err-operator-in-Minus-clause-reads : goal.returns-in_err-operator-in-Minus-clause-reads
returns-in_err-operator-in-Minus-clause-reads c = let e : first_terminal (tokens_at c.args.self.now) ≡ is.Minus = cc in let p =
    err_from_is_err_and c.from_residual-in_err-operator-in-Minus.result c.from_residual-in_err-operator-in-Minus.ensures.1 in
    rw (p.1, p.2, c.in_err-operator-in-Minus.ensures.err.0)
    (λ n rest. too_many g.less n c.args.self.now refl c.in_err-operator-in-Minus.ensures.err.1 e rest)

pub returns-in_ok-operator-in-Minus-clause-reads : goal.returns-in_ok-operator-in-Minus-clause-reads
returns-in_ok-operator-in-Minus-clause-reads c = let e : first_terminal (tokens_at c.args.self.now) ≡ is.Minus = cc in let k =
    c.in_ok-operator-in-Minus.ensures.taken (is_token g.less c.args.self.now e) in λ n rest. operates g.less n c.args.self.now
    c.operator-in-Minus.new.self k.token refl c.in_ok-operator-in-Minus.ensures.room e k.tokens c.in_ok-operator-in-Minus.ensures.counted rest

pub returns-in_default : goal.returns-in_default
returns-in_default c = record {
  reads = λ n rest. left_out g.Terms n c.args.self.now (λ left. left) (ap (choice g.Terms) (sym c.look.ensures)
      ∙ none.no_terms c.look.result c.in_default.not-Plus c.in_default.not-Minus) refl rest;
  shorter = tt;
  no_longer = omega arith;
}
