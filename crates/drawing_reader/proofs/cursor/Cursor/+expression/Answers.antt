use Rattle.std.proofs.Common.{◌≡◌, ℕ, suc, List, refl, sym, ap, ◌∙◌, arith}
use Rattle.std.proofs.lemmas.Result.{err_from_is_err_and}
use Rattle.drawing_grammar.specs.declared.terminal.Terminal.TheVariants as is
use Rattle.drawing_grammar.specs.Grammar.{Need, part, group, fresh, mark, item, keyword}
use Rattle.drawing_grammar.specs.Grammar as g
use Rattle.drawing_grammar.specs.Machine.{choice}
use Rattle.drawing_reader.specs.Reader.{tokens_at, at}
use Rattle.drawing_grammar.specs.Front.{first_terminal}
use Rattle.drawing_grammar.proofs.Moves.{moves, stops}
use Rattle.drawing_reader.proofs.Cursors.{plainly, deeper, too_deep, stuck, always}
use Rattle.drawing_grammar.proofs.None as none
use Rattle.std.specs.Prelude.{slice_range}
use Rattle.drawing_reader.proofs.Cursors.{expr_sum, sum_product}
use Rattle.drawing_reader.proofs.cursor.Cursor.+expression.Goals as goal

pub product-returns-in_err-left-clause-reads : goal.product-returns-in_err-left-clause-reads
product-returns-in_err-left-clause-reads t c = let p = err_from_is_err_and c.from_residual.result c.from_residual.ensures.1 in
    rw (p.1, p.2) (λ rest. stops (always g.Product c.args.depth c.args.self.now refl rest) (c.in_err-left.ensures.reads _))

pub product-factors-init : goal.product-factors-init
product-factors-init t c = record { reads = λ rest. moves (always g.Product c.args.depth c.args.self.now refl rest) (c.in_ok-left.ensures.reads _); no_longer = omega arith }

pub product-returns-in_err-op-clause-reads : goal.product-returns-in_err-op-clause-reads
product-returns-in_err-op-clause-reads t c = let p = err_from_is_err_and c.from_residual-in_err-op.result c.from_residual-in_err-op.ensures.1 in
    rw (p.1, p.2) (λ rest. stops (c.factors.invariant.reads rest) (c.in_err-op.ensures.reads c.args.depth rest))

pub product-returns-in_err-right-clause-reads : goal.product-returns-in_err-right-clause-reads
product-returns-in_err-right-clause-reads t c =
    let p = err_from_is_err_and c.from_residual-in_err-right.result c.from_residual-in_err-right.ensures.1 in
    rw (p.1, p.2) (λ rest. stops (moves (c.factors.invariant.reads rest) ((rw c.in-Some.is at c.in_ok-op.ensures.reads) c.args.depth rest))
    (c.in_err-right.ensures.reads _))

pub product-factors-preserved : goal.product-factors-preserved
product-factors-preserved t c =
    record {
      reads = rw c.in_ok-left-2.ensures
          (λ rest. moves (moves (c.factors.invariant.reads rest) ((rw c.in-Some.is at c.in_ok-op.ensures.reads) c.args.depth rest))
          (c.in_ok-right.ensures.reads _));
      no_longer = omega arith;
    }

pub product-returns-clause-reads : goal.product-returns-clause-reads
product-returns-clause-reads t c = λ rest. moves (c.factors.invariant.reads rest) ((rw c.in_default.is at c.in_ok-op.ensures.reads) c.args.depth rest)

pub sum-returns-in_err-left-clause-reads : goal.sum-returns-in_err-left-clause-reads
sum-returns-in_err-left-clause-reads t c = let p = err_from_is_err_and c.from_residual.result c.from_residual.ensures.1 in
    rw (p.1, p.2) (λ rest. stops (sum_product c.args.depth c.args.self.now rest) (c.in_err-left.ensures.reads _))

pub sum-terms-init : goal.sum-terms-init
sum-terms-init t c = record { reads = λ rest. moves (sum_product c.args.depth c.args.self.now rest) (c.in_ok-left.ensures.reads _); no_longer = omega arith }

pub sum-returns-in_err-op-clause-reads : goal.sum-returns-in_err-op-clause-reads
sum-returns-in_err-op-clause-reads t c = let p = err_from_is_err_and c.from_residual-in_err-op.result c.from_residual-in_err-op.ensures.1 in
    rw (p.1, p.2) (λ rest. stops (c.terms.invariant.reads rest) (c.in_err-op.ensures.reads c.args.depth rest))

pub sum-returns-in_err-right-clause-reads : goal.sum-returns-in_err-right-clause-reads
sum-returns-in_err-right-clause-reads t c = let p = err_from_is_err_and c.from_residual-in_err-right.result c.from_residual-in_err-right.ensures.1 in
    rw (p.1, p.2) (λ rest. stops (moves (c.terms.invariant.reads rest) ((rw c.in-Some.is at c.in_ok-op.ensures.reads) c.args.depth rest))
    (c.in_err-right.ensures.reads _))

pub sum-terms-preserved : goal.sum-terms-preserved
sum-terms-preserved t c =
    record {
      reads = rw c.in_ok-left-2.ensures
          (λ rest. moves (moves (c.terms.invariant.reads rest) ((rw c.in-Some.is at c.in_ok-op.ensures.reads) c.args.depth rest))
          (c.in_ok-right.ensures.reads _));
      no_longer = omega arith;
    }

pub sum-returns-clause-reads : goal.sum-returns-clause-reads
sum-returns-clause-reads t c = λ rest. moves (c.terms.invariant.reads rest) ((rw c.in_default.is at c.in_ok-op.ensures.reads) c.args.depth rest)

pub unary-returns-in_err-inner-in-Minus-clause-reads : goal.unary-returns-in_err-inner-in-Minus-clause-reads
unary-returns-in_err-inner-in-Minus-clause-reads t c = let e : first_terminal (tokens_at c.args.self.now) ≡ is.Minus = cc in let p =
    err_from_is_err_and c.from_residual-in_err-inner-in-Minus.result c.from_residual-in_err-inner-in-Minus.ensures.1 in
    rw (p.1, p.2, c.in_err-inner-in-Minus.ensures.err.0)
    (λ rest. too_deep g.negated c.args.depth c.args.self.now refl c.in_err-inner-in-Minus.ensures.err.1 e rest)

pub unary-returns-in_err-inner-in-OpenParenthesis-clause-reads : goal.unary-returns-in_err-inner-in-OpenParenthesis-clause-reads
unary-returns-in_err-inner-in-OpenParenthesis-clause-reads t c = let e : first_terminal (tokens_at c.args.self.now) ≡ is.OpenParenthesis =
    cc in let p = err_from_is_err_and c.from_residual-in_err-inner-in-OpenParenthesis.result
    c.from_residual-in_err-inner-in-OpenParenthesis.ensures.1 in rw (p.1, p.2, c.in_err-inner-in-OpenParenthesis.ensures.err.0)
    (λ rest. too_deep g.bracketed c.args.depth c.args.self.now refl c.in_err-inner-in-OpenParenthesis.ensures.err.1 e rest)

pub unary-returns-in_err-operand-in-Minus-clause-reads : goal.unary-returns-in_err-operand-in-Minus-clause-reads
unary-returns-in_err-operand-in-Minus-clause-reads t c = let e : first_terminal (tokens_at c.args.self.now) ≡ is.Minus = cc in let p =
    err_from_is_err_and c.from_residual-in_err-operand-in-Minus.result c.from_residual-in_err-operand-in-Minus.ensures.1 in
    rw (p.1, p.2) (λ rest. stops (deeper g.negated c.args.depth c.args.self.now c.bump.new.self c.bump.result refl c.in_ok-inner-in-Minus.ensures.room
    e c.bump.ensures.taken c.bump.ensures.operators rest) ((let z : c.in_ok-inner-in-Minus.inner ≡ suc c.args.depth =
    c.in_ok-inner-in-Minus.ensures.ok in rw z at c.in_err-operand-in-Minus.ensures.reads) _))

pub unary-returns-in_ok-negated-in-Minus-clause-reads : goal.unary-returns-in_ok-negated-in-Minus-clause-reads
unary-returns-in_ok-negated-in-Minus-clause-reads t c = let e : first_terminal (tokens_at c.args.self.now) ≡ is.Minus =
    cc in rw c.in_ok-negated-in-Minus.ensures
    (λ rest. moves (deeper g.negated c.args.depth c.args.self.now c.bump.new.self c.bump.result refl c.in_ok-inner-in-Minus.ensures.room
    e c.bump.ensures.taken c.bump.ensures.operators rest) ((let z : c.in_ok-inner-in-Minus.inner ≡ suc c.args.depth =
    c.in_ok-inner-in-Minus.ensures.ok in rw z at c.in_ok-operand-in-Minus.ensures.reads) _))

pub unary-returns-in_err-whole-in-OpenParenthesis-clause-reads : goal.unary-returns-in_err-whole-in-OpenParenthesis-clause-reads
unary-returns-in_err-whole-in-OpenParenthesis-clause-reads t c = let e : first_terminal (tokens_at c.args.self.now) ≡ is.OpenParenthesis =
    cc in let p = err_from_is_err_and c.from_residual-in_err-whole-in-OpenParenthesis.result
    c.from_residual-in_err-whole-in-OpenParenthesis.ensures.1 in
    rw (p.1, p.2) (λ rest. stops (deeper g.bracketed c.args.depth c.args.self.now c.bump-in-OpenParenthesis.new.self c.bump-in-OpenParenthesis.result
    refl c.in_ok-inner-in-OpenParenthesis.ensures.room e c.bump-in-OpenParenthesis.ensures.taken c.bump-in-OpenParenthesis.ensures.operators rest)
    ((let z : c.in_ok-inner-in-OpenParenthesis.inner ≡ suc c.args.depth =
    c.in_ok-inner-in-OpenParenthesis.ensures.ok in rw z at c.in_err-whole-in-OpenParenthesis.ensures.reads) _))

pub unary-returns-in_err-mark-in-OpenParenthesis-clause-reads : goal.unary-returns-in_err-mark-in-OpenParenthesis-clause-reads
unary-returns-in_err-mark-in-OpenParenthesis-clause-reads t c = let e : first_terminal (tokens_at c.args.self.now) ≡ is.OpenParenthesis =
    cc in let p = err_from_is_err_and c.from_residual-in_err-mark-in-OpenParenthesis.result
    c.from_residual-in_err-mark-in-OpenParenthesis.ensures.1 in
    rw (p.1, p.2) (λ rest. stops
    (moves (deeper g.bracketed c.args.depth c.args.self.now c.bump-in-OpenParenthesis.new.self c.bump-in-OpenParenthesis.result refl
    c.in_ok-inner-in-OpenParenthesis.ensures.room e c.bump-in-OpenParenthesis.ensures.taken c.bump-in-OpenParenthesis.ensures.operators
    rest) ((let z : c.in_ok-inner-in-OpenParenthesis.inner ≡ suc c.args.depth = c.in_ok-inner-in-OpenParenthesis.ensures.ok in
    rw z at c.in_ok-whole-in-OpenParenthesis.ensures.reads) _)) (c.in_err-mark-in-OpenParenthesis.ensures.reads _))

pub unary-returns-in_ok-mark-in-OpenParenthesis-clause-reads : goal.unary-returns-in_ok-mark-in-OpenParenthesis-clause-reads
unary-returns-in_ok-mark-in-OpenParenthesis-clause-reads t c = let e : first_terminal (tokens_at c.args.self.now) ≡ is.OpenParenthesis =
    cc in λ rest. moves (moves (deeper g.bracketed c.args.depth c.args.self.now c.bump-in-OpenParenthesis.new.self c.bump-in-OpenParenthesis.result
    refl c.in_ok-inner-in-OpenParenthesis.ensures.room e c.bump-in-OpenParenthesis.ensures.taken c.bump-in-OpenParenthesis.ensures.operators
    rest) ((let z : c.in_ok-inner-in-OpenParenthesis.inner ≡ suc c.args.depth = c.in_ok-inner-in-OpenParenthesis.ensures.ok in
    rw z at c.in_ok-whole-in-OpenParenthesis.ensures.reads) _)) (c.in_ok-mark-in-OpenParenthesis.ensures.reads rest)

pub unary-returns-in-Number-clause-reads : goal.unary-returns-in-Number-clause-reads
unary-returns-in-Number-clause-reads t c = let e : first_terminal (tokens_at c.args.self.now) ≡ is.Number =
    cc in rw c.number.ensures (λ rest. plainly g.number c.args.depth c.args.self.now
    c.bump-token.new.self c.bump-token.result refl e c.bump-token.ensures.taken c.bump-token.ensures.operators rest)

pub unary-returns-in_ok-name-in-Word-clause-reads : goal.unary-returns-in_ok-name-in-Word-clause-reads
unary-returns-in_ok-name-in-Word-clause-reads t c = let e : first_terminal (tokens_at c.args.self.now) ≡ is.Word =
    cc in let b = c.bump-token-in-Word in let q : c.in_ok-name-in-Word.name ≡ (at c.args.self.now b.result).text =
    c.in_ok-name-in-Word.ensures.copied ∙ (c.text_of.ensures ∙ ap (λ (x : List ℕ). slice_range x b.result.start b.result.end) b.ensures.text) in
    rw q (λ rest. plainly g.parameter c.args.depth c.args.self.now b.new.self b.result refl e b.ensures.taken b.ensures.operators rest)

pub unary-returns-in_default : goal.unary-returns-in_default
unary-returns-in_default t c =
    record {
      reads = rw c.refused.ensures
          (λ rest. stuck g.Unary c.args.depth c.args.self.now (ap (choice g.Unary) (sym c.look.ensures) ∙ none.no_unary c.look.result
          c.in_default.not-Number c.in_default.not-Word c.in_default.not-Minus c.in_default.not-OpenParenthesis) refl rest);
      no_longer = omega arith;
    }

pub whole-returns-in_err-left-clause-reads : goal.whole-returns-in_err-left-clause-reads
whole-returns-in_err-left-clause-reads t c = let p = err_from_is_err_and c.from_residual.result c.from_residual.ensures.1 in
    rw (p.1, p.2) (λ rest. stops (expr_sum c.args.depth c.args.self.now rest) (c.in_err-left.ensures.reads _))

pub whole-returns-in_err-comparison-clause-reads : goal.whole-returns-in_err-comparison-clause-reads
whole-returns-in_err-comparison-clause-reads t c =
    let p = err_from_is_err_and c.from_residual-in_err-comparison.result c.from_residual-in_err-comparison.ensures.1 in
    rw (p.1, p.2) (λ rest. stops (moves (expr_sum c.args.depth c.args.self.now rest) (c.in_ok-left.ensures.reads _))
    (c.in_err-comparison.ensures.reads c.args.depth rest))

pub whole-returns-in-None-clause-reads : goal.whole-returns-in-None-clause-reads
whole-returns-in-None-clause-reads t c = λ rest. moves (moves (expr_sum c.args.depth c.args.self.now rest) (c.in_ok-left.ensures.reads _))
    ((rw c.in-None.is at c.in_ok-comparison.ensures.reads) c.args.depth rest)

pub whole-returns-in_err-right-in-Some-clause-reads : goal.whole-returns-in_err-right-in-Some-clause-reads
whole-returns-in_err-right-in-Some-clause-reads t c =
    let p = err_from_is_err_and c.from_residual-in_err-right-in-Some.result c.from_residual-in_err-right-in-Some.ensures.1 in
    rw (p.1, p.2) (λ rest. stops (moves (moves (expr_sum c.args.depth c.args.self.now rest) (c.in_ok-left.ensures.reads _))
    ((rw c.in-Some.is at c.in_ok-comparison.ensures.reads) c.args.depth rest)) (c.in_err-right-in-Some.ensures.reads _))

pub whole-returns-in_ok-binary-in-Some-clause-reads : goal.whole-returns-in_ok-binary-in-Some-clause-reads
whole-returns-in_ok-binary-in-Some-clause-reads t c =
    rw c.in_ok-binary-in-Some.ensures
    (λ rest. moves (moves (moves (expr_sum c.args.depth c.args.self.now rest) (c.in_ok-left.ensures.reads _))
    ((rw c.in-Some.is at c.in_ok-comparison.ensures.reads) c.args.depth rest)) (c.in_ok-right-in-Some.ensures.reads _))
