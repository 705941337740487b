use Rattle.std.proofs.Common.{◌≡◌, ℕ, List, refl, sym, ap, ◌∙◌, arith}
use Rattle.std.proofs.lemmas.Result.{err_from_is_err_and}
use Rattle.drawing_grammar.specs.declared.terminal.Terminal.TheVariants as is
use Rattle.drawing_grammar.specs.Grammar.{Need, part, group, fresh, mark, item, keyword}
use Rattle.drawing_grammar.specs.Grammar as g
use Rattle.drawing_grammar.specs.Sketch as s
use Rattle.drawing_grammar.specs.Machine.{choice}
use Rattle.drawing_reader.specs.Reader.{tokens_at, at}
use Rattle.drawing_grammar.specs.Front.{first_terminal}
use Rattle.drawing_grammar.proofs.Moves.{moves, stops}
use Rattle.drawing_reader.proofs.Cursors.{plainly, stuck}
use Rattle.drawing_grammar.proofs.None as none
use Rattle.std.specs.Prelude.{slice_range}
use Rattle.drawing_reader.proofs.cursor.Cursor.term.Goals as goal

pub returns-in_err-item-in-Minus-clause-reads : goal.returns-in_err-item-in-Minus-clause-reads
returns-in_err-item-in-Minus-clause-reads c = let e : first_terminal (tokens_at c.args.self.now) ≡ is.Minus = cc in let p =
    err_from_is_err_and c.from_residual.result c.from_residual.ensures.1 in
    rw (p.1, p.2) (λ rest. stops (plainly g.complement 0 c.args.self.now c.bump-token.new.self c.bump-token.result
    refl e c.bump-token.ensures.taken c.bump-token.ensures.operators rest) (c.in_err-item-in-Minus.ensures.reads _))

pub returns-in_ok-item-in-Minus-clause-reads : goal.returns-in_ok-item-in-Minus-clause-reads
returns-in_ok-item-in-Minus-clause-reads c = let e : first_terminal (tokens_at c.args.self.now) ≡ is.Minus =
    cc in λ rest. moves (plainly g.complement 0 c.args.self.now c.bump-token.new.self c.bump-token.result
    refl e c.bump-token.ensures.taken c.bump-token.ensures.operators rest) (c.in_ok-item-in-Minus.ensures.reads _)

pub returns-in-Zero-clause-reads : goal.returns-in-Zero-clause-reads
returns-in-Zero-clause-reads c = let e : first_terminal (tokens_at c.args.self.now) ≡ is.Zero = cc in λ rest. plainly g.zero_term 0 c.args.self.now
    c.bump-token-in-Zero.new.self c.bump-token-in-Zero.result refl e c.bump-token-in-Zero.ensures.taken c.bump-token-in-Zero.ensures.operators rest

pub returns-in-One-clause-reads : goal.returns-in-One-clause-reads
returns-in-One-clause-reads c = let e : first_terminal (tokens_at c.args.self.now) ≡ is.One = cc in λ rest. plainly g.one_term 0 c.args.self.now
    c.bump-token-in-One.new.self c.bump-token-in-One.result refl e c.bump-token-in-One.ensures.taken c.bump-token-in-One.ensures.operators rest

pub returns-in_err-range-in-Name-clause-reads : goal.returns-in_err-range-in-Name-clause-reads
returns-in_err-range-in-Name-clause-reads c = let e : first_terminal (tokens_at c.args.self.now) ≡ is.Name =
    cc in let p = err_from_is_err_and c.from_residual-in_err-range-in-Name.result c.from_residual-in_err-range-in-Name.ensures.1 in
    rw (p.1, p.2) (λ rest. stops (plainly g.named_term 0 c.args.self.now c.bump-token-in-Name.new.self c.bump-token-in-Name.result
    refl e c.bump-token-in-Name.ensures.taken c.bump-token-in-Name.ensures.operators rest) (c.in_err-range-in-Name.ensures.reads _))

pub returns-in_ok-range-in-Name-clause-reads : goal.returns-in_ok-range-in-Name-clause-reads
returns-in_ok-range-in-Name-clause-reads c = let e : first_terminal (tokens_at c.args.self.now) ≡ is.Name =
    cc in let q : c.in_ok-name-in-Name.name ≡ s.signal_of (at c.args.self.now c.bump-token-in-Name.result) =
    c.in_ok-name-in-Name.ensures.is
    ∙ ap s.signal_named (c.text_of.ensures ∙ ap (λ (x : List ℕ). slice_range x c.bump-token-in-Name.result.start c.bump-token-in-Name.result.end)
    c.bump-token-in-Name.ensures.text) in
    rw q (λ rest. moves (plainly g.named_term 0 c.args.self.now c.bump-token-in-Name.new.self c.bump-token-in-Name.result
    refl e c.bump-token-in-Name.ensures.taken c.bump-token-in-Name.ensures.operators rest) (c.in_ok-range-in-Name.ensures.reads _))

pub returns-in_default : goal.returns-in_default
returns-in_default c = record {
  reads =
      rw c.refused.ensures (λ rest. stuck g.Term 0 c.args.self.now (ap (choice g.Term) (sym c.look.ensures) ∙ none.no_term c.look.result
      c.in_default.not-Minus c.in_default.not-Zero c.in_default.not-One c.in_default.not-Name) refl rest);
  no_longer = omega arith;
}
