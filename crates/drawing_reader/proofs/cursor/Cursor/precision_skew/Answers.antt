use Rattle.std.proofs.Common.{Some, None, refl, sym, ap}
use Rattle.std.proofs.lemmas.Result.{err_from_is_err_and}
use Rattle.drawing_grammar.specs.Grammar.{Need, part, group, fresh, mark, item, keyword}
use Rattle.drawing_grammar.specs.Grammar as g
use Rattle.drawing_reader.specs.Reader.{tokens_at}
use Rattle.drawing_grammar.specs.Front.{first_terminal}
use Rattle.drawing_grammar.proofs.Moves.{moves, stops}
use Rattle.drawing_reader.proofs.Cursors.{plainly, left_out}
use Rattle.drawing_grammar.proofs.None as none
use Rattle.drawing_grammar.proofs.Moves.{reshaped}
use Rattle.drawing_reader.proofs.cursor.Cursor.precision_skew.Goals as goal

pub returns-then-not-starts : goal.returns-then-not-starts
returns-then-not-starts c =
    record {
      reads = λ rest. left_out g.PrecisionSkew 0 c.args.self.now None
          (none.no_precision_skew (first_terminal (tokens_at c.args.self.now)) (c.starts.ensures.no (cc))) refl rest;
    }

pub returns-in_err-pair : goal.returns-in_err-pair
returns-in_err-pair c = record {
  reads = let p =
      err_from_is_err_and c.from_residual.result c.from_residual.ensures.1 in
      rw (p.1, p.2) (λ rest. stops (plainly g.precision_skew 0 c.args.self.now c.bump-token.new.self c.bump-token.result
      refl (c.starts.ensures.yes (cc)) c.bump-token.ensures.taken c.bump-token.ensures.operators rest) (c.in_err-pair.ensures.reads rest));
}

pub returns : goal.returns
returns c = let k = c.in_ok-pair.ensures.reads in
    record {
      reads = λ rest.
          reshaped _ (moves (plainly g.precision_skew 0 c.args.self.now c.bump-token.new.self c.bump-token.result refl
          (c.starts.ensures.yes (cc)) c.bump-token.ensures.taken c.bump-token.ensures.operators rest) (k.leads rest)) (λ v. ap (λ x. (Some x, v)) (sym k.is));
    }
