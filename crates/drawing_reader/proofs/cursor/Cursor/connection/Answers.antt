use Rattle.std.proofs.Common.{[], refl, sym, ap, arith}
use Rattle.std.proofs.lemmas.Result.{err_from_is_err_and}
use Rattle.drawing_grammar.specs.Grammar.{Need, part, group, fresh, mark, item, keyword}
use Rattle.drawing_grammar.specs.Grammar as g
use Rattle.drawing_reader.specs.Reader.{tokens_at}
use Rattle.drawing_grammar.specs.Front.{first_terminal}
use Rattle.drawing_grammar.proofs.Moves.{moves, stops}
use Rattle.drawing_reader.proofs.Cursors.{plainly, is_token, left_out, always}
use Rattle.drawing_grammar.proofs.None as none
use Rattle.std.proofs.Common.{map}
use Rattle.std.proofs.lemmas.List.{append-nil}
use Rattle.drawing_tree.specs.Tree as tree
use Rattle.drawing_grammar.proofs.Moves.{reshaped}
use Rattle.drawing_reader.proofs.Lists.{more_mapped, joined_terms}
use Rattle.drawing_reader.proofs.cursor.Cursor.connection.Goals as goal

pub returns-in_err-first-clause-reads : goal.returns-in_err-first-clause-reads
returns-in_err-first-clause-reads c = let p = err_from_is_err_and c.from_residual.result c.from_residual.ensures.1 in
    rw (p.1, p.2) (λ rest. stops (always g.Conn 0 c.args.self.now refl rest) (c.in_err-first.ensures.reads _))

pub terms-init : goal.terms-init
terms-init c = record { reads = rw (c.in_ok-push.ensures.ok, c.new-terms.ensures) (λ rest. moves (always g.Conn 0 c.args.self.now refl rest) (c.in_ok-first.ensures.reads _)); no_longer = omega arith }

pub terms-smaller : goal.terms-smaller
terms-smaller c = let h = c.bump.ensures.shorter (is_token g.next_term c.terms.self (c.starts.ensures.yes (cc))) in omega arith

pub returns-in_err-next-clause-reads : goal.returns-in_err-next-clause-reads
returns-in_err-next-clause-reads c = let p = err_from_is_err_and c.from_residual-in_err-next.result c.from_residual-in_err-next.ensures.1 in
    rw (p.1, p.2) (λ rest. stops (moves (c.terms.invariant.reads rest) (plainly g.next_term 0 c.terms.self c.bump.new.self
    c.bump.result refl (c.starts.ensures.yes (cc)) c.bump.ensures.taken c.bump.ensures.operators _)) (c.in_err-next.ensures.reads _))

pub terms-preserved : goal.terms-preserved
terms-preserved c = record {
  reads =
      rw c.in_ok-push-2.ensures.ok
      (λ rest. reshaped _ (moves (moves (c.terms.invariant.reads rest)
      (plainly g.next_term 0 c.terms.self c.bump.new.self c.bump.result refl (c.starts.ensures.yes (cc)) c.bump.ensures.taken c.bump.ensures.operators
      _)) (c.in_ok-next.ensures.reads _))
      (λ v. ap (λ x. (x, v.1.1)) (joined_terms v.1.0 _ (sym (more_mapped tree.term_of c.terms.terms _ v.0)))));
  no_longer = omega arith;
}

pub returns-in_err-hold-clause-reads : goal.returns-in_err-hold-clause-reads
returns-in_err-hold-clause-reads c = let p = err_from_is_err_and c.from_residual-in_err-hold.result c.from_residual-in_err-hold.ensures.1 in
    rw (p.1, p.2) (λ rest. stops (moves (c.terms.invariant.reads rest) (left_out g.MoreTerms 0 c.terms.self
    [] (none.no_more_terms (first_terminal (tokens_at c.terms.self)) (c.starts.ensures.no (cc))) refl _)) (c.in_err-hold.ensures.reads _))

pub returns-clause-reads : goal.returns-clause-reads
returns-clause-reads c = λ rest. reshaped _
    (moves (moves (c.terms.invariant.reads rest)
    (left_out g.MoreTerms 0 c.terms.self [] (none.no_more_terms (first_terminal (tokens_at c.terms.self)) (c.starts.ensures.no (cc))) refl _))
    (c.in_ok-hold.ensures.reads _)) (λ v. ap (λ x. (x, v)) (joined_terms c.in_ok-hold.hold _ (append-nil (map tree.term_of c.terms.terms))))
