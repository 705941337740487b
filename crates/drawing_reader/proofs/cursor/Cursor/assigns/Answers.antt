use Rattle.std.proofs.Common.{refl, ap, arith}
use Rattle.std.proofs.lemmas.Result.{err_from_is_err_and}
use Rattle.drawing_grammar.specs.Grammar.{Need, part, group, fresh, mark, item, keyword}
use Rattle.drawing_grammar.specs.Grammar as g
use Rattle.drawing_grammar.specs.Sketch as s
use Rattle.drawing_reader.specs.Reader.{tokens_at}
use Rattle.drawing_grammar.specs.Front.{first_terminal}
use Rattle.drawing_grammar.proofs.Moves.{moves, stops}
use Rattle.drawing_reader.proofs.Cursors.{plainly, is_token, left_out, always}
use Rattle.drawing_grammar.proofs.None as none
use Rattle.drawing_tree.specs.Tree as tree
use Rattle.std.proofs.Common.{map}
use Rattle.drawing_grammar.proofs.Moves.{reshaped}
use Rattle.drawing_reader.proofs.Lists.{placed_more, placed_all}
use Rattle.drawing_reader.proofs.cursor.Cursor.assigns.Goals as goal

pub returns-in_err-first-clause-reads : goal.returns-in_err-first-clause-reads
returns-in_err-first-clause-reads c = let p = err_from_is_err_and c.from_residual.result c.from_residual.ensures.1 in
    rw (p.1, p.2) (λ rest. stops (always g.Assigns 0 c.args.self.now refl rest) (c.in_err-first.ensures.reads _))

pub more-init : goal.more-init
more-init c = record {
  reads = rw (c.in_ok-push.ensures.ok, c.in_ok-push-2.ensures.ok, c.new-all.ensures, c.new-places.ensures)
      (λ rest. moves (always g.Assigns 0 c.args.self.now refl rest) (c.in_ok-first.ensures.reads _));
  no_longer = omega arith;
}

pub more-smaller : goal.more-smaller
more-smaller c = let h = c.bump.ensures.shorter (is_token g.next_assign c.more.self (c.starts.ensures.yes (cc))) in omega arith

pub returns-in_err-next-clause-reads : goal.returns-in_err-next-clause-reads
returns-in_err-next-clause-reads c = let p = err_from_is_err_and c.from_residual-in_err-next.result c.from_residual-in_err-next.ensures.1 in
    rw (p.1, p.2) (λ rest. stops (moves (c.more.invariant.reads rest) (plainly g.next_assign 0 c.more.self c.bump.new.self
    c.bump.result refl (c.starts.ensures.yes (cc)) c.bump.ensures.taken c.bump.ensures.operators _)) (c.in_err-next.ensures.reads _))

pub more-preserved : goal.more-preserved
more-preserved c = record {
  reads =
      rw (c.in_ok-push-3.ensures.ok, c.in_ok-push-4.ensures.ok)
      (λ rest. reshaped _ (moves (moves (c.more.invariant.reads rest)
      (plainly g.next_assign 0 c.more.self c.bump.new.self c.bump.result refl (c.starts.ensures.yes (cc)) c.bump.ensures.taken c.bump.ensures.operators
      _)) (c.in_ok-next.ensures.reads _)) (λ v. ap (λ xs. (xs, v.1)) (placed_more tree.assignment_of c.more.all _ c.more.places _ v.0)));
  no_longer =
      omega arith;
}

pub returns-clause-reads : goal.returns-clause-reads
returns-clause-reads c = λ rest. reshaped _
    (moves (c.more.invariant.reads rest)
    (left_out g.MoreAssigns 0 c.more.self s.no_items (none.no_more_assigns (first_terminal (tokens_at c.more.self)) (c.starts.ensures.no (cc))) refl
    rest)) (λ v. ap (λ xs. (xs, v)) (placed_all (map tree.assignment_of c.more.all) c.more.places))
