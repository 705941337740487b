use Rattle.std.proofs.Common.{[], ◌∷◌, refl, sym, ap, arith}
use Rattle.std.proofs.lemmas.Result.{err_from_is_err_and}
use Rattle.drawing_grammar.specs.Grammar.{Need, part, group, fresh, mark, item, keyword}
use Rattle.drawing_grammar.specs.Grammar as g
use Rattle.drawing_reader.specs.Reader.{tokens_at, ahead}
use Rattle.drawing_grammar.specs.Front.{first_terminal}
use Rattle.drawing_grammar.proofs.Moves.{moves, stops}
use Rattle.drawing_reader.proofs.Cursors.{leads_on, lacking}
use Rattle.drawing_grammar.proofs.None as none
use Rattle.std.proofs.Common.{append_assoc}
use Rattle.std.proofs.lemmas.List.{append-nil}
use Rattle.drawing_grammar.proofs.Moves.{reshaped, stays}
use Rattle.drawing_reader.proofs.cursor.Cursor.cases.Goals as goal

pub each-init : goal.each-init
each-init c = record { reads = rw (c.new-all.ensures) (λ rest. stays (ahead c.args.self.now (group g.Cases 0 ∷ rest))); no_longer = omega arith }

pub returns-in_err-next-clause-reads : goal.returns-in_err-next-clause-reads
returns-in_err-next-clause-reads c = let p =
    err_from_is_err_and c.from_residual.result c.from_residual.ensures.1 in
    rw (p.1, p.2) (λ rest. stops (moves (c.each.invariant.reads rest) (leads_on g.Cases 0 c.each.self g.case_ (c.starts.ensures.yes (cc)) _))
    (c.in_err-next.ensures.reads _))

pub each-preserved : goal.each-preserved
each-preserved c = record {
  reads =
      rw (c.in_ok-push.ensures.ok) (λ rest. reshaped _
      (moves (moves (c.each.invariant.reads rest) (leads_on g.Cases 0 c.each.self g.case_ (c.starts.ensures.yes (cc)) _))
      (c.in_ok-next.ensures.reads _)) (λ v. ap (λ xs. (xs, v.1)) (sym (append_assoc c.each.all (_ ∷ []) v.0))));
  no_longer = omega arith;
}

pub returns-clause-reads : goal.returns-clause-reads
returns-clause-reads c = λ rest. reshaped _
    (moves (c.each.invariant.reads rest)
    (lacking g.Cases 0 c.each.self [] (none.no_case_statement (first_terminal (tokens_at c.each.self)) (c.starts.ensures.no (cc))) refl rest))
    (λ v. ap (λ xs. (xs, v)) (append-nil c.each.all))
