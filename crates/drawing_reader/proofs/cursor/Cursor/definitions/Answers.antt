use Rattle.std.proofs.Common.{[], ◌∷◌, refl, ap, arith}
use Rattle.std.proofs.lemmas.Result.{err_from_is_err_and}
use Rattle.drawing_grammar.specs.Grammar.{Need, part, group, fresh, mark, item, keyword}
use Rattle.drawing_grammar.specs.Grammar as g
use Rattle.drawing_reader.specs.Reader.{tokens_at, ahead}
use Rattle.drawing_grammar.specs.Front.{first_terminal}
use Rattle.drawing_grammar.proofs.Moves.{moves, stops}
use Rattle.drawing_reader.proofs.Cursors.{leads_on, lacking}
use Rattle.drawing_grammar.proofs.None as none
use Rattle.drawing_tree.specs.Tree as tree
use Rattle.std.proofs.Common.{map}
use Rattle.drawing_grammar.proofs.Moves.{reshaped, stays}
use Rattle.drawing_reader.proofs.Lists.{macros_more, macros_all}
use Rattle.drawing_reader.proofs.cursor.Cursor.definitions.Goals as goal

pub each-init : goal.each-init
each-init c = record { reads = rw (c.new-all.ensures, c.new-heads.ensures) (λ rest. stays (ahead c.args.self.now (group (g.Macros c.args.edition) 0 ∷ rest))); no_longer = omega arith }

pub returns-in_err-next-clause-reads : goal.returns-in_err-next-clause-reads
returns-in_err-next-clause-reads c =
    let p = err_from_is_err_and c.from_residual.result c.from_residual.ensures.1 in
    rw (p.1, p.2) (λ rest. stops (moves (c.each.invariant.reads rest) (leads_on (g.Macros c.args.edition) 0 c.each.self (g.macro {v = c.args.edition}) (c.starts.ensures.yes (cc)) _))
    (c.in_err-next.ensures.reads _))

pub each-preserved : goal.each-preserved
each-preserved c = record {
  reads =
      rw (c.in_ok-push.ensures.ok, c.in_ok-push-2.ensures.ok)
      (λ rest. reshaped _ (moves (moves (c.each.invariant.reads rest) (leads_on (g.Macros c.args.edition) 0 c.each.self (g.macro {v = c.args.edition}) (c.starts.ensures.yes (cc)) _))
      (c.in_ok-next.ensures.reads _)) (λ v. ap (λ xs. (xs, v.1)) (macros_more c.each.all _ c.each.heads _ v.0)));
  no_longer = omega arith;
}

pub returns-clause-reads : goal.returns-clause-reads
returns-clause-reads c = λ rest.
    reshaped _ (moves (c.each.invariant.reads rest)
    (lacking (g.Macros c.args.edition) 0 c.each.self (record { macros = []; heads = [] }) (none.no_macro c.args.edition (first_terminal (tokens_at c.each.self))
    (c.starts.ensures.no (cc))) refl rest)) (λ v. ap (λ xs. (xs, v)) (macros_all (map tree.macro_of c.each.all) c.each.heads))
