use Rattle.std.proofs.Common.{◌∷◌, refl, ap, map, arith}
use Rattle.std.proofs.lemmas.Result.{err_from_is_err_and}
use Rattle.drawing_tree.specs.Tree as tree
use Rattle.drawing_grammar.specs.Grammar.{group}
use Rattle.drawing_grammar.specs.Grammar as g
use Rattle.drawing_grammar.specs.Sketch.{no_constants}
use Rattle.drawing_grammar.proofs.Moves.{moves, stops, reshaped, stays}
use Rattle.drawing_grammar.proofs.Choices.{no_constant_at}
use Rattle.drawing_reader.specs.Reader.{tokens_at, ahead}
use Rattle.drawing_reader.proofs.Cursors.{leads_on, lacking_at}
use Rattle.drawing_reader.proofs.Lists.{constants_more, constants_all}
use Rattle.drawing_reader.proofs.cursor.Cursor.some_constants.Goals as goal

pub constant-requires : goal.constant-requires
constant-requires c = c.at_keyword.ensures.yes (cc)

pub each-init : goal.each-init
each-init c = record {
  reads = rw (c.new-consts.ensures, c.new-places.ensures, c.new-name_places.ensures) (λ rest. stays (ahead c.args.self.now (group g.Constants 0 ∷ rest)));
  no_longer = omega arith;
}

pub returns-in_err-next-clause-reads : goal.returns-in_err-next-clause-reads
returns-in_err-next-clause-reads c =
    let p = err_from_is_err_and c.from_residual.result c.from_residual.ensures.1 in
    rw (p.1, p.2) (λ rest. stops (moves (c.each.invariant.reads rest)
    (leads_on g.Constants 0 c.each.self g.constant (c.at_keyword.ensures.yes (cc)) _)) (c.in_err-next.ensures.reads _))

pub each-preserved : goal.each-preserved
each-preserved c = record {
  reads =
      rw (c.in_ok-push.ensures.ok, c.in_ok-push-2.ensures.ok, c.in_ok-push-3.ensures.ok)
      (λ rest. reshaped _ (moves (moves (c.each.invariant.reads rest)
      (leads_on g.Constants 0 c.each.self g.constant (c.at_keyword.ensures.yes (cc)) _)) (c.in_ok-next.ensures.reads _))
      (λ v. ap (λ xs. (xs, v.1)) (constants_more c.each.consts _ c.each.places _ c.each.name_places _ v.0)));
  no_longer = omega arith;
}

pub returns-clause-reads : goal.returns-clause-reads
returns-clause-reads c = λ rest. reshaped _
    (moves (c.each.invariant.reads rest)
    (lacking_at g.Constants 0 c.each.self no_constants (no_constant_at (tokens_at c.each.self) (c.at_keyword.ensures.no (cc))) refl rest))
    (λ v. ap (λ xs. (xs, v)) (constants_all (map tree.assignment_of c.each.consts) c.each.places c.each.name_places))
