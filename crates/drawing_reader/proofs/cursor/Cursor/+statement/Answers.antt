use Rattle.std.proofs.Common.{◌≡◌, suc, ◌∷◌, refl, sym, ap, ◌∙◌, arith}
use Rattle.std.proofs.lemmas.Result.{err_from_is_err_and}
use Rattle.drawing_grammar.specs.Grammar.{Need, part, group, fresh, mark, item, keyword}
use Rattle.drawing_grammar.specs.Grammar as g
use Rattle.drawing_grammar.specs.Machine.{choice}
use Rattle.drawing_reader.specs.Reader.{tokens_at, ahead}
use Rattle.drawing_grammar.specs.Front.{first_terminal}
use Rattle.drawing_grammar.proofs.Moves.{moves, stops}
use Rattle.drawing_reader.proofs.Cursors.{plainly, deeper, too_deep, is_token, left_out, stuck, lacking}
use Rattle.drawing_grammar.proofs.None as none
use Rattle.drawing_tree.specs.Tree as tree
use Rattle.std.proofs.Common.{map}
use Rattle.drawing_tree.proofs.Views.{view_use, view_wire, view_if_parts, view_choice, view_for, view_repeated}
use Rattle.drawing_grammar.proofs.Moves.{reshaped, stays}
use Rattle.drawing_reader.proofs.Cursors.{leads_some, none_some}
use Rattle.drawing_reader.proofs.Lists.{statements_more, statements_all}
use Rattle.drawing_reader.proofs.Sketches.{at_second, second_at}
use Rattle.drawing_reader.proofs.cursor.Cursor.+statement.Goals as goal

pub if_statement-returns-in_err-inner-clause-reads : goal.if_statement-returns-in_err-inner-clause-reads
if_statement-returns-in_err-inner-clause-reads t c =
    let p = err_from_is_err_and c.from_residual.result c.from_residual.ensures.1 in rw (p.1, p.2, c.in_err-inner.ensures.err.0)
    (λ rest. too_deep (g.if_ {v = c.args.edition}) c.args.depth c.args.self.now refl c.in_err-inner.ensures.err.1 c.requires rest)

pub if_statement-returns-in_err-test-clause-reads : goal.if_statement-returns-in_err-test-clause-reads
if_statement-returns-in_err-test-clause-reads t c =
    let p = err_from_is_err_and c.from_residual-in_err-test.result c.from_residual-in_err-test.ensures.1 in
    rw (p.1, p.2) (λ rest. stops (deeper (g.if_ {v = c.args.edition}) c.args.depth c.args.self.now c.bump-token.new.self c.bump-token.result
    refl c.in_ok-inner.ensures.room c.requires c.bump-token.ensures.taken c.bump-token.ensures.operators rest) (c.in_err-test.ensures.reads _))

pub if_statement-returns-in_err-yes-clause-reads : goal.if_statement-returns-in_err-yes-clause-reads
if_statement-returns-in_err-yes-clause-reads t c =
    let p = err_from_is_err_and c.from_residual-in_err-yes.result c.from_residual-in_err-yes.ensures.1 in
    rw (p.1, p.2) (λ rest. stops
    (moves (deeper (g.if_ {v = c.args.edition}) c.args.depth c.args.self.now c.bump-token.new.self c.bump-token.result refl c.in_ok-inner.ensures.room
    c.requires c.bump-token.ensures.taken c.bump-token.ensures.operators rest) (c.in_ok-test.ensures.reads _))
    ((let z : c.in_ok-inner.inner ≡ suc c.args.depth = c.in_ok-inner.ensures.ok in rw z at c.in_err-yes.ensures.reads) _))

pub if_statement-returns-in_err-no-clause-reads : goal.if_statement-returns-in_err-no-clause-reads
if_statement-returns-in_err-no-clause-reads t c = let p = err_from_is_err_and c.from_residual-in_err-no.result c.from_residual-in_err-no.ensures.1 in
    rw (p.1, p.2) (λ rest. stops
    (moves (moves (deeper (g.if_ {v = c.args.edition}) c.args.depth c.args.self.now c.bump-token.new.self c.bump-token.result refl c.in_ok-inner.ensures.room c.requires
    c.bump-token.ensures.taken c.bump-token.ensures.operators rest) (c.in_ok-test.ensures.reads _))
    ((let z : c.in_ok-inner.inner ≡ suc c.args.depth = c.in_ok-inner.ensures.ok in rw z at c.in_ok-yes.ensures.reads) _))
    ((let z : c.in_ok-inner.inner ≡ suc c.args.depth = c.in_ok-inner.ensures.ok in rw z at c.in_err-no.ensures.reads) _))

pub if_statement-returns-in_err-end-clause-reads : goal.if_statement-returns-in_err-end-clause-reads
if_statement-returns-in_err-end-clause-reads t c =
    let p = err_from_is_err_and c.from_residual-in_err-end.result c.from_residual-in_err-end.ensures.1 in
    rw (p.1, p.2) (λ rest. stops
    (moves (moves (moves (deeper (g.if_ {v = c.args.edition}) c.args.depth c.args.self.now c.bump-token.new.self c.bump-token.result refl c.in_ok-inner.ensures.room
    c.requires c.bump-token.ensures.taken c.bump-token.ensures.operators rest) (c.in_ok-test.ensures.reads _))
    ((let z : c.in_ok-inner.inner ≡ suc c.args.depth = c.in_ok-inner.ensures.ok in rw z at c.in_ok-yes.ensures.reads) _))
    ((let z : c.in_ok-inner.inner ≡ suc c.args.depth = c.in_ok-inner.ensures.ok in rw z at c.in_ok-no.ensures.reads) _))
    (c.in_err-end.ensures.reads _))

pub if_statement-returns-clause-reads : goal.if_statement-returns-clause-reads
if_statement-returns-clause-reads t c =
    rw (view_choice _, view_if_parts _ _ _ _)
    (λ rest. moves (moves (moves
    (moves (deeper (g.if_ {v = c.args.edition}) c.args.depth c.args.self.now c.bump-token.new.self c.bump-token.result refl c.in_ok-inner.ensures.room c.requires
    c.bump-token.ensures.taken c.bump-token.ensures.operators rest) (c.in_ok-test.ensures.reads _))
    ((let z : c.in_ok-inner.inner ≡ suc c.args.depth = c.in_ok-inner.ensures.ok in rw z at c.in_ok-yes.ensures.reads) _))
    ((let z : c.in_ok-inner.inner ≡ suc c.args.depth = c.in_ok-inner.ensures.ok in rw z at c.in_ok-no.ensures.reads) _))
    (c.in_ok-end.ensures.reads _))

-- ---- FOR

pub for_statement-returns-in_err-inner-clause-reads : goal.for_statement-returns-in_err-inner-clause-reads
for_statement-returns-in_err-inner-clause-reads t c =
    let p = err_from_is_err_and c.from_residual.result c.from_residual.ensures.1 in rw (p.1, p.2, c.in_err-inner.ensures.err.0)
    (λ rest. too_deep g.for_ c.args.depth c.args.self.now refl c.in_err-inner.ensures.err.1 c.requires rest)

pub for_statement-returns-in_err-var-clause-reads : goal.for_statement-returns-in_err-var-clause-reads
for_statement-returns-in_err-var-clause-reads t c =
    let p = err_from_is_err_and c.from_residual-in_err-var.result c.from_residual-in_err-var.ensures.1 in
    rw (p.1, p.2) (λ rest. stops (deeper g.for_ c.args.depth c.args.self.now c.bump-token.new.self c.bump-token.result
    refl c.in_ok-inner.ensures.room c.requires c.bump-token.ensures.taken c.bump-token.ensures.operators rest) (c.in_err-var.ensures.reads _))

pub for_statement-returns-in_err-body-clause-reads : goal.for_statement-returns-in_err-body-clause-reads
for_statement-returns-in_err-body-clause-reads t c =
    let p = err_from_is_err_and c.from_residual-in_err-body.result c.from_residual-in_err-body.ensures.1 in
    rw (p.1, p.2) (λ rest. stops
    (moves (deeper g.for_ c.args.depth c.args.self.now c.bump-token.new.self c.bump-token.result refl c.in_ok-inner.ensures.room
    c.requires c.bump-token.ensures.taken c.bump-token.ensures.operators rest) (c.in_ok-var.ensures.reads.leads _))
    ((let z : c.in_ok-inner.inner ≡ suc c.args.depth = c.in_ok-inner.ensures.ok in rw z at c.in_err-body.ensures.reads) _))

pub for_statement-returns-in_err-end-clause-reads : goal.for_statement-returns-in_err-end-clause-reads
for_statement-returns-in_err-end-clause-reads t c =
    let p = err_from_is_err_and c.from_residual-in_err-end.result c.from_residual-in_err-end.ensures.1 in
    rw (p.1, p.2) (λ rest. stops
    (moves (moves (deeper g.for_ c.args.depth c.args.self.now c.bump-token.new.self c.bump-token.result refl c.in_ok-inner.ensures.room
    c.requires c.bump-token.ensures.taken c.bump-token.ensures.operators rest) (c.in_ok-var.ensures.reads.leads _))
    ((let z : c.in_ok-inner.inner ≡ suc c.args.depth = c.in_ok-inner.ensures.ok in rw z at c.in_ok-body.ensures.reads) _))
    (c.in_err-end.ensures.reads _))

pub for_statement-returns-clause-reads : goal.for_statement-returns-clause-reads
for_statement-returns-clause-reads t c =
    rw (view_repeated _, view_for _, c.in_ok-var.ensures.reads.is)
    (λ rest. moves (moves (moves (deeper g.for_ c.args.depth c.args.self.now c.bump-token.new.self c.bump-token.result
    refl c.in_ok-inner.ensures.room c.requires c.bump-token.ensures.taken c.bump-token.ensures.operators rest) (c.in_ok-var.ensures.reads.leads _))
    ((let z : c.in_ok-inner.inner ≡ suc c.args.depth = c.in_ok-inner.ensures.ok in rw z at c.in_ok-body.ensures.reads) _))
    (c.in_ok-end.ensures.reads _))

pub for_statement-returns-clause-shorter : goal.for_statement-returns-clause-shorter
for_statement-returns-clause-shorter t c = let h = c.bump-token.ensures.shorter (is_token g.for_ c.args.self.now c.requires) in omega arith

-- ---- a statement

pub statement-for_statement-requires : goal.statement-for_statement-requires
statement-for_statement-requires t c = (omega arith, at_second c.args.edition (tokens_at c.args.self.now) (sym c.at_loop.ensures ∙ c.if-at_loop.true))

pub statement-returns-then-at_loop-clause-reads : goal.statement-returns-then-at_loop-clause-reads
statement-returns-then-at_loop-clause-reads t c =
    rw (second_at c.args.edition (tokens_at c.args.self.now) (sym c.at_loop.ensures ∙ c.if-at_loop.true)) (λ rest. c.for_statement.ensures.reads rest)

pub statement-use_statement-requires : goal.statement-use_statement-requires
statement-use_statement-requires t c = sym c.look.ensures ∙ c.in-Word.is

pub statement-wire_statement-requires : goal.statement-wire_statement-requires
statement-wire_statement-requires t c = sym c.look.ensures ∙ c.in-Wire.is

pub statement-returns-in_err-part-in-Word-clause-reads : goal.statement-returns-in_err-part-in-Word-clause-reads
statement-returns-in_err-part-in-Word-clause-reads t c = let p = err_from_is_err_and c.from_residual.result c.from_residual.ensures.1 in
    rw (p.1, p.2) (λ rest. c.in_err-part-in-Word.ensures.reads c.args.edition c.args.depth rest (sym c.at_loop.ensures ∙ c.if-at_loop.false))

pub statement-returns-in_ok-part-in-Word-clause-reads : goal.statement-returns-in_ok-part-in-Word-clause-reads
statement-returns-in_ok-part-in-Word-clause-reads t c = rw (view_use _) (λ rest. c.in_ok-part-in-Word.ensures.reads c.args.edition c.args.depth rest (sym c.at_loop.ensures ∙ c.if-at_loop.false))

pub statement-returns-in_err-wire-in-Wire-clause-reads : goal.statement-returns-in_err-wire-in-Wire-clause-reads
statement-returns-in_err-wire-in-Wire-clause-reads t c = let p = err_from_is_err_and c.from_residual-in_err-wire-in-Wire.result
    c.from_residual-in_err-wire-in-Wire.ensures.1 in rw (p.1, p.2) (λ rest. c.in_err-wire-in-Wire.ensures.reads c.args.edition c.args.depth rest)

pub statement-returns-in_ok-wire-in-Wire-clause-reads : goal.statement-returns-in_ok-wire-in-Wire-clause-reads
statement-returns-in_ok-wire-in-Wire-clause-reads t c = rw (view_wire _) (λ rest. c.in_ok-wire-in-Wire.ensures.reads c.args.edition c.args.depth rest)

pub statement-returns-in_err-choice-in-If-clause-reads : goal.statement-returns-in_err-choice-in-If-clause-reads
statement-returns-in_err-choice-in-If-clause-reads t c = let p = err_from_is_err_and c.from_residual-in_err-choice-in-If.result
    c.from_residual-in_err-choice-in-If.ensures.1 in rw (p.1, p.2) (λ rest. c.in_err-choice-in-If.ensures.reads rest)

pub statement-returns-in_ok-choice-in-If-clause-reads : goal.statement-returns-in_ok-choice-in-If-clause-reads
statement-returns-in_ok-choice-in-If-clause-reads t c = λ rest. c.in_ok-choice-in-If.ensures.reads rest

pub statement-returns-in_default : goal.statement-returns-in_default
statement-returns-in_default t c =
    record {
      reads = rw c.refused.ensures
          (λ rest. stuck (g.Statement c.args.edition) c.args.depth c.args.self.now (ap (choice (g.Statement c.args.edition)) (sym c.look.ensures) ∙ none.no_statement c.args.edition c.look.result
          c.in_default.not-Word c.in_default.not-Wire c.in_default.not-If) refl rest);
      shorter = tt;
      no_longer = omega arith;
    }

pub statements-each-init : goal.statements-each-init
statements-each-init t c = record { reads = rw c.new-all.ensures.items (λ rest. stays (ahead c.args.self.now (group (g.Statements c.args.edition) c.args.depth ∷ rest))); no_longer = omega arith }

pub statements-returns-in_err-next-clause-reads : goal.statements-returns-in_err-next-clause-reads
statements-returns-in_err-next-clause-reads t c =
    let p = err_from_is_err_and c.from_residual.result c.from_residual.ensures.1 in
    rw (p.1, p.2) (λ rest. stops (moves (c.each.invariant.reads rest)
    (leads_some (g.Statements c.args.edition) c.args.depth c.each.self refl (sym c.at_statement.ensures ∙ (cc)) _)) (c.in_err-next.ensures.reads _))

pub statements-each-preserved : goal.statements-each-preserved
statements-each-preserved t c =
    record {
      reads = rw c.in_ok-put.ensures
          (λ rest. reshaped _ (moves (moves (c.each.invariant.reads rest) (leads_some (g.Statements c.args.edition) c.args.depth c.each.self refl (sym c.at_statement.ensures
          ∙ (cc)) _)) (c.in_ok-next.ensures.reads _)) (λ v. ap (λ ss. (ss, v.1)) (statements_more c.each.all.items _ v.0)));
      no_longer = omega arith;
    }

pub statements-returns-clause-reads : goal.statements-returns-clause-reads
statements-returns-clause-reads t c =
    λ rest. reshaped _ (moves (c.each.invariant.reads rest)
    (lacking (g.Statements c.args.edition) c.args.depth c.each.self tree.nil (none_some (choice (g.Statement c.args.edition) (first_terminal (tokens_at c.each.self)))
    (sym c.at_statement.ensures ∙ (cc))) refl rest)) (λ v. ap (λ ss. (ss, v)) (statements_all (map tree.statement_of c.each.all.items)))

pub otherwise-returns-then-not-starts-clause-reads : goal.otherwise-returns-then-not-starts-clause-reads
otherwise-returns-then-not-starts-clause-reads t c = λ rest. left_out (g.Otherwise c.args.edition) c.args.depth
    c.args.self.now tree.no_else (none.no_otherwise c.args.edition (first_terminal (tokens_at c.args.self.now)) (c.starts.ensures.no (cc))) refl rest

pub otherwise-returns-in_err-no-clause-reads : goal.otherwise-returns-in_err-no-clause-reads
otherwise-returns-in_err-no-clause-reads t c = let p =
    err_from_is_err_and c.from_residual.result c.from_residual.ensures.1 in
    rw (p.1, p.2) (λ rest. stops (plainly (g.else_ {v = c.args.edition}) c.args.depth c.args.self.now c.bump.new.self c.bump.result
    refl (c.starts.ensures.yes (cc)) c.bump.ensures.taken c.bump.ensures.operators rest) (c.in_err-no.ensures.reads _))

pub otherwise-returns-clause-reads : goal.otherwise-returns-clause-reads
otherwise-returns-clause-reads t c =
    λ rest. moves (plainly (g.else_ {v = c.args.edition}) c.args.depth c.args.self.now c.bump.new.self c.bump.result
    refl (c.starts.ensures.yes (cc)) c.bump.ensures.taken c.bump.ensures.operators rest) (c.in_ok-no.ensures.reads _)
