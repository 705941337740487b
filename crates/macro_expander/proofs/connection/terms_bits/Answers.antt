use Rattle.std.proofs.Common.{◌≡◌, ◌+◌, map, drop, sym, subst, ap, ◌∙◌, List, arith}
use Rattle.std.proofs.lemmas.Result.{err_from_is_err_and}
use Rattle.vector_names.specs.declared.bits.BitRef.{BitRef}
use Rattle.scald_base.specs.Time.{Header}
use Rattle.drawing_tree.specs.Tree.{term_of}
use Rattle.macro_expander.specs.Fitting.{TermFits}
use Rattle.macro_expander.specs.Terms.{Scope, term_bits, terms_bits}
use Rattle.macro_expander.specs.Numbered.{kept_with, GatheredFront, GivesBits, Failed, scope_of, names_in, state_of}
use Rattle.macro_expander.proofs.Gathered.{next_of, at_of, scope_stays, scope_exists_stays}
use Rattle.macro_expander.proofs.Fronts.{front_more, front_failed}
use Rattle.macro_expander.proofs.connection.terms_bits.Goals as goal

pub term_bits-requires-clause-fits : goal.term_bits-requires-clause-fits
term_bits-requires-clause-fits c =
    at_of (TermFits c.args.expansion.now.builder.header) term_of c.args.terms.now 0 c.only-item.result c.requires.fits (omega arith) c.only-item.is

pub term_bits-requires-in-loop-term-clause-fits : goal.term_bits-requires-in-loop-term-clause-fits
term_bits-requires-in-loop-term-clause-fits c =
    subst (λ (h : Header). TermFits h (term_of c.term-item.result)) (sym c.loop-term.invariant.gathered.grows.header)
    (at_of (TermFits c.args.expansion.now.builder.header) term_of c.args.terms.now c.loop-term.term-index c.term-item.result c.requires.fits c.loop-term-test.true c.term-item.is)

pub term_bits-requires-in-loop-term-clause-exists : goal.term_bits-requires-in-loop-term-clause-exists
term_bits-requires-in-loop-term-clause-exists c = scope_exists_stays c.args.expansion.now c.loop-term.expansion c.args.scope.now c.loop-term.invariant.gathered.grows c.requires.exists

pub returns-in_err-more : goal.returns-in_err-more
returns-in_err-more c =
    let p = err_from_is_err_and c.from_residual-in_err-more.result c.from_residual-in_err-more.ensures.1 in
    let scope = scope_of (names_in c.args.expansion.now) c.args.scope.now in
    let want = terms_bits scope c.args.place (map term_of c.args.terms.now) (state_of c.args.expansion.now) in
    let i = c.loop-term.term-index in
    let x = c.term-item.result in
    rw (p.1, p.2) (front_failed (term_bits scope c.args.place) c.args.expansion.now want (map term_of (drop i c.args.terms.now))
    (map term_of (drop (i + 1) c.args.terms.now)) (term_of x) c.loop-term.bits c.loop-term.expansion
    (next_of term_of c.args.terms.now i x c.loop-term-test.true c.term-item.is) c.in_err-more.field-0.0
    (subst (λ (z : Scope). Failed c.in_err-more.field-0.0 (term_bits z c.args.place (term_of x) (state_of c.loop-term.expansion)))
    (scope_stays c.args.expansion.now c.loop-term.expansion c.args.scope.now c.loop-term.invariant.gathered.grows c.requires.exists)
    c.in_err-more.ensures)
    c.loop-term.invariant)

pub loop-term-preserved : goal.loop-term-preserved
loop-term-preserved c =
    let scope = scope_of (names_in c.args.expansion.now) c.args.scope.now in
    let want = terms_bits scope c.args.place (map term_of c.args.terms.now) (state_of c.args.expansion.now) in
    let i = c.loop-term.term-index in
    let x = c.term-item.result in
    let items : c.keep.new.bits ≡ kept_with c.loop-term.bits c.in_ok-more.more = c.in_ok-keep.ensures ∙ ap (λ (more : List BitRef). kept_with c.loop-term.bits more) c.as_slice.ensures in
    subst (λ (bits : List BitRef). GatheredFront (term_bits scope c.args.place) c.args.expansion.now
    want (map term_of (drop (i + 1) c.args.terms.now)) bits c.term_bits-in-loop-term.new.expansion) (sym items)
    (front_more (term_bits scope c.args.place) c.args.expansion.now want (map term_of (drop i c.args.terms.now))
    (map term_of (drop (i + 1) c.args.terms.now)) (term_of x) c.loop-term.bits c.loop-term.expansion
    (next_of term_of c.args.terms.now i x c.loop-term-test.true c.term-item.is) c.in_ok-more.more c.term_bits-in-loop-term.new.expansion
    (subst (λ (z : Scope). GivesBits c.loop-term.expansion c.term_bits-in-loop-term.new.expansion c.in_ok-more.more
    (term_bits z c.args.place (term_of x) (state_of c.loop-term.expansion))) (scope_stays c.args.expansion.now
    c.loop-term.expansion c.args.scope.now c.loop-term.invariant.gathered.grows c.requires.exists) c.in_ok-more.ensures)
    c.loop-term.invariant)
