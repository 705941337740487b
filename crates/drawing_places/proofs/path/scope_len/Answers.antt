use Rattle.std.proofs.Common.{◌≡◌, sym, drop, arith, subst, false}
use Rattle.drawing_places.specs.Path.{has_slash}
use Rattle.drawing_places.proofs.Paths.{all_last, last_from, no_scope, scope_to}
use Rattle.drawing_places.proofs.path.scope_len.Goals as goal

pub returns-else-text-end-ne47-clause-scope : goal.returns-else-text-end-ne47-clause-scope
returns-else-text-end-ne47-clause-scope c =
    scope_to c.args.text.now c.loop-end.end c.loop-end-test.true c.loop-end.invariant.0 c.if-text-end-ne47.false c.loop-end.invariant.1

pub returns-else-text-end-ne47-clause-last : goal.returns-else-text-end-ne47-clause-last
returns-else-text-end-ne47-clause-last c =
    last_from c.args.text.now c.loop-end.end c.loop-end-test.true c.loop-end.invariant.0 c.if-text-end-ne47.false c.loop-end.invariant.1

pub returns-after-loop-end-clause-scope : goal.returns-after-loop-end-clause-scope
returns-after-loop-end-clause-scope c =
    let at_front : c.loop-end.end ≡ 0 = omega arith in
    rw at_front (sym (no_scope c.args.text.now (subst (λ n. has_slash (drop n c.args.text.now) ≡ false) at_front c.loop-end.invariant.1)))

pub returns-after-loop-end-clause-last : goal.returns-after-loop-end-clause-last
returns-after-loop-end-clause-last c =
    let at_front : c.loop-end.end ≡ 0 = omega arith in
    rw at_front (sym (all_last c.args.text.now (subst (λ n. has_slash (drop n c.args.text.now) ≡ false) at_front c.loop-end.invariant.1)))
