use Rattle.std.proofs.Common.{◌≡◌, ℤ, pos, ◌+ℤ◌, ◌<ℤ◌, ◌++◌, List, Some, to_z, of_z, w64, ap, sym, ◌∙◌, arith}
use Rattle.std.proofs.lemmas.Int.{ints}
use borrow.Author.Gap.{gap_up, read_sfits}
use Rattle.std.specs.Result.{result_ok}
use Rattle.std.specs.Str.{bytes_eq}
use Rattle.std.proofs.lemmas.Result.{on_ok_weaker}
use Rattle.drawing_tree.specs.declared.statement.Stmt.{Stmt}
use Rattle.drawing_tree.specs.Tree.{Macro, for_of, macro_of, statements_of, use_of}
use Rattle.macro_expander.specs.Library.{macros_in}
use Rattle.drawing_omissions.specs.declared.spread.Finding.{Finding}
use Rattle.drawing_omissions.specs.Spreads.{inside_at}
use Rattle.drawing_omissions.specs.Walk.{in_one, seen}
use Rattle.drawing_omissions.proofs.SpreadSizes.{found_below, level_smaller, one_smaller, size_of_all}
use Rattle.drawing_omissions.proofs.Turning.{begun, turns_done, turns_more}
use Rattle.drawing_omissions.proofs.Using.{no_body, of_macro, ranges, used_macro}
use Rattle.drawing_omissions.proofs.walk.+walk.Goals as goal

pub in_statements-in_statement-requires : goal.in_statements-in_statement-requires
in_statements-in_statement-requires t c = (
  let less = one_smaller c.args.statements.now c.statements.statement-index c.statement-item.result c.statements-test.true c.statement-item.is in
      omega (arith, c.decreases, less),
  c.requires,
)

-- ---- FOR

pub in_for-turns-init : goal.in_for-turns-init
in_for-turns-init t c =
    let first : to_z w64 (of_z w64 c.in-Ok.ends.0) ≡ c.in-Ok.ends.0 = omega (arith, ints) in
    let last : to_z w64 (of_z w64 c.in-Ok.ends.1) ≡ c.in-Ok.ends.1 = omega (arith, ints) in
    record {
      found_so =
          rw (first, last) (begun c.args.library.now c.args.levels c.args.repeated.now c.args.scope.now c.in-Ok.ends.0 c.in-Ok.ends.1 c.in-Ok.ensures
          (omega (arith, ints, c.if-first-last.false)) c.args.found.now c.add_loop-2.new.found c.in_ok-add_loop.ensures);
      inner = c.in_ok-inner.ensures;
      within = omega (arith, ints, c.if-first-last.false);
    }

pub in_for-turns-smaller : goal.in_for-turns-smaller
in_for-turns-smaller t c =
    let v : ℤ = to_z w64 c.turns.value-bits in
    let last : ℤ = to_z w64 (of_z w64 c.in-Ok.ends.1) in
    gap_up w64 v last c.turns-test.true (read_sfits w64 c.turns.value-bits) (read_sfits w64 (of_z w64 c.in-Ok.ends.1))

pub in_for-turns-preserved : goal.in_for-turns-preserved
in_for-turns-preserved t c =
    let went = c.turns.invariant in
    let v : ℤ = to_z w64 c.turns.value-bits in
    let last : ℤ = to_z w64 (of_z w64 c.in-Ok.ends.1) in
    let below : v <ℤ last = omega (arith, ints, c.turns-test.true) in
    let next : to_z w64 (of_z w64 (v +ℤ pos 1)) ≡ v +ℤ pos 1 = omega (arith, ints) in
    record {
      found_so =
          rw next (turns_more c.args.library.now c.args.levels c.args.repeated.now c.args.scope.now v last c.turns.inner went.inner
          c.turns.found c.in_statements.new.found (c.args.found.now ++ in_one c.args.library.now c.args.levels (for_of c.args.repeated.now) c.args.scope.now)
          went.found_so (rw c.as_slice-body.ensures.value at c.in_ok-in_statements.ensures) below);
      inner = c.in_ok-turn_to.ensures;
      within = omega (arith, ints);
    }

pub in_for-returns : goal.in_for-returns
in_for-returns t c =
    let went = c.turns.invariant in
    let v : ℤ = to_z w64 c.turns.value-bits in
    let last : ℤ = to_z w64 (of_z w64 c.in-Ok.ends.1) in
    let at_last : v ≡ last = omega (arith, ints, c.turns-test.false, went.within) in
    on_ok_weaker c.in_statements-2.result (λ more. turns_done c.args.library.now c.args.levels c.args.repeated.now c.args.scope.now v last c.turns.inner went.inner
    c.turns.found c.in_statements-2.new.found (c.args.found.now ++ in_one c.args.library.now c.args.levels (for_of c.args.repeated.now) c.args.scope.now)
    went.found_so (rw c.as_slice-body.ensures.value at more) at_last) c.in_statements-2.ensures

-- ---- uses

pub in_use-returns-then-levels-eq0 : goal.in_use-returns-then-levels-eq0
in_use-returns-then-levels-eq0 t c =
    let l = c.args.library.now in
    let u = use_of c.args.used.now in
    let m = macro_of c.in-Some-find.definition.now in
    let is : Some c.in-Some-2.inside ≡ result_ok (inside_at l.consts m (seen c.args.scope.now) u) = sym c.in-Some-2.is ∙ c.in_ok-inside.ensures in
    rw (c.as_slice-3.ensures, c.as_slice-4.ensures) at c.in_ok-in_formals.ensures
    ∙ ap (λ (s : List Finding). c.args.found.now ++ s)
    (sym (of_macro l c.args.levels u c.args.scope.now (Some m)
    (rw c.as_slice.ensures at c.in_default.ensures) (rw c.as_slice-2.ensures at c.in-Some-find.ensures)
    ∙ no_body l c.args.levels u c.args.scope.now m c.in-Some-2.inside is c.if-levels-eq0.true))

pub in_use-body_scope-requires-clause-ins : goal.in_use-body_scope-requires-clause-ins
in_use-body_scope-requires-clause-ins t c =
    (ranges c.args.library.now c.args.levels (use_of c.args.used.now) c.args.scope.now (macro_of c.in-Some-find.definition.now) c.in-Some-2.inside
    (sym c.in-Some-2.is ∙ c.in_ok-inside.ensures)).0

pub in_use-body_scope-requires-clause-outs : goal.in_use-body_scope-requires-clause-outs
in_use-body_scope-requires-clause-outs t c =
    (ranges c.args.library.now c.args.levels (use_of c.args.used.now) c.args.scope.now (macro_of c.in-Some-find.definition.now) c.in-Some-2.inside
    (sym c.in-Some-2.is ∙ c.in_ok-inside.ensures)).1

pub in_use-in_statements-requires : goal.in_use-in_statements-requires
in_use-in_statements-requires t c = (
  let l = c.args.library.now in
      let m = macro_of c.in-Some-find.definition.now in
      let first = rw c.as_slice-2.ensures at c.in-Some-find.ensures in
      let below = found_below (λ (x : Macro). bytes_eq x.name c.args.used.now.kind) (macros_in l) m first in
      let same : size_of_all (statements_of c.deref.result.now) ≡ size_of_all m.body = ap (λ (ss : List Stmt). size_of_all (statements_of ss)) c.deref.ensures.value in
      let less = level_smaller l c.args.levels (size_of_all m.body) c.if-levels-eq0.false below in
      omega (arith, c.decreases, less, same),
  c.requires,
)

pub in_use-returns : goal.in_use-returns
in_use-returns t c =
    let l = c.args.library.now in
    let u = use_of c.args.used.now in
    let m = macro_of c.in-Some-find.definition.now in
    let is : Some c.in-Some-2.inside ≡ result_ok (inside_at l.consts m (seen c.args.scope.now) u) = sym c.in-Some-2.is ∙ c.in_ok-inside.ensures in
    let over = rw (c.as_slice-3.ensures, c.as_slice-4.ensures) at c.in_ok-in_formals.ensures in
    let inner = rw c.as_slice-5.ensures at c.in_ok-inner.ensures in
    on_ok_weaker c.in_statements.result (λ more.
    used_macro l c.args.levels u c.args.scope.now m c.in-Some-2.inside is
    (of_macro l c.args.levels u c.args.scope.now (Some m)
    (rw c.as_slice.ensures at c.in_default.ensures) (rw c.as_slice-2.ensures at c.in-Some-find.ensures))
    c.if-levels-eq0.false c.in_ok-inner.inner inner c.args.found.now c.in_formals.new.found c.in_statements.new.found over
    (rw c.deref.ensures.value at more)) c.in_statements.ensures
