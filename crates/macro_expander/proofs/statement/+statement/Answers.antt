use Rattle.std.proofs.Common.{◌≡◌, ◌≢◌, ℕ, ℤ, pos, ◌+ℤ◌, ◌<ℤ◌, List, Option, Some, None, to_z, of_z, w64, sym, ap, ◌∙◌, subst, arith}
use Rattle.std.proofs.lemmas.Int.{ints}
use borrow.Author.Gap.{gap_up, read_sfits}
use Rattle.std.specs.Str.{bytes_eq}
use Rattle.std.proofs.lemmas.Result.{err_from_is_err_and}
use Rattle.scald_base.specs.Time.{Header}
use Rattle.element_kinds.specs.declared.kind.Kind.{Kind}
use Rattle.element_kinds.specs.Kinds.{kind_of}
use Rattle.scald_base.specs.declared.refusal.RefusalKind.TheVariants.{TooDeep, UnknownKind}
use Rattle.drawing_tree.specs.Tree.{statement_of, statements_of, for_of, macro_of, use_of, Macro}
use Rattle.drawing_tree.proofs.Views.{view_repeated}
use Rattle.macro_expander.specs.Terms.{Scope}
use Rattle.macro_expander.specs.Primitives.{primitive_use}
use Rattle.macro_expander.specs.Macros.{macro_of as first_called}
use Rattle.macro_expander.specs.Flat.{use_act, macro_use}
use Rattle.macro_expander.specs.Fitting.{StatementFits, MacroFits}
use Rattle.macro_expander.specs.Library.{macros_in, setting_in}
use Rattle.macro_expander.specs.Numbered.{Failed, GivesDone, DoneAt, scope_of, names_in, nets_in, state_of}
use Rattle.macro_expander.specs.Statements.{bodies_in, statements_in, statement_in}
use Rattle.macro_expander.proofs.Nets.{grows_refl}
use Rattle.macro_expander.proofs.Gathered.{scope_stays, scope_exists_stays}
use Rattle.macro_expander.proofs.PrimitiveUses.{done_later, failed_so}
use Rattle.macro_expander.proofs.Statements.{library_stays, item_fits, through_more, through_failed, primitive_act, macro_act, found_is, macro_too_deep, macro_cut, macro_done}
use Rattle.macro_expander.proofs.Turns.{one_turn, the_for, for_refused, for_none, turns_begun, turns_more, turns_failed, turns_done, turn_exists, for_done}
use Rattle.macro_expander.proofs.statement.+statement.Goals as goal

pub body-one-requires : goal.body-one-requires
body-one-requires t c =
    let start = c.args.expansion.now in
    let grows = c.statements.invariant.grows in (
      omega (arith, c.decreases, grows.statements),
      (
        library_stays start.builder.header c.statements.expansion.builder.header c.args.library.now grows.header c.requires.library,
        (
          subst (λ (h : Header). StatementFits h (statement_of c.statement-item.result)) (sym grows.header) (item_fits start.builder.header
              c.args.statements.now c.statements.statement-index c.statement-item.result c.requires.fits c.statements-test.true c.statement-item.is),
          scope_exists_stays start c.statements.expansion c.args.scope.now grows c.requires.exists,
        ),
      ),
    )

pub body-returns-in_err-one : goal.body-returns-in_err-one
body-returns-in_err-one t c =
    let start = c.args.expansion.now in
    let e = c.statements.expansion in
    let l = c.args.library.now in
    let all = c.args.statements.now in
    let x = c.statement-item.result in
    let scope = scope_of (names_in start) c.args.scope.now in
    let p = err_from_is_err_and c.from_residual.result c.from_residual.ensures.1 in
    rw (p.1, p.2) (through_failed (setting_in l) (bodies_in l c.args.levels) scope start (statements_in l c.args.levels (statements_of all)
    scope (state_of start)) all c.statements.statement-index e x c.statements-test.true c.statement-item.is c.in_err-one.field-0.0
    (subst (λ (z : Scope). Failed c.in_err-one.field-0.0 (statement_in l c.args.levels (statement_of x) z (state_of e)))
    (scope_stays start e c.args.scope.now c.statements.invariant.grows c.requires.exists) c.in_err-one.ensures)
    c.statements.invariant)

pub body-statements-preserved : goal.body-statements-preserved
body-statements-preserved t c =
    let start = c.args.expansion.now in
    let e = c.statements.expansion in
    let l = c.args.library.now in
    let all = c.args.statements.now in
    let x = c.statement-item.result in
    let scope = scope_of (names_in start) c.args.scope.now in
    through_more (setting_in l) (bodies_in l c.args.levels) scope start (statements_in l c.args.levels (statements_of all)
    scope (state_of start)) all c.statements.statement-index e x c.statements-test.true c.statement-item.is c.one.new.expansion
    (subst (λ (z : Scope). GivesDone e c.one.new.expansion (statement_in l c.args.levels (statement_of x) z (state_of e)))
    (scope_stays start e c.args.scope.now c.statements.invariant.grows c.requires.exists) c.in_ok-one.ensures)
    c.statements.invariant

pub expand_macro-returns-then-levels-eq0 : goal.expand_macro-returns-then-levels-eq0
expand_macro-returns-then-levels-eq0 t c =
    let l = c.args.library.now in
    failed_so c.refused.result _ TooDeep c.args.used.now.place c.refused.ensures
    (macro_too_deep (setting_in l) c.args.levels c.args.expansion.now c.args.scope.now
    (macro_of c.args.definition.now) (use_of c.args.used.now) c.in_ok-given.given c.in_ok-given.ensures c.if-levels-eq0.true)

pub expand_macro-returns-in_err-inner : goal.expand_macro-returns-in_err-inner
expand_macro-returns-in_err-inner t c =
    let l = c.args.library.now in
    let deep : c.args.levels ≢ 0 = omega arith in
    let p = err_from_is_err_and c.from_residual-in_err-inner.result c.from_residual-in_err-inner.ensures.1 in
    rw (p.1, p.2) (macro_cut (setting_in l) c.args.levels c.args.expansion.now c.args.scope.now (macro_of c.args.definition.now)
    (use_of c.args.used.now) c.in_ok-given.given c.in_ok-given.ensures deep c.in_err-inner.field-0.0 c.in_err-inner.ensures)

pub expand_macro-returns : goal.expand_macro-returns
expand_macro-returns t c =
    let l = c.args.library.now in
    let deep : c.args.levels ≢ 0 = omega arith in
    let done = rw c.deref.ensures.value at c.body.ensures in
    macro_done (setting_in l) c.args.levels c.args.expansion.now c.args.scope.now (macro_of c.args.definition.now) (use_of c.args.used.now)
    c.in_ok-given.given c.in_ok-given.ensures deep c.inner_scope.new.expansion
    c.body.new.expansion c.in_ok-inner.inner c.body.result c.in_ok-inner.ensures done

pub expand_use-returns-in-Some : goal.expand_use-returns-in-Some
expand_use-returns-in-Some t c =
    let l = c.args.library.now in
    let e = c.args.expansion.now in
    let below = bodies_in l c.args.levels in
    let scope = scope_of (names_in e) c.args.scope.now in
    let u = use_of c.args.used.now in
    let known = subst (λ (name : List ℕ). Some c.in-Some.kind ≡ kind_of name) c.as_slice.ensures c.in-Some.ensures in
    done_later e e c.primitive_use.new.expansion c.primitive_use.result
    (primitive_use (setting_in l) c.in-Some.kind scope u (state_of e)) (use_act (setting_in l) below u scope (state_of e)) (grows_refl e)
    (primitive_act (setting_in l) below u scope (state_of e) c.in-Some.kind known) c.primitive_use.ensures

pub expand_use-expand_macro-requires : goal.expand_use-expand_macro-requires
expand_use-expand_macro-requires t c =
    let l = c.args.library.now in
    let first = subst (λ (name : List ℕ). Some (macro_of c.in-Some-find.definition.now) ≡ first_called name (macros_in l)) c.as_slice-2.ensures c.in-Some-find.ensures in (
      omega (arith, c.decreases),
      (
        c.requires.library,
        (
          found_is (MacroFits c.args.expansion.now.builder.header) (λ (m : Macro). bytes_eq m.name c.args.used.now.kind)
              (macros_in l) (macro_of c.in-Some-find.definition.now) c.requires.library.fit first,
          (c.requires.fits, c.requires.exists),
        ),
      ),
    )

pub expand_use-returns-in-Some-find : goal.expand_use-returns-in-Some-find
expand_use-returns-in-Some-find t c =
    let l = c.args.library.now in
    let e = c.args.expansion.now in
    let below = bodies_in l c.args.levels in
    let scope = scope_of (names_in e) c.args.scope.now in
    let u = use_of c.args.used.now in
    let m = macro_of c.in-Some-find.definition.now in
    let unknown = subst (λ (name : List ℕ). let none : Option Kind = None in none ≡ kind_of name) c.as_slice.ensures c.in_default.ensures in
    let first = subst (λ (name : List ℕ). Some m ≡ first_called name (macros_in l)) c.as_slice-2.ensures c.in-Some-find.ensures in
    done_later e e c.expand_macro.new.expansion c.expand_macro.result
    (macro_use (setting_in l) below (Some m) u scope (state_of e))
    (use_act (setting_in l) below u scope (state_of e)) (grows_refl e)
    (macro_act (setting_in l) below u scope (state_of e) (Some m) unknown first) c.expand_macro.ensures

pub expand_use-returns-in-None : goal.expand_use-returns-in-None
expand_use-returns-in-None t c =
    let l = c.args.library.now in
    let e = c.args.expansion.now in
    let below = bodies_in l c.args.levels in
    let scope = scope_of (names_in e) c.args.scope.now in
    let u = use_of c.args.used.now in
    let unknown = subst (λ (name : List ℕ). let none : Option Kind = None in none ≡ kind_of name) c.as_slice.ensures c.in_default.ensures in
    let nowhere = subst (λ (name : List ℕ). let none : Option Macro = None in none ≡ first_called name (macros_in l)) c.as_slice-2.ensures c.in-None.ensures in
    failed_so c.refused.result (use_act (setting_in l) below u scope (state_of e)) UnknownKind c.args.used.now.place c.refused.ensures
    (macro_act (setting_in l) below u scope (state_of e) None unknown nowhere)

-- ---- FOR

pub one-returns-in-For : goal.one-returns-in-For
one-returns-in-For t c =
    let l = c.args.library.now in
    for_done (setting_in l) (bodies_in l c.args.levels) (statement_of c.args.statement.now) c.in-For.repeated c.args.scope.now
    c.args.expansion.now c.count.new.expansion c.expand_for.new.expansion c.expand_for.result
    (ap statement_of c.in-For.is ∙ view_repeated c.in-For.repeated) c.in_ok-count.ensures.reached c.expand_for.ensures

pub expand_for-returns-in_err-ends : goal.expand_for-returns-in_err-ends
expand_for-returns-in_err-ends t c =
    let l = c.args.library.now in
    let p = err_from_is_err_and c.from_residual.result c.from_residual.ensures.1 in
    rw (p.1, p.2) (for_refused (setting_in l) (bodies_in l c.args.levels) c.args.repeated.now (scope_of (names_in c.args.expansion.now) c.args.scope.now)
    c.args.expansion.now c.in_err-ends.field-0.0 c.in_err-ends.ensures)

pub expand_for-returns-then-first-last : goal.expand_for-returns-then-first-last
expand_for-returns-then-first-last t c =
    let l = c.args.library.now in
    let above : c.in_ok-ends.ends.1 <ℤ c.in_ok-ends.ends.0 = omega (arith, ints, c.if-first-last.true) in
    for_none (setting_in l) (bodies_in l c.args.levels) c.args.repeated.now (scope_of (names_in c.args.expansion.now) c.args.scope.now)
    c.args.expansion.now c.in_ok-ends.ends.0 c.in_ok-ends.ends.1 c.in_ok-ends.ensures above

pub expand_for-turns-init : goal.expand_for-turns-init
expand_for-turns-init t c =
    let l = c.args.library.now in
    let first : to_z w64 (of_z w64 c.in_ok-ends.ends.0) ≡ c.in_ok-ends.ends.0 = omega (arith, ints) in
    let last : to_z w64 (of_z w64 c.in_ok-ends.ends.1) ≡ c.in_ok-ends.ends.1 = omega (arith, ints) in
    record {
      went =
          rw (first, last) (turns_begun (setting_in l) (bodies_in l c.args.levels) c.args.repeated.now (scope_of (names_in c.args.expansion.now) c.args.scope.now)
          c.args.expansion.now c.in_ok-ends.ends.0 c.in_ok-ends.ends.1 c.in_ok-ends.ensures);
      inner = c.in_ok-inner.ensures;
      within = omega (arith, ints, c.if-first-last.false);
    }

pub expand_for-turns-smaller : goal.expand_for-turns-smaller
expand_for-turns-smaller t c =
    let v : ℤ = to_z w64 c.turns.value-bits in
    let last : ℤ = to_z w64 (of_z w64 c.in_ok-ends.ends.1) in
    gap_up w64 v last c.turns-test.true (read_sfits w64 c.turns.value-bits) (read_sfits w64 (of_z w64 c.in_ok-ends.ends.1))

pub expand_for-turn-requires : goal.expand_for-turn-requires
expand_for-turn-requires t c =
    let start = c.args.expansion.now in
    let went = c.turns.invariant in
    let grows = went.went.grows in (
      omega (arith, c.decreases, grows.statements),
      (
        library_stays start.builder.header c.turns.expansion.builder.header c.args.library.now grows.header c.requires.library,
        (
          subst (λ (h : Header). StatementFits h (for_of c.args.repeated.now)) (sym grows.header) c.requires.fits,
          turn_exists (nets_in c.turns.expansion) c.args.repeated.now.var (to_z w64 c.turns.value-bits) c.args.scope.now c.turns.inner went.inner
              (scope_exists_stays start c.turns.expansion c.args.scope.now grows c.requires.exists),
        ),
      ),
    )

pub expand_for-returns-in_err-turn : goal.expand_for-returns-in_err-turn
expand_for-returns-in_err-turn t c =
    let start = c.args.expansion.now in
    let e = c.turns.expansion in
    let l = c.args.library.now in
    let loop = c.args.repeated.now in
    let went = c.turns.invariant in
    let scope = scope_of (names_in start) c.args.scope.now in
    let v : ℤ = to_z w64 c.turns.value-bits in
    let last : ℤ = to_z w64 (of_z w64 c.in_ok-ends.ends.1) in
    let below : v <ℤ last = omega (arith, ints, c.turns-test.true) in
    let p = err_from_is_err_and c.from_residual-in_err-turn.result c.from_residual-in_err-turn.ensures.1 in
    rw (p.1, p.2) (turns_failed (one_turn (setting_in l) (bodies_in l c.args.levels) loop scope) start
    (the_for (setting_in l) (bodies_in l c.args.levels) loop scope start) last e v c.in_err-turn.field-0.0 below
    (subst (λ (z : Scope). Failed c.in_err-turn.field-0.0 (one_turn (setting_in l) (bodies_in l c.args.levels) loop z v (state_of e)))
    (scope_stays start e c.args.scope.now went.went.grows c.requires.exists) (rw went.inner at c.in_err-turn.ensures))
    went.went)

pub expand_for-returns-in_err-turn_to : goal.expand_for-returns-in_err-turn_to
expand_for-returns-in_err-turn_to t c =
    let p = err_from_is_err_and c.from_residual-in_err-turn_to.result c.from_residual-in_err-turn_to.ensures.1 in
    rw (p.1, p.2) (record { agrees = λ r is. absurd (cc) })

pub expand_for-turns-preserved : goal.expand_for-turns-preserved
expand_for-turns-preserved t c =
    let start = c.args.expansion.now in
    let e = c.turns.expansion in
    let l = c.args.library.now in
    let loop = c.args.repeated.now in
    let went = c.turns.invariant in
    let scope = scope_of (names_in start) c.args.scope.now in
    let v : ℤ = to_z w64 c.turns.value-bits in
    let last : ℤ = to_z w64 (of_z w64 c.in_ok-ends.ends.1) in
    let below : v <ℤ last = omega (arith, ints, c.turns-test.true) in
    let next : to_z w64 (of_z w64 (v +ℤ pos 1)) ≡ v +ℤ pos 1 = omega (arith, ints) in
    record {
      went =
          rw next (turns_more (one_turn (setting_in l) (bodies_in l c.args.levels) loop scope) start
          (the_for (setting_in l) (bodies_in l c.args.levels) loop scope start) last e v c.turn.new.expansion below
          (subst (λ (z : Scope). GivesDone e c.turn.new.expansion (one_turn (setting_in l) (bodies_in l c.args.levels) loop z v (state_of e)))
          (scope_stays start e c.args.scope.now went.went.grows c.requires.exists) (rw went.inner at c.in_ok-turn.ensures))
          went.went);
      inner = c.in_ok-turn_to.ensures;
      within = omega (arith, ints);
    }

pub expand_for-turn_to-requires : goal.expand_for-turn_to-requires
expand_for-turn_to-requires t c = record { value = to_z w64 c.turns.value-bits; is = c.turns.invariant.inner }

pub expand_for-turn-requires-2 : goal.expand_for-turn-requires-2
expand_for-turn-requires-2 t c =
    let start = c.args.expansion.now in
    let went = c.turns.invariant in
    let grows = went.went.grows in (
      omega (arith, c.decreases, grows.statements),
      (
        library_stays start.builder.header c.turns.expansion.builder.header c.args.library.now grows.header c.requires.library,
        (
          subst (λ (h : Header). StatementFits h (for_of c.args.repeated.now)) (sym grows.header) c.requires.fits,
          turn_exists (nets_in c.turns.expansion) c.args.repeated.now.var (to_z w64 c.turns.value-bits) c.args.scope.now c.turns.inner went.inner
              (scope_exists_stays start c.turns.expansion c.args.scope.now grows c.requires.exists),
        ),
      ),
    )

pub expand_for-returns : goal.expand_for-returns
expand_for-returns t c =
    let start = c.args.expansion.now in
    let e = c.turns.expansion in
    let l = c.args.library.now in
    let loop = c.args.repeated.now in
    let went = c.turns.invariant in
    let scope = scope_of (names_in start) c.args.scope.now in
    let v : ℤ = to_z w64 c.turns.value-bits in
    let last : ℤ = to_z w64 (of_z w64 c.in_ok-ends.ends.1) in
    let at_last : v ≡ last = omega (arith, ints, c.turns-test.false, went.within) in
    turns_done (one_turn (setting_in l) (bodies_in l c.args.levels) loop scope) start
    (the_for (setting_in l) (bodies_in l c.args.levels) loop scope start) last e v c.turn-2.result c.turn-2.new.expansion at_last
    (subst (λ (z : Scope). DoneAt e c.turn-2.new.expansion c.turn-2.result (one_turn (setting_in l) (bodies_in l c.args.levels) loop z v (state_of e)))
    (scope_stays start e c.args.scope.now went.went.grows c.requires.exists) (rw went.inner at c.turn-2.ensures))
    went.went
