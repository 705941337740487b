-- FOR, value by value: what the values that are left do is what the whole does.
use Rattle.std.proofs.Common.{◌≡◌, ℕ, zero, suc, ◌-◌, List, [], ◌∷◌, ℤ, pos, negsuc, ◌+ℤ◌, ◌-ℤ◌, ◌<ℤ◌, Option, Result, Ok, Err, refl, ap, sym, ◌∙◌, subst, arith}
use Rattle.std.proofs.lemmas.Int.{ints}
use Rattle.std.proofs.lemmas.List.{append-nil}
use borrow.Author.Differences.{up, down}
use Rattle.scald_base.specs.declared.refusal.Place.{Place}
use Rattle.scald_base.specs.declared.refusal.Stop.{Stop}
use Rattle.drawing_tree.specs.Expression.{expression_of}
use Rattle.flat_circuit.specs.Name.{Name}
use Rattle.drawing_tree.specs.declared.statement.ForStmt.{ForStmt}
use Rattle.drawing_tree.specs.Tree.{Statement, Use, Wire, If, For, Macro, statements_of, for_of}
use Rattle.drawing_tree.proofs.Views.{view_for}
use Rattle.macro_expander.specs.declared.expansion.Expansion.{Expansion}
use Rattle.macro_expander.specs.declared.scope.Scope as numbered_scope
use Rattle.macro_expander.specs.Named.{State}
use Rattle.macro_expander.specs.Outcome.{Outcome, Fails, Judged, judged, each}
use Rattle.macro_expander.specs.Steps.{IsJudgedRefusal}
use Rattle.macro_expander.specs.Terms.{Scope}
use Rattle.macro_expander.specs.Setting.{Setting}
use Rattle.macro_expander.specs.Loops.{count_of, in_turn, loop_ends, values_between}
use Rattle.macro_expander.specs.Flat.{Act, counted, turn_act, statement_act, statements_act}
use Rattle.macro_expander.specs.Numbered.{Failed, GivesDone, DoneAt, ScopeExists, Grows, scope_of, names_in, state_of}
use Rattle.macro_expander.specs.Statements.{uncounted_act, Reached, WentTurns, turned_scope}
use Rattle.macro_expander.proofs.Nets.{grows_refl, grows_trans}
use Rattle.macro_expander.proofs.PrimitiveUses.{done_later}

-- ---- values

count_is : (z : ℤ) → count_of z ≡ up z - down z
count_is (pos n) = omega arith
count_is (negsuc n) = omega arith

counts_down : (v last : ℤ) → v <ℤ last →
    count_of ((last +ℤ pos 1) -ℤ v) ≡ suc (count_of ((last +ℤ pos 1) -ℤ (v +ℤ pos 1)))
counts_down v last h = omega (arith, ints, count_is)

-- below the last value, the values are this one and those from the next on
pub values_more : (v last : ℤ) → v <ℤ last →
    values_between v last ≡ v ∷ values_between (v +ℤ pos 1) last
values_more v last h = rw (counts_down v last h) refl

counts_one : (last : ℤ) → count_of ((last +ℤ pos 1) -ℤ last) ≡ suc zero
counts_one last = omega (arith, ints, count_is)

pub values_one : (last : ℤ) → values_between last last ≡ last ∷ []
values_one last = rw (counts_one last) refl

counts_none : (first last : ℤ) → last <ℤ first → count_of ((last +ℤ pos 1) -ℤ first) ≡ zero
counts_none first last h = omega (arith, ints, count_is)

pub values_none : (first last : ℤ) → last <ℤ first → values_between first last ≡ []
values_none first last h = rw (counts_none first last h) refl

-- ---- the whole of a FOR

-- the body of a FOR for one value
abbrev pub one_turn : Setting → Option (Macro → Act) → ForStmt → Scope → ℤ → State →
    Outcome (Unit {0})
one_turn setting below loop scope v =
    let body = statements_act setting below (statements_of loop.body.items) in
    turn_act loop.var loop.place body v scope

abbrev ends_in : Scope → ForStmt → Judged (ℤ × ℤ)
ends_in scope loop = loop_ends scope.env (expression_of loop.first) (expression_of loop.last)

module _ (setting : Setting) (below : Option (Macro → Act)) (loop : ForStmt) (scope : Scope)
    (e : Expansion) where
  abbrev pub the_for : Outcome (Unit {0})
  the_for = uncounted_act setting below (for_of loop) scope (state_of e)

  for_is : the_for ≡ judged (ends_in scope loop) loop.place (λ ends.
      each (one_turn setting below loop scope) (values_between ends.0 ends.1) (state_of e))
  for_is =
      ap (λ (x : Statement). uncounted_act setting below x scope (state_of e)) (view_for loop)

  pub for_refused : (stop : Stop) → IsJudgedRefusal loop.place stop (ends_in scope loop) →
      Failed stop the_for
  for_refused stop h = record { agrees = λ r is. for_is ∙ rw (h.agrees r is, sym (h.here r is)) refl }

  module _ (a b : ℤ) (are : ends_in scope loop ≡ Ok (a, b)) where
    pub for_none : b <ℤ a → GivesDone e e the_for
    for_none h = record { is = for_is ∙ rw (are, values_none a b h) refl; grows = grows_refl e }

    pub turns_begun : WentTurns (one_turn setting below loop scope) e the_for a b e
    turns_begun = record { agrees = sym (for_is ∙ rw are refl); grows = grows_refl e }

-- ---- value by value

module _ (step : ℤ → State → Outcome (Unit {0})) (start : Expansion) (want : Outcome (Unit {0}))
    (last : ℤ) (e : Expansion) where
  -- what the values from one on do
  abbrev from : ℤ → State → Outcome (Unit {0})
  from v s = each step (values_between v last) s

  pub turns_more : (v : ℤ) (f : Expansion) → v <ℤ last → GivesDone e f (step v (state_of e)) →
      WentTurns step start want v last e → WentTurns step start want (v +ℤ pos 1) last f
  turns_more v f h g w =
      let next : from (v +ℤ pos 1) (state_of f) ≡ from v (state_of e) =
      rw (values_more v last h, g.is) refl in
      record { agrees = next ∙ w.agrees; grows = grows_trans start e f w.grows g.grows }

  pub turns_failed : (v : ℤ) (stop : Stop) → v <ℤ last → Failed stop (step v (state_of e)) →
      WentTurns step start want v last e → Failed stop want
  turns_failed v stop h g w = record {
    agrees = λ r is.
        let failed : from v (state_of e) ≡ Fails r.kind r.place =
        rw (values_more v last h, g.agrees r is) refl in
        sym w.agrees ∙ failed;
  }

  alone : (v : ℤ) (r : Result (Unit {0}) Stop) (f : Expansion) →
      DoneAt e f r (step v (state_of e)) → DoneAt e f r (each step (v ∷ []) (state_of e))
  alone v (Ok done) f g = record { is = rw g.is refl; grows = g.grows }
  alone v (Err stop) f g = record { agrees = λ r is. rw (g.agrees r is) refl }

  -- the last value is all that is left
  pub turns_done : (v : ℤ) (r : Result (Unit {0}) Stop) (f : Expansion) → v ≡ last →
      DoneAt e f r (step v (state_of e)) → WentTurns step start want v last e → DoneAt start f r want
  turns_done v r f same g w =
      let one : values_between v last ≡ v ∷ [] = rw same (values_one last) in
      let only : from v (state_of e) ≡ each step (v ∷ []) (state_of e) =
      ap (λ (vs : List ℤ). each step vs (state_of e)) one in
      done_later start e f r (each step (v ∷ []) (state_of e)) want w.grows (sym w.agrees ∙ only)
      (alone v r f g)

-- ---- counted

-- a step after one statement more is reached
pub counted_done : (place : Place) (act : Act) (scope : Scope) (e e1 f : Expansion)
    (r : Result (Unit {0}) Stop) → Reached e e1 → DoneAt e1 f r (act scope (state_of e1)) →
    DoneAt e f r (counted place act scope (state_of e))
counted_done place act scope e e1 f r reached h =
    let is : counted place act scope (state_of e) ≡ act scope (state_of e1) =
    rw (reached.is, reached.room) refl in
    let grows : Grows e e1 = rw reached.is (record {
      more = [];
      names = sym (append-nil (names_in e));
      header = refl;
      statements = omega arith;
    }) in
    done_later e e1 f r (act scope (state_of e1)) (counted place act scope (state_of e)) grows is h

module _ (setting : Setting) (below : Option (Macro → Act)) where
  abbrev rest : Statement → Act
  rest x = uncounted_act setting below x

  counted_act : (x : Statement) (scope : Scope) (e e1 f : Expansion)
      (r : Result (Unit {0}) Stop) → Reached e e1 → DoneAt e1 f r (rest x scope (state_of e1)) →
      DoneAt e f r (statement_act setting below x scope (state_of e))
  counted_act (Use u) scope e e1 f r reached h =
      counted_done u.place (rest (Use u)) scope e e1 f r reached h
  counted_act (Wire w) scope e e1 f r reached h =
      counted_done w.place (rest (Wire w)) scope e e1 f r reached h
  counted_act (If test taken other place) scope e e1 f r reached h =
      counted_done place (rest (If test taken other place)) scope e e1 f r reached h
  counted_act (For var first last ss place) scope e e1 f r reached h =
      counted_done place (rest (For var first last ss place)) scope e e1 f r reached h

  -- a FOR, once it is counted
  pub for_done : (x : Statement) (loop : ForStmt) (s : numbered_scope.Scope) (e e1 f : Expansion)
      (r : Result (Unit {0}) Stop) → x ≡ for_of loop → Reached e e1 →
      DoneAt e1 f r (rest (for_of loop) (scope_of (names_in e1) s) (state_of e1)) →
      DoneAt e f r (statement_act setting below x (scope_of (names_in e) s) (state_of e))
  for_done x loop s e e1 f r is reached h =
      let scope = scope_of (names_in e) s in
      let same : names_in e1 ≡ names_in e = ap (λ (d : Expansion). d.builder.names) reached.is in
      let done = subst (λ (names : List Name).
      DoneAt e1 f r (rest (for_of loop) (scope_of names s) (state_of e1))) same h in
      subst (λ (y : Statement). DoneAt e f r (statement_act setting below y scope (state_of e)))
      (sym is) (counted_act (for_of loop) scope e e1 f r reached done)

-- ---- scopes

-- a scope in its turn is that of the names, and its nets exist
pub turn_is : (names : List Name) (var : List ℕ) (v : ℤ) (s : numbered_scope.Scope) →
    scope_of names (turned_scope var v s) ≡ in_turn var v (scope_of names s)
turn_is names var v s = refl

pub turn_exists : (nets : ℕ) (var : List ℕ) (v : ℤ) (s inner : numbered_scope.Scope) →
    inner ≡ turned_scope var v s → ScopeExists nets s → ScopeExists nets inner
turn_exists nets var v s inner is x = rw is (record { formals = x.formals })
