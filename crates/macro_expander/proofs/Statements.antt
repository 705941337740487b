-- Statements one after another, and the uses of macros.
use Rattle.std.proofs.Common.{◌≡◌, ◌≢◌, ℕ, zero, suc, ◌+◌, ◌-◌, ◌<◌, Bool, true, false, cond, List, [], ◌∷◌, length, drop, get_or, Option, Some, None, Result, Ok, refl, ap, sym, ◌∙◌, subst, arith}
use Rattle.std.specs.List.{All, find}
use Rattle.std.proofs.lemmas.List.Elements.{All-head, All-tail}
use Rattle.scald_base.specs.Time.{Header}
use Rattle.scald_base.specs.declared.refusal.RefusalKind.TheVariants.{TooDeep}
use Rattle.scald_base.specs.declared.refusal.Stop.{Stop}
use Rattle.drawing_tree.specs.declared.environment.Binding.{Binding}
use Rattle.element_kinds.specs.declared.kind.Kind.{Kind}
use Rattle.element_kinds.specs.Kinds.{kind_of}
use Rattle.drawing_tree.specs.declared.statement.Stmt.{Stmt}
use Rattle.drawing_tree.specs.Tree.{Statements, cons, UseStatement, Macro, listed, statement_of, statements_of}
use Rattle.macro_expander.specs.declared.expansion.Expansion.{Expansion}
use Rattle.macro_expander.specs.declared.library.Library.{Library}
use Rattle.macro_expander.specs.declared.scope.Scope as numbered_scope
use Rattle.macro_expander.specs.Named.{State}
use Rattle.macro_expander.specs.Outcome.{Outcome, Fails}
use Rattle.macro_expander.specs.Terms.{Scope}
use Rattle.macro_expander.specs.Primitives.{primitive_use}
use Rattle.macro_expander.specs.Macros.{macro_of as first_called, given_to, inner_scope}
use Rattle.macro_expander.specs.Flat.{Act, macro_use, use_act_of, use_act, statement_act, statements_act, body_at}
use Rattle.macro_expander.specs.Fitting.{StatementFits, StatementsFit}
use Rattle.macro_expander.specs.Setting.{Setting}
use Rattle.macro_expander.specs.Library.{IsLibrary}
use Rattle.macro_expander.specs.Numbered.{Failed, GivesDone, GivesScope, DoneAt, state_of, scope_of, names_in}
use Rattle.macro_expander.specs.Statements.{WentThrough}
use Rattle.macro_expander.proofs.Nets.{grows_trans}
use Rattle.macro_expander.proofs.Gathered.{next_of}
use Rattle.macro_expander.proofs.PrimitiveUses.{done_later}

-- ---- one after another

pub item_fits : (h : Header) (all : List Stmt) (i : ℕ) (x : Stmt) → StatementsFit h (statements_of all) → i < length all → x ≡ get_or all i x → StatementFits h (statement_of x)
item_fits h [] i x f below is = absurd (omega arith)
item_fits h (y ∷ all) zero x f below is = rw is f.0
item_fits h (y ∷ all) (suc i) x f below is = item_fits h all i x f.1 (omega arith) is

module _ (setting : Setting) (below : Option (Macro → Act)) (scope : Scope) where
  abbrev pub act : Statements → State → Outcome (Unit {0})
  act ss s = statements_act setting below ss scope s

  module _ (start : Expansion) (want : Outcome (Unit {0})) (all : List Stmt) (i : ℕ) (e : Expansion) where
    module _ (x : Stmt) (h : i < length all) (is : x ≡ get_or all i x) where
      split : statements_of (drop i all) ≡ cons (statement_of x) (statements_of (drop (i + 1) all))
      split = ap listed (next_of statement_of all i x h is)

      pub through_more : (f : Expansion) → GivesDone e f (statement_act setting below (statement_of x) scope (state_of e)) →
          WentThrough act start want (drop i all) e → WentThrough act start want (drop (i + 1) all) f
      through_more f g w =
          let next : act (statements_of (drop (i + 1) all)) (state_of f) ≡ act (statements_of (drop i all)) (state_of e) = rw (split, g.is) refl in
          record { agrees = next ∙ w.agrees; grows = grows_trans start e f w.grows g.grows }

      pub through_failed : (stop : Stop) →
          Failed stop (statement_act setting below (statement_of x) scope (state_of e)) →
          WentThrough act start want (drop i all) e → Failed stop want
      through_failed stop g w = record {
        agrees = λ r s.
            let failed : act (statements_of (drop i all)) (state_of e) ≡ Fails r.kind r.place = rw (split, g.agrees r s) refl in
            sym w.agrees ∙ failed;
      }

-- ---- uses

module _ (setting : Setting) (below : Option (Macro → Act)) (u : UseStatement) (scope : Scope) (s : State) where
  primitive_by : (o : Option Kind) (kind : Kind) → Some kind ≡ o → use_act_of o setting below u scope s ≡ primitive_use setting kind scope u s
  primitive_by None kind h = absurd (cc)
  primitive_by (Some k) kind h = let same : kind ≡ k = cc in rw same refl

  pub primitive_act : (kind : Kind) → Some kind ≡ kind_of u.kind → use_act setting below u scope s ≡ primitive_use setting kind scope u s
  unfolding use_act
  primitive_act kind h = primitive_by (kind_of u.kind) kind h

  macro_by : (o : Option Kind) → None ≡ o → use_act_of o setting below u scope s ≡ macro_use setting below (first_called u.kind setting.macros) u scope s
  macro_by None h = refl
  macro_by (Some kind) h = absurd (cc)

  pub macro_act : (o : Option Macro) → None ≡ kind_of u.kind → o ≡ first_called u.kind setting.macros →
      use_act setting below u scope s ≡ macro_use setting below o u scope s
  unfolding use_act
  macro_act o h is = macro_by (kind_of u.kind) h ∙ ap (λ (x : Option Macro). macro_use setting below x u scope s) (sym is)

-- what holds of all holds of the first that passes
pub found_is : {X : Type 0} (P : X → Type 0) (p : X → Bool) (xs : List X) (x : X) → All P xs → Some x ≡ find p xs → P x
found_is P p [] x all h = absurd (cc)
found_is P p (y ∷ xs) x all h = step (p y) h (λ q. found_is P p xs x (All-tail P y xs all) q) where
  step : (b : Bool) → Some x ≡ cond b (Some y) (find p xs) → (Some x ≡ find p xs → P x) → P x
  step true q more = let same : y ≡ x = cc in subst P same (All-head P y xs all)
  step false q more = more q

-- ---- bodies

body_below : (setting : Setting) (levels : ℕ) → levels ≢ 0 →
    body_at setting levels ≡ Some (λ (m : Macro). statements_act setting (body_at setting (levels - 1)) m.body)
unfolding body_at
body_below setting zero h = absurd (h refl)
body_below setting (suc n) h = let e : suc n - 1 ≡ n = omega arith in rw e refl

no_body : (setting : Setting) (levels : ℕ) → levels ≡ 0 → body_at setting levels ≡ None
unfolding body_at
no_body setting levels is = rw is refl

module _ (setting : Setting) (levels : ℕ) (e : Expansion) (s : numbered_scope.Scope) (m : Macro) (u : UseStatement) where
  abbrev the_use : Outcome (Unit {0})
  the_use = macro_use setting (body_at setting levels) (Some m) u (scope_of (names_in e) s) (state_of e)

  module _ (given : List Binding) (was : given_to m s.env u ≡ Ok given) where
    pub macro_too_deep : levels ≡ 0 → the_use ≡ Fails TooDeep u.place
    macro_too_deep is = rw (was, no_body setting levels is) refl

    module _ (deep : levels ≢ 0) where
      pub macro_cut : (stop : Stop) → Failed stop (inner_scope setting.consts m given (scope_of (names_in e) s) u (state_of e)) → Failed stop the_use
      macro_cut stop h = record { agrees = λ r is. rw (was, body_below setting levels deep, h.agrees r is) refl }

      pub macro_done : (e1 e2 : Expansion) (inner : numbered_scope.Scope) (r : Result (Unit {0}) Stop) →
          GivesScope e e1 inner (inner_scope setting.consts m given (scope_of (names_in e) s) u (state_of e)) →
          DoneAt e1 e2 r (statements_act setting (body_at setting (levels - 1)) m.body (scope_of (names_in e1) inner) (state_of e1)) →
          DoneAt e e2 r the_use
      macro_done e1 e2 inner r g h =
          let is : the_use ≡ statements_act setting (body_at setting (levels - 1)) m.body (scope_of (names_in e1) inner) (state_of e1) =
          rw (was, body_below setting levels deep, g.is) refl in
          done_later e e1 e2 r (statements_act setting (body_at setting (levels - 1)) m.body (scope_of (names_in e1) inner) (state_of e1)) the_use g.grows is h

-- ---- libraries

pub library_stays : (g h : Header) (l : Library) → h ≡ g → IsLibrary g l → IsLibrary h l
library_stays g h l is x = subst (λ (k : Header). IsLibrary k l) (sym is) x
