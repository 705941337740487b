-- What statements do in a library of macros, and what is counted, chosen and repeated on the way.
use Rattle.std.specs.Prelude.{◌≡◌, ℕ, ◌+◌, ℤ, true, false, List, ◌∷◌, ◌++◌, nat_lt, Option, Ok, Result, if◌then◌else◌}
use Rattle.scald_base.specs.declared.refusal.Place.{Place}
use Rattle.scald_base.specs.declared.refusal.RefusalKind.TheVariants.{TooMany}
use Rattle.scald_base.specs.declared.refusal.Stop.{Stop}
use Rattle.scald_base.specs.declared.refusal.Stop.TheVariants.{Refused}
use Rattle.drawing_tree.specs.Expression.{expression_of}
use Rattle.drawing_tree.specs.declared.environment.Binding.{Binding}
use Rattle.drawing_tree.specs.declared.statement.IfStmt.{IfStmt}
use Rattle.drawing_tree.specs.declared.statement.ForStmt.{ForStmt}
use Rattle.drawing_tree.specs.declared.statement.Stmt.{Stmt}
use Rattle.drawing_tree.specs.Tree.{Statement, Use, Wire, If, For, Statements, nil, Otherwise, no_else, else_, Macro, statements_of, else_of}
use Rattle.macro_expander.specs.declared.expansion.Expansion.{Expansion}
use Rattle.macro_expander.specs.declared.library.Library.{Library}
use Rattle.macro_expander.specs.Named.{State}
use Rattle.macro_expander.specs.Outcome.{Outcome, judged, each}
use Rattle.macro_expander.specs.declared.scope.Scope as numbered_scope
use Rattle.macro_expander.specs.Terms.{valued}
use Rattle.macro_expander.specs.Setting.{Setting}
use Rattle.macro_expander.specs.Loops.{turn_text, binding, loop_ends, values_between, for_act}
use Rattle.macro_expander.specs.Steps.{IsJudgedRefusal, JudgedAt}
use Rattle.macro_expander.specs.Flat.{Act, is_zero, most_statements, use_act, wire_act, turn_act, statement_act, statements_act, otherwise_act, body_at}
use Rattle.macro_expander.specs.Library.{setting_in}
use Rattle.macro_expander.specs.Numbered.{Grows, state_of}

-- ---- what they do

-- where a statement stands
abbrev pub place_of : Statement → Place
place_of (Use u) = u.place
place_of (Wire w) = w.place
place_of (If test taken other place) = place
place_of (For var first last ss place) = place

-- what a statement does once it is counted
abbrev pub uncounted_act : Setting → Option (Macro → Act) → Statement → Act
uncounted_act setting body (Use u) scope s = use_act setting body u scope s
uncounted_act setting body (Wire w) scope s = wire_act w scope s
uncounted_act setting body (If test taken other place) scope s =
    judged (valued scope.env test) place (λ v.
    (if is_zero v
    then otherwise_act setting body other
    else statements_act setting body taken) scope s)
uncounted_act setting body (For var first last ss place) scope s =
    for_act (turn_act var place (statements_act setting body ss)) first last place scope s

-- what a macro's body does, uses going so many levels deeper
abbrev pub bodies_in : Library → ℕ → Option (Macro → Act)
bodies_in l levels = body_at (setting_in l) levels

abbrev pub statements_in : Library → ℕ → Statements → Act
statements_in l levels = statements_act (setting_in l) (bodies_in l levels)

abbrev pub statement_in : Library → ℕ → Statement → Act
statement_in l levels = statement_act (setting_in l) (bodies_in l levels)

abbrev pub uncounted_in : Library → ℕ → Statement → Act
uncounted_in l levels = uncounted_act (setting_in l) (bodies_in l levels)

-- ---- counted and chosen

-- one statement more is reached
pub record Reached (old new : Expansion) : Type 0 where
  pub room : nat_lt old.statements most_statements ≡ true
  pub is : new ≡ record old { statements = old.statements + 1 }

-- it would be one statement too many
pub record IsOneTooMany (old : Expansion) (place : Place) (stop : Stop) : Type 0 where
  pub full : nat_lt old.statements most_statements ≡ false
  pub is : stop ≡ Refused (record { kind = TooMany; place = place })

-- the statements after ELSE, if ELSE is written
abbrev pub behind_else : Otherwise → Statements
behind_else no_else = nil
behind_else (else_ ss) = ss

-- the test has a value, and chooses these statements
pub record Chooses (env : List Binding) (choice : IfStmt) (statements : List Stmt) : Type 0 where
  pub test : ℤ
  pub is_test : valued env (expression_of choice.test) ≡ Ok test
  pub chosen : statements_of statements
      ≡ (if is_zero test then behind_else (else_of choice.no) else statements_of choice.yes.items)

abbrev pub IsUnchosen : List Binding → IfStmt → Stop → Type 0
IsUnchosen env choice stop =
    IsJudgedRefusal choice.place stop (valued env (expression_of choice.test))

-- ---- repeated

-- the first and the last value of a FOR, or the refusal of one at the word FOR
abbrev pub AreEnds : List Binding → ForStmt → Result (ℤ × ℤ) Stop → Type 0
AreEnds env loop ends =
    JudgedAt loop.place ends (loop_ends env (expression_of loop.first) (expression_of loop.last))

-- a scope in which the variable of a FOR has a value, within this one
abbrev pub turned_scope : List ℕ → ℤ → numbered_scope.Scope → numbered_scope.Scope
turned_scope var v around = record around {
  suffix = around.suffix ++ turn_text v;
  env = binding var v ∷ around.env;
}

pub record IsTurn (var : List ℕ) (around inner : numbered_scope.Scope) : Type 0 where
  pub value : ℤ
  pub is : inner ≡ turned_scope var value around

-- ---- loops

-- What the values that are left do is what the whole does.
pub record WentTurns (act : ℤ → State → Outcome (Unit {0})) (start : Expansion)
    (want : Outcome (Unit {0})) (value last : ℤ) (e : Expansion) : Type 0 where
  pub agrees : each act (values_between value last) (state_of e) ≡ want
  pub grows : Grows start e

-- What the statements that are left do is what the whole does.
pub record WentThrough (act : Statements → State → Outcome (Unit {0})) (start : Expansion)
    (want : Outcome (Unit {0})) (rest : List Stmt) (e : Expansion) : Type 0 where
  pub agrees : act (statements_of rest) (state_of e) ≡ want
  pub grows : Grows start e
