use Rattle.std.proofs.Common.{◌+◌, ◌-◌, ◌*◌, drop}
use Rattle.std.specs.Prelude.{◌≡◌, ◌≤ℤ◌}
use borrow.Author.Gap.{gap}
use Rattle.drawing_tree.specs.Tree.{statements_of}
use Rattle.macro_expander.specs.Library.{setting_in}
use Rattle.macro_expander.specs.Statements.{bodies_in, statements_in, turned_scope, WentThrough, WentTurns}
use Rattle.macro_expander.specs.Numbered.{scope_of, names_in, state_of}
use Rattle.macro_expander.proofs.Statements.{act}
use Rattle.macro_expander.proofs.Turns.{one_turn, the_for}
use Rattle.macro_expander.proofs.statement.+statement.Given as goal

-- the statements that may still be reached, and then how far a call is from the next count
abbrev pub decreases-body : goal.decreases-body
decreases-body l = 5 * (262144 - l.expansion.now.statements) + 2

abbrev pub decreases-expand_for : goal.decreases-expand_for
decreases-expand_for l = 5 * (262144 - l.expansion.now.statements) + 3

abbrev pub decreases-turn : goal.decreases-turn
decreases-turn l = 5 * (262144 - l.expansion.now.statements) + 1

abbrev pub decreases-expand_if : goal.decreases-expand_if
decreases-expand_if l = 5 * (262144 - l.expansion.now.statements) + 3

abbrev pub decreases-expand_macro : goal.decreases-expand_macro
decreases-expand_macro l = 5 * (262144 - l.expansion.now.statements) + 3

abbrev pub decreases-expand_use : goal.decreases-expand_use
decreases-expand_use l = 5 * (262144 - l.expansion.now.statements) + 4

abbrev pub decreases-one : goal.decreases-one
decreases-one l = 5 * (262144 - l.expansion.now.statements) + 1

abbrev pub invariant-body-statements : goal.invariant-body-statements
invariant-body-statements l =
    let start = l.fn.expansion in
    let scope = scope_of (names_in start) l.scope in
    let want = statements_in l.library l.levels (statements_of l.statements) scope (state_of start) in
    WentThrough (act (setting_in l.library) (bodies_in l.library l.levels) scope) start want (drop l.statement-index l.statements) l.expansion

-- the values that are left
abbrev pub decreases-expand_for-turns : goal.decreases-expand_for-turns
decreases-expand_for-turns l = gap l.value l.last

abbrev pub invariant-expand_for-turns : goal.invariant-expand_for-turns
invariant-expand_for-turns l =
    let start = l.fn.expansion in
    let scope = scope_of (names_in start) l.scope in
    record {
      went : WentTurns (one_turn (setting_in l.library) (bodies_in l.library l.levels) l.repeated scope) start
          (the_for (setting_in l.library) (bodies_in l.library l.levels) l.repeated scope start) l.value l.last l.expansion;
      inner : l.inner ≡ turned_scope l.repeated.var l.value l.scope;
      within : l.value ≤ℤ l.last;
    }
