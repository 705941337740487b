-- The whole of a drawing: its constants, and then its statements.
use Rattle.std.proofs.Common.{◌≡◌, ℕ, List, [], map, refl}
use Rattle.scald_base.specs.Time.{period}
use Rattle.scald_base.specs.declared.refusal.Refusal.{Refusal}
use Rattle.scald_base.specs.declared.refusal.Stop.{Stop}
use Rattle.scald_base.specs.declared.refusal.Stop.TheVariants.{Refused}
use Rattle.drawing_tree.specs.declared.environment.Binding.{Binding}
use Rattle.drawing_tree.specs.declared.drawing.Drawing as written_drawing
use Rattle.drawing_tree.specs.declared.statement.Stmt.{Stmt}
use Rattle.drawing_tree.specs.Tree.{assignment_of, drawing_of, statements_of}
use Rattle.macro_expander.specs.declared.library.Library.{Library}
use Rattle.macro_expander.specs.declared.scope.Scope as numbered_scope
use Rattle.macro_expander.specs.Named.{State}
use Rattle.macro_expander.specs.Outcome.{Gives}
use Rattle.macro_expander.specs.Flat.{const_values, deepest, nothing_yet}
use Rattle.macro_expander.specs.Library.{HoldsMacros}
use Rattle.macro_expander.specs.Numbered.{Failed}
use Rattle.drawing_omissions.specs.Spreads.{spreads}
use Rattle.drawing_omissions.specs.Walk.{in_all}

-- a constant has no value
pub no_spreads : (d : written_drawing.Drawing) (stop : Stop) (r : Refusal) → stop ≡ Refused r →
    ((s : State) → Failed stop (const_values [] (map assignment_of d.consts) d.const_places s)) → spreads (drawing_of d) ≡ []
unfolding spreads
no_spreads d stop r is h = rw ((h (nothing_yet d.header)).agrees r is) refl

pub all_spreads : (d : written_drawing.Drawing) (ticks : ℕ) (l : Library) (consts copy : List Binding) (s : numbered_scope.Scope) (ss : List Stmt) →
    ticks ≡ period d.header → ((s : State) → const_values [] (map assignment_of d.consts) d.const_places s ≡ Gives consts s) →
    HoldsMacros d.version ticks consts d.macros l → s ≡ record { path = []; suffix = []; env = copy; formals = [] } → copy ≡ consts →
    ss ≡ d.body.items → in_all l deepest (statements_of ss) s ≡ spreads (drawing_of d)
unfolding spreads
all_spreads d ticks l consts copy s ss ticks_are consts_are holds s_is same ss_are =
    rw (s_is, same, ss_are, holds.version, holds.ticks, ticks_are, holds.consts, holds.macros, consts_are (nothing_yet d.header)) refl
