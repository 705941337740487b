-- What a walk finds from where it stands: in a library of macros, if uses may go so many levels
-- deeper, in the scope that the code has. No net is looked at, so the scope's bits have no names.
use Rattle.std.specs.Prelude.{ℕ, List, []}
use Rattle.drawing_tree.specs.Tree.{Statement, Statements}
use Rattle.macro_expander.specs.declared.library.Library.{Library}
use Rattle.macro_expander.specs.declared.scope.Scope as numbered_scope
use Rattle.macro_expander.specs.Terms.{Scope}
use Rattle.macro_expander.specs.Numbered.{scope_of}
use Rattle.macro_expander.specs.Library.{setting_in}
use Rattle.drawing_omissions.specs.declared.spread.Finding.{Finding}
use Rattle.drawing_omissions.specs.Spreads.{in_statement, in_statements, spreading_at}

abbrev pub seen : numbered_scope.Scope → Scope
seen scope = scope_of [] scope

abbrev pub in_one : Library → ℕ → Statement → numbered_scope.Scope → List Finding
in_one l levels s scope =
    in_statement (setting_in l) (spreading_at (setting_in l) levels) s (seen scope)

abbrev pub in_all : Library → ℕ → Statements → numbered_scope.Scope → List Finding
in_all l levels ss scope =
    in_statements (setting_in l) (spreading_at (setting_in l) levels) ss (seen scope)
