-- What every body of a drawing is expanded with.
use Rattle.std.specs.Prelude.{ℕ, List}
use Rattle.drawing_tree.specs.declared.environment.Binding.{Binding}
use Rattle.drawing_tree.specs.Tree.{Macro}

-- the version of the language, the ticks of the period, the constants with their values, and the
-- macros
pub record Setting : Type 0 where
  pub version : ℕ
  pub ticks : ℕ
  pub consts : List Binding
  pub macros : List Macro
