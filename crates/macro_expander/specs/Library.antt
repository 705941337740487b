-- The macros of a drawing by their names, and what else its bodies are expanded with.
use Rattle.std.specs.Prelude.{◌≡◌, ℕ, List, map}
use Rattle.std.specs.List.{All}
use Rattle.scald_base.specs.Time.{Header, period}
use Rattle.drawing_tree.specs.declared.environment.Binding.{Binding}
use Rattle.drawing_tree.specs.declared.drawing.MacroDef.{MacroDef}
use Rattle.drawing_tree.specs.Tree.{Macro, macro_of}
use Rattle.macro_expander.specs.declared.library.Library.{Library}
use Rattle.macro_expander.specs.Setting.{Setting}
use Rattle.macro_expander.specs.Fitting.{MacroFits}
use Rattle.macro_expander.specs.Places.{LeadWhereMany}

abbrev pub macros_in : Library → List Macro
macros_in l = map macro_of l.macros.now

abbrev pub setting_in : Library → Setting
setting_in l = record {
  version = l.version;
  ticks = l.ticks;
  consts = l.consts;
  macros = macros_in l;
}

-- each name leads to the first macro of that name, if there are many
abbrev pub LeadToMacros : Library → Type 0
LeadToMacros l = LeadWhereMany (λ (m : MacroDef). m.name) l.places.entries l.macros.now

-- the library of a drawing of this version, with a period of so many ticks, these constants and
-- these macros
pub record HoldsMacros (v n : ℕ) (env : List Binding) (ms : List MacroDef)
    (l : Library) : Type 0 where
  pub version : l.version ≡ v
  pub ticks : l.ticks ≡ n
  pub consts : l.consts ≡ env
  pub macros : l.macros.now ≡ ms
  pub places : LeadToMacros l

-- a library of a drawing with this header, whose macros assert what the header allows
pub record IsLibrary (h : Header) (l : Library) : Type 0 where
  pub ticks : l.ticks ≡ period h
  pub places : LeadToMacros l
  pub fit : All (MacroFits h) (macros_in l)
