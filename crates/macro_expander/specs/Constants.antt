-- What the constants of a drawing come to: their values, or where the first without one is refused.
use Rattle.std.specs.Prelude.{◌≡◌, List, [], Result, Ok, Err}
use Rattle.scald_base.specs.declared.refusal.Place.{Place}
use Rattle.scald_base.specs.declared.refusal.Stop.{Stop}
use Rattle.drawing_tree.specs.declared.environment.Binding.{Binding}
use Rattle.drawing_tree.specs.Tree.{Assignment}
use Rattle.macro_expander.specs.Named.{State}
use Rattle.macro_expander.specs.Outcome.{Gives}
use Rattle.macro_expander.specs.Numbered.{Failed}
use Rattle.macro_expander.specs.Flat.{const_values}

-- in whatever circuit, since they look at none
abbrev pub ConstsAt : Result (List Binding) Stop → List Assignment → List Place → Type 0
ConstsAt (Ok env) consts places = (s : State) → const_values [] consts places s ≡ Gives env s
ConstsAt (Err stop) consts places = (s : State) → Failed stop (const_values [] consts places s)
