-- Where the name of a net stands with what it asserts.
use Rattle.std.specs.Prelude.{ℕ, Bool, ◌&&◌, List, Option, Some, None, if◌then◌else◌}
use Rattle.std.specs.Option.{option_or}
use Rattle.std.specs.Str.{bytes_eq}
use Rattle.scald_base.specs.declared.refusal.Place.{Place}
use Rattle.scald_base.specs.declared.assertion.AssertSpec.{AssertSpec}
use Rattle.assertion_syntax.specs.declared.name.SignalName.{SignalName}
use Rattle.drawing_tree.specs.Tree.{Drawing, Macro, Statement, Use, Wire, If, For, Statements, Connection, Term, Item, Zero, One, Named}
use Rattle.macro_expander.specs.Assertions.{same_assertion, same_low}
use Rattle.drawing_places.specs.declared.names.Spot as borrowed
use Rattle.drawing_places.specs.declared.names.Wanted.{Wanted}
use Rattle.drawing_places.specs.Path.{is_global_text, last_part, scope_part}
use Rattle.drawing_places.specs.Find.{first_found}
use Rattle.drawing_places.specs.Body.{written_of}
use Rattle.drawing_places.specs.Uses.{scope_body}

-- a name, and the place of the connection or of the WIRE in which it stands
pub record Spot : Type 0 where
  pub name : SignalName
  pub place : Place

-- what a name is looked for by: its base, whether it is global, and its assertion
pub record Sought : Type 0 where
  pub base : List ℕ
  pub global : Bool
  pub spec : AssertSpec

abbrev pub is_sought : Sought → SignalName → Bool
is_sought sought name =
    (bytes_eq name.base sought.base && same_low name.global sought.global)
    && same_assertion name.spec sought.spec

abbrev pub spot_at : Sought → Place → SignalName → Option Spot
spot_at sought place name =
    if is_sought sought name then Some (record { name = name; place = place }) else None

abbrev pub spot_in_item : Sought → Place → Item → Option Spot
spot_in_item sought place Zero = None
spot_in_item sought place One = None
spot_in_item sought place (Named name range) = spot_at sought place name

abbrev pub spot_in_term : Sought → Place → Term → Option Spot
spot_in_term sought place term = spot_in_item sought place term.item

abbrev pub spot_in_connection : Sought → Connection → Option Spot
spot_in_connection sought connection =
    first_found (spot_in_term sought connection.place) connection.terms

abbrev pub spot_in_connections : Sought → List Connection → Option Spot
spot_in_connections sought connections = first_found (spot_in_connection sought) connections

abbrev pub spot_in_statement : Sought → Statement → Option Spot
spot_in_statement sought (Use u) =
    option_or (spot_in_connections sought u.ins) (spot_in_connections sought u.outs)
spot_in_statement sought (Wire w) = spot_at sought w.place w.name
spot_in_statement sought (If test taken other place) = None
spot_in_statement sought (For var first last body place) = None

abbrev pub spot_in_body : Sought → Statements → Option Spot
spot_in_body sought body = first_found (spot_in_statement sought) (written_of body)

abbrev pub spot_in_macro : Sought → Macro → Option Spot
spot_in_macro sought m = spot_in_body sought m.body

-- in all of a drawing, its macros first
abbrev pub spot_anywhere : Sought → Drawing → Option Spot
spot_anywhere sought d =
    option_or (first_found (spot_in_macro sought) d.macros) (spot_in_body sought d.body)

-- what the net with this text, the labels of its scope and its base, is looked for by
abbrev pub sought_by : List ℕ → AssertSpec → Sought
sought_by text spec = record { base = last_part text; global = is_global_text text; spec = spec }

-- Where the name of a net stands with its assertion: the first place in its scope, or of a global
-- in the drawing.
abbrev pub spot_of : Drawing → List ℕ → AssertSpec → Option Spot
spot_of d text spec =
    if is_global_text text then spot_anywhere (sought_by text spec) d
    else spot_in_body (sought_by text spec) (scope_body d (scope_part text))

-- ---- as the code has them, which borrows from the drawing

abbrev pub sought_seen : Wanted → Sought
sought_seen wanted =
    record { base = wanted.base.now; global = wanted.global; spec = wanted.spec.now }

abbrev pub spot_seen : borrowed.Spot → Spot
spot_seen spot = record { name = spot.name.now; place = spot.place }
