-- Laws of how drawings are refused in expansion: where something of them stands.
use Rattle.std.specs.Prelude.{◌≡◌, Bool, true, Err}
use Rattle.scald_base.specs.declared.refusal.Place.{Place}
use Rattle.scald_base.specs.declared.refusal.Refusal.{Refusal}
use Rattle.scald_base.specs.declared.refusal.Stop.TheVariants.{Refused}
use Rattle.drawing_tree.specs.Tree.{Drawing}
use Rattle.drawing_tree.specs.EachPlace.{EachPlace}
use Rattle.macro_expander.specs.Named.{State}
use Rattle.macro_expander.specs.Stands.{IsStopOf}
use Rattle.macro_expander.specs.Cases.{cases_of}

-- A place that passes whatever test each place in the drawing passes: one of those.
abbrev pub IsPlaceIn : Drawing → Place → Type 0
IsPlaceIn d place = (test : Place → Bool) → EachPlace (λ p. test p ≡ true) d → test place ≡ true

-- If expansion is refused, or a rule of circuits is broken, something of the drawing stands.
abbrev pub StopsAtPlaces : Type 0
StopsAtPlaces = (d : Drawing) (r : Refusal) → IsStopOf d (Refused r) → IsPlaceIn d r.place

-- So it does if its cases are refused.
abbrev pub CasesStopAtPlaces : Type 0
CasesStopAtPlaces =
    (d : Drawing) (s : State) (r : Refusal) → cases_of s d ≡ Err r → IsPlaceIn d r.place
