-- EMPTY: FORs that are reached and in no expansion have a turn.
use Rattle.std.specs.Prelude.{◌≡◌, ℕ, ◌==◌, Bool, false, not, ◌&&◌, List, [], ◌∷◌, ◌++◌, codes, decimal, if◌then◌else◌}
use Rattle.std.specs.List.{flat_map, list_any}
use Rattle.scald_base.specs.declared.refusal.Place.{Place}
use Rattle.drawing_tree.specs.Tree.{Statement, Use, Wire, If, For, Statements, nil, cons, Otherwise, no_else, else_, Macro, Drawing}
use Rattle.listing.specs.Text.{line}
use Rattle.drawing_omissions.specs.declared.fors.Spot.{Spot}
use Rattle.drawing_omissions.specs.declared.spread.Finding.{Finding}
use Rattle.drawing_omissions.specs.declared.spread.Finding.TheVariants.{Spread as Spreading, Loop}

-- ---- the FORs of a text

abbrev mutual
  pub fors_in : Statement → List Place
  fors_in (Use u) = []
  fors_in (Wire w) = []
  fors_in (If test taken other place) = fors_in_all taken ++ fors_in_other other
  fors_in (For var first last ss place) = place ∷ fors_in_all ss

  pub fors_in_all : Statements → List Place
  fors_in_all nil = []
  fors_in_all (cons s ss) = fors_in s ++ fors_in_all ss

  pub fors_in_other : Otherwise → List Place
  fors_in_other no_else = []
  fors_in_other (else_ ss) = fors_in_all ss

abbrev pub fors_in_macro : Macro → List Place
fors_in_macro m = fors_in_all m.body

-- in the order of the text, in which macros come first
abbrev pub fors : Drawing → List Place
fors d = flat_map fors_in_macro d.macros ++ fors_in_all d.body

-- ---- notes

abbrev pub same_place : Place → Place → Bool
same_place p q = (p.line == q.line) && (p.col == q.col)

-- the FOR at this place is reached, and has a turn
abbrev pub is_reached : Place → Finding → Bool
is_reached place (Spreading s) = false
is_reached place (Loop l) = same_place place l.place

abbrev pub is_turned : Place → Finding → Bool
is_turned place (Spreading s) = false
is_turned place (Loop l) = l.has_turn && same_place place l.place

unfoldable pub empty_line : Place → List ℕ
empty_line place =
    line (codes "NOTE EMPTY " ∷ decimal place.line ∷ codes ":" ∷ decimal place.col ∷ [])

abbrev pub is_empty : List Finding → Place → Bool
is_empty found place = list_any (is_reached place) found && not (list_any (is_turned place) found)

abbrev pub empty_at : List Finding → Place → List (List ℕ)
empty_at found place = if is_empty found place then empty_line place ∷ [] else []

-- the FORs of a text, by what is found in its expansion
abbrev pub empty : List Place → List Finding → List (List ℕ)
empty places found = flat_map (empty_at found) places

-- ---- by sets of places

abbrev pub spot_of : Place → Spot
spot_of place = record { line = place.line; col = place.col }

abbrev pub same_spot : Spot → Spot → Bool
same_spot s t = (s.line == t.line) && (s.col == t.col)

abbrev pub is_among : List Spot → Place → Bool
is_among keys place = list_any (same_spot (spot_of place)) keys

-- exactly the places that pass a test somewhere
abbrev pub AreWhere : (Place → Finding → Bool) → List Finding → List Spot → Type 0
AreWhere test found keys =
    (place : Place) → is_among keys place ≡ list_any (test place) found
