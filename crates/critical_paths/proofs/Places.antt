-- What a map has of a place, by the program's own test.
use Rattle.std.proofs.Common.{◌≡◌, ℕ, ◌==◌, Bool, true, false, ◌&&◌, cond, List, [], ◌∷◌, refl, sym, ap, ◌∙◌, Some, eq-eqb, eqb-true, is_some}
use Rattle.std.specs.Map.{lookup}
use Rattle.std.proofs.lemmas.Bool.{and_from, and_parts}
use denote.Enum.Bare.{sameb}
use Rattle.critical_paths.specs.declared.arrival.Known.{Known}
use Rattle.critical_paths.specs.declared.arrival.Place.{Place}
use Rattle.critical_paths.specs.declared.direction.Corner.{Corner}
use Rattle.critical_paths.specs.declared.direction.Direction.{Direction}
use Rattle.critical_paths.specs.contracts.direction.Corner.{the_type as corners}
use Rattle.critical_paths.specs.contracts.arrival.PlacePartialEq.TheImpl.{eq-value}
use Rattle.critical_paths.specs.Event.{same_direction}
use Rattle.critical_paths.specs.Reached.{StaysKnown, known_of, same_place}
use Rattle.critical_paths.proofs.Keys.{same_corners, same_directions}
use Rattle.critical_paths.proofs.Stops.{corner_is, corner_self, direction_is, direction_self}

pub eq_is : (a b : Place) → eq-value.it a b ≡ same_place a b
eq_is a b =
    ap (λ (x : Bool). (a.clock == b.clock) && ((a.net == b.net) && (x && sameb corners a.corner b.corner)))
    (same_directions a.direction b.direction)
    ∙ ap (λ (x : Bool). (a.clock == b.clock) && ((a.net == b.net)
    && (same_direction a.direction b.direction && x))) (same_corners a.corner b.corner)

abbrev place_by : ℕ → ℕ → Direction → Corner → Place
place_by k n d c = record { clock = k; net = n; direction = d; corner = c }

-- places of the same parts are one
pub place_is : (a b : Place) → same_place a b ≡ true → a ≡ b
place_is a b h =
    let clock = and_parts (a.clock == b.clock) _ h in
    let net = and_parts (a.net == b.net) _ clock.1 in
    let ends = and_parts (same_direction a.direction b.direction) _ net.1 in
    let one : a.clock ≡ b.clock = eqb-true a.clock b.clock clock.0 in
    let two : a.net ≡ b.net = eqb-true a.net b.net net.0 in
    let three : a.direction ≡ b.direction = direction_is a.direction b.direction ends.0 in
    let four : a.corner ≡ b.corner = corner_is a.corner b.corner ends.1 in
    ap (λ (x : ℕ). place_by x a.net a.direction a.corner) one
    ∙ ap (λ (x : ℕ). place_by b.clock x a.direction a.corner) two
    ∙ ap (λ (x : Direction). place_by b.clock b.net x a.corner) three
    ∙ ap (λ (x : Corner). place_by b.clock b.net b.direction x) four

-- what a look-up finds
pub known_is : (es : List (Place × Known)) (q : Place) → lookup (eq-value.it q) es ≡ known_of es q
known_is [] q = refl
known_is (e ∷ es) q =
    ap (λ (b : Bool). cond b (Some e.1) (lookup (eq-value.it q) es)) (eq_is q e.0)
    ∙ ap (cond (same_place q e.0) (Some e.1)) (known_is es q)

-- what is set is known, and all that was
pub set_is : (old new : List (Place × Known)) (place : Place) (k : Known) →
    ((q : Place) → lookup (eq-value.it q) new
    ≡ cond (eq-value.it place q) (Some k) (lookup (eq-value.it q) old)) →
    (q : Place) → known_of new q ≡ cond (same_place place q) (Some k) (known_of old q)
set_is old new place k set q =
    sym (known_is new q) ∙ set q
    ∙ ap (λ (b : Bool). cond b (Some k) (lookup (eq-value.it q) old)) (eq_is place q)
    ∙ ap (cond (same_place place q) (Some k)) (known_is old q)

pub stays_set : (old new : List (Place × Known)) (place : Place) (k : Known) →
    ((q : Place) → known_of new q ≡ cond (same_place place q) (Some k) (known_of old q)) →
    StaysKnown old new
stays_set old new place k set q h = by (same_place place q) (set q)
  where
    by : (b : Bool) → known_of new q ≡ cond b (Some k) (known_of old q) → is_some (known_of new q) ≡ true
    by true is = ap is_some is
    by false is = ap is_some is ∙ h

pub stays_none : (es : List (Place × Known)) → StaysKnown es es
stays_none es q h = h

pub stays_same : (old new : List (Place × Known)) → new ≡ old → StaysKnown old new
stays_same old new same q h = ap (λ (es : List (Place × Known)). is_some (known_of es q)) same ∙ h

pub stays_then : (a b c : List (Place × Known)) → StaysKnown a b → StaysKnown b c → StaysKnown a c
stays_then a b c one two q h = two q (one q h)

-- it is known of itself
pub place_self : (a : Place) → same_place a a ≡ true
place_self a = and_from (a.clock == a.clock) _ (eq-eqb a.clock a.clock refl)
    (and_from (a.net == a.net) _ (eq-eqb a.net a.net refl)
    (and_from (same_direction a.direction a.direction) _ (direction_self a.direction) (corner_self a.corner)))
