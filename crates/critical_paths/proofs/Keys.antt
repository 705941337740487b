-- What a map has of a stop, by the program's own test.
use Rattle.std.proofs.Common.{◌≡◌, ℕ, zero, suc, ◌==◌, Bool, true, false, ◌&&◌, ◌||◌, cond, List, [], ◌∷◌, ◌++◌, slice_get, refl, sym, ap, ◌∙◌, Option, Some, None, MatchOption, position, length, get_or, ◌<◌, arith, is_some}
use Rattle.std.specs.Map.{keys_of, lookup}
use Rattle.std.proofs.lemmas.List.Quantifiers.{position-Some}
use Rattle.std.proofs.lemmas.Bool.{or_parts}
use Rattle.indexmap.specs.IndexMap.{insert_entry}
use denote.Enum.Bare.{sameb}
use Rattle.critical_paths.specs.declared.direction.Direction.{Direction}
use Rattle.critical_paths.specs.declared.direction.Direction.TheVariants.{Rise, Fall, Change}
use Rattle.critical_paths.specs.declared.direction.Corner.{Corner}
use Rattle.critical_paths.specs.declared.direction.Corner.TheVariants.{Late, Early}
use Rattle.critical_paths.specs.declared.event.Reading.{Reading}
use Rattle.critical_paths.specs.declared.event.Reading.TheVariants.{Folded, Unfolded}
use Rattle.critical_paths.specs.declared.event.Stop.{Stop}
use Rattle.critical_paths.specs.contracts.direction.Direction.{the_type as directions}
use Rattle.critical_paths.specs.contracts.direction.Corner.{the_type as corners}
use Rattle.critical_paths.specs.contracts.event.Reading.{the_type as readings}
use Rattle.critical_paths.specs.contracts.event.StopPartialEq.TheImpl.{eq-value}
use Rattle.critical_paths.specs.Event.{same_direction}
use Rattle.critical_paths.specs.Walk.{same_corner, same_reading, same_stop}
use Rattle.critical_paths.specs.Known.{Has, are_met}
use Rattle.critical_paths.proofs.Stops.{stop_is}

pub same_directions : (a b : Direction) → sameb directions a b ≡ same_direction a b
same_directions Rise Rise = refl
same_directions Rise Fall = refl
same_directions Rise Change = refl
same_directions Fall Rise = refl
same_directions Fall Fall = refl
same_directions Fall Change = refl
same_directions Change Rise = refl
same_directions Change Fall = refl
same_directions Change Change = refl

pub same_corners : (a b : Corner) → sameb corners a b ≡ same_corner a b
same_corners Late Late = refl
same_corners Late Early = refl
same_corners Early Late = refl
same_corners Early Early = refl

same_readings : (a b : Reading) → sameb readings a b ≡ same_reading a b
same_readings Folded Folded = refl
same_readings Folded Unfolded = refl
same_readings Unfolded Folded = refl
same_readings Unfolded Unfolded = refl

pub eq_is : (a b : Stop) → eq-value.it a b ≡ same_stop a b
eq_is a b =
    ap (λ (x : Bool). (a.net == b.net) && (x && ((a.slot == b.slot) &&
    (sameb corners a.corner b.corner && sameb readings a.reading b.reading))))
    (same_directions a.direction b.direction)
    ∙ ap (λ (x : Bool). (a.net == b.net) && (same_direction a.direction b.direction &&
    ((a.slot == b.slot) && (x && sameb readings a.reading b.reading))))
    (same_corners a.corner b.corner)
    ∙ ap (λ (x : Bool). (a.net == b.net) && (same_direction a.direction b.direction &&
    ((a.slot == b.slot) && (same_corner a.corner b.corner && x))))
    (same_readings a.reading b.reading)

-- what a look-up finds
pub got : {X : Type 0} (es : List (Stop × X)) (s : Stop) → MatchOption (lookup (eq-value.it s) es)
    (are_met es s ≡ false) (Has es s)
got [] s = refl
got {X} (e ∷ es) s = by (eq-value.it s e.0) refl (got es s)
  where
    behind : (o : Option X) → MatchOption o (are_met es s ≡ false) (Has es s) → same_stop s e.0
        ≡ false →
        MatchOption o (are_met (e ∷ es) s ≡ false) (Has (e ∷ es) s)
    behind None none other = ap (λ (b : Bool). b || are_met es s) other ∙ none
    behind (Some i) has other = (suc has.0, has.1)

    by : (b : Bool) → eq-value.it s e.0 ≡ b → MatchOption (lookup (eq-value.it s) es)
        (are_met es s ≡ false) (Has es s) →
        MatchOption (cond b (Some e.1) (lookup (eq-value.it s) es)) (are_met (e ∷ es) s ≡ false)
        (Has (e ∷ es) s)
    by true same rest =
        let one : s ≡ e.0 = stop_is s e.0 (sym (eq_is s e.0) ∙ same) in
        (0, ap (λ (t : Stop). Some (t, e.1)) (sym one))
    by false other rest = behind (lookup (eq-value.it s) es) rest (sym (eq_is s e.0) ∙ other)

-- a new one goes last
pub entered : {X : Type 0} (es : List (Stop × X)) (s : Stop) (x : X) → are_met es s ≡ false →
    insert_entry eq-value.it es s x ≡ es ++ (s, x) ∷ []
entered [] s x new = refl
entered (e ∷ es) s x new =
    let parts = or_parts (same_stop s e.0) _ new in
    ap (λ (b : Bool). cond b ((e.0, x) ∷ es) (e ∷ insert_entry eq-value.it es s x))
    (eq_is s e.0 ∙ parts.0)
    ∙ ap (λ (l : List _). e ∷ l) (entered es s x parts.1)

key_at : {X : Type 0} (es : List (Stop × X)) (i : ℕ) (d : Stop) → i < length (keys_of es) →
    (x : X) × (slice_get es i ≡ Some (get_or (keys_of es) i d, x))
key_at [] i d less = absurd (omega arith)
key_at (e ∷ es) zero d less = (e.1, refl)
key_at (e ∷ es) (suc i) d less = key_at es i d (omega (arith, less))

-- the place of one
pub placed : {X : Type 0} (es : List (Stop × X)) (s : Stop) (i : ℕ) →
    position (eq-value.it s) (keys_of es) ≡ Some i →
    (x : X) × (slice_get es i ≡ Some (s, x))
placed {X} es s i at =
    let found = position-Some (eq-value.it s) (keys_of es) i s at in
    let here = key_at es i s found.0 in
    let one : s ≡ get_or (keys_of es) i s = stop_is s (get_or (keys_of es) i s)
    (sym (eq_is s (get_or (keys_of es) i s)) ∙ found.1) in
    (here.0, here.1 ∙ ap (λ (t : Stop). Some (t, here.0)) (sym one))

-- what is not found was not met
pub not_got : {X : Type 0} (es : List (Stop × X)) (s : Stop) → is_some (lookup (eq-value.it s) es)
    ≡ false → are_met es s ≡ false
not_got {X} es s none = by (lookup (eq-value.it s) es) (got es s) none
  where
    by : (o : Option X) → MatchOption o (are_met es s ≡ false) (Has es s) → is_some o ≡ false →
        are_met es s ≡ false
    by None h none = h
    by (Some x) h none = absurd (cc)
