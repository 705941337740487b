-- When two stops are one.
use Rattle.std.proofs.Common.{◌≡◌, ℕ, ◌==◌, Bool, true, false, ◌||◌, List, [], ◌∷◌, ◌++◌, refl, ap, ◌∙◌, zero, suc, eqb-true, eq-eqb, Some, ◌⊎◌, inl, inr}
use Rattle.std.proofs.lemmas.Bool.{and_parts, and_from, or_right, or_left}
use Rattle.critical_paths.specs.declared.direction.Direction.{Direction}
use Rattle.critical_paths.specs.declared.direction.Direction.TheVariants.{Rise, Fall, Change}
use Rattle.critical_paths.specs.declared.direction.Corner.{Corner}
use Rattle.critical_paths.specs.declared.direction.Corner.TheVariants.{Late, Early}
use Rattle.critical_paths.specs.declared.event.Reading.{Reading}
use Rattle.critical_paths.specs.declared.event.Reading.TheVariants.{Folded, Unfolded}
use Rattle.critical_paths.specs.declared.event.Stop.{Stop}
use Rattle.critical_paths.specs.Event.{same_direction}
use Rattle.critical_paths.specs.Walk.{same_corner, same_reading, same_stop}
use Rattle.critical_paths.specs.Known.{Has, are_met}

pub direction_is : (a b : Direction) → same_direction a b ≡ true → a ≡ b
direction_is Rise Rise h = refl
direction_is Rise Fall h = absurd (cc)
direction_is Rise Change h = absurd (cc)
direction_is Fall Rise h = absurd (cc)
direction_is Fall Fall h = refl
direction_is Fall Change h = absurd (cc)
direction_is Change Rise h = absurd (cc)
direction_is Change Fall h = absurd (cc)
direction_is Change Change h = refl

pub corner_is : (a b : Corner) → same_corner a b ≡ true → a ≡ b
corner_is Late Late h = refl
corner_is Late Early h = absurd (cc)
corner_is Early Late h = absurd (cc)
corner_is Early Early h = refl

reading_is : (a b : Reading) → same_reading a b ≡ true → a ≡ b
reading_is Folded Folded h = refl
reading_is Folded Unfolded h = absurd (cc)
reading_is Unfolded Folded h = absurd (cc)
reading_is Unfolded Unfolded h = refl

pub direction_self : (a : Direction) → same_direction a a ≡ true
direction_self Rise = refl
direction_self Fall = refl
direction_self Change = refl

pub corner_self : (a : Corner) → same_corner a a ≡ true
corner_self Late = refl
corner_self Early = refl

reading_self : (a : Reading) → same_reading a a ≡ true
reading_self Folded = refl
reading_self Unfolded = refl

abbrev pub stop_by : ℕ → Direction → ℕ → Corner → Reading → Stop
stop_by n d s c r = record { net = n; direction = d; slot = s; corner = c; reading = r }

-- stops of the same parts are one
pub stop_from : (a b : Stop) → a.net ≡ b.net → a.direction ≡ b.direction → a.slot ≡ b.slot →
    a.corner ≡ b.corner → a.reading ≡ b.reading → a ≡ b
stop_from a b one two three four five =
    ap (λ (x : ℕ). stop_by x a.direction a.slot a.corner a.reading) one
    ∙ ap (λ (x : Direction). stop_by b.net x a.slot a.corner a.reading) two
    ∙ ap (λ (x : ℕ). stop_by b.net b.direction x a.corner a.reading) three
    ∙ ap (λ (x : Corner). stop_by b.net b.direction b.slot x a.reading) four
    ∙ ap (λ (x : Reading). stop_by b.net b.direction b.slot b.corner x) five

pub stop_is : (a b : Stop) → same_stop a b ≡ true → a ≡ b
stop_is a b h =
    let net = and_parts (a.net == b.net) _ h in
    let direction = and_parts (same_direction a.direction b.direction) _ net.1 in
    let slot = and_parts (a.slot == b.slot) _ direction.1 in
    let corner = and_parts (same_corner a.corner b.corner) _ slot.1 in
    let one : a.net ≡ b.net = eqb-true a.net b.net net.0 in
    let two : a.direction ≡ b.direction = direction_is a.direction b.direction direction.0 in
    let three : a.slot ≡ b.slot = eqb-true a.slot b.slot slot.0 in
    let four : a.corner ≡ b.corner = corner_is a.corner b.corner corner.0 in
    let five : a.reading ≡ b.reading = reading_is a.reading b.reading corner.1 in
    stop_from a b one two three four five

pub stop_self : (s : Stop) → same_stop s s ≡ true
stop_self s =
    and_from (s.net == s.net) _ (eq-eqb s.net s.net refl)
    (and_from (same_direction s.direction s.direction) _ (direction_self s.direction)
    (and_from (s.slot == s.slot) _ (eq-eqb s.slot s.slot refl)
    (and_from (same_corner s.corner s.corner) _ (corner_self s.corner) (reading_self s.reading))))

-- both ways
pub stop_turned : (a b : Stop) → same_stop a b ≡ same_stop b a
stop_turned a b = by (same_stop a b) (same_stop b a) refl refl
  where
    by : (x y : Bool) → same_stop a b ≡ x → same_stop b a ≡ y → x ≡ y
    by true true h k = refl
    by false false h k = refl
    by true false h k = absurd (cc (k, ap (λ s. same_stop b s) (stop_is a b h), stop_self b))
    by false true h k = absurd (cc (h, ap (λ s. same_stop a s) (stop_is b a k), stop_self a))

-- ---- what was met

pub met_of : {X : Type 0} (entries : List (Stop × X)) (s : Stop) (i : X) → Has entries s i →
    are_met entries s ≡ true
met_of [] s i (k, is) = absurd (cc)
met_of (e ∷ es) s i (zero, is) =
    let same : e ≡ (s, i) = some_is e (s, i) is in
    or_left (same_stop s e.0) _ (ap (λ (x : Stop × _). same_stop s x.0) same ∙ stop_self s)
  where
    some_is : {Y : Type 0} (a b : Y) → Some a ≡ Some b → a ≡ b
    some_is a b h = cc
met_of (e ∷ es) s i (suc k, is) = or_right (same_stop s e.0) _ (met_of es s i (k, is))

-- one more
pub met_more : {X : Type 0} (entries : List (Stop × X)) (e : Stop × X) (q : Stop) →
    are_met (entries ++ e ∷ []) q ≡ (are_met entries q || same_stop q e.0)
met_more [] e q = by (same_stop q e.0)
  where
    by : (b : Bool) → (b || false) ≡ b
    by true = refl
    by false = refl
met_more (x ∷ xs) e q = ap (λ b. same_stop q x.0 || b) (met_more xs e q)
    ∙ joined (same_stop q x.0) (are_met xs q) (same_stop q e.0)
  where
    joined : (a b c : Bool) → (a || (b || c)) ≡ ((a || b) || c)
    joined true b c = refl
    joined false b c = refl

-- it is one that there was, or this one
pub has_more : {X : Type 0} (entries : List (Stop × X)) (e : Stop × X) (s : Stop) (i : X) →
    Has (entries ++ e ∷ []) s i → Has entries s i ⊎ (e ≡ (s, i))
has_more [] e s i (zero, is) = inr (some_is e (s, i) is)
  where
    some_is : {Y : Type 0} (a b : Y) → Some a ≡ Some b → a ≡ b
    some_is a b h = cc
has_more [] e s i (suc k, is) = absurd (cc)
has_more (x ∷ xs) e s i (zero, is) = inl (0, is)
has_more (x ∷ xs) e s i (suc k, is) = elim (has_more xs e s i (k, is))
    [ inl h ↦ inl (suc h.0, h.1) | inr h ↦ inr h ]
