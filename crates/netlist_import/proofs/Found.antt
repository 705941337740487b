-- The first item of a name.
use Rattle.std.proofs.Common.{◌≡◌, ℕ, ◌+◌, ◌<◌, Bool, true, false, cond, ◌&&◌, ◌||◌, ◌==◌, List, [], ◌∷◌, ◌++◌, length, map, get_or, drop, Option, Some, None, refl, sym, ap, ◌∙◌}
use Rattle.std.specs.Prelude.{slice_get, option_map}
use Rattle.std.specs.List.{find, list_any, position_from}
use Rattle.std.specs.Option.{unwrap_or}
use Rattle.std.specs.Str.{bytes_eq}
use Rattle.std.specs.Borrow.{Bor}
use Rattle.std.proofs.lemmas.List.{append_assoc, drop_more, length_push}
use Rattle.netlist_import.specs.declared.netlist.Port.{Port}
use Rattle.netlist_import.specs.declared.value.Json.{Json}
use Rattle.netlist_import.specs.Fault.{is_like}
use Rattle.netlist_import.specs.Index.{item_at}
use Rattle.netlist_import.specs.Netlist.{members_or_none}
use Rattle.netlist_import.specs.Placed.{Placed, field, member_of, placed_of}

-- the first place from this one on
abbrev pub place_from : {X : Type 0} → ℕ → (X → Bool) → List X → Option ℕ
place_from k passes xs = position_from passes k (drop k xs)

pub place_step : {X : Type 0} (passes : X → Bool) (xs : List X) (k : ℕ) (d : X) → k < length xs →
    place_from k passes xs ≡ cond (passes (get_or xs k d)) (Some k) (place_from (k + 1) passes xs)
place_step {X} passes xs k d h = ap (λ (ys : List X). position_from passes k ys)
    (drop_more xs k d h)

-- ---- the item at the first place

after_front : {X : Type 0} (front xs : List X) (x : X) →
    slice_get (front ++ x ∷ xs) (length front) ≡ Some x
after_front [] xs x = refl
after_front (y ∷ front) xs x = after_front front xs x

found_from : {X : Type 0} (p : X → Bool) (front xs : List X) →
    item_at (front ++ xs) (position_from p (length front) xs) ≡ find p xs
found_from p front [] = refl
found_from {X} p front (x ∷ xs) = at (p x)
    (ap (λ (ys : List X). item_at ys (position_from p (length front + 1) xs))
    (sym (append_assoc front (x ∷ []) xs))
    ∙ ap (λ (n : ℕ). item_at ((front ++ x ∷ []) ++ xs) (position_from p n xs))
    (sym (length_push front x))
    ∙ found_from p (front ++ x ∷ []) xs)
  where
    at : (b : Bool) →
        item_at (front ++ x ∷ xs) (position_from p (length front + 1) xs) ≡ find p xs →
        item_at (front ++ x ∷ xs)
        (cond b (Some (length front)) (position_from p (length front + 1) xs))
        ≡ cond b (Some x) (find p xs)
    at true more = after_front front xs x
    at false more = more

pub found_at : {X : Type 0} (p : X → Bool) (xs : List X) →
    item_at xs (position_from p 0 xs) ≡ find p xs
found_at p xs = found_from p [] xs

-- ---- the value of the first member of a name

pub field_at : (name : List ℕ) (ms : List (Bor (List ℕ) × Json)) →
    field name (map member_of ms)
    ≡ option_map (λ m. placed_of m.1) (find (λ m. bytes_eq m.0.now name) ms)
unfolding field
field_at name [] = refl
field_at name (m ∷ ms) = at (bytes_eq m.0.now name) (field_at name ms)
  where
    at : (b : Bool) → field name (map member_of ms)
        ≡ option_map (λ m. placed_of m.1) (find (λ m. bytes_eq m.0.now name) ms) →
        cond b (Some (placed_of m.1)) (field name (map member_of ms))
        ≡ option_map (λ m. placed_of m.1)
        (cond b (Some m) (find (λ m. bytes_eq m.0.now name) ms))
    at true more = refl
    at false more = more

-- ---- the members of an object that may be missing

pub members_found : (o : Option (Bor (List (Bor (List ℕ) × Json)))) →
    map member_of (unwrap_or (option_map (λ ms. ms.now) o) [])
    ≡ members_or_none (option_map (λ ms. map member_of ms.now) o)
members_found None = refl
members_found (Some ms) = refl

-- ---- a port that a connection is like

module _ (name : List ℕ) (width : ℕ) where
  -- none of the name
  pub like_none : (ps : List Port) → None ≡ find (λ p. bytes_eq p.name name) ps →
      list_any (is_like name width) ps ≡ false
  like_none [] h = refl
  like_none (p ∷ ps) h = at (bytes_eq p.name name) h (like_none ps)
    where
      at : (b : Bool) → None ≡ cond b (Some p) (find (λ p. bytes_eq p.name name) ps) →
          (None ≡ find (λ p. bytes_eq p.name name) ps →
          list_any (is_like name width) ps ≡ false) →
          ((b && (width == 0 || width == length p.bits)) || list_any (is_like name width) ps)
          ≡ false
      at true h more = absurd cc
      at false h more = more h

  -- the first of the name
  pub like_first : (q : Port) (ps : List Port) → Some q ≡ find (λ p. bytes_eq p.name name) ps →
      (width == 0 || width == length q.bits) ≡ true → list_any (is_like name width) ps ≡ true
  like_first q [] h w = absurd cc
  like_first q (p ∷ ps) h w = at (bytes_eq p.name name) h (λ e. like_first q ps e w)
    where
      at : (b : Bool) → Some q ≡ cond b (Some p) (find (λ p. bytes_eq p.name name) ps) →
          (Some q ≡ find (λ p. bytes_eq p.name name) ps →
          list_any (is_like name width) ps ≡ true) →
          ((b && (width == 0 || width == length p.bits)) || list_any (is_like name width) ps)
          ≡ true
      at true h more =
          let e : q ≡ p = cc in
          ap (λ (x : Port). (width == 0 || width == length x.bits)
          || list_any (is_like name width) ps) (sym e)
          ∙ ap (λ (b : Bool). b || list_any (is_like name width) ps) w
      at false h more = more h
