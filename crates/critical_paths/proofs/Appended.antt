-- Arrivals that come to others, and what is known then.
use Rattle.std.proofs.Common.{◌≡◌, ℕ, ◌+◌, ◌-◌, ◌<◌, ◌≤◌, Bool, true, false, ◌&&◌, cond, List, [], ◌∷◌, ◌++◌, length, map, take, drop, get_or, refl, sym, ap, subst, ◌∙◌, arith, append_assoc, ℤ, Option, Some, None}
use Rattle.std.specs.Prelude.{nat_le, slice_get}
use Rattle.std.specs.Option.{option_and_then}
use Rattle.std.proofs.lemmas.Option.{get_or_from_slice_get, slice_get_within}
use Rattle.std.proofs.lemmas.List.{drop-append-le, drop_at, length-append, length-drop, length-map, map_more, take-append-le, take_all}
use Rattle.flat_circuit.specs.Circuit.{Circuit}
use Rattle.fixpoint_engine.specs.Waves.{Waves}
use Rattle.critical_paths.specs.declared.arrival.Known.{Known}
use Rattle.critical_paths.specs.declared.arrival.Known.TheVariants.{Begun, Done}
use Rattle.critical_paths.specs.declared.arrival.Place.{Place}
use Rattle.critical_paths.specs.declared.gather.Reached.{Reached}
use Rattle.critical_paths.specs.declared.near.Near.{Near}
use Rattle.critical_paths.specs.Reached.{AreArrivals, gathered, known_of, range_of, range_within, same_place, time_of, times, times_in}
use Rattle.critical_paths.proofs.Places.{place_is}

-- ---- those that are appended

pub more_gathered : (old : List (ℤ × ℤ)) (found : List Reached) (i : ℕ) (d : Reached) → i < length found →
    (old ++ gathered (take i found)) ++ time_of (get_or found i d) ∷ [] ≡ old ++ gathered (take (i + 1) found)
more_gathered old found i d less =
    append_assoc old (gathered (take i found)) (time_of (get_or found i d) ∷ [])
    ∙ ap (λ (l : List (ℤ × ℤ)). old ++ l) (sym (map_more time_of found i d less))

-- with the next one
pub append_one : (old mid new : List (ℤ × ℤ)) (found : List Reached) (i : ℕ) (a : Reached) →
    slice_get found i ≡ Some a → new ≡ mid ++ time_of a ∷ [] → mid ≡ old ++ gathered (take i found) →
    new ≡ old ++ gathered (take (i + 1) found)
append_one old mid new found i a at one so =
    one ∙ ap (λ (l : List (ℤ × ℤ)). l ++ time_of a ∷ []) so
    ∙ ap (λ (x : Reached). (old ++ gathered (take i found)) ++ time_of x ∷ [])
    (sym (get_or_from_slice_get found i a a at))
    ∙ more_gathered old found i a (slice_get_within found i a at)

pub map_one : {A : Type 0} (f : A → ℤ × ℤ) (old mid new : List (ℤ × ℤ)) (xs : List A) (i : ℕ) (d : A) → i < length xs →
    new ≡ mid ++ f (get_or xs i d) ∷ [] → mid ≡ old ++ map f (take i xs) → new ≡ old ++ map f (take (i + 1) xs)
map_one f old mid new xs i d less one so =
    one ∙ ap (λ (l : List (ℤ × ℤ)). l ++ f (get_or xs i d) ∷ []) so
    ∙ append_assoc old (map f (take i xs)) (f (get_or xs i d) ∷ [])
    ∙ ap (λ (l : List (ℤ × ℤ)). old ++ l) (sym (map_more f xs i d less))

pub long_appended : (old new : List Near) (found : List Reached) → times new ≡ times old ++ gathered found →
    length new ≡ length old + length found
long_appended old new found is =
    sym (length-map {B = ℤ × ℤ} new (λ (a : Near). (a.ideal, a.tick))) ∙ ap length is
    ∙ length-append (times old) (gathered found)
    ∙ (λ i. length-map {B = ℤ × ℤ} old (λ (a : Near). (a.ideal, a.tick)) i + length-map found time_of i)

take_whole : {A : Type 0} (n : ℕ) (xs : List A) → n ≡ length xs → take n xs ≡ xs
take_whole n xs is = take_all n xs (omega (arith, is))

-- of a place that is worked out
pub times_new : (old new : List Near) (found : List Reached) → times new ≡ times old ++ gathered found →
    times_in new (length old) (length old + length found) ≡ gathered found
times_new old new found is =
    let long : length (times old) ≡ length old = length-map {B = ℤ × ℤ} old (λ (a : Near). (a.ideal, a.tick)) in
    let count : length (gathered found) ≡ length found = length-map found time_of in
    ap (λ (l : List (ℤ × ℤ)). take (length old + length found - length old) (drop (length old) l)) is
    ∙ ap (take (length old + length found - length old)) (drop_at (times old) (gathered found) (length old) long)
    ∙ take_whole _ (gathered found) (omega (arith, count))

-- and of those before it
pub times_old : (old new : List Near) (found : List Reached) (from past : ℕ) →
    times new ≡ times old ++ gathered found → from ≤ past → past ≤ length old →
    times_in new from past ≡ times_in old from past
times_old old new found from past is ordered within =
    let long : length (times old) ≡ length old = length-map {B = ℤ × ℤ} old (λ (a : Near). (a.ideal, a.tick)) in
    let left = length-drop from (times old) in
    ap (λ (l : List (ℤ × ℤ)). take (past - from) (drop from l)) is
    ∙ ap (take (past - from)) (drop-append-le from (times old) (gathered found) (omega (arith, long, ordered, within)))
    ∙ take-append-le (past - from) (drop from (times old)) (gathered found) (omega (arith, left, long, ordered, within))

-- ---- what is known

pub done_is : (a b c d : ℕ) → Some (Done a b) ≡ Some (Done c d) → (a ≡ c) × (b ≡ d)
done_is a b c d same = (ap from same, ap past same)
  where
    from : Option Known → ℕ
    from None = 0
    from (Some Begun) = 0
    from (Some (Done x y)) = x

    past : Option Known → ℕ
    past None = 0
    past (Some Begun) = 0
    past (Some (Done x y)) = y

-- a range that is known is that of a place that is worked out
pub range_done : (entries : List (Place × Known)) (count : ℕ) (q : Place) (range : ℕ × ℕ) →
    range_of entries count q ≡ Some range → known_of entries q ≡ Some (Done range.0 range.1)
range_done entries count q range is = by (known_of entries q) is
  where
    within : (from past : ℕ) (b : Bool) → cond b (Some (from, past)) None ≡ Some range →
        Some (Done from past) ≡ Some (Done range.0 range.1)
    within from past true is = ap (λ (r : ℕ × ℕ). Some (Done r.0 r.1)) (let same : (from, past) ≡ range = cc in same)
    within from past false is = absurd (cc)

    by : (o : Option Known) → option_and_then (range_within count) o ≡ Some range →
        o ≡ Some (Done range.0 range.1)
    by None is = absurd (cc)
    by (Some Begun) is = absurd (cc)
    by (Some (Done from past)) is = within from past (nat_le from past && nat_le past count) is

module _ (c : Circuit) (ws : Waves) where
  abbrev pub IsEach : List (Place × Known) → List Near → Type 0
  IsEach entries all =
      (q : Place) (from past : ℕ) → known_of entries q ≡ Some (Done from past) →
      (from ≤ past) × (past ≤ length all) × AreArrivals c ws q (times_in all from past)

  pub each_done : (entries after : List (Place × Known)) (old new : List Near) (place : Place)
      (found : List Reached) → IsEach entries old → AreArrivals c ws place (gathered found) →
      ((q : Place) → known_of after q ≡ cond (same_place place q)
      (Some (Done (length old) (length old + length found))) (known_of entries q)) →
      times new ≡ times old ++ gathered found → IsEach after new
  each_done entries after old new place found knows are set is =
      λ q from past at. by q from past (same_place place q) refl (sym (set q) ∙ at)
    where
      long : length new ≡ length old + length found
      long = long_appended old new found is

      by : (q : Place) (from past : ℕ) (b : Bool) → same_place place q ≡ b →
          cond (same_place place q) (Some (Done (length old) (length old + length found))) (known_of entries q)
          ≡ Some (Done from past) →
          (from ≤ past) × (past ≤ length new) × AreArrivals c ws q (times_in new from past)
      by q from past true same at =
          let ends = done_is (length old) (length old + length found) from past
          (sym (ap (λ (b : Bool). cond b (Some (Done (length old) (length old + length found))) (known_of entries q)) same) ∙ at) in
          let low = ends.0 in
          let high = ends.1 in (
            omega (arith, low, high),
            omega (arith, high, long),
            subst (λ (r : Place). AreArrivals c ws r (times_in new from past)) (place_is place q same)
                (subst (AreArrivals c ws place)
                (sym (times_new old new found is) ∙ (λ i. times_in new (low i) (high i))) are),
          )
      by q from past false other at =
          let before = knows q from past
          (sym (ap (λ (b : Bool). cond b (Some (Done (length old) (length old + length found))) (known_of entries q)) other) ∙ at) in
          let ordered = before.0 in
          let within = before.1 in (
            ordered,
            omega (arith, within, long),
            subst (AreArrivals c ws q) (sym (times_old old new found from past is ordered within)) before.2,
          )
