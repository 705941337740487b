-- The pins of a key, one by one.
use Rattle.std.proofs.Common.{◌≡◌, ℕ, ◌+◌, ◌<◌, Bool, true, false, if◌then◌else◌, List, [], ◌∷◌, ◌++◌, length, map, take, get_or, refl, sym, ap, ◌∙◌, slice_get, Option, Some, None, is_some}
use Rattle.std.proofs.lemmas.List.{map-append, map_more}
use Rattle.scald_base.specs.Time.{Bounds, Header}
use Rattle.step_values.specs.declared.value.Value.{Value}
use Rattle.skew_algebra.specs.Wave.{Wave}
use Rattle.flat_circuit.specs.declared.split.Split.{Split}
use Rattle.pin_waves.specs.Interface.{constant_wave}
use Rattle.fixpoint_engine.specs.Table.{AreKnown, IsNumber}
use Rattle.fixpoint_engine.proofs.Growing.{grows_none}
use Rattle.fixpoint_engine.proofs.TableByNumber.{known_more}
use Rattle.fixpoint_engine.specs.declared.key.Constants.{Constants}
use Rattle.fixpoint_engine.specs.Key.{AreConstants}

-- the number of the wave of a constant
pub constant_number : (h : Header) (table : List (Wave Value)) (k : Constants) (one : Bool) (n : ℕ) →
    AreConstants h table k → n ≡ (if one then k.one else k.zero) → IsNumber table (constant_wave h one) n
constant_number h table k true n are is = ap (slice_get table) is ∙ are.one
constant_number h table k false n are is = ap (slice_get table) is ∙ are.zero

-- one key more, which shows what one pin more does
pub pin_added : {A B C : Type 0} (f : A → C) (g : B → C) (keys more : List A) (key : A) (pins : List B) (i : ℕ) (d : B) →
    more ≡ keys ++ key ∷ [] → f key ≡ g (get_or pins i d) → i < length pins →
    map f keys ≡ map g (take i pins) → map f more ≡ map g (take (i + 1) pins)
pin_added f g keys more key pins i d put same below before =
    ap (map f) put ∙ map-append f keys (key ∷ []) ∙ (λ k. before k ++ same k ∷ []) ∙ sym (map_more g pins i d below)

-- and whose wave is known
pub known_added : {A : Type 0} (number : A → ℕ) (table : List (Wave Value)) (keys more : List A) (key : A) →
    more ≡ keys ++ key ∷ [] → number key < length table → AreKnown table (map number keys) → AreKnown table (map number more)
known_added number table keys more key put below known =
    known_more table table (map number keys) (map number more) (number key) (grows_none table table refl) known below
    (ap (map number) put ∙ map-append number keys (key ∷ []))

-- two delays, as a key has them
pub split_kept : (split : Option Split) (s : Split) (rise fall : Bounds) (b : Bool) → split ≡ Some s → rise ≡ s.rise → fall ≡ s.fall → b ≡ is_some split →
    (if b then Some (record { rise = rise; fall = fall }) else None) ≡ split
split_kept split s rise fall b is rises falls some =
    (λ k. if (some ∙ ap is_some is) k then Some (record { rise = rises k; fall = falls k }) else None) ∙ sym is

pub none_kept : (split : Option Split) (rise fall : Bounds) (b : Bool) → split ≡ None → b ≡ is_some split →
    (if b then Some (record { rise = rise; fall = fall }) else None) ≡ split
none_kept split rise fall b is some =
    (λ k. if (some ∙ ap is_some is) k then Some (record { rise = rise; fall = fall }) else None) ∙ sym is
