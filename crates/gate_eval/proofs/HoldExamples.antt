-- The rule of a mark at one tick, as a test that computes, and tables of it: the marked pin stays
-- at the bit that closes the gate, or no other pin steps. Each pin has its bit at the tick before,
-- and at the tick.
use Rattle.std.proofs.Common.{◌≡◌, ◌≢◌, ℕ, ◌-◌, Bool, true, false, not, ◌&&◌, ◌||◌, List, [], ◌∷◌, length, map, nat_eq, refl, All, Decides}
use Prim.Native.String.{String}
use Rattle.std.specs.List.{list_all}
use Rattle.std.proofs.lemmas.Bool.Decides.{Decides-and, Decides-or, Decides-not}
use Rattle.scald_base.specs.Signal.{Signal}
use Rattle.element_kinds.specs.declared.kind.Kind.TheVariants.{And, Or}
use Rattle.element_kinds.specs.Equation.{nth_signal}
use Rattle.flat_circuit.proofs.Deciding.{equal_tells, same_bit, same_bit_tells, if_tells, all_tells, each_below, below_tells}
use Rattle.gate_eval.specs.Hold.{closed_bit, IsHeld}
use Rattle.gate_eval.proofs.PermitExamples.{signal}

-- ---- the test

abbrev stays : Bool → Signal → ℕ → Bool
stays closed x t = same_bit (x (t - 1)) closed && same_bit (x t) closed

abbrev is_still : ℕ → List Signal → ℕ → ℕ → Bool
is_still marked signals t pin =
    not (not (nat_eq pin marked)) || same_bit (nth_signal signals pin (t - 1))
    (nth_signal signals pin t)

abbrev IsStill : ℕ → List Signal → ℕ → ℕ → Type 0
IsStill marked signals t pin =
    pin ≢ marked → nth_signal signals pin (t - 1) ≡ nth_signal signals pin t

still_tells : (marked : ℕ) (signals : List Signal) (t pin : ℕ) →
    Decides (is_still marked signals t pin) (IsStill marked signals t pin)
still_tells marked signals t pin =
    if_tells (not (nat_eq pin marked)) _ (Decides-not (nat_eq pin marked) (equal_tells pin marked))
    (same_bit_tells _ _)

abbrev is_held : Bool → ℕ → List Signal → ℕ → Bool
is_held closed marked signals t =
    stays closed (nth_signal signals marked) t || each_below (is_still marked signals t)
    (length signals)

held_tells : (closed : Bool) (marked : ℕ) (signals : List Signal) (t : ℕ) →
    Decides (is_held closed marked signals t) (IsHeld closed marked signals t)
held_tells closed marked signals t =
    Decides-or (stays closed (nth_signal signals marked) t)
    (each_below (is_still marked signals t) (length signals))
    (Decides-and (same_bit (nth_signal signals marked (t - 1)) closed) _ (same_bit_tells _ _)
    (same_bit_tells _ _))
    (below_tells (is_still marked signals t) (IsStill marked signals t)
    (still_tells marked signals t) (length signals))

-- ---- tables: of three pins the second is marked

abbrev IsKept : Bool → List String → Type 0
IsKept closed texts = IsHeld closed 1 (map signal texts) 1

abbrev is_kept : Bool → List String → Bool
is_kept closed texts = is_held closed 1 (map signal texts) 1

kept_tells : (closed : Bool) (texts : List String) →
    Decides (is_kept closed texts) (IsKept closed texts)
kept_tells closed texts = held_tells closed 1 (map signal texts) 1

record AreKept (closed : Bool) (rows : List (List String)) : Type 0 where
  each : All (IsKept closed) rows

record NoneIsKept (closed : Bool) (rows : List (List String)) : Type 0 where
  each : All (λ texts. ¬ (IsKept closed texts)) rows

are_kept : {closed : Bool} {rows : List (List String)} → list_all (is_kept closed) rows ≡ true →
    AreKept closed rows
are_kept {closed = closed} {rows = rows} h =
    record { each = (all_tells (is_kept closed) (IsKept closed) (kept_tells closed) rows).0 h }

none_is_kept : {closed : Bool} {rows : List (List String)} →
    list_all (λ texts. not (is_kept closed texts)) rows ≡ true → NoneIsKept closed rows
none_is_kept {closed = closed} {rows = rows} h = record {
  each = (all_tells (λ texts. not (is_kept closed texts)) (λ texts. ¬ (IsKept closed texts))
      (λ texts. Decides-not (is_kept closed texts) (kept_tells closed texts)) rows).0 h;
}

closed_bits : (closed_bit And ≡ false) × (closed_bit Or ≡ true)
closed_bits = (refl, refl)

-- closed at both bits, whatever else steps; else the others are still, and the marked pin may do
-- anything
kept_by_and : AreKept false
    (("01" ∷ "00" ∷ "10" ∷ []) ∷ ("00" ∷ "01" ∷ "11" ∷ []) ∷ ("11" ∷ "10" ∷ "00" ∷ []) ∷
    ("00" ∷ "11" ∷ "00" ∷ []) ∷ [])
kept_by_and = are_kept refl

not_kept_by_and : NoneIsKept false
    (("01" ∷ "01" ∷ "00" ∷ []) ∷ ("00" ∷ "10" ∷ "10" ∷ []) ∷ ("11" ∷ "11" ∷ "01" ∷ []) ∷
    ("10" ∷ "11" ∷ "11" ∷ []) ∷ [])
not_kept_by_and = none_is_kept refl

kept_by_or : AreKept true
    (("01" ∷ "11" ∷ "10" ∷ []) ∷ ("00" ∷ "01" ∷ "11" ∷ []) ∷ ("11" ∷ "10" ∷ "00" ∷ []) ∷
    ("00" ∷ "00" ∷ "11" ∷ []) ∷ [])
kept_by_or = are_kept refl

not_kept_by_or : NoneIsKept true
    (("01" ∷ "01" ∷ "00" ∷ []) ∷ ("00" ∷ "10" ∷ "10" ∷ []) ∷ ("11" ∷ "00" ∷ "01" ∷ []) ∷
    ("10" ∷ "00" ∷ "11" ∷ []) ∷ [])
not_kept_by_or = none_is_kept refl
