-- The nets on which constraints depend, computed on a small circuit.
use Rattle.std.specs.Prelude.{◌||◌, ◌==◌, nat_lt}
use Rattle.std.proofs.Common.{◌≡◌, ℕ, zero, suc, ◌<◌, Bool, true, false, true≢false, [], ◌∷◌, refl, sym, arith}
use Rattle.std.proofs.lemmas.Bool.{and_parts, eqb-true}
use Rattle.element_kinds.specs.declared.kind.Kind.TheVariants.{Buf, Reg, SetupHold}
use Rattle.flat_circuit.specs.Circuit.{Circuit, driver}
use Rattle.flat_circuit.proofs.RunTables.{bounds, checker, circuit, constant, driven_by, element, input, on}
use Rattle.narrowing.specs.Cone.{Behind, fed, fed_by, first, is_first, nets_of_pins, own_nets}
use Rattle.narrowing.specs.declared.cone.Through.TheVariants.{EachPin, ListeningPins}
use Rattle.narrowing.specs.declared.constraint.Constraint.TheVariants.{Instance as OfInstance, Pulse as OfPulse, Net as OfNet}

-- a register of a clock and an input, a buffer of its output, a checker of the clock and the buffer,
-- and an input that leads to none of them
abbrev small : Circuit
small =
    circuit (input ∷ input ∷ driven_by 0 ∷ driven_by 1 ∷ input ∷ [])
    (element Reg (bounds 5 10) (on 0 ∷ on 1 ∷ []) 2 ∷ element Buf (bounds 1 2) (on 2 ∷ []) 3
    ∷ checker SetupHold (on 0 ∷ on 3 ∷ []) ∷ [])

-- ---- the nets that a constraint is about

own : (own_nets small (OfInstance 2) ≡ 0 ∷ 3 ∷ []) × (own_nets small (OfPulse 2 true) ≡ 0 ∷ 3 ∷ [])
    × (own_nets small (OfNet 3) ≡ 3 ∷ []) × (own_nets small (OfInstance 9) ≡ [])
    × (nets_of_pins (constant true ∷ on 4 ∷ []) ≡ 4 ∷ [])
own = (refl, refl, refl, refl, refl)

-- those of the circuit alone
firsts : (is_first 5 (0 ∷ 3 ∷ []) 3 ≡ true) × (is_first 5 (0 ∷ 3 ∷ []) 1 ≡ false) × (is_first 3 (0 ∷ 3 ∷ []) 3 ≡ false)
firsts = (refl, refl, refl)

-- ---- the nets behind them

-- the pins of a driver; an input has none
pins : (fed_by EachPin 0 (driver small 2) ≡ true) × (fed_by EachPin 1 (driver small 2) ≡ true)
    × (fed_by EachPin 3 (driver small 2) ≡ false) × (fed_by EachPin 0 (driver small 0) ≡ false)
pins = (refl, refl, refl, refl)

-- a register's output does not listen to its input
listening : (fed_by ListeningPins 0 (driver small 2) ≡ true) × (fed_by ListeningPins 1 (driver small 2) ≡ false)
listening = (refl, refl)

itself : Behind small EachPin (3 ∷ []) 3
itself = first refl

the_buffer : Behind small EachPin (3 ∷ []) 2
the_buffer = fed itself refl

the_register : Behind small EachPin (3 ∷ []) 0 × Behind small EachPin (3 ∷ []) 1
the_register = (fed the_buffer refl, fed the_buffer refl)

either : {P : Type 0} (a b : Bool) → (a || b) ≡ true → (a ≡ true → P) → (b ≡ true → P) → P
either true b some p q = p refl
either false b some p q = q some

is_none : {P : Type 0} → false ≡ true → P
is_none is = absurd (true≢false (sym is))

-- and no other net
below : {net : ℕ} → Behind small EachPin (3 ∷ []) net → net < 4
below {net = net} (first is) =
    either (3 == net) false (and_parts (nat_lt net 5) ((3 == net) || false) is).1
    (λ same. let e = eqb-true 3 net same in omega (arith, e)) is_none
below (fed {net = zero} h is) = is_none is
below (fed {net = suc zero} h is) = is_none is
below (fed {net = suc (suc zero)} {from = net} h is) =
    either (0 == net) ((1 == net) || false) is (λ same. let e = eqb-true 0 net same in omega (arith, e))
    (λ more. either (1 == net) false more (λ same. let e = eqb-true 1 net same in omega (arith, e)) is_none)
below (fed {net = suc (suc (suc zero))} {from = net} h is) =
    either (2 == net) false is (λ same. let e = eqb-true 2 net same in omega (arith, e)) is_none
below (fed {net = suc (suc (suc (suc zero)))} h is) = is_none is
below (fed {net = suc (suc (suc (suc (suc n))))} h is) = is_none is

no_other : Behind small EachPin (3 ∷ []) 4 → ⊥
no_other h = let less : 4 < 4 = below h in omega arith
