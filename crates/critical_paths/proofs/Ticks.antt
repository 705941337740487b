-- Ticks of any period, and the slots in which they stand.
use Rattle.std.specs.Prelude.{unsigned_abs}
use Rattle.std.proofs.Common.{◌≡◌, ℕ, ◌+◌, ◌-◌, ◌*◌, ◌%◌, ◌<◌, ◌≤◌, refl, sym, ap, ◌∙◌, arith, ℤ, pos, negsuc, ◌+ℤ◌, ◌-ℤ◌}
use Rattle.std.proofs.lemmas.Int.{ints, int_rem_euclid_is}
use Rattle.std.proofs.Math.Nat.{mod-lt}
use Rattle.scald_base.specs.Clock.{back}
use Rattle.scald_base.proofs.Back.{back_mod, back_sooner, back_zero}
use Rattle.critical_paths.specs.declared.direction.Corner.{Corner}
use Rattle.critical_paths.specs.declared.direction.Corner.TheVariants.{Late, Early}
use Rattle.critical_paths.specs.Tick.{IsWithin, most_tick, slot_of, tick_beside}
use Rattle.critical_paths.specs.Path.{inward}
use Rattle.scald_base.specs.Time.{Bounds}
use Rattle.critical_paths.specs.Event.{beside}

-- some periods later it is a tick from 0 on
pub record IsAbove (p : ℕ) (tick : ℤ) : Type 0 where
  pub periods : ℕ
  pub place : ℕ
  pub is : tick +ℤ pos (periods * p) ≡ pos place

pub is_above : (p : ℕ) (tick : ℤ) → 0 < p → IsAbove p tick
is_above p (pos t) some = record { periods = 0; place = t; is = omega (arith, ints) }
is_above p (negsuc a) some =
    let whole : (a + 1) * p ≡ (a + 1) * (p - 1) + (a + 1) =
    (let e : p ≡ p - 1 + 1 = omega (arith, some) in ap (λ (z : ℕ). (a + 1) * z) e ∙ grind arith) in
    record { periods = a + 1; place = (a + 1) * (p - 1); is = omega (arith, ints, whole) }

at_place : (p : ℕ) (tick : ℤ) (k m : ℕ) → 0 < p → tick +ℤ pos (k * p) ≡ pos m →
    slot_of p tick ≡ m % p
at_place p tick k m some e = ap unsigned_abs (int_rem_euclid_is tick (pos p) p k m some refl e)

sooner : (p o k m : ℕ) (tick : ℤ) → 0 < p → tick +ℤ pos (k * p) ≡ pos m →
    (tick -ℤ pos o) +ℤ pos ((k + o) * p) ≡ pos (m + o * (p - 1))
sooner p o k m tick some e =
    let one : p ≡ p - 1 + 1 = omega (arith, some) in
    let spread : (k + o) * p ≡ k * p + o * p = grind arith in
    let whole : o * p ≡ o * (p - 1) + o = ap (λ (z : ℕ). o * z) one ∙ grind arith in
    omega (arith, ints, spread, whole, e)

pub slot_lt : (p : ℕ) (tick : ℤ) → 0 < p → slot_of p tick < p
slot_lt p tick some =
    let above = is_above p tick some in
    let is = at_place p tick above.periods above.place some above.is in
    let small : above.place % p < p = mod-lt above.place some in
    omega (arith, is, small)

-- so many ticks sooner
pub slot_back : (p o : ℕ) (tick : ℤ) → 0 < p → slot_of p (tick -ℤ pos o) ≡ back p (slot_of p tick) o
unfolding back
slot_back p o tick some =
    let above = is_above p tick some in
    at_place p (tick -ℤ pos o) (above.periods + o) (above.place + o * (p - 1)) some
    (sooner p o above.periods above.place tick some above.is)
    ∙ sym (back_mod p above.place o)
    ∙ ap (λ (z : ℕ). back p z o) (sym (at_place p tick above.periods above.place some above.is))

pub slot_next : (p : ℕ) (tick : ℤ) → 0 < p →
    slot_of p (tick +ℤ pos 1) ≡ back p (slot_of p tick + 1) 0
slot_next p tick some =
    let above = is_above p tick some in
    let is : tick +ℤ pos (above.periods * p) ≡ pos above.place = above.is in
    let next : (tick +ℤ pos 1) +ℤ pos (above.periods * p) ≡ pos (above.place + 1) =
    omega (arith, ints, is) in
    at_place p (tick +ℤ pos 1) above.periods (above.place + 1) some next
    ∙ sym (back_zero p (above.place + 1))
    ∙ sym (back_sooner p above.place 0 1 0)
    ∙ ap (λ (z : ℕ). back p (z + 1) 0) (back_zero p above.place
    ∙ sym (at_place p tick above.periods above.place some is))

one_back : (p t : ℕ) → back p t 1 ≡ back p (t + (p - 1)) 0
unfolding back
one_back p t = let whole : t + 1 * (p - 1) ≡ t + (p - 1) + 0 * (p - 1) = grind arith in
    ap (λ (z : ℕ). z % p) whole

pub slot_beside : (p : ℕ) (corner : Corner) (tick : ℤ) → 0 < p →
    slot_of p (tick_beside corner tick) ≡ back p (beside p corner (slot_of p tick)) 0
slot_beside p Late tick some = slot_next p tick some
slot_beside p Early tick some =
    slot_back p 1 tick some ∙ one_back p (slot_of p tick)

-- a whole period sooner
pub slot_same : (p : ℕ) (tick : ℤ) → 0 < p → back p (slot_of p tick) 0 ≡ slot_of p tick
slot_same p tick some =
    let above = is_above p tick some in
    let is = at_place p tick above.periods above.place some above.is in
    ap (λ (z : ℕ). back p z 0) is ∙ back_mod p above.place 0 ∙ back_zero p above.place ∙ sym is

pub within_sooner : (tick : ℤ) (n : ℕ) → IsWithin (2 * most_tick) tick → n ≤ 4095 →
    IsWithin (4 * most_tick) (tick -ℤ pos n)
within_sooner tick n near small = omega (arith, ints, near, small)

pub inward_small : (corner : Corner) (d : Bounds) (n : ℕ) → d.min + n ≤ d.max → d.max ≤ 4095 →
    inward corner d n ≤ 4095
inward_small Late d n within small = omega (arith, within, small)
inward_small Early d n within small = omega (arith, within, small)

-- of a tick of a later period
pub slot_pos : (p t : ℕ) → 0 < p → slot_of p (pos t) ≡ back p t 0
slot_pos p t some = at_place p (pos t) 0 t some (omega (arith, ints)) ∙ sym (back_zero p t)
