-- Waves of four slots with a skew, worked out on paper.
use Rattle.std.specs.Prelude.{◌≡◌, ℕ, zero, suc, ◌-◌, ◌<◌, ◌||◌, Bool, true, false, not, List, [], ◌∷◌}
use Rattle.std.proofs.Common.{refl, ap, arith}
use Rattle.scald_base.specs.Clock.{back}
use Rattle.wave_core.specs.Cell.{Cells}
use Rattle.wave_core.specs.Slots.{earlier}
use Rattle.skew_algebra.specs.Wave.{skewed, fold, folded, normal, moved, IsNormal}
use Rattle.skew_algebra.specs.Permits.{Shows}

abbrev same_bit : Bool → Bool → Bool
same_bit true bit = bit
same_bit false bit = not bit

-- cells that may change or not: a join may if one of the two may
abbrev changes : Cells Bool
changes = record {
  has = λ cell before after. cell || same_bit before after;
  join = λ cell other. cell || other;
  flip = λ cell. cell;
  quiet = not;
  same = same_bit;
  any = false;
}

-- it may change in slot 1 alone
abbrev once : List Bool
once = false ∷ true ∷ false ∷ false ∷ []

abbrev never : List Bool
never = false ∷ false ∷ false ∷ false ∷ []

abbrev always : List Bool
always = true ∷ true ∷ true ∷ true ∷ []

-- ---- folds

late_by_two : folded changes (skewed once 2) ≡ false ∷ true ∷ true ∷ true ∷ []
unfolding earlier back
late_by_two = refl

late_over_the_end : fold changes (skewed once 3) 0 ≡ true
unfolding earlier back
late_over_the_end = refl

not_so_late : fold changes (skewed once 2) 0 ≡ false
unfolding earlier back
not_so_late = refl

-- ---- the normal form

skew_below_the_period : IsNormal changes (skewed once 3)
skew_below_the_period = record { steady = λ is. cc; equal = λ is. cc; short = omega arith }

skew_of_a_period : ¬ IsNormal changes (skewed once 4)
skew_of_a_period h =
    let short : 4 < 4 = h.short in
    omega (arith, short)

skew_of_a_steady_wave : ¬ IsNormal changes (skewed never 1)
skew_of_a_steady_wave h =
    let clash : 1 ≡ 0 = h.equal refl in
    omega (arith, clash)

skew_of_one_cell : ¬ IsNormal changes (skewed always 1)
skew_of_one_cell h =
    let clash : 1 ≡ 0 = h.equal refl in
    omega (arith, clash)

steady_without_skew : IsNormal changes (skewed never 0)
steady_without_skew = record { steady = λ is. refl; equal = λ is. refl; short = omega arith }

skew_is_capped : normal changes (skewed once 9) ≡ skewed once 3
unfolding normal
skew_is_capped = refl

steady_has_no_skew : normal changes (skewed never 2) ≡ skewed never 0
unfolding normal
steady_has_no_skew = refl

one_cell_has_no_skew : normal changes (skewed always 2) ≡ skewed always 0
unfolding normal
one_cell_has_no_skew = refl

-- late by the least delay, with the difference to the greatest as skew more
late_by_one_to_three : moved changes (skewed once 1) (record { min = 1; max = 3 }) ≡ skewed (false ∷ false ∷ true ∷ false ∷ []) 3
unfolding moved normal earlier back
late_by_one_to_three = refl

-- ---- a signal that shows another later

-- 1 from tick 3 on
abbrev rises : ℕ → Bool
rises zero = false
rises (suc zero) = false
rises (suc (suc zero)) = false
rises (suc (suc (suc t))) = true

-- 1 from tick 5 on
abbrev rises_later : ℕ → Bool
rises_later zero = false
rises_later (suc zero) = false
rises_later (suc (suc t)) = rises t

two_ticks_later : Shows 2 1 8 rises rises_later
two_ticks_later zero from below = refl
two_ticks_later (suc zero) from below = refl
two_ticks_later (suc (suc t)) from below = let before : t ≡ suc (suc t) - 2 = omega arith in ap rises before

-- at tick 4
not_one_tick_later : ¬ Shows 1 1 5 rises rises_later
not_one_tick_later h =
    let clash : false ≡ true = h 4 (omega arith) (omega arith) in
    cc

-- as far as tick 3 that is not seen
one_tick_later_so_far : Shows 1 1 4 rises rises_later
one_tick_later_so_far zero from below = refl
one_tick_later_so_far (suc zero) from below = refl
one_tick_later_so_far (suc (suc zero)) from below = refl
one_tick_later_so_far (suc (suc (suc zero))) from below = refl
one_tick_later_so_far (suc (suc (suc (suc t)))) from below = absurd (omega (arith, below))

not_from_tick_4 : ¬ Shows 1 5 8 rises rises_later
not_from_tick_4 h =
    let clash : false ≡ true = h 4 (omega arith) (omega arith) in
    cc

from_tick_5 : Shows 1 6 8 rises rises_later
from_tick_5 zero from below = absurd (omega (arith, from))
from_tick_5 (suc zero) from below = absurd (omega (arith, from))
from_tick_5 (suc (suc zero)) from below = absurd (omega (arith, from))
from_tick_5 (suc (suc (suc zero))) from below = absurd (omega (arith, from))
from_tick_5 (suc (suc (suc (suc zero)))) from below = absurd (omega (arith, from))
from_tick_5 (suc (suc (suc (suc (suc t))))) from below =
    let before : suc (suc (suc (suc t))) ≡ suc (suc (suc (suc (suc t)))) - 1 = omega arith in
    ap rises before
