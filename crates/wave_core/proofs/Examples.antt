-- Cells read round a period of four slots, worked out on paper.
use Rattle.std.specs.Prelude.{◌≡◌, ℕ, zero, suc, ◌<◌, ◌≤◌, ◌+◌, ◌||◌, Bool, true, false, not, List, [], ◌∷◌, slice_get, Some, None}
use Rattle.std.proofs.Common.{refl, arith}
use Rattle.scald_base.specs.Clock.{back}
use Rattle.wave_core.specs.Cell.{Cells}
use Rattle.wave_core.specs.Fold.{line, span, tails}
use Rattle.wave_core.specs.Slots.{IsPeriod, SameUntil, FirstWhere, earlier, cell_round, folded, join_round, later}

abbrev same_bit : Bool → Bool → Bool
same_bit true bit = bit
same_bit false bit = not bit

-- cells that may change or not: a join may if one of the two may
abbrev changes : Cells Bool
changes = record {
  has = λ cell before after. cell || same_bit before after;
  join = λ cell other. cell || other;
  flip = λ cell. cell;
  quiet = not;
  same = same_bit;
  any = true;
}

abbrev once : List Bool
once = false ∷ true ∷ false ∷ false ∷ []

-- ---- periods

shortest_period : IsPeriod 2
shortest_period = record { shortest = omega arith; longest = omega arith }

longest_period : IsPeriod 4096
longest_period = record { shortest = omega arith; longest = omega arith }

one_slot : ¬ IsPeriod 1
one_slot h =
    let two : 2 ≤ 1 = h.shortest in
    omega (arith, two)

one_slot_too_many : ¬ IsPeriod 4097
one_slot_too_many h =
    let most : 4097 ≤ 4096 = h.longest in
    omega (arith, most)

-- ---- how far a cell goes on

up_to_the_change : SameUntil once 0 1
up_to_the_change = record { behind = omega arith; within = omega arith; same = λ p from below. one p below; other = λ below same. let clash : Some true ≡ Some false = same in cc }
  where
    one : (p : ℕ) → p < 1 → slice_get once p ≡ slice_get once 0
    one zero below = refl
    one (suc p) below = absurd (omega (arith, below))

-- the slots 2 and 3 have one cell; that slot 0 has it too does not count
up_to_the_end : SameUntil once 2 4
up_to_the_end = record { behind = omega arith; within = omega arith; same = two; other = λ below. absurd (omega (arith, below)) }
  where
    two : (p : ℕ) → 2 ≤ p → p < 4 → slice_get once p ≡ slice_get once 2
    two zero from below = absurd (omega (arith, from))
    two (suc zero) from below = absurd (omega (arith, from))
    two (suc (suc zero)) from below = refl
    two (suc (suc (suc zero))) from below = refl
    two (suc (suc (suc (suc p)))) from below = absurd (omega (arith, below))

past_the_change : ¬ SameUntil once 0 2
past_the_change h =
    let clash : Some true ≡ Some false = h.same 1 (omega arith) (omega arith) in
    cc

short_of_the_end : ¬ SameUntil once 2 3
short_of_the_end h = h.other (omega arith) refl

past_the_end : ¬ SameUntil once 2 5
past_the_end h =
    let within : 5 ≤ 4 = h.within in
    omega (arith, within)

at_the_slot : ¬ SameUntil once 2 2
at_the_slot h =
    let behind : 2 < 2 = h.behind in
    omega (arith, behind)

-- ---- cells round the period

one_slot_before : earlier changes once 2 1 ≡ true
unfolding earlier back
one_slot_before = refl

over_the_beginning : earlier changes once 0 3 ≡ true
unfolding earlier back
over_the_beginning = refl

in_the_next_period : cell_round changes once 5 ≡ true
unfolding earlier back
in_the_next_period = refl

two_slots_later : later changes once 2 ≡ false ∷ false ∷ false ∷ true ∷ []
unfolding earlier back
two_slots_later = refl

period_later : later changes once 4 ≡ once
unfolding earlier back
period_later = refl

-- ---- searches and joins

-- place 3 from slot 2 is slot 1 of the next period
found_round_the_period : FirstWhere changes once (λ cell answer. cell ≡ answer) 2 4 (Some 3)
unfolding earlier back
found_round_the_period = record { within = omega arith; passes = refl; before = none }
  where
    none : (place : ℕ) → 0 ≤ place → place < 3 → cell_round changes once (2 + place) ≡ false
    none zero from below = refl
    none (suc zero) from below = refl
    none (suc (suc zero)) from below = refl
    none (suc (suc (suc place))) from below = absurd (omega (arith, below))

found_too_late : ¬ FirstWhere changes once (λ cell answer. cell ≡ answer) 0 8 (Some 5)
unfolding earlier back
found_too_late h =
    let clash : true ≡ false = h.before 1 (omega arith) (omega arith) in
    cc

overlooked : ¬ FirstWhere changes once (λ cell answer. cell ≡ answer) 0 2 None
unfolding earlier back
overlooked h =
    let clash : true ≡ false = h 1 (omega arith) (omega arith) in
    cc

each_with_the_slot_before : folded changes once 1 ≡ false ∷ true ∷ true ∷ false ∷ []
unfolding earlier back
each_with_the_slot_before = refl

join_over_the_end : join_round changes once 3 2 ≡ true
unfolding earlier back
join_over_the_end = refl

join_up_to_the_end : join_round changes once 2 1 ≡ false
unfolding earlier back
join_up_to_the_end = refl

-- ---- blocks of a fold

line_of_two_periods : line changes once 1 ≡ false ∷ false ∷ true ∷ false ∷ false ∷ false ∷ true ∷ false ∷ []
unfolding line earlier back
line_of_two_periods = refl

-- each cell is taken one slot before: the last one is that of slot 2, and the last two those of 1 and 2
tails_of_a_block : tails changes once 1 2 ≡ false ∷ true ∷ []
unfolding tails span earlier back
tails_of_a_block = refl
