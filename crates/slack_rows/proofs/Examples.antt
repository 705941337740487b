-- Slacks over a period of sixteen ticks, worked out on paper.
use Prim.Native.String.{String}
use Rattle.std.specs.Prelude.{◌≡◌, ℕ, ◌%◌, ◌==◌, true, false, [], ◌∷◌, length, map, codes, slice_index_or, pos, negsuc, Some, None}
use Rattle.std.proofs.Common.{refl}
use Rattle.critical_paths.specs.Event.{Events}
use Rattle.critical_paths.specs.Region.{all_events, regions}
use Rattle.slack_rows.specs.declared.window.Extent.{Extent}
use Rattle.slack_rows.specs.Slack.{Slack, Free, Ticks, Way, NoNumber, Launches, Watch, is_less, no_launches, finding_before, finding_after}
use Rattle.slack_rows.specs.Window.{Side, Late, Early, Either, about, extent_of}

-- an event in each slot with an x
abbrev pub marked : String → Events
marked s t = slice_index_or (map (λ c. c == 120) (codes s)) (t % length (codes s)) false

-- ---- regions

two_regions : regions 16 (marked ".xxx.........x..") ≡ record { first = 1; last = 3 } ∷ record { first = 13; last = 13 } ∷ []
two_regions = refl

over_the_end : regions 16 (marked "xx............xx") ≡ record { first = 14; last = 17 } ∷ []
over_the_end = refl

all_slots_are_none : regions 16 (marked "xxxxxxxxxxxxxxxx") ≡ []
all_slots_are_none = refl

-- ---- a clock that rises at 4, and data

abbrev side_is : Side → Launches
side_is side = record { side = λ w r. side; two = λ w r. None; last_way = None; first_way = None }

abbrev watch : String → String → Extent → Watch
watch clock data_in limits =
    record { changes = marked data_in; windows = map (about 16 limits) (regions 16 (marked clock)); never = all_events 16 (marked clock) }

abbrev before : Launches → String → String → Extent → Slack
before launches clock data_in limits = (finding_before 16 launches (watch clock data_in limits)).slack

abbrev after : Launches → String → String → Extent → Slack
after launches clock data_in limits = (finding_after 16 launches (watch clock data_in limits)).slack

-- The data is quiet from 3 to 7. It changes at 2 at last and at 8 at first, and the window of setup 1 and hold 1 is 4 to 5.
quiet_before : before no_launches "....x..........." "xxx.....xxxxxxxx" (extent_of 1 1) ≡ Ticks (pos 1)
quiet_before = refl

quiet_after : after no_launches "....x..........." "xxx.....xxxxxxxx" (extent_of 1 1) ≡ Ticks (pos 2)
quiet_after = refl

-- a setup of 2 leaves none, and one of 3 lacks one
none_left : before no_launches "....x..........." "xxx.....xxxxxxxx" (extent_of 2 1) ≡ Ticks (pos 0)
none_left = refl

one_too_late : before no_launches "....x..........." "xxx.....xxxxxxxx" (extent_of 3 1) ≡ Ticks (negsuc 0)
one_too_late = refl

-- it ends in the window, so it is late, and what comes after the edge is the next region
still_after : after no_launches "....x..........." "xxx.....xxxxxxxx" (extent_of 3 1) ≡ Ticks (pos 2)
still_after = refl

-- a hold of 4 lacks one
one_too_early : after no_launches "....x..........." "xxx.....xxxxxxxx" (extent_of 1 4) ≡ Ticks (negsuc 0)
one_too_early = refl

-- an uncertain edge, from 4 to 6
uncertain_edge : before no_launches "....xxx........." "xxx.....xxxxxxxx" (extent_of 1 1) ≡ Ticks (pos 1)
uncertain_edge = refl

uncertain_edge_after : after no_launches "....xxx........." "xxx.....xxxxxxxx" (extent_of 1 0) ≡ Ticks (pos 1)
uncertain_edge_after = refl

-- ---- a region in the window, 3 to 5 of the ticks 2 to 6, by its launch

late_in_it : before (side_is Late) "....x..........." "...xxx.........." (extent_of 3 2) ≡ Ticks (negsuc 3)
late_in_it = refl

-- The next changes after the edge are those of the next period.
late_after_it : after (side_is Late) "....x..........." "...xxx.........." (extent_of 3 2) ≡ Ticks (pos 12)
late_after_it = refl

early_in_it : after (side_is Early) "....x..........." "...xxx.........." (extent_of 3 2) ≡ Ticks (negsuc 3)
early_in_it = refl

early_before_it : before (side_is Early) "....x..........." "...xxx.........." (extent_of 3 2) ≡ Ticks (pos 12)
early_before_it = refl

either_before : before (side_is Either) "....x..........." "...xxx.........." (extent_of 3 2) ≡ Ticks (negsuc 3)
either_before = refl

either_after : after (side_is Either) "....x..........." "...xxx.........." (extent_of 3 2) ≡ Ticks (negsuc 3)
either_after = refl

-- ---- two launches, of which the one arrives at 3 and the next at 5

abbrev two_are : ℕ → ℕ → Launches
two_are last first = record { side = λ w r. Either; two = λ w r. Some (last, first); last_way = None; first_way = None }

-- ticks count from 48 ticks before
two_before : before (two_are 51 53) "....x..........." "...xxx.........." (extent_of 2 2) ≡ Ticks (negsuc 0)
two_before = refl

two_after : after (two_are 51 53) "....x..........." "...xxx.........." (extent_of 2 2) ≡ Ticks (negsuc 1)
two_after = refl

-- another region meets the window, so they do not count
not_alone : before (two_are 51 53) "....x..........." "...x.x.........." (extent_of 2 2) ≡ Ticks (negsuc 2)
not_alone = refl

-- ---- no number

free : before no_launches "....x..........." "................" (extent_of 1 1) ≡ Free
free = refl

no_edge : before no_launches "................" "xxx.....xxxxxxxx" (extent_of 1 1) ≡ Free
no_edge = refl

data_always : before no_launches "....x..........." "xxxxxxxxxxxxxxxx" (extent_of 1 1) ≡ NoNumber
data_always = refl

clock_always : before no_launches "xxxxxxxxxxxxxxxx" "xxx.....xxxxxxxx" (extent_of 1 1) ≡ NoNumber
clock_always = refl

by_its_way : before (record { side = λ w r. Either; two = λ w r. None; last_way = Some (negsuc 129); first_way = None })
    "....x..........." "xxxxxxxxxxxxxxxx" (extent_of 1 1) ≡ Way (negsuc 129)
by_its_way = refl

-- ---- the order

no_number_first : is_less NoNumber (Ticks (negsuc 9)) ≡ true
no_number_first = refl

ways_before_equals : is_less (Way (negsuc 9)) (Ticks (negsuc 9)) ≡ true
ways_before_equals = refl

ways_after_lesser : is_less (Way (negsuc 9)) (Ticks (negsuc 10)) ≡ false
ways_after_lesser = refl

-- a way that breaks by itself is less than what is met, whatever its number
broken_before_met : is_less (Way (pos 39)) (Ticks (pos 5)) ≡ true
broken_before_met = refl

met_before_free : is_less (Ticks (pos 5)) Free ≡ true
met_before_free = refl
