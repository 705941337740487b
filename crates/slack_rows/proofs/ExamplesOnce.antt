-- Limits that are told once, sides by launch, and two launches, worked out on paper.
use Rattle.std.specs.Prelude.{◌≡◌, ℕ, true, false, List, [], ◌∷◌, pos, negsuc, Some, None}
use Rattle.std.proofs.Common.{refl}
use Rattle.critical_paths.specs.declared.direction.Direction.TheVariants.{Rise, Change}
use Rattle.critical_paths.specs.Region.{Region}
use Rattle.slack_rows.specs.Launched.{side_by}
use Rattle.slack_rows.specs.Limit.{is_by_arrivals}
use Rattle.slack_rows.specs.Rows.{are_one_region, reported_once}
use Rattle.slack_rows.specs.Slack.{Launches, Nowhere, At, Arrived, Slack, Free, Ticks, Way, NoNumber, Finding, Watch, finding_after, finding_before}
use Rattle.slack_rows.specs.Window.{Window, Late, Early, Either, about, extent_of}
use Rattle.slack_rows.proofs.Examples.{marked}

-- ---- one region before an edge and after one

-- windows of setup 2 and hold 1 about edges at 4 and at 9 of sixteen slots
abbrev at_edge : ℕ → Window
at_edge t = about 16 (extent_of 2 1) (record { first = t; last = t })

abbrev ticks : ℕ → ℕ → Region
ticks first last = record { first = first; last = last }

one_edge : are_one_region 16 (At (at_edge 4) (ticks 50 60)) (At (at_edge 4) (ticks 50 60)) ≡ true
one_edge = refl

-- It is too late for the first edge and too early after the second: earlier or later would do.
covers_both : are_one_region 16 (At (at_edge 4) (ticks 50 60)) (At (at_edge 9) (ticks 50 60)) ≡ true
covers_both = refl

-- Early after the first edge and late for the second, what mends the one makes the other worse.
between_them : are_one_region 16 (At (at_edge 9) (ticks 53 56)) (At (at_edge 4) (ticks 53 56)) ≡ false
between_them = refl

other_begin : are_one_region 16 (At (at_edge 4) (ticks 50 60)) (At (at_edge 4) (ticks 51 60)) ≡ false
other_begin = refl

other_end : are_one_region 16 (At (at_edge 4) (ticks 50 60)) (At (at_edge 4) (ticks 50 59)) ≡ false
other_end = refl

-- A region about the end of the period: in the window of an edge at 14 and, a period before, in that
-- of one at 4. It ends too late for the first of both, and begins too early after the second.
over_the_end : are_one_region 16 (At (at_edge 14) (ticks 60 70)) (At (at_edge 4) (ticks 44 54)) ≡ true
over_the_end = refl

-- early after the edge at 14, and late for that at 4 of the next period
between_periods : are_one_region 16 (At (at_edge 4) (ticks 47 52)) (At (at_edge 14) (ticks 63 68)) ≡ false
between_periods = refl

-- as long, and not whole periods apart
as_long : are_one_region 16 (At (at_edge 14) (ticks 60 70)) (At (at_edge 4) (ticks 45 55)) ≡ false
as_long = refl

longer : are_one_region 16 (At (at_edge 14) (ticks 60 70)) (At (at_edge 4) (ticks 44 55)) ≡ false
longer = refl

of_arrivals : are_one_region 16 (Arrived (at_edge 4) 50) (Arrived (at_edge 4) 50) ≡ false
of_arrivals = refl

-- ---- told once

abbrev finding : Slack → ℕ → Finding
finding slack pin = record { slack = slack; place = At (at_edge 4) (ticks 50 60); pin = pin; direction = Change }

both_broken : reported_once 16 true (finding (Ticks (negsuc 0)) 1) (finding (Ticks (negsuc 9)) 1) ≡ true
both_broken = refl

first_met : reported_once 16 true (finding (Ticks (pos 0)) 1) (finding (Ticks (negsuc 9)) 1) ≡ false
first_met = refl

second_met : reported_once 16 true (finding (Ticks (negsuc 0)) 1) (finding (Ticks (pos 0)) 1) ≡ false
second_met = refl

of_other_cases : reported_once 16 false (finding (Ticks (negsuc 0)) 1) (finding (Ticks (negsuc 9)) 1) ≡ false
of_other_cases = refl

of_other_pins : reported_once 16 true (finding (Ticks (negsuc 0)) 1) (finding (Ticks (negsuc 9)) 2) ≡ false
of_other_pins = refl

abbrev rising : Finding
rising = record { slack = Ticks (negsuc 0); place = At (at_edge 4) (ticks 50 60); pin = 1; direction = Rise }

of_other_steps : reported_once 16 true rising (finding (Ticks (negsuc 9)) 1) ≡ false
of_other_steps = refl

abbrev without : Slack → Finding
without slack = record { slack = slack; place = Nowhere; pin = 1; direction = Change }

-- whatever the cases
no_numbers : reported_once 16 false (without NoNumber) (without NoNumber) ≡ true
no_numbers = refl

one_number : reported_once 16 true (without NoNumber) (without (Way (pos 1))) ≡ false
one_number = refl

none_free : reported_once 16 true (without Free) (without NoNumber) ≡ false
none_free = refl

-- ---- by the launch

before_edge : side_by (Some (pos 3)) (Some (pos 3)) ≡ Late
before_edge = refl

after_edge : side_by (Some (negsuc 2)) (Some (negsuc 2)) ≡ Early
after_edge = refl

-- what the edge itself launches comes after it
by_edge : side_by (Some (pos 0)) (Some (pos 0)) ≡ Early
by_edge = refl

first_by_edge : side_by (Some (pos 3)) (Some (pos 0)) ≡ Either
first_by_edge = refl

last_by_edge : side_by (Some (pos 0)) (Some (pos 3)) ≡ Either
last_by_edge = refl

not_known : side_by None (Some (pos 3)) ≡ Either
not_known = refl

abbrev by_itself : Launches
by_itself = record { side = λ w r. side_by (Some (pos 0)) (Some (pos 0)); two = λ w r. None; last_way = None; first_way = None }

-- an edge at 4, and the ticks 3 to 5 of its window; data about it and data in it
abbrev about_it : Watch
about_it = record { changes = marked ".xxxxxx........."; windows = at_edge 4 ∷ []; never = false }

abbrev in_it : Watch
in_it = record { changes = marked "...x............"; windows = at_edge 4 ∷ []; never = false }

-- The last change before it is that of the period before: 10 ticks before the window.
before_about : (finding_before 16 by_itself about_it).slack ≡ Ticks (pos 12)
before_about = refl

after_about : (finding_after 16 by_itself about_it).slack ≡ Ticks (negsuc 4)
after_about = refl

before_in : (finding_before 16 by_itself in_it).slack ≡ Ticks (pos 15)
before_in = refl

after_in : (finding_after 16 by_itself in_it).slack ≡ Ticks (negsuc 2)
after_in = refl

-- Data in the last two ticks of the window ends in it, and is of the side of its launch; what begins
-- right before the window and ends in it is late.
abbrev to_its_end : Watch
to_its_end = record { changes = marked "....xx.........."; windows = at_edge 4 ∷ []; never = false }

abbrev from_before : Watch
from_before = record { changes = marked "..xx............"; windows = at_edge 4 ∷ []; never = false }

abbrev before_it : Launches
before_it = record { side = λ w r. Late; two = λ w r. None; last_way = None; first_way = None }

late_to_its_end : (finding_before 16 before_it to_its_end).slack ≡ Ticks (negsuc 2)
late_to_its_end = refl

early_to_its_end : (finding_before 16 by_itself to_its_end).slack ≡ Ticks (pos 13)
early_to_its_end = refl

late_from_before : (finding_before 16 by_itself from_before).slack ≡ Ticks (negsuc 0)
late_from_before = refl

-- ---- two launches at one edge

abbrev two_at : ℕ → ℕ → Launches
two_at last first = record { side = λ w r. Either; two = λ w r. Some (last, first); last_way = None; first_way = None }

-- Ticks count from 48 ticks before: the window is 51 to 53. One arrives in it and the other does not.
last_inside : (finding_before 16 (two_at 51 54) about_it).slack ≡ Ticks (negsuc 0)
last_inside = refl

beside_last : (finding_after 16 (two_at 51 54) about_it).slack ≡ Ticks (pos 0)
beside_last = refl

first_inside : (finding_after 16 (two_at 50 53) about_it).slack ≡ Ticks (negsuc 0)
first_inside = refl

beside_first : (finding_before 16 (two_at 50 53) about_it).slack ≡ Ticks (pos 0)
beside_first = refl

-- where neither does, the region counts on both sides
neither_inside : (finding_before 16 (two_at 50 54) about_it).slack ≡ Ticks (negsuc 3)
neither_inside = refl

neither_after : (finding_after 16 (two_at 50 54) about_it).slack ≡ Ticks (negsuc 4)
neither_after = refl

-- ---- what goes by arrivals

abbrev always : List Window → Watch
always windows = record { changes = marked "xxxxxxxxxxxxxxxx"; windows = windows; never = false }

-- without a window nothing does
no_window : is_by_arrivals 16 (λ w r. true) (always []) ≡ false
no_window = refl

every_slot : is_by_arrivals 16 (λ w r. false) (always (at_edge 4 ∷ [])) ≡ true
every_slot = refl

two_there : is_by_arrivals 16 (λ w r. true) in_it ≡ true
two_there = refl

none_there : is_by_arrivals 16 (λ w r. false) in_it ≡ false
none_there = refl
