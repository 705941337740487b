-- The slack of a limit: the least over the pins and directions that it is about, and over all
-- cases.
use Rattle.std.specs.Prelude.{ℕ, ◌+◌, ◌-◌, ◌==◌, Bool, true, false, not, ◌&&◌, ◌||◌, List, [], ◌∷◌, ◌++◌, length, map, filter, slice_get, pos, if◌then◌else◌, Option, Some, None}
use Rattle.std.specs.List.{list_any, range_with_len}
use Rattle.scald_base.specs.Time.{period}
use Rattle.vector_names.specs.declared.bits.Target.{Target}
use Rattle.vector_names.specs.declared.bits.Target.TheVariants.{Net as OnNet, Constant}
use Rattle.step_values.specs.Steps.{has}
use Rattle.step_values.specs.Cell.{values}
use Rattle.skew_algebra.specs.Wave.{fold}
use Rattle.element_kinds.specs.declared.form.Check.{Check}
use Rattle.element_kinds.specs.declared.form.Check.TheVariants.{SetupHold as AboutRise, RiseFall as RiseToFall, MinPulse as Widths}
use Rattle.element_kinds.specs.Kinds.{check_of, may_be_marked}
use Rattle.flat_circuit.specs.declared.limits.Limits.{Limits}
use Rattle.flat_circuit.specs.Limits.{setup_of, hold_of, high_of, low_of}
use Rattle.flat_circuit.specs.declared.instance.Pin.{Pin}
use Rattle.flat_circuit.specs.declared.instance.Instance.{Instance}
use Rattle.flat_circuit.specs.declared.net.Net.{Net}
use Rattle.flat_circuit.specs.Circuit.{Circuit}
use Rattle.gate_eval.specs.Instance.{wave_of_pin}
use Rattle.gate_eval.specs.Hold.{closed_bit}
use Rattle.fixpoint_engine.specs.Pins.{read}
use Rattle.fixpoint_engine.specs.Waves.{Waves, marked_pin, pin_waves}
use Rattle.point_check.specs.Assertion.{first_excess, is_held}
use Rattle.point_check.specs.Window.{Folds}
use Rattle.critical_paths.specs.declared.direction.Direction.{Direction}
use Rattle.critical_paths.specs.declared.direction.Direction.TheVariants.{Rise, Fall, Change}
use Rattle.critical_paths.specs.Event.{Events, events}
use Rattle.critical_paths.specs.Region.{Region, all_events, first_from, some_event}
use Rattle.slack_rows.specs.Slack.{Slack, Free, Ticks, NoNumber, Finding, Watch, AtLevel, is_less, is_met, least, no_launches, finding_after, finding_alone, finding_at, finding_before, finding_of, two_in}
use Rattle.slack_rows.specs.declared.parameter.Word.{Word as Limit}
use Rattle.slack_rows.specs.declared.parameter.Word.TheVariants.{Setup, Hold, High, Low, Gate, Before as GateBefore, After as GateAfter, Assert, From as StableFrom, To as StableTo}
use Rattle.slack_rows.specs.declared.parameter.Subject.{Subject}
use Rattle.slack_rows.specs.declared.parameter.Subject.TheVariants.{Instance as OfInstance, Net as OfNet}
use Rattle.slack_rows.specs.declared.window.Extent.{Extent}
use Rattle.slack_rows.specs.Window.{Window, ahead, extent_of}
use Rattle.slack_rows.specs.Watch.{directions_of, gate_watch, net_watch, permitted, rise_watch, span_watch}
use Rattle.slack_rows.specs.Pulse.{left_at, narrowest, finding_wave}
use Rattle.slack_rows.specs.Launched.{checker_launches, gate_launches, opening, two_at_ends}

-- ---- without a window

-- how many slots before an edge, that of the edge among them, have no change, and how many after it
abbrev pub still_before : ℕ → Events → ℕ → Option ℕ
still_before p ev t = first_from (λ n. ev (ahead p t - n)) p 0

abbrev pub still_after : ℕ → Events → ℕ → Option ℕ
still_after p ev t = first_from (λ n. ev (t + 1 + n)) p 0

abbrev pub finding_still : Option ℕ → Finding
finding_still None = finding_alone Free
finding_still (Some n) = finding_alone (Ticks (pos n))

-- the least about the slots in which the clock may rise
abbrev pub least_still : (ℕ → Option ℕ) → ℕ → Events → Finding
least_still still p clock =
    least (map (λ t. finding_still (still t)) (filter clock (range_with_len 0 p)))

-- ---- checkers

abbrev pub pin_folds : Circuit → Waves → Instance → ℕ → Folds
pin_folds c ws j i = fold values (wave_of_pin (pin_waves c ws j) i)

-- how long the input is to be stable up to an edge, and after one
abbrev pub edge_limits : Limits → Extent
edge_limits limits = extent_of (setup_of limits) (hold_of limits)

abbrev pub has_no_window : Extent → Bool
has_no_window extent = (extent.before == 0) && (extent.after == 0)

-- what a checker watches: its input, about the rises of its clock, or from each to its fall
abbrev pub rises_of : Circuit → Waves → Instance → Watch
rises_of c ws j =
    rise_watch (period c.header) (edge_limits j.limits) (pin_folds c ws j 0) (pin_folds c ws j 1)

abbrev pub spans_of : Circuit → Waves → Instance → Watch
spans_of c ws j =
    span_watch (period c.header) (edge_limits j.limits) (pin_folds c ws j 0) (pin_folds c ws j 1)

-- A checker that asks for nothing about a rise has no window there.
abbrev pub edge_pair : (ℕ → Events → ℕ → Option ℕ) → Circuit → Waves → Instance → Finding
edge_pair still c ws j =
    least_still (still (period c.header) (events Change (pin_folds c ws j 1)))
    (period c.header) (events Rise (pin_folds c ws j 0))

abbrev pub finding_rise : Circuit → Waves → Instance → Limit → Finding
finding_rise c ws j Setup =
    if has_no_window (edge_limits j.limits) then edge_pair still_before c ws j
    else finding_before (period c.header)
    (checker_launches c ws j Rise (rises_of c ws j).windows) (rises_of c ws j)
finding_rise c ws j Hold =
    if has_no_window (edge_limits j.limits) then edge_pair still_after c ws j
    else finding_after (period c.header)
    (checker_launches c ws j Rise (rises_of c ws j).windows) (rises_of c ws j)
finding_rise c ws j limit = finding_alone Free

abbrev pub finding_span : Circuit → Waves → Instance → Limit → Finding
finding_span c ws j Setup =
    finding_before (period c.header)
    (checker_launches c ws j Fall (spans_of c ws j).windows) (spans_of c ws j)
finding_span c ws j Hold =
    finding_after (period c.header)
    (checker_launches c ws j Fall (spans_of c ws j).windows) (spans_of c ws j)
finding_span c ws j limit = finding_alone Free

-- the step with which a pulse at a level begins
abbrev pub begin_of : Bool → Direction
begin_of true = Rise
begin_of false = Fall

abbrev pub finding_level : Circuit → Waves → Instance → Bool → ℕ → Option Pin → Finding
finding_level c ws j level limit None = finding_alone Free
finding_level c ws j level limit (Some pin) =
    finding_of 0 (begin_of level) (finding_wave limit (left_at c ws level pin)
    (read (wave_of_pin (pin_waves c ws j) 0).cells)
    (narrowest (period c.header) level (read (wave_of_pin (pin_waves c ws j) 0).cells)))

abbrev pub finding_width : Circuit → Waves → Instance → Limit → Finding
finding_width c ws j High = finding_level c ws j true (high_of j.limits) (slice_get j.pins 0)
finding_width c ws j Low = finding_level c ws j false (low_of j.limits) (slice_get j.pins 0)
finding_width c ws j limit = finding_alone Free

abbrev pub finding_check : Circuit → Waves → Instance → Limit → Option Check → Finding
finding_check c ws j limit None = finding_alone Free
finding_check c ws j limit (Some AboutRise) = finding_of 1 Change (finding_rise c ws j limit)
finding_check c ws j limit (Some RiseToFall) = finding_of 1 Change (finding_span c ws j limit)
finding_check c ws j limit (Some Widths) = finding_width c ws j limit

-- ---- marks

abbrev pub is_on_net : Target → Bool
is_on_net (OnNet i) = true
is_on_net (Constant b) = false

-- the pins beside a marked one that are on a net
abbrev pub is_on : Option Pin → Bool
is_on None = false
is_on (Some pin) = is_on_net pin.target

abbrev pub is_beside : Instance → ℕ → ℕ → Bool
is_beside j marked i = not (i == marked) && is_on (slice_get j.pins i)

abbrev pub beside : Instance → ℕ → List ℕ
beside j marked = filter (is_beside j marked) (range_with_len 0 (length j.pins))

abbrev pub watch_beside : Circuit → Waves → Instance → ℕ → ℕ → Watch
watch_beside c ws j marked i =
    gate_watch (period c.header) j.kind (pin_folds c ws j marked) (pin_folds c ws j i)

-- a change where there is never to be one
abbrev pub finding_never : ℕ → Watch → Finding
finding_never p watch =
    if watch.never && some_event p watch.changes then finding_alone NoNumber else finding_alone Free

-- the windows alone
abbrev pub in_windows : Watch → Watch
in_windows watch = record { changes = watch.changes; windows = watch.windows; never = false }

abbrev pub finding_pin : Circuit → Waves → Instance → Limit → ℕ → ℕ → Finding
finding_pin c ws j Gate marked i = finding_never (period c.header) (watch_beside c ws j marked i)
finding_pin c ws j GateBefore marked i =
    finding_before (period c.header) (gate_launches c ws j marked i)
    (in_windows (watch_beside c ws j marked i))
finding_pin c ws j GateAfter marked i =
    finding_after (period c.header) (gate_launches c ws j marked i)
    (in_windows (watch_beside c ws j marked i))
finding_pin c ws j limit marked i = finding_alone Free

abbrev pub finding_mark : Circuit → Waves → Instance → Limit → Option ℕ → Finding
finding_mark c ws j limit None = finding_alone Free
finding_mark c ws j limit (Some marked) =
    least (map (λ i. finding_of i Change (finding_pin c ws j limit marked i)) (beside j marked))

-- ---- assertions

-- a step that an assertion has not, in some slot
abbrev pub steps_outside : ℕ → Folds → Folds → Bool
steps_outside p found wide =
    list_any (λ t. (has (found t) false true && not (has (wide t) false true))
    || (has (found t) true false && not (has (wide t) true false)))
    (range_with_len 0 p)

-- a level that it has not, if it has all steps
abbrev pub finding_outside : Bool → Option ℕ → Finding
finding_outside true excess = finding_alone Free
finding_outside false None = finding_alone Free
finding_outside false (Some t) = finding_at NoNumber (AtLevel t)

abbrev pub watch_net : Circuit → Waves → ℕ → Net → Direction → Watch
watch_net c ws i net d = net_watch c.header net.spec (fold values (ws i)) d

abbrev pub finding_net : Circuit → Waves → ℕ → Net → Limit → Finding
finding_net c ws i net Assert =
    least (map (λ d. finding_of 0 d (finding_never (period c.header) (watch_net c ws i net d)))
    (directions_of net.spec)
    ++ finding_outside (steps_outside (period c.header) (fold values (ws i))
    (permitted c.header net.spec))
    (first_excess (period c.header) (fold values (ws i)) (permitted c.header net.spec)) ∷ [])
finding_net c ws i net StableFrom =
    least (map (λ d. finding_of 0 d (finding_before (period c.header) no_launches
    (in_windows (watch_net c ws i net d)))) (directions_of net.spec))
finding_net c ws i net StableTo =
    least (map (λ d. finding_of 0 d (finding_after (period c.header) no_launches
    (in_windows (watch_net c ws i net d)))) (directions_of net.spec))
finding_net c ws i net limit = finding_alone Free

-- ---- in a case

abbrev pub finding_instance : Circuit → Waves → Limit → Option Instance → Finding
finding_instance c ws limit None = finding_alone Free
finding_instance c ws limit (Some j) =
    if may_be_marked j.kind then finding_mark c ws j limit (marked_pin j)
    else finding_check c ws j limit (check_of j.kind)

abbrev pub finding_held : Circuit → Waves → ℕ → Limit → Option Net → Finding
finding_held c ws i limit None = finding_alone Free
finding_held c ws i limit (Some net) =
    if is_held net then finding_net c ws i net limit else finding_alone Free

-- the slack of a limit of a subject in these waves
unfoldable pub finding_in : Circuit → Waves → Subject → Limit → Finding
finding_in c ws (OfInstance k) limit = finding_instance c ws limit (slice_get c.instances k)
finding_in c ws (OfNet i) limit = finding_held c ws i limit (slice_get c.nets i)

-- ---- by arrivals

-- There is a window, and the changes of a watch may come in every slot; or two launches may make
-- the only region that meets one of its windows: then the slack goes by arrivals.
abbrev pub is_by_arrivals : ℕ → (Window → Region → Bool) → Watch → Bool
is_by_arrivals p two watch =
    (all_events p watch.changes && is_met watch.windows false)
    || list_any (two_in p watch.changes two) watch.windows

abbrev pub check_by_arrivals : Circuit → Waves → Instance → Option Check → Bool
check_by_arrivals c ws j None = false
check_by_arrivals c ws j (Some AboutRise) =
    if has_no_window (edge_limits j.limits) then false
    else is_by_arrivals (period c.header) (two_at_ends c ws j 0 1 Rise) (rises_of c ws j)
check_by_arrivals c ws j (Some RiseToFall) =
    is_by_arrivals (period c.header) (two_at_ends c ws j 0 1 Rise) (spans_of c ws j)
check_by_arrivals c ws j (Some Widths) = false

-- beside a mark no number is one of ways
abbrev pub beside_by_arrivals : Circuit → Waves → Instance → ℕ → ℕ → Bool
beside_by_arrivals c ws j marked i =
    list_any (two_in (period c.header) (watch_beside c ws j marked i).changes
    (two_at_ends c ws j marked i (opening (closed_bit j.kind))))
    (watch_beside c ws j marked i).windows

abbrev pub mark_by_arrivals : Circuit → Waves → Instance → Option ℕ → Bool
mark_by_arrivals c ws j None = false
mark_by_arrivals c ws j (Some marked) =
    list_any (beside_by_arrivals c ws j marked) (beside j marked)

abbrev pub instance_by_arrivals : Circuit → Waves → Option Instance → Bool
instance_by_arrivals c ws None = false
instance_by_arrivals c ws (Some j) =
    if may_be_marked j.kind then mark_by_arrivals c ws j (marked_pin j)
    else check_by_arrivals c ws j (check_of j.kind)

-- the slack of a limit of a subject goes by arrivals
unfoldable pub by_arrivals : Circuit → Waves → Subject → Bool
by_arrivals c ws (OfInstance k) = instance_by_arrivals c ws (slice_get c.instances k)
by_arrivals c ws (OfNet i) = false

-- ---- over all cases

-- a case by its number, and the waves of the nets when it has settled
pub record Case : Type 0 where
  pub number : ℕ
  pub waves : Waves

abbrev pub same_slack : Slack → Slack → Bool
same_slack a b = not (is_less a b) && not (is_less b a)

-- The least over the cases, of the first that has it, with the numbers of all that have the same.
pub record Worst : Type 0 where
  pub finding : Finding
  pub cases : List ℕ

abbrev pub finding_case : Circuit → Subject → Limit → Case → Finding
finding_case c subject limit case = finding_in c case.waves subject limit

abbrev pub least_finding : Circuit → List Case → Subject → Limit → Finding
least_finding c cases subject limit = least (map (finding_case c subject limit) cases)

abbrev pub has_slack : Circuit → Subject → Limit → Slack → Case → Bool
has_slack c subject limit slack case = same_slack (finding_case c subject limit case).slack slack

abbrev pub worst : Circuit → List Case → Subject → Limit → Worst
worst c cases subject limit =
    record {
      finding = least_finding c cases subject limit;
      cases = map (λ (case : Case). case.number)
          (filter (has_slack c subject limit (least_finding c cases subject limit).slack) cases);
    }
