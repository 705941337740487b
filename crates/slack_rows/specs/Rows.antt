-- The rows of the table, worst first.
use Rattle.std.specs.Prelude.{ℕ, ◌+◌, ◌%◌, ◌==◌, Bool, true, false, not, ◌&&◌, ◌||◌, List, [], ◌∷◌, ◌++◌, filter, length, map, slice_get, ℤ, pos, ◌-ℤ◌, int_le, if◌then◌else◌, Option, Some, None}
use Rattle.std.specs.List.{count_by, flat_map, list_any, range_with_len}
use Rattle.scald_base.specs.Time.{period}
use Rattle.element_kinds.specs.declared.form.Check.{Check}
use Rattle.element_kinds.specs.declared.form.Check.TheVariants.{SetupHold as AboutRise, RiseFall as RiseToFall, MinPulse as Widths}
use Rattle.element_kinds.specs.Kinds.{check_of, may_be_marked}
use Rattle.flat_circuit.specs.declared.limits.Limits.{Limits}
use Rattle.flat_circuit.specs.Limits.{setup_of, hold_of, high_of, low_of}
use Rattle.flat_circuit.specs.declared.instance.Instance.{Instance}
use Rattle.flat_circuit.specs.declared.net.Net.{Net}
use Rattle.flat_circuit.specs.Circuit.{Circuit}
use Rattle.fixpoint_engine.specs.Waves.{marked_pin}
use Rattle.point_check.specs.Assertion.{is_held}
use Rattle.critical_paths.specs.Event.{same_direction}
use Rattle.critical_paths.specs.Region.{Region}
use Rattle.slack_rows.specs.Slack.{Slack, NoNumber, Place, Finding, At, is_above, is_broken, is_free}
use Rattle.slack_rows.specs.declared.parameter.Word.{Word as Limit}
use Rattle.slack_rows.specs.declared.parameter.Word.TheVariants.{Setup, Hold, High, Low, Gate, Before as GateBefore, After as GateAfter, Assert, From as StableFrom, To as StableTo}
use Rattle.slack_rows.specs.declared.parameter.Parameter.{Parameter}
use Rattle.slack_rows.specs.declared.parameter.Subject.{Subject}
use Rattle.slack_rows.specs.declared.parameter.Subject.TheVariants.{Instance as OfInstance, Net as OfNet}
use Rattle.slack_rows.specs.Window.{Window}
use Rattle.slack_rows.specs.Limit.{Case, Worst, beside, has_slack, least_finding, worst}

-- ---- which limits there are

abbrev pub limits_of_check : Option Check → List Limit
limits_of_check None = []
limits_of_check (Some AboutRise) = Setup ∷ Hold ∷ []
limits_of_check (Some RiseToFall) = Setup ∷ Hold ∷ []
limits_of_check (Some Widths) = High ∷ Low ∷ []

abbrev pub if_some : {A : Type 0} → List A → List Limit → List Limit
if_some [] limits = []
if_some (x ∷ xs) limits = limits

-- a marked gate has some only if another pin is on a net
abbrev pub limits_of_mark : Instance → Option ℕ → List Limit
limits_of_mark j None = []
limits_of_mark j (Some marked) = if_some (beside j marked) (Gate ∷ GateBefore ∷ GateAfter ∷ [])

abbrev pub limits_of_instance : Option Instance → List Limit
limits_of_instance None = []
limits_of_instance (Some j) =
    if may_be_marked j.kind then limits_of_mark j (marked_pin j)
    else limits_of_check (check_of j.kind)

abbrev pub limits_of_net : Option Net → List Limit
limits_of_net None = []
limits_of_net (Some net) = if is_held net then Assert ∷ StableFrom ∷ StableTo ∷ [] else []

abbrev pub limits_of : Circuit → Subject → List Limit
limits_of c (OfInstance k) = limits_of_instance (slice_get c.instances k)
limits_of c (OfNet i) = limits_of_net (slice_get c.nets i)

-- instances in the order of expansion, and then nets in the order of their names
abbrev pub subjects : Circuit → List Subject
subjects c = map OfInstance (range_with_len 0 (length c.instances)) ++ map OfNet c.order

-- ---- what they ask for

-- in ticks; none has 0
abbrev pub limit_of : Limits → Limit → ℕ
limit_of limits Setup = setup_of limits
limit_of limits Hold = hold_of limits
limit_of limits High = high_of limits
limit_of limits Low = low_of limits
limit_of limits Gate = 0
limit_of limits GateBefore = 0
limit_of limits GateAfter = 0
limit_of limits Assert = 0
limit_of limits StableFrom = 0
limit_of limits StableTo = 0

abbrev pub limit_in : Option Instance → Limit → ℕ
limit_in None word = 0
limit_in (Some j) word = limit_of j.limits word

abbrev pub limit_at : Circuit → Subject → Limit → ℕ
limit_at c (OfInstance k) word = limit_in (slice_get c.instances k) word
limit_at c (OfNet i) word = 0

abbrev pub limit_with : Circuit → Subject → Limit → Parameter
limit_with c subject word =
    record { subject = subject; word = word; limit = limit_at c subject word }

abbrev pub limits_at : Circuit → Subject → List Parameter
limits_at c subject = map (limit_with c subject) (limits_of c subject)

-- all limits of a circuit
abbrev pub all_limits : Circuit → List Parameter
all_limits c = flat_map (limits_at c) (subjects c)

-- ---- rows

pub record Row : Type 0 where
  pub subject : Subject
  pub limit : Limit
  pub worst : Worst

abbrev pub row : Circuit → List Case → Subject → Limit → Row
row c cases subject limit =
    record { subject = subject; limit = limit; worst = worst c cases subject limit }

abbrev pub slack_of : Row → Slack
slack_of r = r.worst.finding.slack

-- ---- reported once

-- the limit on the other side of the same edges, which comes before this one
abbrev pub partner : Limit → Option Limit
partner Setup = None
partner Hold = Some Setup
partner High = None
partner Low = None
partner Gate = None
partner GateBefore = None
partner GateAfter = Some GateBefore
partner Assert = None
partner StableFrom = None
partner StableTo = Some StableFrom

-- how many cases come before the first that passes
abbrev pub first_where : (Case → Bool) → List Case → ℕ
first_where test [] = 0
first_where test (case ∷ cases) = if test case then 0 else first_where test cases + 1

-- the first case that has the least slack of a limit, by how many come before it
abbrev pub first_with : Circuit → List Case → Subject → Limit → ℕ
first_with c cases subject limit =
    first_where (has_slack c subject limit (least_finding c cases subject limit).slack) cases

-- They are one region, or the same whole periods apart, of a period of p ticks.
abbrev pub same_region : ℕ → Region → Region → Bool
same_region p r s = (r.first % p == s.first % p) && (r.last + s.first == s.last + r.first)

-- how long after the begin of a region a window opens
abbrev pub opens_after : Region → Window → ℤ
opens_after r w = pos w.opens -ℤ pos r.first

-- The end of a region before an edge, and its begin after that edge or a later one, whichever the
-- periods in which they are counted: it would do earlier or later. Where it is early after one edge
-- and late for a later one, what mends the one makes the other worse.
abbrev pub are_one_region : ℕ → Place → Place → Bool
are_one_region p (At v r) (At w s) =
    int_le (opens_after r v) (opens_after s w) && same_region p r s
are_one_region p before after = false

abbrev pub have_no_number : Slack → Slack → Bool
have_no_number NoNumber NoNumber = true
have_no_number a b = false

abbrev pub is_same_pin : Finding → Finding → Bool
is_same_pin a b = (a.pin == b.pin) && same_direction a.direction b.direction

-- Neither has a number, or both are broken by one region of changes in one case.
abbrev pub reported_once : ℕ → Bool → Finding → Finding → Bool
reported_once p in_one_case before after =
    have_no_number before.slack after.slack
    || (is_broken before.slack && (is_broken after.slack
    && (in_one_case && (is_same_pin before after
    && are_one_region p before.place after.place))))

abbrev pub is_reported_by : Circuit → List Case → Row → Option Limit → Bool
is_reported_by c cases r None = false
is_reported_by c cases r (Some before) =
    reported_once (period c.header)
    (first_with c cases r.subject before == first_with c cases r.subject r.limit)
    (least_finding c cases r.subject before) r.worst.finding

-- it is in the row before it already
abbrev pub is_reported : Circuit → List Case → Row → Bool
is_reported c cases r = is_reported_by c cases r (partner r.limit)

-- ---- in order

-- after those that are less, before those that are not
abbrev pub insert : Row → List Row → List Row
insert r [] = r ∷ []
insert r (s ∷ rows) = if is_above (slack_of s) (slack_of r) then s ∷ insert r rows else r ∷ s ∷ rows

abbrev pub sorted : List Row → List Row
sorted [] = []
sorted (r ∷ rows) = insert r (sorted rows)

abbrev pub all_rows : Circuit → List Case → List Row
all_rows c cases =
    flat_map (λ subject. map (row c cases subject) (limits_of c subject)) (subjects c)

-- a row for each limit that something may break and that is in no other row
abbrev pub own_rows : Circuit → List Case → List Row
own_rows c cases =
    filter (λ r. not (is_free (slack_of r)) && not (is_reported c cases r)) (all_rows c cases)

-- the worst first; of equal ones in the order of the subjects, and of a subject in that of its
-- limits
unfoldable pub rows : Circuit → List Case → List Row
rows c cases = sorted (own_rows c cases)

-- a broken one among them
abbrev pub is_own_row : Circuit → List Case → Row → Bool
is_own_row c cases r = is_broken (slack_of r) && not (is_reported c cases r)

-- how many are broken, and how many limits nothing can break
abbrev pub broken_count : Circuit → List Case → ℕ
broken_count c cases = count_by (λ r. is_broken (slack_of r)) (own_rows c cases)

abbrev pub is_level_limit : Limit → Bool
is_level_limit Gate = true
is_level_limit Assert = true
is_level_limit limit = false

-- the limit of the mark or the assertion itself, beside which another one stands
abbrev pub level_beside : Limit → Option Limit
level_beside Setup = None
level_beside Hold = None
level_beside High = None
level_beside Low = None
level_beside Gate = None
level_beside GateBefore = Some Gate
level_beside GateAfter = Some Gate
level_beside Assert = None
level_beside StableFrom = Some Assert
level_beside StableTo = Some Assert

abbrev pub is_level_free : Circuit → List Case → Subject → Option Limit → Bool
is_level_free c cases subject None = true
is_level_free c cases subject (Some level) = is_free (least_finding c cases subject level).slack

-- Nothing can break it, nor the mark or the assertion itself, which is no limit of time.
abbrev pub is_free_limit : Circuit → List Case → Row → Bool
is_free_limit c cases r =
    not (is_level_limit r.limit) &&
    (is_free (slack_of r) && is_level_free c cases r.subject (level_beside r.limit))

abbrev pub free_count : Circuit → List Case → ℕ
free_count c cases =
    count_by (λ (q : Parameter). is_free_limit c cases (row c cases q.subject q.word))
    (all_limits c)

-- ---- over all limits

-- some limit is broken in some of these cases
abbrev pub some_broken : Circuit → List Case → Bool
some_broken c cases =
    list_any (λ (q : Parameter). is_broken (least_finding c cases q.subject q.word).slack)
    (all_limits c)
