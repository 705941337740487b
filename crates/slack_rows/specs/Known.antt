-- What is known of all limits over some cases.
use Rattle.std.specs.Prelude.{◌≡◌, ℕ, zero, suc, ◌+◌, ◌-◌, ◌<◌, ◌≤◌, ◌⊎◌, Bool, true, false, not, ◌&&◌, ◌||◌, ◌==◌, is_none, List, [], ◌∷◌, ◌++◌, fold, length, map, slice_get, slice_index_or, nat_le, if◌then◌else◌, Option, Some, None}
use Rattle.std.specs.List.{All, AllByRecursion, list_all, list_any}
use Rattle.scald_base.specs.Time.{period}
use Rattle.flat_circuit.specs.Circuit.{Circuit}
use Rattle.fixpoint_engine.specs.Waves.{Waves}
use Rattle.slack_rows.specs.declared.parameter.Parameter.{Parameter}
use Rattle.slack_rows.specs.declared.parameter.Subject.{Subject}
use Rattle.slack_rows.specs.declared.parameter.Word.{Word as Limit}
use Rattle.slack_rows.specs.declared.parameter.Word.TheVariants.{Setup, Hold, High, Low, Gate, Before as GateBefore, After as GateAfter, Assert, From as StableFrom, To as StableTo}
use Rattle.slack_rows.specs.declared.rows.Least.{Least}
use Rattle.slack_rows.specs.declared.slack.Slacks.{Slacks}
use Rattle.slack_rows.specs.declared.slack.Finding.{Finding as Found}
use Rattle.slack_rows.specs.Slack.{Free, Finding, is_broken, is_free, is_less}
use Rattle.slack_rows.specs.Limit.{Case, by_arrivals, least_finding, finding_in, worst}
use Rattle.slack_rows.specs.Rows.{all_limits, first_with, limits_of, partner, subjects}
use Rattle.slack_rows.specs.Exact.{AreOfSubject}
use Rattle.slack_rows.specs.Views.{IsFinding, Tells, lesser_found, slack_by, slack_for, slack_finding}

-- ---- sets of cases

-- The cases of a set, by their places: those of an earlier set and one more. At most so many sets
-- are gone through.
abbrev pub places_within : ℕ → List (ℕ × ℕ) → ℕ → List ℕ
places_within zero sets number = []
places_within (suc left) sets zero = []
places_within (suc left) sets (suc number) =
    places_within left sets (slice_index_or sets number (0, 0)).0
    ++ (slice_index_or sets number (0, 0)).1 ∷ []

abbrev pub places_of : List (ℕ × ℕ) → ℕ → List ℕ
places_of sets number = places_within (length sets) sets number

abbrev pub numbers_of : List ℕ → List ℕ → List ℕ
numbers_of numbers places = map (λ place. slice_index_or numbers place 0) places

-- each set adds a case to an earlier one, or to none
abbrev pub AreSets : List (ℕ × ℕ) → Type 0
AreSets sets = (k : ℕ) → (slice_index_or sets k (0, 0)).0 ≤ k

-- The set of a number is that of another one with one case more: there is none more, or this one.
pub record IsSetWith (old : List (ℕ × ℕ)) (set : ℕ × ℕ) (number : ℕ) (new : List (ℕ × ℕ)) :
    Type 0 where
  pub place : ℕ
  pub next : number ≡ place + 1
  pub below : place < length new
  pub at : slice_index_or new place (0, 0) ≡ set
  pub grows : (new ≡ old) ⊎ (new ≡ old ++ set ∷ [])

-- ---- what goes by arrivals

-- Arrivals decide the slacks of a subject in none of these cases.
abbrev pub is_sure : Circuit → List Case → Subject → Bool
is_sure c cases subject =
    not (list_any (λ (case : Case). by_arrivals c case.waves subject) cases)

-- of no subject of the circuit
abbrev pub are_sure : Circuit → List Case → Bool
are_sure c cases = list_all (is_sure c cases) (subjects c)

-- Which side is broken arrivals may say of these, if two launches are at one edge.
abbrev pub may_be_two : Limit → Bool
may_be_two Setup = true
may_be_two Hold = true
may_be_two High = false
may_be_two Low = false
may_be_two Gate = false
may_be_two GateBefore = true
may_be_two GateAfter = true
may_be_two Assert = false
may_be_two StableFrom = false
may_be_two StableTo = false

-- of a limit and the one on the other side of the same edges one is broken exactly if one is
-- told to be
abbrev pub BreakAlike : (Limit → Finding) → Slacks → Limit → Option Limit → Type 0
BreakAlike finding slacks word None = Unit {0}
BreakAlike finding slacks word (Some before) =
    (is_broken (slack_finding (slack_for slacks before))
    || is_broken (slack_finding (slack_for slacks word)))
    ≡ (is_broken (finding before).slack || is_broken (finding word).slack)

-- Whatever arrivals say: whether something can break a limit, and whether it is broken, of two
-- sides together.
pub record IsAlike (finding : Limit → Finding) (slacks : Slacks) (word : Limit) : Type 0 where
  pub free : is_free (slack_finding (slack_for slacks word)) ≡ is_free (finding word).slack
  pub alone : may_be_two word ≡ false →
      is_broken (slack_finding (slack_for slacks word)) ≡ is_broken (finding word).slack
  pub both : BreakAlike finding slacks word (partner word)

-- the slacks of these limits, all of them exact but for an exception
pub record TellLimits (p : ℕ) (except : Bool) (finding : Limit → Finding) (limits : List Limit)
    (slacks : Slacks) : Type 0 where
  pub exact : except ≡ false → All (λ word. Tells p (slack_for slacks word) (finding word)) limits
  pub alike : All (IsAlike finding slacks) limits

-- these are the slacks of the subject, if there is one
abbrev pub SlacksKnown : Circuit → Waves → Option Subject → Slacks → Type 0
SlacksKnown c ws None slacks = Unit {0}
SlacksKnown c ws (Some subject) slacks =
    TellLimits (period c.header) (by_arrivals c ws subject) (finding_in c ws subject)
    (limits_of c subject) slacks

-- ---- exact slacks

-- the slacks of a subject in some cases, one after another
abbrev pub AreOfCases : Circuit → Subject → List Case → List Slacks → Type 0
AreOfCases c subject [] [] = Unit {0}
AreOfCases c subject [] (own ∷ each) = ⊥
AreOfCases c subject (case ∷ cases) [] = ⊥
AreOfCases c subject (case ∷ cases) (own ∷ each) =
    (SlacksKnown c case.waves (Some subject) own × AreOfSubject c case.waves subject own)
    × AreOfCases c subject cases each

-- the least of a limit over these cases, of equals the first
pub record IsOfCases (c : Circuit) (cases : List Case) (q : Parameter) (found : Option Found) :
    Type 0 where
  pub each : List Slacks
  pub are : AreOfCases c q.subject cases each
  pub is : found ≡ fold lesser_found None (map (λ own. slack_for own q.word) each)

-- the slack of a limit, and whether two are of one case
abbrev pub finding_least : Option Least → Option Found
finding_least None = None
finding_least (Some least) = Some least.finding

abbrev pub in_one_case : Option Least → Option Least → Bool
in_one_case None after = false
in_one_case (Some before) None = false
in_one_case (Some before) (Some after) = before.case == after.case

-- ---- the least slacks

-- the least slack of a limit over these cases, and all cases that have it
pub record IsLeast (c : Circuit) (cases : List Case) (sets : List (ℕ × ℕ)) (q : Parameter)
    (found : Least) : Type 0 where
  pub finding : IsFinding (period c.header) found.finding (least_finding c cases q.subject q.word)
  pub in_case : first_with c cases q.subject q.word ≡ found.case
  pub have_it : numbers_of (map (λ (case : Case). case.number) cases) (places_of sets found.cases)
      ≡ (worst c cases q.subject q.word).cases
  pub first : (rest : List ℕ) × (places_of sets found.cases ≡ found.case ∷ rest)
  pub within : AllByRecursion (λ place. place < length cases) (places_of sets found.cases)

abbrev pub IsKnown : Circuit → List Case → List (ℕ × ℕ) → Parameter → Option Least → Type 0
IsKnown c cases sets q None = (least_finding c cases q.subject q.word).slack ≡ Free
IsKnown c cases sets q (Some found) = IsLeast c cases sets q found

-- it has a set of cases
abbrev pub IsNumbered : List (ℕ × ℕ) → Option Least → Type 0
IsNumbered sets None = Unit {0}
IsNumbered sets (Some found) = found.cases ≤ length sets

abbrev pub breaks : Option Least → Bool
breaks None = false
breaks (Some least) = is_broken (slack_by least.finding.slack)

-- the least so many places before one, if there is one
abbrev pub least_at : List (Option Least) → ℕ → ℕ → Option Least
least_at least place count =
    if nat_le count place then slice_index_or least (place - count) None else None

-- Of a limit and the one on the other side of the same edges, which stands before it, one is broken
-- exactly if one is said to be.
abbrev pub BreaksBoth : Circuit → List Case → List (Option Least) → ℕ → Parameter → Option Limit →
    Type 0
BreaksBoth c cases least place q None = Unit {0}
BreaksBoth c cases least place q (Some before) =
    (breaks (least_at least place 1) || breaks (least_at least place 0))
    ≡ (is_broken (least_finding c cases q.subject before).slack
    || is_broken (least_finding c cases q.subject q.word).slack)

-- Of each limit of the circuit: that its slack is the least over the cases, exactly as paths have it
-- that know all arrivals; all if arrivals do not decide; and always whether something can break it
-- and whether it is broken, of two sides together.
pub record AreKnown (c : Circuit) (cases : List Case) (limits : List Parameter)
    (least : List (Option Least)) (numbers : List ℕ) (sets : List (ℕ × ℕ)) : Type 0 where
  pub are_limits : limits ≡ all_limits c
  pub count : length least ≡ length limits
  pub are_numbers : numbers ≡ map (λ (case : Case). case.number) cases
  pub are_sets : AreSets sets
  pub numbered : (i : ℕ) (found : Option Least) → slice_get least i ≡ Some found →
      IsNumbered sets found
  pub exact : (i : ℕ) (q : Parameter) (found : Option Least) → slice_get limits i ≡ Some q →
      slice_get least i ≡ Some found → IsOfCases c cases q (finding_least found)
  pub each : (i : ℕ) (q : Parameter) (found : Option Least) → slice_get limits i ≡ Some q →
      slice_get least i ≡ Some found → is_sure c cases q.subject ≡ true →
      IsKnown c cases sets q found
  pub free : (i : ℕ) (q : Parameter) (found : Option Least) → slice_get limits i ≡ Some q →
      slice_get least i ≡ Some found →
      is_none found ≡ is_free (least_finding c cases q.subject q.word).slack
  pub alone : (i : ℕ) (q : Parameter) (found : Option Least) → slice_get limits i ≡ Some q →
      slice_get least i ≡ Some found → may_be_two q.word ≡ false →
      breaks found ≡ is_broken (least_finding c cases q.subject q.word).slack
  pub both : (i : ℕ) (q : Parameter) → slice_get limits i ≡ Some q →
      BreaksBoth c cases least i q (partner q.word)

-- ---- one case more

-- the first case of which it is the least
pub record IsFirst (sets : List (ℕ × ℕ)) (finding : Found) (case : ℕ) (new : List (ℕ × ℕ))
    (found : Least) : Type 0 where
  pub same_finding : found.finding ≡ finding
  pub same_case : found.case ≡ case
  pub set : IsSetWith sets (0, case) found.cases new

-- one case more that has the same
pub record IsJoined (sets : List (ℕ × ℕ)) (least : Least) (case : ℕ) (new : List (ℕ × ℕ))
    (found : Least) : Type 0 where
  pub same_finding : found.finding ≡ least.finding
  pub same_case : found.case ≡ least.case
  pub set : IsSetWith sets (least.cases, case) found.cases new

pub record IsKept (sets : List (ℕ × ℕ)) (least : Option Least) (new : List (ℕ × ℕ))
    (found : Option Least) : Type 0 where
  pub same_sets : new ≡ sets
  pub same : found ≡ least

abbrev pub IfFound : (Least → Type 0) → Option Least → Type 0
IfFound is None = ⊥
IfFound is (Some found) = is found

-- by whether the new one is less, and whether it is more
abbrev pub IsLoweredBy : Bool → Bool → List (ℕ × ℕ) → Least → Found → ℕ → List (ℕ × ℕ) →
    Option Least → Type 0
IsLoweredBy true more sets least finding case new found = IfFound (IsFirst sets finding case new) found
IsLoweredBy false true sets least finding case new found = IsKept sets (Some least) new found
IsLoweredBy false false sets least finding case new found =
    IfFound (IsJoined sets least case new) found

-- the least with that of one case more
abbrev pub IsLowered : List (ℕ × ℕ) → Option Least → Option Found → ℕ → List (ℕ × ℕ) →
    Option Least → Type 0
IsLowered sets least None case new found = IsKept sets least new found
IsLowered sets None (Some finding) case new found = IfFound (IsFirst sets finding case new) found
IsLowered sets (Some least) (Some finding) case new found =
    IsLoweredBy (is_less (slack_by finding.slack) (slack_by least.finding.slack))
    (is_less (slack_by least.finding.slack) (slack_by finding.slack)) sets least finding case new found

-- ---- what nothing can break

-- nothing can break a limit at a place, nor the mark or the assertion itself
abbrev pub free_by : Limit → List (Option Least) → ℕ → Bool
free_by Setup least place = is_none (least_at least place 0)
free_by Hold least place = is_none (least_at least place 0)
free_by High least place = is_none (least_at least place 0)
free_by Low least place = is_none (least_at least place 0)
free_by Gate least place = false
free_by GateBefore least place =
    is_none (least_at least place 0) && is_none (least_at least place 1)
free_by GateAfter least place =
    is_none (least_at least place 0) && is_none (least_at least place 2)
free_by Assert least place = false
free_by StableFrom least place =
    is_none (least_at least place 0) && is_none (least_at least place 1)
free_by StableTo least place =
    is_none (least_at least place 0) && is_none (least_at least place 2)
