-- What the program knows of arrivals: which places are worked out, and which edges come to them.
use Rattle.std.specs.Prelude.{◌≡◌, ℕ, zero, suc, ◌+◌, ◌-◌, ◌*◌, ◌^◌, ◌<◌, ◌≤◌, ◌==◌, ◌⊎◌, nat_le, Bool, true, false, ◌&&◌, List, [], ◌∷◌, ◌++◌, length, map, filter, take, drop, fold, slice_get, ℤ, pos, ◌+ℤ◌, ◌-ℤ◌, if◌then◌else◌, is_some, unwrap_or, Option, Some, None}
use Rattle.std.specs.List.{range_with_len}
use Rattle.std.specs.Map.{lookup}
use Rattle.std.specs.Option.{option_and_then, option_map}
use Rattle.std.specs.Ordering.{int_eq}
use Rattle.scald_base.specs.Time.{period}
use Rattle.vector_names.specs.declared.bits.Target.{Target}
use Rattle.vector_names.specs.declared.bits.Target.TheVariants.{Net as OnNet, Constant}
use Rattle.element_kinds.specs.Kinds.{listens}
use Rattle.flat_circuit.specs.declared.instance.Pin.{Pin}
use Rattle.flat_circuit.specs.declared.instance.Instance.{Instance}
use Rattle.flat_circuit.specs.Circuit.{Circuit, driver, wire_at}
use Rattle.fixpoint_engine.specs.Waves.{Waves}
use Rattle.critical_paths.specs.declared.arrival.Arrival.{Arrival as Arrived}
use Rattle.critical_paths.specs.declared.frames.Frame.{Frame}
use Rattle.critical_paths.specs.declared.arrival.Known.{Known}
use Rattle.critical_paths.specs.declared.arrival.Known.TheVariants.{Begun, Done}
use Rattle.critical_paths.specs.declared.arrival.Place.{Place}
use Rattle.critical_paths.specs.declared.direction.Corner.{Corner}
use Rattle.critical_paths.specs.declared.event.Reading.TheVariants.{Folded}
use Rattle.critical_paths.specs.declared.event.Stop.{Stop}
use Rattle.critical_paths.specs.declared.gather.Reached.{Reached}
use Rattle.critical_paths.specs.declared.near.Near.{Near}
use Rattle.critical_paths.specs.declared.path.Node.{Node}
use Rattle.critical_paths.specs.declared.path.Passage.{Passage}
use Rattle.critical_paths.specs.declared.path.Passage.TheVariants.{Through}
use Rattle.critical_paths.specs.declared.path.Paths.{Paths}
use Rattle.critical_paths.specs.declared.path.Word.TheVariants.{Tight}
use Rattle.critical_paths.specs.declared.region.Region.{Region as Ticks}
use Rattle.critical_paths.specs.Event.{same_direction, turned}
use Rattle.critical_paths.specs.Launch.{offset_of, ticks_of}
use Rattle.critical_paths.specs.Path.{bound, is_event}
use Rattle.critical_paths.specs.Tick.{is_further, slot_of}
use Rattle.critical_paths.specs.Known.{IsNear, node_before}
use Rattle.critical_paths.specs.Walk.{same_corner}
use Rattle.critical_paths.specs.Arrival.{Arrival, all_of, arrivals_within, pin_direction, through_pin}
use Rattle.critical_paths.specs.Views.{delay_of_step, end_at}

-- ---- places

abbrev pub same_place : Place → Place → Bool
same_place a b =
    (a.clock == b.clock) && ((a.net == b.net)
    && (same_direction a.direction b.direction && same_corner a.corner b.corner))

-- what is known of a place
abbrev pub known_of : List (Place × Known) → Place → Option Known
known_of entries place = lookup (same_place place) entries

-- What is known of something stays so.
abbrev pub StaysKnown : List (Place × Known) → List (Place × Known) → Type 0
StaysKnown old new = (q : Place) → is_some (known_of old q) ≡ true → is_some (known_of new q) ≡ true

abbrev pub is_done_known : Option Known → Bool
is_done_known None = false
is_done_known (Some Begun) = false
is_done_known (Some (Done from past)) = true

-- its arrivals are worked out
abbrev pub is_done : List (Place × Known) → Place → Bool
is_done entries place = is_done_known (known_of entries place)

-- ---- the arrivals of a place

-- where they stand among so many
abbrev pub range_within : ℕ → Known → Option (ℕ × ℕ)
range_within count Begun = None
range_within count (Done from past) =
    if nat_le from past && nat_le past count then Some (from, past) else None

abbrev pub range_of : List (Place × Known) → ℕ → Place → Option (ℕ × ℕ)
range_of entries count place = option_and_then (range_within count) (known_of entries place)

-- as the layers above see one
abbrev pub arrived : Near → Arrived
arrived a = record { ideal = a.ideal; tick = a.tick; node = a.node }

abbrev pub arrivals_in : List Near → ℕ × ℕ → List Arrived
arrivals_in all range = take (range.1 - range.0) (drop range.0 (map arrived all))

abbrev pub known_arrivals : List (Place × Known) → List Near → Place → Option (List Arrived)
known_arrivals entries all place = option_map (arrivals_in all) (range_of entries (length all) place)

-- ---- when edges come

-- the tick of an ideal edge, and that at which it comes, of arrivals as the program has them
abbrev pub times : List Near → List (ℤ × ℤ)
times = map (λ (a : Near). (a.ideal, a.tick))

abbrev pub times_in : List Near → ℕ → ℕ → List (ℤ × ℤ)
times_in all from past = take (past - from) (drop from (times all))

-- and of those that are gathered
abbrev pub time_of : Reached → ℤ × ℤ
time_of a = (a.near.ideal, a.near.tick)

abbrev pub gathered : List Reached → List (ℤ × ℤ)
gathered = map time_of

-- an edge that is there keeps its place, with the further tick of both
abbrev pub with_time : Corner → List (ℤ × ℤ) → ℤ × ℤ → List (ℤ × ℤ)
with_time corner [] new = new ∷ []
with_time corner (old ∷ more) new =
    if int_eq old.0 new.0 then (if is_further corner new.1 old.1 then new else old) ∷ more
    else old ∷ with_time corner more new

-- through a passage, if the net may change then
abbrev pub later : Passage → ℤ × ℤ → ℤ × ℤ
later passage t = (t.0, t.1 +ℤ ticks_of passage)

abbrev pub comes : Circuit → Waves → Place → ℤ × ℤ → Bool
comes c ws place t =
    is_event c ws (record {
      net = place.net;
      direction = place.direction;
      slot = slot_of (period c.header) t.1;
    })

abbrev pub with_one : Circuit → Waves → Place → List (ℤ × ℤ) → ℤ × ℤ → List (ℤ × ℤ)
with_one c ws place some t = if comes c ws place t then with_time place.corner some t else some

abbrev pub with_all : Circuit → Waves → Place → List (ℤ × ℤ) → List (ℤ × ℤ) → List (ℤ × ℤ)
with_all c ws place some more = fold (with_one c ws place) some more

abbrev pub with_later : Circuit → Waves → Place → Passage → List (ℤ × ℤ) → ℤ × ℤ → List (ℤ × ℤ)
with_later c ws place passage some t = with_one c ws place some (later passage t)

-- at the clock itself, at the end of a region
abbrev pub age_at : Circuit → Place → ℤ → ℤ
age_at c place tick =
    unwrap_or (offset_of c place.corner (record {
      net = place.net;
      direction = place.direction;
      slot = slot_of (period c.header) tick;
    })) (pos 0)

abbrev pub end_time : Circuit → Place → Ticks → ℤ × ℤ
end_time c place region = (
  end_at place.corner region -ℤ age_at c place (end_at place.corner region),
  end_at place.corner region,
)

-- none of some is of an edge, and the first that is
abbrev pub IsOfNone : ℤ → List Reached → Type 0
IsOfNone ideal some =
    (k : ℕ) (a : Reached) → slice_get some k ≡ Some a → int_eq a.near.ideal ideal ≡ false

pub record IsFirstOf (ideal : ℤ) (some : List Reached) (at : ℕ) (a : Reached) : Type 0 where
  pub is : slice_get some at ≡ Some a
  pub edge : int_eq a.near.ideal ideal ≡ true
  pub before : (k : ℕ) (b : Reached) → k < at → slice_get some k ≡ Some b →
      int_eq b.near.ideal ideal ≡ false

-- ---- after pins

-- the place behind a pin, and by what the steps come from there
abbrev pub behind_net : Circuit → Instance → Place → ℕ → Pin → Target → Option (Place × Passage)
behind_net c j place i pin (OnNet net) =
    Some (
      record {
        clock = place.clock;
        net = net;
        direction = turned pin.inverted
            (pin_direction j.kind i (turned j.out_inverted place.direction));
        corner = place.corner;
      },
      Through i (bound place.corner (wire_at c.nets net))
          (bound place.corner (delay_of_step j (turned j.out_inverted place.direction))) Tight,
    )
behind_net c j place i pin (Constant one) = None

abbrev pub behind_pin : Circuit → Instance → Place → ℕ → Option Pin → Option (Place × Passage)
behind_pin c j place i None = None
behind_pin c j place i (Some pin) =
    if listens j.kind i then behind_net c j place i pin pin.target else None

abbrev pub behind_at : Circuit → Instance → Place → ℕ → Option (Place × Passage)
behind_at c j place i = behind_pin c j place i (slice_get j.pins i)

-- ---- what they are

-- those of one clock
abbrev pub of_clock : ℕ → List Arrival → List (ℤ × ℤ)
of_clock clock arrivals =
    map (λ (a : Arrival). (a.edge, pos a.tick))
    (filter (λ (a : Arrival). a.source == clock) arrivals)

-- No way to the place has more than some number of elements, and these are its arrivals.
pub record AreArrivals (c : Circuit) (ws : Waves) (place : Place) (some : List (ℤ × ℤ)) :
    Type 0 where
  pub most : ℕ
  pub all : List Arrival
  pub are : arrivals_within c ws place.corner most place.direction place.net ≡ Some all
  pub is : some ≡ of_clock place.clock all

-- no way to the place has more than so many elements
abbrev pub ends_within : Circuit → Waves → ℕ → Place → Bool
ends_within c ws most q = is_some (arrivals_within c ws q.corner most q.direction q.net)

-- ---- the ways by which edges come

-- the event of a place's net at a tick
abbrev pub stop_at : Circuit → Place → ℤ → Stop
stop_at c q tick =
    record {
      net = q.net;
      direction = q.direction;
      slot = slot_of (period c.header) tick;
      corner = q.corner;
      reading = Folded;
    }

-- An edge of a clock comes to the clock itself, where its way begins.
pub record IsBegin (c : Circuit) (ws : Waves) (q : Place) (t : ℤ × ℤ) (n : Node) : Type 0 where
  pub input : driver c q.net ≡ None
  pub clock : q.net ≡ q.clock
  pub event : comes c ws q t ≡ true
  pub stop : n.stop ≡ stop_at c q t.1
  pub count : n.count ≡ 1
  pub age : n.age ≡ age_at c q t.1
  pub edge : t.0 ≡ t.1 -ℤ n.age
  pub near : IsNear 65536 t.1
  pub short : IsNear 131072 n.age

-- a place behind a pin of the net's driver, and by what steps come from there
pub record IsBehind (c : Circuit) (q : Place) (behind : Place × Passage) : Type 0 where
  pub element : Instance
  pub pin : ℕ
  pub driven : driver c q.net ≡ Some element
  pub at : behind_at c element q pin ≡ Some behind

-- It comes there by an event of the net, at the corner after that of the place behind.
pub record ComesFrom (c : Circuit) (ws : Waves) (nodes : List Node) (q : Place) (t : ℤ × ℤ)
    (n : Node) (behind : Place × Passage) (before : ℤ × ℤ) (m : Node) : Type 0 where
  pub through : IsBehind c q behind
  pub time : t ≡ later behind.1 before
  pub short : IsNear 131072 (ticks_of behind.1)
  pub event : comes c ws q t ≡ true
  pub next : slice_get nodes n.next ≡ Some m
  pub node : n ≡ node_before (stop_at c q t.1) behind.1 n.next m

module _ (c : Circuit) (ws : Waves) (nodes : List Node) where
  -- From a node back, over so many events, each is where the next one came from.
  abbrev pub IsWay : ℕ → Place → ℤ × ℤ → Node → Type 0
  IsWay zero q t n = ⊥
  IsWay (suc left) q t n =
      IsBegin c ws q t n
      ⊎ ((behind : Place × Passage) × ((before : ℤ × ℤ) × ((m : Node)
      × ComesFrom c ws nodes q t n behind before m × IsWay left behind.0 before m)))

  -- an arrival's node tells its way
  abbrev pub HasWay : Place → Near → Type 0
  HasWay q a =
      (n : Node) × (slice_get nodes a.node ≡ Some n) × IsWay n.count q (a.ideal, a.tick) n

  abbrev pub HaveWays : Place → List Near → ℕ → ℕ → Type 0
  HaveWays q all from past =
      (k : ℕ) (a : Near) → from ≤ k → k < past → slice_get all k ≡ Some a → HasWay q a

  -- and so do those that have no number yet
  abbrev pub AreWays : Place → List Reached → Type 0
  AreWays q some =
      (k : ℕ) (a : Reached) → slice_get some k ≡ Some a →
      IsWay a.event.count q (time_of a) a.event

-- What is worked out is what the waves of the case make it, and each arrival has its way.
pub record AreExact (c : Circuit) (ws : Waves) (paths : Paths) : Type 0 where
  pub each : (q : Place) (from past : ℕ) →
      known_of paths.known.entries q ≡ Some (Done from past) →
      (from ≤ past) × (past ≤ length paths.arrivals)
      × AreArrivals c ws q (times_in paths.arrivals from past)
  pub ways : (q : Place) (from past : ℕ) →
      known_of paths.known.entries q ≡ Some (Done from past) →
      HaveWays c ws paths.nodes q paths.arrivals from past

-- ---- what makes a place done

-- A net's place to which no way has more elements than there may be nets, and one.
pub record IsFew (c : Circuit) (ws : Waves) (q : Place) : Type 0 where
  pub net : q.net < length c.nets
  pub most : ℕ
  pub few : most ≤ 65537
  pub ends : ends_within c ws most q ≡ true

-- the places behind its pins are worked out
abbrev pub AreDoneBehind : Circuit → List (Place × Known) → Place → Type 0
AreDoneBehind c entries q =
    (behind : Place × Passage) → IsBehind c q behind → is_done entries behind.0 ≡ true

-- and those behind its pins from one up to another
abbrev pub ArePassed : Circuit → List (Place × Known) → Place → ℕ → ℕ → Type 0
ArePassed c entries q from past =
    (behind : Place × Passage) (b : IsBehind c q behind) → from ≤ b.pin → b.pin < past →
    is_done entries behind.0 ≡ true

-- what is done stays so
abbrev pub StaysDone : List (Place × Known) → List (Place × Known) → Type 0
StaysDone old new = (q : Place) → is_done old q ≡ true → is_done new q ≡ true

-- The search for places that are not done: each is needed for the one before it, those behind the
-- pins that were passed are done, and a place that is begun is in the search if it can be done.
pub record IsSearch (c : Circuit) (ws : Waves) (entries : List (Place × Known))
    (frames : List Frame) : Type 0 where
  pub chain : (k : ℕ) (f g : Frame) → slice_get frames k ≡ Some f →
      slice_get frames (k + 1) ≡ Some g → (p : Passage) × IsBehind c f.place (g.place, p)
  pub passed : (k : ℕ) (f : Frame) → slice_get frames k ≡ Some f →
      ArePassed c entries f.place 0 f.pin
  pub ended : (q : Place) → known_of entries q ≡ Some Begun → IsFew c ws q →
      (k : ℕ) × ((f : Frame) × (slice_get frames k ≡ Some f) × (f.place ≡ q))

-- What is worked out is exact, and what was begun and is not done comes from a loop.
pub record KnowsArrivals (c : Circuit) (ws : Waves) (paths : Paths) : Type 0 where
  pub exact : AreExact c ws paths
  pub ended : IsSearch c ws paths.known.entries []

abbrev pub KeepsArrivals : Circuit → Waves → Paths → Paths → Type 0
KeepsArrivals c ws old new = KnowsArrivals c ws old → KnowsArrivals c ws new

-- what was known of places is known now
abbrev pub StaysAs : List (Place × Known) → List (Place × Known) → Type 0
StaysAs before now =
    (q : Place) → is_some (known_of before q) ≡ true → known_of now q ≡ known_of before q

-- and the search goes on at places of which nothing was known
pub record IsFresh (before now : List (Place × Known)) (frames : List Frame) : Type 0 where
  pub same : StaysAs before now
  pub fresh : (k : ℕ) (f : Frame) → slice_get frames k ≡ Some f →
      is_some (known_of before f.place) ≡ false

-- how much there is to do: each place is begun once
abbrev pub left_to_do : List (Place × Known) → List Frame → ℕ
left_to_do entries frames = length frames + 4 * (2 ^ 63 - length entries)

-- It ends within two periods, at events of the place's net.
pub record IsEdgeRegion (c : Circuit) (ws : Waves) (q : Place) (r : Ticks) : Type 0 where
  pub first : IsNear 65536 r.first
  pub last : IsNear 65536 r.last
  pub event : comes c ws q (end_time c q r) ≡ true

-- ---- what comes to others

-- an arrival at the end of others, with its node's number
pub record IsAppended (old new : List Near) (reached : Reached) (number : ℕ) : Type 0 where
  pub arrival : Near
  pub is : new ≡ old ++ arrival ∷ []
  pub time : ◌≡◌ {A = ℤ × ℤ} (arrival.ideal, arrival.tick) (time_of reached)
  pub node : arrival.node ≡ number

-- there are only more of them
pub record Extends (old new : List Near) : Type 0 where
  pub more : List Near
  pub is : new ≡ old ++ more

-- one is among others
abbrev pub IsAmong : List Reached → Reached → Type 0
IsAmong some a = (k : ℕ) × (slice_get some k ≡ Some a)

-- nothing else than this one comes to others
abbrev pub AddsOnly : Reached → List Reached → List Reached → Type 0
AddsOnly new old all = (a : Reached) → IsAmong all a → (a ≡ new) ⊎ IsAmong old a

-- what is found stands at its place among all, with its event
pub record StandsAt (paths : Paths) (at : ℕ) (found : Reached) : Type 0 where
  pub arrival : Near
  pub is : slice_get paths.arrivals at ≡ Some arrival
  pub time : ◌≡◌ {A = ℤ × ℤ} (arrival.ideal, arrival.tick) (time_of found)
  pub event : slice_get paths.nodes arrival.node ≡ Some found.event

abbrev pub Stand : Paths → ℕ → List Reached → Type 0
Stand paths from found = (k : ℕ) (a : Reached) → slice_get found k ≡ Some a →
    StandsAt paths (from + k) a

-- ---- those that come through pins

abbrev pub AddsThrough : Circuit → Waves → Place → Option (Place × Passage) → List (ℤ × ℤ) →
    List (ℤ × ℤ) → Type 0
AddsThrough c ws place None old new = new ≡ old
AddsThrough c ws place (Some behind) old new =
    (some : List (ℤ × ℤ)) × (AreArrivals c ws behind.0 some
    × (new ≡ fold (with_later c ws place behind.1) old some))

-- what a pin adds, of ways of at most so many elements to the net after it
abbrev pub through_of : Circuit → Waves → Instance → Place → ℕ → ℕ → Option (List Arrival)
through_of c ws j place most i =
    through_pin c place.corner j (turned j.out_inverted place.direction)
    (λ own m. arrivals_within c ws place.corner most own m) i (slice_get j.pins i)

-- Those of the first so many pins are added.
pub record AreThrough (c : Circuit) (ws : Waves) (j : Instance) (place : Place) (pins : ℕ)
    (old new : List (ℤ × ℤ)) : Type 0 where
  pub most : ℕ
  pub found : List Arrival
  pub are : all_of (map (through_of c ws j place most) (range_with_len 0 pins)) ≡ Some found
  pub is : new ≡ with_all c ws place old (of_clock place.clock found)
