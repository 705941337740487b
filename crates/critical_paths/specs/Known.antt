-- What is known of paths by the events that were met.
use Rattle.std.specs.Prelude.{◌≡◌, ℕ, zero, suc, ◌+◌, ◌-◌, ◌*◌, ◌^◌, ◌<◌, ◌≤◌, ◌==◌, Bool, true, false, nat_lt, ◌⊎◌, List, [], ◌∷◌, ◌++◌, length, slice_get, if◌then◌else◌, Option, Some, None, ℤ, pos, ◌+ℤ◌, ◌-ℤ◌, ◌≤ℤ◌, neg_ℤ}
use Rattle.std.specs.List.{AllByRecursion, list_any}
use Rattle.critical_paths.specs.declared.direction.Corner.{Corner}
use Rattle.critical_paths.specs.declared.event.Stop.{Stop}
use Rattle.critical_paths.specs.declared.path.Passage.{Passage}
use Rattle.critical_paths.specs.declared.path.Passage.TheVariants.{Through, Cut}
use Rattle.critical_paths.specs.declared.path.Origin.{Origin}
use Rattle.critical_paths.specs.declared.path.Origin.TheVariants.{Input, Level, Earlier}
use Rattle.critical_paths.specs.declared.path.Node.{Node}
use Rattle.critical_paths.specs.declared.path.Halt.{Halt}
use Rattle.critical_paths.specs.declared.path.Halt.TheVariants.{Known, Passed, Ends}
use Rattle.critical_paths.specs.declared.path.End.{End as Ending}
use Rattle.critical_paths.specs.declared.path.End.TheVariants.{Edge, Source as AtSource, Loop as InLoop, Nothing as ByNothing}
use Rattle.scald_base.specs.Time.{period}
use Rattle.flat_circuit.specs.Circuit.{Circuit, driver}
use Rattle.fixpoint_engine.specs.Waves.{Waves}
use Rattle.critical_paths.specs.declared.path.At.{At}
use Rattle.critical_paths.specs.declared.path.Step.{Step}
use Rattle.critical_paths.specs.Path.{End, Source, Loop, Nothing, Path}
use Rattle.critical_paths.specs.Walk.{PinPath, ending, link, linked, origin_of, reading_of, same_stop, stop_count}
use Rattle.critical_paths.specs.Launch.{Edge as IdealEdge, offset_at, ticks_of}

-- a number that lies within so many of 0
pub record IsNear (most : ℕ) (z : ℤ) : Type 0 where
  pub low : neg_ℤ (pos most) ≤ℤ z
  pub high : z ≤ℤ pos most

-- ---- stops of a circuit

pub record IsStop (c : Circuit) (corner : Corner) (s : Stop) : Type 0 where
  pub net : s.net < length c.nets
  pub slot : s.slot < period c.header
  pub side : s.corner ≡ corner
  pub reading : reading_of s.reading (driver c s.net) ≡ s.reading

-- no circuit has more nets, or a longer period
pub record IsSmall (c : Circuit) : Type 0 where
  pub some : 0 < period c.header
  pub slots : period c.header ≤ 4096
  pub nets : length c.nets ≤ 65536

-- a cutter stands beside what it cuts
abbrev pub IsShort : Passage → Type 0
IsShort (Through pin wire delay word) = Unit {0}
IsShort (Cut ticks) = IsNear 1 ticks

abbrev pub LeadsWithin : Circuit → Corner → Origin → Type 0
LeadsWithin c corner Input = Unit {0}
LeadsWithin c corner Level = Unit {0}
LeadsWithin c corner (Earlier passage s) = IsShort passage × IsStop c corner s

-- ---- the nodes of a path

abbrev pub on_from : Option Node → (ℕ → List Node) → List Node
on_from None rest = []
on_from (Some n) rest = n ∷ rest n.next

-- so many nodes from a number on, each the next of the one before
abbrev pub nodes_on : List Node → ℕ → ℕ → List Node
nodes_on nodes zero i = []
nodes_on nodes (suc count) i = on_from (slice_get nodes i) (nodes_on nodes count)

abbrev pub end_of : Ending → End
end_of Edge = Source
end_of AtSource = Source
end_of InLoop = Loop
end_of ByNothing = Nothing

abbrev pub link_on : Stop → Path → Option Passage → Path
link_on s rest None = rest
link_on s rest (Some passage) = linked (link s passage) rest

-- the path that nodes tell: all but the last are links
abbrev pub path_on : End → Node → List Node → Path
path_on end n [] = ending n.stop end
path_on end n (m ∷ more) = link_on n.stop (path_on end m more) n.passage

abbrev pub ticks_by : Option Passage → ℤ
ticks_by None = pos 0
ticks_by (Some passage) = ticks_of passage

-- what its links take
abbrev pub ticks_on : Node → List Node → ℤ
ticks_on n [] = pos 0
ticks_on n (m ∷ more) = ticks_by n.passage +ℤ ticks_on m more

abbrev pub last_on : Node → List Node → Stop
last_on n [] = n.stop
last_on n (m ∷ more) = last_on m more

-- the nodes after a node, on its path
abbrev pub rest_of : List Node → Node → List Node
rest_of nodes n = nodes_on nodes (n.count - 1) n.next

abbrev pub known_by : List Node → Option Node → Option Path
known_by nodes None = None
known_by nodes (Some n) = Some (path_on (end_of n.end) n (rest_of nodes n))

-- the nodes of a path, from its event back
abbrev pub way_by : List Node → Option Node → List Node
way_by nodes None = []
way_by nodes (Some n) = n ∷ rest_of nodes n

abbrev pub way_of : List Node → ℕ → List Node
way_of nodes i = way_by nodes (slice_get nodes i)

-- their steps, if the first is at this tick
abbrev pub step_at : ℤ → Node → Step
step_at tick n =
    record { net = n.stop.net; direction = n.stop.direction; passage = n.passage; tick = tick }

abbrev pub steps_from : ℤ → List Node → List Step
steps_from tick [] = []
steps_from tick (n ∷ more) = step_at tick n ∷ steps_from (tick -ℤ ticks_by n.passage) more

-- the path that the node of a number tells
abbrev pub path_known : List Node → ℕ → Option Path
path_known nodes i = known_by nodes (slice_get nodes i)

-- ---- paths without a bound on their length

module _ (c : Circuit) (ws : Waves) where
  -- how a path ends at an event, if these were passed
  abbrev pub IsEnd : List Stop → Stop → Ending → Type 0
  IsEnd seen s Edge = (list_any (same_stop s) seen ≡ false) × (origin_of c ws s ≡ Input)
  IsEnd seen s AtSource = (list_any (same_stop s) seen ≡ false) × (origin_of c ws s ≡ Input)
  IsEnd seen s InLoop = list_any (same_stop s) seen ≡ true
  IsEnd seen s ByNothing = (list_any (same_stop s) seen ≡ false) × (origin_of c ws s ≡ Level)

  -- the nodes go on as events do, if these were passed
  abbrev pub Goes : List Stop → Ending → Node → List Node → Type 0
  Goes seen end n [] = IsEnd seen n.stop end
  Goes seen end n (m ∷ more) =
      (list_any (same_stop n.stop) seen ≡ false)
      × ((p : Passage) × (n.passage ≡ Some p) × (origin_of c ws n.stop ≡ Earlier p m.stop))
      × Goes (n.stop ∷ seen) end m more

  -- by how much the path's begin lies before its last event
  abbrev pub IsAge : Ending → Stop → ℤ → ℤ → Type 0
  IsAge Edge last ticks age = (after : ℤ) × (offset_at c last ≡ Some after) × (age ≡ ticks +ℤ after)
  IsAge AtSource last ticks age = (offset_at c last ≡ None) × (age ≡ ticks)
  IsAge InLoop last ticks age = age ≡ ticks
  IsAge ByNothing last ticks age = age ≡ ticks

  -- A node tells the path of an event, all of whose events pass a test.
  pub record Tells (nodes : List Node) (among : Stop → Bool) (s : Stop) (node : Node) : Type 0 where
    pub of : node.stop ≡ s
    pub count : node.count ≡ 1 + length (rest_of nodes node)
    pub few : node.count ≤ stop_count c + 1
    pub goes : Goes [] node.end node (rest_of nodes node)
    pub age : IsAge node.end (last_on node (rest_of nodes node))
        (ticks_on node (rest_of nodes node)) node.age
    pub near : IsNear (131072 * node.count) node.age
    pub source : node.source ≡ (last_on node (rest_of nodes node)).net
    pub all : AllByRecursion (λ (n : Node). among n.stop ≡ true) (node ∷ rest_of nodes node)

  pub record IsKnown (nodes : List Node) (among : Stop → Bool) (s : Stop) (i : ℕ) : Type 0 where
    pub node : Node
    pub is : slice_get nodes i ≡ Some node
    pub tells : Tells nodes among s node

-- ---- what was met

-- the event has this number
abbrev pub Has : {X : Type 0} → List (Stop × X) → Stop → X → Type 0
Has entries s i = (k : ℕ) × (slice_get entries k ≡ Some (s, i))

abbrev pub are_met : {X : Type 0} → List (Stop × X) → Stop → Bool
are_met entries s = list_any (λ e. same_stop s e.0) entries

-- nodes only come to those that there are
pub record Grows (old new : List Node) : Type 0 where
  pub more : List Node
  pub is : new ≡ old ++ more

-- what was met of a case is told as its waves have it
pub record Knows (c : Circuit) (ws : Waves) (nodes : List Node) (met : List (Stop × ℕ)) :
    Type 0 where
  pub each : (s : Stop) (i : ℕ) → Has met s i → IsKnown c ws nodes (are_met met) s i

-- ---- what a walk passes

abbrev pub stop_in : Stop → Option (Stop × Passage) → Stop
stop_in t None = t
stop_in t (Some e) = e.0

-- the event at a place of a chain that ends at this one
abbrev pub stop_after : List (Stop × Passage) → Stop → ℕ → Stop
stop_after chain t k = stop_in t (slice_get chain k)

-- each event of a chain comes from the next one, and the last from this one
pub record Leads (c : Circuit) (ws : Waves) (chain : List (Stop × Passage)) (t : Stop) :
    Type 0 where
  pub each : (k : ℕ) (e : Stop × Passage) → slice_get chain k ≡ Some e →
      origin_of c ws e.0 ≡ Earlier e.1 (stop_after chain t (k + 1))

-- none of the first so many was met
abbrev pub AreNew : List (Stop × ℕ) → List (Stop × Passage) → ℕ → Type 0
AreNew met chain past =
    (k : ℕ) (e : Stop × Passage) → k < past → slice_get chain k ≡ Some e → are_met met e.0 ≡ false

-- no event comes twice
abbrev pub AreApart : List (Stop × Passage) → Type 0
AreApart chain =
    (j k : ℕ) (d e : Stop × Passage) → j < k → slice_get chain j ≡ Some d → slice_get chain k
    ≡ Some e → same_stop d.0 e.0 ≡ false

-- each is a stop of the circuit, and no passage takes long
pub record IsEntry (c : Circuit) (corner : Corner) (e : Stop × Passage) : Type 0 where
  pub stop : IsStop c corner e.0
  pub short : IsShort e.1

abbrev pub AreStops : Circuit → Corner → List (Stop × Passage) → Type 0
AreStops c corner chain =
    (k : ℕ) (e : Stop × Passage) → slice_get chain k ≡ Some e → IsEntry c corner e

pub record Walked (c : Circuit) (ws : Waves) (met : List (Stop × ℕ)) (start : Stop)
    (chain : List (Stop × Passage)) (t : Stop) : Type 0 where
  pub leads : Leads c ws chain t
  pub begins : stop_after chain t 0 ≡ start
  pub stop : IsStop c t.corner t
  pub stops : AreStops c t.corner chain
  pub new : AreNew met chain (length chain)
  pub apart : AreApart chain

-- the same, wherever the walk began
abbrev pub IsWalked : Circuit → Waves → List (Stop × ℕ) → List (Stop × Passage) → Stop → Type 0
IsWalked c ws met chain t = (start : Stop) × Walked c ws met start chain t

abbrev pub IsHalt : Circuit → Waves → List (Stop × ℕ) → List (Stop × Passage) → Stop → Halt → Type 0
IsHalt c ws met chain t (Known i) = Has met t i
IsHalt c ws met chain t (Passed place) =
    (are_met met t ≡ false) × ((p : Passage) × (slice_get chain place ≡ Some (t, p)))
IsHalt c ws met chain t (Ends node) =
    (are_met met t ≡ false) × ((are_met chain t ≡ false) × Tells c ws [] (same_stop t) t node)

-- ---- how a path begins

-- the node of an event from which a path goes on at the node of a number
abbrev pub node_before : Stop → Passage → ℕ → Node → Node
node_before s passage i after =
    record after {
      stop = s;
      passage = Some passage;
      next = i;
      count = after.count + 1;
      age = after.age +ℤ ticks_of passage;
    }

abbrev pub IsShortNode : Option Node → Type 0
IsShortNode None = Unit {0}
IsShortNode (Some n) = (n.count ≤ 2 ^ 40) × IsNear (131072 * n.count) n.age

-- The end of a walk is known, and none of the chain up to a place.
pub record IsBegun (c : Circuit) (ws : Waves) (nodes : List Node) (met : List (Stop × ℕ))
    (chain : List (Stop × Passage)) (t : Stop)
    (found : ℕ × ℕ) : Type 0 where
  pub knows : Knows c ws nodes met
  pub has : Has met (stop_after chain t found.1) found.0
  pub within : found.1 ≤ length chain
  pub new : AreNew met chain found.1

-- ---- rounds

-- what the passages of a chain take
abbrev pub ticks_along : List (Stop × Passage) → ℤ
ticks_along [] = pos 0
ticks_along (e ∷ more) = ticks_of e.1 +ℤ ticks_along more

-- no passage takes long
abbrev pub AreShort : List (Stop × Passage) → Type 0
AreShort chain = (k : ℕ) (e : Stop × Passage) → slice_get chain k ≡ Some e → IsShort e.1

-- the node of the event at a place of a chain, of which those from one place on go round
abbrev pub round_node : List (Stop × Passage) → ℕ → ℕ → ℤ → ℕ → Stop × Passage → Node
round_node chain again base ticks place e =
    record {
      stop = e.0;
      passage = Some e.1;
      next = if nat_lt (place + 1) (length chain) then base + (place + 1 - again) else base;
      count = length chain - again + 1;
      end = InLoop;
      source = e.0.net;
      age = ticks;
    }

-- the nodes of the places from one up to another, after others
pub record IsRound (old : List Node) (chain : List (Stop × Passage)) (again past : ℕ) (ticks : ℤ)
    (new : List Node) : Type 0 where
  pub long : length new ≡ length old + (past - again)
  pub grows : Grows old new
  pub each : (k : ℕ) (e : Stop × Passage) → again ≤ k → k < past → slice_get chain k ≡ Some e →
      slice_get new (length old + (k - again))
      ≡ Some (round_node chain again (length old) ticks k e)

-- the numbers of the places from one up to another, after others
-- the stop is at a place from one up to another
abbrev pub IsAmong : List (Stop × Passage) → ℕ → ℕ → Stop → Type 0
IsAmong chain again past q =
    (k : ℕ) × ((e : Stop × Passage) × (again ≤ k) × (k < past) × (slice_get chain k ≡ Some e) ×
    (same_stop q e.0 ≡ true))

abbrev pub IsNumberOf : List (Stop × Passage) → ℕ → ℕ → ℕ → Stop → ℕ → Type 0
IsNumberOf chain again base past s i =
    (k : ℕ) × ((e : Stop × Passage) × (again ≤ k) × (k < past) × (slice_get chain k ≡ Some e) ×
    (e.0 ≡ s) × (i ≡ base + (k - again)))

pub record IsNumbered (old : List (Stop × ℕ)) (chain : List (Stop × Passage)) (again base past : ℕ)
    (new : List (Stop × ℕ)) : Type 0 where
  pub met : (q : Stop) → are_met old q ≡ true → are_met new q ≡ true
  pub here : (k : ℕ) (e : Stop × Passage) → again ≤ k → k < past → slice_get chain k ≡ Some e →
      Has new e.0 (base + (k - again))
  pub only : (q : Stop) → are_met new q ≡ true → are_met old q ≡ true ⊎ IsAmong chain again past q
  pub has : (s : Stop) (i : ℕ) → Has new s i → Has old s i ⊎ IsNumberOf chain again base past s i

-- ---- where paths begin

abbrev pub IsShortAt : ℤ → Option Node → Type 0
IsShortAt tick None = Unit {0}
IsShortAt tick (Some n) =
    IsNear (2 ^ 60) tick × (n.count ≤ 2 ^ 40) × IsNear (131072 * n.count) n.age

abbrev pub IsShortPath : List Node → At → Type 0
IsShortPath nodes at = IsShortAt at.tick (slice_get nodes at.node)

abbrev pub begin_by : ℤ → Option Node → Option ℤ
begin_by tick None = None
begin_by tick (Some n) = Some (tick -ℤ n.age)

abbrev pub begin_in : List Node → At → Option ℤ
begin_in nodes at = begin_by at.tick (slice_get nodes at.node)

abbrev pub edge_if : Ending → ℕ → ℤ → Option (ℕ × ℤ)
edge_if Edge net tick = Some (net, tick)
edge_if AtSource net tick = None
edge_if InLoop net tick = None
edge_if ByNothing net tick = None

abbrev pub edge_known : ℤ → Option Node → Option (ℕ × ℤ)
edge_known tick None = None
edge_known tick (Some n) = edge_if n.end n.source (tick -ℤ n.age)

-- the clock that a path comes from, and the tick of the edge
abbrev pub edge_in : List Node → At → Option (ℕ × ℤ)
edge_in nodes at = edge_known at.tick (slice_get nodes at.node)

-- an ideal edge, as it is told
abbrev pub edge_pair : IdealEdge → ℕ × ℤ
edge_pair e = (e.net, e.tick)

abbrev pub ago_between : ℕ × ℤ → ℕ × ℤ → Option ℤ
ago_between own clock = if own.0 == clock.0 then Some (clock.1 -ℤ own.1) else None

abbrev pub ago_in : Option (ℕ × ℤ) → Option (ℕ × ℤ) → Option ℤ
ago_in None clock = None
ago_in (Some own) None = None
ago_in (Some own) (Some clock) = ago_between own clock

abbrev pub pin_path_by : ℕ → Option Path → Option PinPath
pin_path_by wire None = None
pin_path_by wire (Some path) = Some (record { wire = wire; path = path })

-- the path that shows at a pin
abbrev pub path_at : List Node → At → Option PinPath
path_at nodes at = pin_path_by at.wire (path_known nodes at.node)

abbrev pub corner_known : Option Node → Option Corner
corner_known None = None
corner_known (Some n) = Some n.stop.corner

-- which end of a region a path explains
abbrev pub corner_in : List Node → At → Option Corner
corner_in nodes at = corner_known (slice_get nodes at.node)
