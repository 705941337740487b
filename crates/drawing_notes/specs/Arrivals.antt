-- How the arrivals of a case are made, each from those of the nets before it.
use Rattle.std.specs.Prelude.{◌≡◌, ℕ, ◌+◌, ◌*◌, ◌≤◌, ◌==◌, nat_lt, Bool, true, false, ◌&&◌, ◌||◌, List, [], length, fold, slice_get, slice_index_or, if◌then◌else◌, Option, Some, None, IfSome}
use Rattle.std.specs.List.{filter_map, range_with_len}
use Rattle.std.specs.Option.{option_map}
use Rattle.vector_names.specs.declared.bits.Target.{Target}
use Rattle.vector_names.specs.declared.bits.Target.TheVariants.{Net as OnNet, Constant}
use Rattle.flat_circuit.specs.declared.instance.Pin.{Pin}
use Rattle.flat_circuit.specs.declared.instance.Instance.{Instance}
use Rattle.flat_circuit.specs.Circuit.{Circuit, driver, driver_at}
use Rattle.fixpoint_engine.specs.Waves.{Waves}
use Rattle.drawing_notes.specs.declared.launched.Arrival.{Arrival}
use Rattle.drawing_notes.specs.declared.launched.Edges.{Edges}
use Rattle.drawing_notes.specs.Passing.{delay_to, is_heard, is_passable, keeps_mark, makes}
use Rattle.drawing_notes.specs.Paths.{AreLatest, Launches}
use Rattle.drawing_notes.specs.Pins.{is_storage, passes, target_net}
use Rattle.drawing_notes.specs.Late.{behind_wire}

-- over all cases
abbrev pub arrival_at : List (Option Arrival) → ℕ → Option Arrival
arrival_at arrivals net = slice_index_or arrivals net None

-- ---- rises and falls

abbrev pub no_edges : Edges
no_edges = record { rise = None; fall = None }

abbrev pub edges_at : List Edges → ℕ → Edges
edges_at edges net = slice_index_or edges net no_edges

abbrev pub edge_of : Bool → Edges → Option Arrival
edge_of true e = e.rise
edge_of false e = e.fall

-- when what storage launches makes a net rise, and fall, at the latest
pub record AreEdges (c : Circuit) (looped : ℕ → Bool) (ws : Waves) (net : ℕ) (e : Edges) :
    Type 0 where
  pub rises : AreLatest (λ storage. Launches c looped ws storage true net) e.rise
  pub falls : AreLatest (λ storage. Launches c looped ws storage false net) e.fall

abbrev pub TellsEdges : Circuit → (ℕ → Bool) → Waves → (ℕ → Edges) → Type 0
TellsEdges c looped ws edges = (net : ℕ) → AreEdges c looped ws net (edges net)

-- ---- the later of two

-- the second comes later, or at the same tick from earlier storage
abbrev pub is_later : Arrival → Arrival → Bool
is_later a b = nat_lt a.ticks b.ticks || ((b.ticks == a.ticks) && nat_lt b.storage a.storage)

abbrev pub later : Option Arrival → Option Arrival → Option Arrival
later None second = second
later (Some a) None = Some a
later (Some a) (Some b) = if is_later a b then Some b else Some a

abbrev pub IsUpTo : ℕ → Option Arrival → Type 0
IsUpTo most arrival = IfSome arrival (λ a. a.ticks ≤ most)

-- rising or falling
abbrev pub EachEdge : Circuit → (ℕ → Bool) → Waves → ℕ → ℕ → ℕ → Type 0
EachEdge c looped ws net storage ticks =
    (rise : Bool) × Launches c looped ws storage rise net ticks

-- the latest of a net, raised to what comes in a case
pub record IsRaised (c : Circuit) (looped : ℕ → Bool) (ws : Waves) (net : ℕ)
    (old new : Option Arrival) : Type 0 where
  pub more : Option Arrival
  pub latest : AreLatest (EachEdge c looped ws net) more
  pub small : IsUpTo (131070 * length c.nets) more
  pub is : new ≡ later old more

-- of each net
abbrev pub AreRaisedBy : Circuit → (ℕ → Bool) → Waves → List (Option Arrival) →
    List (Option Arrival) → Type 0
AreRaisedBy c looped ws old new =
    (length new ≡ length old)
    × ((net : ℕ) → IsRaised c looped ws net (arrival_at old net) (arrival_at new net))

-- ---- at pins

-- a rise or a fall of what a pin is on, after its wire
abbrev pub edge_on : Circuit → (ℕ → Edges) → Bool → Target → Option Arrival
edge_on c edges before (OnNet net) = option_map (behind_wire c net) (edge_of before (edges net))
edge_on c edges before (Constant one) = None

abbrev pub edge_through : Circuit → (ℕ → Edges) → Instance → Bool → ℕ → Pin → Bool → Option Arrival
edge_through c edges j rise place p before =
    if makes j place p before rise then edge_on c edges before p.target else None

-- the latest at a pin that makes this change of the output's net
abbrev pub pin_edge : Circuit → Bool → Waves → (ℕ → Edges) → Instance → Bool → ℕ → Option Pin →
    Option Arrival
pin_edge c held ws edges j rise place None = None
pin_edge c held ws edges j rise place (Some p) =
    if is_heard held ws j place p
    then later (edge_through c edges j rise place p true)
    (edge_through c edges j rise place p false)
    else None

abbrev pub latest_to : Circuit → Bool → Waves → (ℕ → Edges) → Instance → Bool → ℕ → Option Arrival
latest_to c held ws edges j rise count =
    fold (λ (so_far : Option Arrival) (place : ℕ).
    later so_far (pin_edge c held ws edges j rise place (slice_get j.pins place))) None
    (range_with_len 0 count)

-- at all pins
abbrev pub latest_at : Circuit → Bool → Waves → (ℕ → Edges) → Instance → Bool → Option Arrival
latest_at c held ws edges j rise = latest_to c held ws edges j rise (length j.pins)

-- ---- at nets

abbrev pub delayed : ℕ → Arrival → Arrival
delayed ticks a = record { ticks = a.ticks + ticks; storage = a.storage }

abbrev pub passed : Circuit → Bool → Waves → (ℕ → Edges) → Instance → Bool → Option Arrival
passed c held ws edges j rise =
    option_map (delayed (delay_to rise j)) (latest_at c held ws edges j rise)

abbrev pub both_edges : (Bool → Option Arrival) → Edges
both_edges edge = record { rise = edge true; fall = edge false }

-- what a driver, by its number, makes of the arrivals at its pins
abbrev pub made_by : Circuit → Waves → (ℕ → Edges) → Option ℕ → Option Instance → Edges
made_by c ws edges (Some k) (Some j) =
    if is_storage j.kind
    then both_edges (λ rise. Some (record { ticks = j.delay.max; storage = k }))
    else if passes j.kind then both_edges (passed c (keeps_mark c ws j) ws edges j)
    else no_edges
made_by c ws edges (Some k) None = no_edges
made_by c ws edges None j = no_edges

-- a net that passes nothing on has none
abbrev pub made_at : Circuit → (ℕ → Bool) → Waves → (ℕ → Edges) → ℕ → Edges
made_at c looped ws edges net =
    if is_passable c looped ws net
    then made_by c ws edges (driver_at c.nets net) (driver c net)
    else no_edges

-- ---- how great they are

abbrev pub EdgesUpTo : ℕ → Edges → Type 0
EdgesUpTo most e = IsUpTo most e.rise × IsUpTo most e.fall

-- each adds a delay and a wire at most to those before it
abbrev pub AreSmall : ℕ → List Edges → Type 0
AreSmall steps edges = (net : ℕ) → EdgesUpTo (131070 * steps) (edges_at edges net)

-- over all cases
abbrev pub AreUpTo : ℕ → List (Option Arrival) → Type 0
AreUpTo most arrivals = (net : ℕ) → IsUpTo most (arrival_at arrivals net)

-- ---- the order in which they are made

-- the net, if it is on no loop
abbrev pub unlooped : (ℕ → Bool) → Option ℕ → Option ℕ
unlooped looped None = None
unlooped looped (Some net) = if looped net then None else Some net

abbrev pub open_net : (ℕ → Bool) → Pin → Option ℕ
open_net looped p = unlooped looped (target_net p.target)

-- the nets of no loop that lead to a net of no loop
abbrev pub feeders_by : (ℕ → Bool) → Option Instance → List ℕ
feeders_by looped None = []
feeders_by looped (Some j) = if passes j.kind then filter_map (open_net looped) j.pins else []

abbrev pub feeders_in : Circuit → (ℕ → Bool) → ℕ → List ℕ
feeders_in c looped net = if looped net then [] else feeders_by looped (driver c net)
