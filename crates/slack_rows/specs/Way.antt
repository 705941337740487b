-- Ways: the slack of data that may change in every slot, by the longest ways to it and the
-- shortest alone. The wave says no more than that a change may come at any tick.
use Rattle.std.specs.Prelude.{ℕ, ◌+◌, List, [], ◌∷◌, fold, filter, map, ℤ, pos, ◌+ℤ◌, ◌-ℤ◌, int_lt, int_le, if◌then◌else◌, unwrap_or, Option, Some, None}
use Rattle.std.specs.List.{flat_map, list_all}
use Rattle.std.specs.Int.{int_rem_euclid}
use Rattle.std.specs.Option.{option_map, option_and_then}
use Rattle.scald_base.specs.Clock.{back}
use Rattle.scald_base.specs.Time.{period}
use Rattle.flat_circuit.specs.declared.instance.Instance.{Instance}
use Rattle.flat_circuit.specs.Circuit.{Circuit}
use Rattle.fixpoint_engine.specs.Waves.{Waves}
use Rattle.critical_paths.specs.declared.direction.Corner.{Corner}
use Rattle.critical_paths.specs.declared.direction.Corner.TheVariants.{Late, Early}
use Rattle.critical_paths.specs.declared.direction.Direction.{Direction}
use Rattle.critical_paths.specs.declared.direction.Direction.TheVariants.{Rise, Change}
use Rattle.critical_paths.specs.Path.{End, Source, Loop, Nothing, Path}
use Rattle.critical_paths.specs.Walk.{PinPath, pin_path}
use Rattle.critical_paths.specs.Launch.{offset_of, source_tick}
use Rattle.critical_paths.specs.Arrival.{Arrival, pin_arrivals}
use Rattle.slack_rows.specs.Window.{Window}

-- an edge of a clock, by the window about it and the tick of the ideal edge that it comes from
pub record Guard : Type 0 where
  pub window : Window
  pub edge : ℤ

-- ---- a launch and its edge, of a clock that repeats each period

-- how long after a launch the next such edge comes: by a period at most
abbrev pub until_next : ℕ → ℤ → ℤ → ℤ
until_next p launch edge = int_rem_euclid (edge -ℤ (launch +ℤ pos 1)) (pos p) +ℤ pos 1

-- how long before a launch the last such edge came, which may be the launch's own
abbrev pub since_last : ℕ → ℤ → ℤ → ℤ
since_last p launch edge = int_rem_euclid (launch -ℤ edge) (pos p)

-- how long after its launch it arrives
abbrev pub takes : Arrival → ℤ
takes a = pos a.tick -ℤ a.edge

-- how long after its ideal edge a window opens, and how long after it data may change again
abbrev pub opens_after : Guard → ℤ
opens_after g = pos g.window.opens -ℤ g.edge

abbrev pub ends_after : Guard → ℤ
ends_after g = pos (g.window.closes + 1) -ℤ g.edge

-- what it has to spare before the window of the next edge, and after that of the last
abbrev pub before_next : ℕ → Arrival → Guard → ℤ
before_next p a g = until_next p a.edge g.edge +ℤ opens_after g -ℤ takes a

abbrev pub after_last : ℕ → Arrival → Guard → ℤ
after_last p a g = since_last p a.edge g.edge +ℤ takes a -ℤ ends_after g

-- ---- the least of all

-- of all edges none is nearer
abbrev pub nearest : (Guard → ℤ) → List Guard → List Guard
nearest distance guards =
    filter (λ g. list_all (λ other. int_le (distance g) (distance other)) guards) guards

abbrev pub lesser : ℤ → ℤ → ℤ
lesser m n = if int_lt n m then n else m

abbrev pub least_of : List ℤ → Option ℤ
least_of [] = None
least_of (n ∷ more) = Some (fold lesser n more)

-- over every arrival and the edge next to its launch
abbrev pub least_before : ℕ → List Arrival → List Guard → Option ℤ
least_before p arrivals guards =
    least_of (flat_map
    (λ a. map (before_next p a) (nearest (λ g. until_next p a.edge g.edge) guards)) arrivals)

abbrev pub least_after : ℕ → List Arrival → List Guard → Option ℤ
least_after p arrivals guards =
    least_of (flat_map
    (λ a. map (after_last p a) (nearest (λ g. since_last p a.edge g.edge) guards)) arrivals)

-- ---- the edges of a checker's clock

-- The ideal edge of an input that a path ends at; of one that is no clock, its own change.
abbrev pub input_edge : Circuit → Corner → ℤ → Path → End → Option ℤ
input_edge c corner tick path Source =
    Some (source_tick tick path -ℤ unwrap_or (offset_of c corner path.last) (pos 0))
input_edge c corner tick path Loop = None
input_edge c corner tick path Nothing = None

abbrev pub edge_by : Circuit → Corner → ℕ → Option PinPath → Option ℤ
edge_by c corner tick None = None
edge_by c corner tick (Some found) =
    input_edge c corner (pos tick -ℤ pos found.wire) found.path found.path.end

-- the edge that the clock at pin 0 comes from which makes a step at a tick
abbrev pub clock_edge : Circuit → Waves → Corner → Instance → Direction → ℕ → Option ℤ
clock_edge c ws corner j d tick =
    edge_by c corner tick (pin_path c ws corner j 0 d (back (period c.header) tick 0))

-- as early as it may be from the window's first tick, or as late as it may be from its last
abbrev pub guard : Circuit → Waves → Instance → Direction → Corner → Window → Option Guard
guard c ws j closing Early w =
    option_map (λ edge. record { window = w; edge = edge })
    (clock_edge c ws Early j Rise w.edge_first)
guard c ws j closing Late w =
    option_map (λ edge. record { window = w; edge = edge })
    (clock_edge c ws Late j closing w.edge_last)

abbrev pub with_guard : Option Guard → Option (List Guard) → Option (List Guard)
with_guard None guards = None
with_guard (Some g) None = None
with_guard (Some g) (Some guards) = Some (g ∷ guards)

-- those of all windows, if each is known
abbrev pub guards : Circuit → Waves → Instance → Direction → Corner → List Window →
    Option (List Guard)
guards c ws j closing corner [] = Some []
guards c ws j closing corner (w ∷ windows) =
    with_guard (guard c ws j closing corner w) (guards c ws j closing corner windows)

-- ---- of the input at pin 1 of a checker, if all ways to it and all edges are known

-- The longest ways, before the windows of a clock at its earliest.
abbrev pub last_way : Circuit → Waves → Instance → Direction → List Window → Option ℤ
last_way c ws j closing windows =
    option_and_then (λ arrivals. option_and_then (least_before (period c.header) arrivals)
    (guards c ws j closing Early windows))
    (pin_arrivals c ws Late j 1 Change)

-- The shortest, after those of a clock at its latest.
abbrev pub first_way : Circuit → Waves → Instance → Direction → List Window → Option ℤ
first_way c ws j closing windows =
    option_and_then (λ arrivals. option_and_then (least_after (period c.header) arrivals)
    (guards c ws j closing Late windows))
    (pin_arrivals c ws Early j 1 Change)
