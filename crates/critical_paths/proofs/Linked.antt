-- Each link of a path is an event of its net.
use Rattle.std.proofs.Common.{◌≡◌, ℕ, zero, suc, ◌+◌, Bool, true, false, cond, List, [], ◌∷◌, refl, sym, subst, Option, Some, None}
use Rattle.std.specs.Prelude.{IfSome, pos, negsuc}
use Rattle.std.specs.List.{list_any}
use Rattle.std.specs.Option.{option_and_then, option_map, option_or}
use Rattle.std.proofs.lemmas.Bool.{and_parts}
use Rattle.std.proofs.lemmas.List.Elements.{All-nil, All-cons}
use Rattle.scald_base.specs.Clock.{back}
use Rattle.scald_base.specs.Time.{period}
use Rattle.vector_names.specs.declared.bits.Target.{Target}
use Rattle.vector_names.specs.declared.bits.Target.TheVariants.{Net as OnNet, Constant}
use Rattle.element_kinds.specs.Kinds.{is_change}
use Rattle.flat_circuit.specs.declared.instance.Instance.{Instance}
use Rattle.flat_circuit.specs.declared.instance.Pin.{Pin}
use Rattle.flat_circuit.specs.declared.split.Split.{Split}
use Rattle.flat_circuit.specs.Circuit.{Circuit, driver, wire_at}
use Rattle.flat_circuit.specs.Split.{two_delays}
use Rattle.gate_eval.specs.Hold.{first_some}
use Rattle.fixpoint_engine.specs.Waves.{Waves}
use Rattle.critical_paths.specs.declared.direction.Corner.{Corner}
use Rattle.critical_paths.specs.declared.direction.Direction.{Direction}
use Rattle.critical_paths.specs.declared.direction.Direction.TheVariants.{Rise, Fall}
use Rattle.critical_paths.specs.Path.{Link, End, Source, Loop, Nothing, Arc, Before, arc_in, asks, before, before_arc, before_by, before_pin, before_target, before_wire, choices, cut, cut_at, cut_by, cut_off, cut_own, event_before, firm_arc, free_arc, is_cut_by, is_event}
use Rattle.critical_paths.specs.Unfolded.{by_folds}
use Rattle.critical_paths.specs.Walk.{ending, event_at, link, origin_by, origin_from, origin_of, path_after, path_from, path_of_stop, read_at, reading_of, same_stop, stop_count, stop_of}
use Rattle.critical_paths.specs.declared.event.Reading.{Reading}
use Rattle.critical_paths.specs.declared.event.Reading.TheVariants.{Folded}
use Rattle.critical_paths.specs.declared.event.Stop.{Stop}
use Rattle.critical_paths.specs.declared.path.Passage.{Passage}
use Rattle.critical_paths.specs.declared.path.Origin.{Origin}
use Rattle.critical_paths.specs.declared.path.Origin.TheVariants.{Input, Level, Earlier}
use Rattle.critical_paths.specs.Event.{Event, opposite, turned}
use Rattle.critical_paths.specs.Laws.{AreEvents, IsEvent, PathsAreEvents}

-- ---- what holds of whatever is found

pub or_if : {A : Type 0} (P : A → Type 0) (here later : Option A) → IfSome here P → IfSome later P →
    IfSome (option_or here later) P
or_if P None later holds rest = rest
or_if P (Some x) later holds rest = holds

pub then_if : {A B : Type 0} (P : B → Type 0) (f : A → Option B) (o : Option A) →
    ((a : A) → IfSome (f a) P) →
    IfSome (option_and_then f o) P
then_if P f None each = tt
then_if P f (Some a) each = each a

pub first_if : {A : Type 0} (P : A → Type 0) (f : ℕ → Option A) (n i : ℕ) →
    ((k : ℕ) → IfSome (f k) P) →
    IfSome (first_some f n i) P
first_if P f zero i each = tt
first_if P f (suc n) i each = or_if P (f i) (first_some f n (i + 1)) (each i)
    (first_if P f n (i + 1) each)

pub kept_if : {A : Type 0} (P : A → Type 0) (b : Bool) (x : A) → (b ≡ true → P x) →
    IfSome (cond b (Some x) None) P
kept_if P true x holds = holds refl
kept_if P false x holds = tt

module _ (c : Circuit) (ws : Waves) (corner : Corner) where
  -- ---- the event before

  abbrev IsBefore : Before → Type 0
  IsBefore b = IsEvent c ws b.event

  wire_event : (p : ℕ) (a : Arc) (d : Direction) (i n : ℕ) →
      IfSome (before_wire c ws corner p a d i n) IsBefore
  wire_event p a d i n =
      kept_if IsBefore (is_event c ws (event_before corner (period c.header) p (wire_at c.nets i) d
      i n)) _ (λ is. is)

  target_event : (p : ℕ) (a : Arc) (inverted : Bool) (target : Target) →
      IfSome (before_target c ws corner p a inverted target) IsBefore
  target_event p a inverted (OnNet i) =
      first_if IsBefore (before_wire c ws corner p a (turned inverted a.cause.direction) i)
      (choices (wire_at c.nets i)) 0
      (wire_event p a (turned inverted a.cause.direction) i)
  target_event p a inverted (Constant b) = tt

  pin_event : (p : ℕ) (a : Arc) (o : Option Pin) → IfSome (before_pin c ws corner p a o) IsBefore
  pin_event p a None = tt
  pin_event p a (Some pin) = target_event p a pin.inverted pin.target

  arc_event : (j : Instance) (q : ℕ) (o : Option Arc) → IfSome
      (option_and_then (before_arc c ws j corner q) o) IsBefore
  arc_event j q o = then_if IsBefore (before_arc c ws j corner q) o (λ a. pin_event _ a _)

  at_event : (j : Instance) (s : Split) (b : Before) → IfSome (cut_at c ws j corner s b) IsBefore
  at_event j s b = kept_if IsBefore (is_cut_by c ws j corner s b) b
      (λ is. (and_parts (is_event c ws b.event) _ is).0)

  cutter_event : (j : Instance) (net slot : ℕ) (s : Split) (other : Direction) →
      IfSome (cut_by c ws j corner net slot s other) IsBefore
  cutter_event j net slot s other =
      let same = cut_off net other (pos 0) (back (period c.header) slot 0) in
      let before = cut_off net other (pos 1) (back (period c.header) slot 1) in
      let after = cut_off net other (negsuc 0) (back (period c.header) (slot + 1) 0) in
      or_if IsBefore (cut_at c ws j corner s same) _ (at_event j s same)
      (or_if IsBefore (cut_at c ws j corner s before) _ (at_event j s before) (at_event j s after))

  own_event : (j : Instance) (e : Event) (s : Split) (other : Direction) (b : Bool) →
      IfSome (cond b (cut_by c ws j corner e.net e.slot s other) None) IsBefore
  own_event j e s other true = cutter_event j e.net e.slot s other
  own_event j e s other false = tt

  cut_event : (j : Instance) (e : Event) (own : Direction) (s : Split) →
      IfSome (cut c ws j corner e own s) IsBefore
  cut_event j e own s =
      or_if IsBefore (cut_own c ws j corner e own s Rise) _
      (own_event j e s (turned j.out_inverted (opposite Rise)) (asks own Rise))
      (own_event j e s (turned j.out_inverted (opposite Fall)) (asks own Fall))

  by_event : (j : Instance) (e : Event) (own : Direction) (o : Option Split) →
      IfSome (before_by c ws j corner e own o) IsBefore
  by_event j e own None = arc_event j e.slot (arc_in c ws j corner own e.slot j.delay)
  by_event j e own (Some s) =
      or_if IsBefore (option_and_then (before_arc c ws j corner e.slot)
      (firm_arc c ws j corner own e.slot s)) _
      (arc_event j e.slot (firm_arc c ws j corner own e.slot s))
      (or_if IsBefore (cut c ws j corner e own s) _ (cut_event j e own s)
      (arc_event j e.slot (free_arc c ws j corner own e.slot s)))

  before_event : (j : Instance) (e : Event) → IfSome (before c ws corner e j) IsBefore
  before_event j e = by_event j e (turned j.out_inverted e.direction) (two_delays j.kind j.split)

-- ---- the path

module _ (c : Circuit) (ws : Waves) where
  -- a stop that is an event, and read by folds
  record IsRead (s : Stop) : Type 0 where
    pub event : IsEvent c ws (event_at s)
    pub folded : s.reading ≡ Folded

  abbrev IfEarlier : Origin → Type 0
  IfEarlier Input = Unit {0}
  IfEarlier Level = Unit {0}
  IfEarlier (Earlier passage s) = IsRead s

  pub stays_folded : (o : Option Instance) → reading_of Folded o ≡ Folded
  stays_folded None = refl
  stays_folded (Some j) = either (is_change j.kind)
    where
      either : (b : Bool) → cond b Folded Folded ≡ Folded
      either true = refl
      either false = refl

  origin_read : (s : Stop) → IsRead s → IfEarlier (origin_of c ws s)
  origin_read s read = by (driver c s.net)
    where
      found : (o : Option Before) → IfSome o (λ (b : Before). IsEvent c ws b.event) →
          IfEarlier (origin_from c s.corner (option_map by_folds o))
      found None none = tt
      found (Some b) event = record { event = event; folded = stays_folded (driver c b.event.net) }

      by : (o : Option Instance) → IfEarlier (origin_by c ws s o)
      by None = tt
      by (Some j) =
          subst (λ (r : Reading). IfEarlier (origin_from c s.corner (read_at c ws s j r)))
          (sym read.folded)
          (found (before c ws s.corner (event_at s) j) (before_event c ws s.corner j (event_at s)))

  abbrev IfFolded : Origin → Type 0
  IfFolded Input = Unit {0}
  IfFolded Level = Unit {0}
  IfFolded (Earlier passage s) = s.reading ≡ Folded

  -- what a stop that is read by folds comes from is read so too
  pub origin_folded : (s : Stop) (passage : Passage) (t : Stop) → s.reading ≡ Folded →
      origin_of c ws s ≡ Earlier passage t →
      t.reading ≡ Folded
  origin_folded s passage t folded at = subst IfFolded at (by (driver c s.net))
    where
      found : (o : Option Before) → IfFolded (origin_from c s.corner (option_map by_folds o))
      found None = tt
      found (Some b) = stays_folded (driver c b.event.net)

      by : (o : Option Instance) → IfFolded (origin_by c ws s o)
      by None = tt
      by (Some j) =
          subst (λ (r : Reading). IfFolded (origin_from c s.corner (read_at c ws s j r)))
          (sym folded)
          (found (before c ws s.corner (event_at s) j))

  end_events : (s : Stop) (end : End) → IsRead s → AreEvents c ws (ending s end)
  end_events s end is = record {
    links = All-nil (λ (l : Link). IsEvent c ws l.event);
    last = is.event;
  }

  path_events : (n : ℕ) (seen : List Stop) (s : Stop) → IsRead s →
      AreEvents c ws (path_from c ws n seen s)
  path_events zero seen s is = end_events s Loop is
  path_events (suc n) seen s is =
      by (list_any (same_stop s) seen) (origin_of c ws s) (origin_read s is)
      (λ before read. path_events n (s ∷ seen) before read)
    where
      after : (o : Origin) → IfEarlier o →
          ((before : Stop) → IsRead before → AreEvents c ws (path_from c ws n (s ∷ seen) before)) →
          AreEvents c ws (path_after s (λ before. path_from c ws n (s ∷ seen) before) o)
      after Input read rest = end_events s Source is
      after Level read rest = end_events s Nothing is
      after (Earlier passage before) read rest =
          let more = rest before read in
          record {
            links = All-cons (λ (l : Link). IsEvent c ws l.event) (link s passage) _ is.event
                more.links;
            last = more.last;
          }

      by : (b : Bool) (o : Origin) → IfEarlier o →
          ((before : Stop) → IsRead before → AreEvents c ws (path_from c ws n (s ∷ seen) before)) →
          AreEvents c ws (cond b (ending s Loop) (path_after s
          (λ before. path_from c ws n (s ∷ seen) before) o))
      by true o read rest = end_events s Loop is
      by false o read rest = after o read rest

pub paths_are_events : PathsAreEvents
unfolding path_of_stop
paths_are_events c ws corner e is =
    path_events c ws (stop_count c + 1) [] (stop_of c corner Folded e)
    record { event = is; folded = stays_folded c ws (driver c e.net) }
