-- What an event comes from is an event of the circuit again.
use Rattle.std.proofs.Common.{◌≡◌, ℕ, ◌+◌, ◌<◌, Bool, true, false, cond, length, slice_get, refl, subst, arith, Option, Some, None, pos, negsuc}
use Rattle.std.specs.Prelude.{IfSome}
use Rattle.std.specs.Option.{option_and_then, option_map}
use Rattle.std.proofs.lemmas.Int.{ints}
use Rattle.std.proofs.lemmas.Option.{slice_get_within, get_or_from_slice_get}
use Rattle.scald_base.specs.Clock.{back}
use Rattle.scald_base.specs.Time.{Bounds, period}
use Rattle.scald_base.proofs.Back.{back_lt}
use Rattle.vector_names.specs.declared.bits.Target.{Target}
use Rattle.vector_names.specs.declared.bits.Target.TheVariants.{Net as OnNet, Constant}
use Rattle.element_kinds.specs.Kinds.{is_change}
use Rattle.flat_circuit.specs.declared.instance.Instance.{Instance}
use Rattle.flat_circuit.specs.declared.instance.Pin.{Pin}
use Rattle.flat_circuit.specs.declared.split.Split.{Split}
use Rattle.flat_circuit.specs.Circuit.{Circuit, IsCircuit, driver, driver_at, instance_in, wire_at}
use Rattle.flat_circuit.specs.Instances.{InstanceFits, PinExists, TargetExists}
use Rattle.flat_circuit.specs.Split.{two_delays}
use Rattle.gate_eval.specs.Hold.{first_some}
use Rattle.fixpoint_engine.specs.Waves.{Waves}
use Rattle.critical_paths.specs.declared.direction.Corner.{Corner}
use Rattle.critical_paths.specs.declared.direction.Direction.{Direction}
use Rattle.critical_paths.specs.declared.direction.Direction.TheVariants.{Rise, Fall}
use Rattle.critical_paths.specs.declared.event.Reading.{Reading}
use Rattle.critical_paths.specs.declared.event.Reading.TheVariants.{Folded, Unfolded}
use Rattle.critical_paths.specs.declared.event.Stop.{Stop}
use Rattle.critical_paths.specs.declared.path.Origin.TheVariants.{Earlier}
use Rattle.critical_paths.specs.declared.path.Passage.{Passage}
use Rattle.critical_paths.specs.Event.{Event, opposite, turned}
use Rattle.critical_paths.specs.Path.{Arc, Before, arc_in, arc_inward, asks, before, before_arc, before_by, before_pin, before_target, before_wire, choices, cut, cut_at, cut_by, cut_off, cut_own, event_before, firm_arc, free_arc, is_cut_by, is_event}
use Rattle.critical_paths.specs.Unfolded.{PulseEnd, Read, by_folds, end_delay, mover, open_arc, open_before, open_pin, open_target, read_by, with_word}
use Rattle.critical_paths.specs.Walk.{event_at, origin_by, origin_from, origin_of, read_at, reading_of, stop_of}
use Rattle.critical_paths.specs.Known.{IsShort, IsStop, LeadsWithin}
use Rattle.critical_paths.proofs.Linked.{first_if, kept_if, or_if, then_if}

map_if : {A B : Type 0} (P : B → Type 0) (f : A → B) (o : Option A) → IfSome o (λ a. P (f a)) →
    IfSome (option_map f o) P
map_if P f None is = tt
map_if P f (Some a) is = is

module _ (c : Circuit) (ws : Waves) (some : 0 < period c.header) where
  record IsIn (e : Event) : Type 0 where
    pub net : e.net < length c.nets
    pub slot : e.slot < period c.header

  abbrev Stays : Before → Type 0
  Stays b = IsShort b.passage × IsIn b.event

  abbrev StaysRead : Read → Type 0
  StaysRead r = IsShort r.passage × IsIn r.event

  -- the nets of its pins are there
  abbrev HasPins : Instance → Type 0
  HasPins j = (i : ℕ) (pin : Pin) → slice_get j.pins i ≡ Some pin → PinExists (length c.nets) pin

  module _ (corner : Corner) where
    wire_stays : (p : ℕ) (a : Arc) (d : Direction) (i n : ℕ) → i < length c.nets →
        IfSome (before_wire c ws corner p a d i n) Stays
    wire_stays p a d i n exists =
        kept_if Stays (is_event c ws (event_before corner (period c.header) p (wire_at c.nets i) d i
        n)) _
        (λ is. (tt, record { net = exists; slot = back_lt (period c.header) p _ some }))

    target_stays : (p : ℕ) (a : Arc) (inverted : Bool) (target : Target) →
        TargetExists (length c.nets) target →
        IfSome (before_target c ws corner p a inverted target) Stays
    target_stays p a inverted (OnNet i) exists =
        first_if Stays (before_wire c ws corner p a (turned inverted a.cause.direction) i)
        (choices (wire_at c.nets i)) 0
        (λ n. wire_stays p a (turned inverted a.cause.direction) i n exists)
    target_stays p a inverted (Constant b) exists = tt

    pin_stays : (p : ℕ) (a : Arc) (o : Option Pin) →
        ((pin : Pin) → o ≡ Some pin → PinExists (length c.nets) pin) →
        IfSome (before_pin c ws corner p a o) Stays
    pin_stays p a None exists = tt
    pin_stays p a (Some pin) exists = target_stays p a pin.inverted pin.target (exists pin refl)

    arc_stays : (j : Instance) → HasPins j → (q : ℕ) (o : Option Arc) →
        IfSome (option_and_then (before_arc c ws j corner q) o) Stays
    arc_stays j has q o =
        then_if Stays (before_arc c ws j corner q) o
        (λ a. pin_stays (back (period c.header) q a.delay) a (slice_get j.pins a.cause.pin)
        (has a.cause.pin))

    at_stays : (j : Instance) (s : Split) (b : Before) → Stays b →
        IfSome (cut_at c ws j corner s b) Stays
    at_stays j s b is = kept_if Stays (is_cut_by c ws j corner s b) b (λ cuts. is)

    cutter_stays : (j : Instance) (net slot : ℕ) (s : Split) (other : Direction) →
        net < length c.nets →
        IfSome (cut_by c ws j corner net slot s other) Stays
    cutter_stays j net slot s other exists =
        let same = cut_off net other (pos 0) (back (period c.header) slot 0) in
        let sooner = cut_off net other (pos 1) (back (period c.header) slot 1) in
        let later = cut_off net other (negsuc 0) (back (period c.header) (slot + 1) 0) in
        or_if Stays (cut_at c ws j corner s same) _
        (at_stays j s same (
          record { low = omega (arith, ints); high = omega (arith, ints) },
          record
              { net = exists; slot = back_lt (period c.header) slot 0 some },
        ))
        (or_if Stays (cut_at c ws j corner s sooner) _
        (at_stays j s sooner (
          record { low = omega (arith, ints); high = omega (arith, ints) },
          record { net = exists; slot = back_lt (period c.header) slot 1 some },
        ))
        (at_stays j s later (
          record { low = omega (arith, ints); high = omega (arith, ints) },
          record { net = exists; slot = back_lt (period c.header) (slot + 1) 0 some },
        )))

    own_stays : (j : Instance) (e : Event) (s : Split) (other : Direction) → e.net < length c.nets →
        (b : Bool) →
        IfSome (cond b (cut_by c ws j corner e.net e.slot s other) None) Stays
    own_stays j e s other exists true = cutter_stays j e.net e.slot s other exists
    own_stays j e s other exists false = tt

    cut_stays : (j : Instance) (e : Event) (own : Direction) (s : Split) → e.net < length c.nets →
        IfSome (cut c ws j corner e own s) Stays
    cut_stays j e own s exists =
        or_if Stays (cut_own c ws j corner e own s Rise) _
        (own_stays j e s (turned j.out_inverted (opposite Rise)) exists (asks own Rise))
        (own_stays j e s (turned j.out_inverted (opposite Fall)) exists (asks own Fall))

    by_stays : (j : Instance) → HasPins j → (e : Event) → e.net < length c.nets →
        (own : Direction) (o : Option Split) →
        IfSome (before_by c ws j corner e own o) Stays
    by_stays j has e exists own None = arc_stays j has e.slot
        (arc_in c ws j corner own e.slot j.delay)
    by_stays j has e exists own (Some s) =
        or_if Stays (option_and_then (before_arc c ws j corner e.slot)
        (firm_arc c ws j corner own e.slot s)) _
        (arc_stays j has e.slot (firm_arc c ws j corner own e.slot s))
        (or_if Stays (cut c ws j corner e own s) _ (cut_stays j e own s exists)
        (arc_stays j has e.slot (free_arc c ws j corner own e.slot s)))

    before_stays : (j : Instance) → HasPins j → (e : Event) → e.net < length c.nets →
        IfSome (before c ws corner e j) Stays
    before_stays j has e exists = by_stays j has e exists (turned j.out_inverted e.direction)
        (two_delays j.kind j.split)

    -- ---- without the skew

    open_stays : (j : Instance) → HasPins j → (q : ℕ) (a : Arc) →
        IfSome (open_before c j q a) StaysRead
    open_stays j has q a = by (slice_get j.pins a.cause.pin) (has a.cause.pin)
      where
        on : (inverted : Bool) (target : Target) → TargetExists (length c.nets) target →
            IfSome (open_target c (back (period c.header) q a.delay) a inverted target) StaysRead
        on inverted (OnNet i) exists = (
          tt,
          record {
            net = exists;
            slot = back_lt (period c.header)
                (back (period c.header) q a.delay) (wire_at c.nets i).min some;
          },
        )
        on inverted (Constant b) exists = tt

        by : (o : Option Pin) → ((pin : Pin) → o ≡ Some pin → PinExists (length c.nets) pin) →
            IfSome (open_pin c (back (period c.header) q a.delay) a o) StaysRead
        by None exists = tt
        by (Some pin) exists = on pin.inverted pin.target (exists pin refl)

    abbrev end_by : ℕ → Direction → Option Split → Bounds → PulseEnd
    end_by q own two bounds =
        record { corner = corner; direction = own; slot = q; split = two; delay = bounds }

    read_stays : (j : Instance) → HasPins j → (q : ℕ) (own : Direction) (two : Option Split)
        (bounds : Bounds) (o : Option ℕ) →
        IfSome (read_by c ws j (end_by q own two bounds) o) StaysRead
    read_stays j has q own two bounds None =
        map_if StaysRead by_folds
        (option_and_then (λ a. before_arc c ws j corner q (with_word two a))
        (arc_inward c ws j corner own q bounds 0))
        (then_if Stays (λ a. before_arc c ws j corner q (with_word two a))
        (arc_inward c ws j corner own q bounds 0)
        (λ a. pin_stays (back (period c.header) q a.delay) (with_word two a)
        (slice_get j.pins a.cause.pin) (has a.cause.pin)))
    read_stays j has q own two bounds (Some i) =
        then_if StaysRead (open_before c j q) (first_some
        (open_arc c ws j (end_by q own two bounds) i) (choices bounds) 0)
        (open_stays j has q)

  -- ---- a stop comes from one of the circuit

  read_once : (r : Reading) (o : Option Instance) → reading_of (reading_of r o) o ≡ reading_of r o
  read_once r None = refl
  read_once r (Some j) = by (is_change j.kind)
    where
      by : (b : Bool) → cond b Folded (cond b Folded r) ≡ cond b Folded r
      by true = refl
      by false = refl

  pub stop_there : (corner : Corner) (r : Reading) (e : Event) → e.net < length c.nets →
      e.slot < period c.header →
      IsStop c corner (stop_of c corner r e)
  stop_there corner r e net slot =
      record { net = net; slot = slot; side = refl; reading = read_once r (driver c e.net) }

  found_stays : (corner : Corner) (o : Option Read) → IfSome o StaysRead →
      LeadsWithin c corner (origin_from c corner o)
  found_stays corner None is = tt
  found_stays corner (Some r) is =
      let there = is.1 in (is.0, stop_there corner r.reading r.event there.net there.slot)

  has_pins : IsCircuit c → (k : Option ℕ) (j : Instance) → instance_in c k ≡ Some j → HasPins j
  has_pins is None j at i pin there = absurd (cc)
  has_pins is (Some k) j at i pin there =
      let fits : InstanceFits c.header (length c.nets) j =
      subst (InstanceFits c.header (length c.nets)) (get_or_from_slice_get c.instances k j j at)
      (is.each k j (slice_get_within c.instances k j at)) in
      subst (PinExists (length c.nets)) (get_or_from_slice_get j.pins i pin pin there)
      (fits.exists.reads i pin (slice_get_within j.pins i pin there))

  pub origin_stays : IsCircuit c → (s : Stop) → s.net < length c.nets →
      LeadsWithin c s.corner (origin_of c ws s)
  origin_stays is s exists = by (driver c s.net) refl
    where
      read : (j : Instance) → HasPins j → (r : Reading) → IfSome (read_at c ws s j r) StaysRead
      read j has Folded = map_if StaysRead by_folds (before c ws s.corner (event_at s) j)
          (before_stays s.corner j has (event_at s) exists)
      read j has Unfolded =
          read_stays s.corner j has s.slot (turned j.out_inverted s.direction)
          (two_delays j.kind j.split)
          (end_delay j.delay (turned j.out_inverted s.direction) (two_delays j.kind j.split))
          (mover c ws j)

      by : (o : Option Instance) → driver c s.net ≡ o → LeadsWithin c s.corner (origin_by c ws s o)
      by None at = tt
      by (Some j) at =
          found_stays s.corner (read_at c ws s j s.reading)
          (read j (has_pins is (driver_at c.nets s.net) j at) s.reading)

  -- what a stop of the circuit comes from is one, and no passage takes long
  pub stays : IsCircuit c → (corner : Corner) (s : Stop) (p : Passage) (t : Stop) →
      IsStop c corner s → origin_of c ws s ≡ Earlier p t →
      IsShort p × IsStop c corner t
  stays is corner s p t stop at =
      let from : LeadsWithin c s.corner (Earlier p t) = subst (LeadsWithin c s.corner) at
      (origin_stays is s stop.net) in
      subst (λ (k : Corner). LeadsWithin c k (Earlier p t)) stop.side from
