-- Ends of pulses: what the program finds of them.
use Rattle.std.proofs.Common.{◌≡◌, ℕ, ◌+◌, ◌<◌, ◌≤◌, Bool, true, false, ◌||◌, ◌&&◌, cond, List, [], ◌∷◌, ◌++◌, length, refl, sym, ap, subst, ◌∙◌, arith, Option, Some, None, ℤ, pos, ◌-ℤ◌, min, IfSome}
use Rattle.std.specs.Prelude.{is_some, slice_get}
use Rattle.std.specs.Option.{option_and_then, option_map, option_or}
use Rattle.std.specs.List.{filter, range_with_len}
use Rattle.std.proofs.lemmas.List.Elements.{filter-append}
use Rattle.std.proofs.lemmas.List.FromFn.{map-range_with_len_more}
use Rattle.std.proofs.lemmas.List.Quantifiers.{position-Some}
use Rattle.std.proofs.lemmas.List.{append-nil, map-id}
use Rattle.scald_base.specs.Clock.{back}
use Rattle.scald_base.specs.Time.{Bounds, period}
use Rattle.vector_names.specs.declared.bits.Target.TheVariants.{Net as OnNet, Constant}
use Rattle.step_values.specs.declared.value.Value.{Value}
use Rattle.gate_eval.specs.Hold.{first_some, hazard}
use Rattle.gate_eval.proofs.Found.{first_some_nowhere}
use Rattle.flat_circuit.specs.declared.instance.Pin.{Pin}
use Rattle.flat_circuit.specs.declared.instance.Instance.{Instance}
use Rattle.flat_circuit.specs.declared.split.Split.{Split}
use Rattle.flat_circuit.specs.Circuit.{Circuit, IsCircuit, wire_at}
use Rattle.fixpoint_engine.specs.Waves.{Waves, marked_pin, pin_waves}
use Rattle.critical_paths.specs.declared.cause.Cause.{Cause as Pinned}
use Rattle.critical_paths.specs.declared.direction.Corner.{Corner}
use Rattle.critical_paths.specs.declared.direction.Direction.{Direction}
use Rattle.critical_paths.specs.declared.event.Reading.TheVariants.{Unfolded}
use Rattle.critical_paths.specs.declared.open.Movers.{Movers}
use Rattle.critical_paths.specs.declared.path.Passage.TheVariants.{Through}
use Rattle.critical_paths.specs.declared.path.Word.{Word}
use Rattle.critical_paths.specs.declared.path.Word.TheVariants.{Same}
use Rattle.critical_paths.specs.Tick.{slot_of}
use Rattle.critical_paths.specs.Event.{turned}
use Rattle.critical_paths.specs.Cause.{held_of, held_pin, is_heard_by}
use Rattle.critical_paths.specs.Path.{Arc, choices, inward, is_tight}
use Rattle.critical_paths.specs.Unfolded.{Read, end_delay, end_word, is_moving, mover_by, moves_ever, one_of, only, PulseEnd, open_arc, open_before, open_cause, open_pin, open_target, same_if_tight}
use Rattle.critical_paths.specs.Views.{IsCount, arc_of, delay_by, may_make, pins_shown}
use Rattle.critical_paths.proofs.Backing.{each_delay, unmapped}
use Rattle.critical_paths.proofs.Pins.{fits_at, long_shown}
use Rattle.critical_paths.proofs.Ticks.{slot_back}

-- ---- delays and words

pub end_of_two : (one : Bounds) (d : Direction) (two : Option Split) → is_some two ≡ true →
    delay_by one d two ≡ end_delay one d two
end_of_two one d None some = absurd (cc)
end_of_two one d (Some s) some = refl

pub end_of_one : (one : Bounds) (d : Direction) (two : Option Split) → is_some two ≡ false →
    record { min = (delay_by one d two).min; max = (delay_by one d two).min } ≡ end_delay one d two
end_of_one one d None none = refl
end_of_one one d (Some s) none = absurd (cc)

pub same_of_two : (two : Option Split) (word : Word) → is_some two ≡ true → word
    ≡ same_if_tight two word
same_of_two None word some = absurd (cc)
same_of_two (Some s) word some = refl

pub same_of_one : (two : Option Split) (word : Word) → is_some two ≡ false →
    cond (is_tight word) Same word ≡ same_if_tight two word
same_of_one None word none = refl
same_of_one (Some s) word none = absurd (cc)

-- ---- the one pin that moves

abbrev pub first_of : List ℕ → Option ℕ
first_of [] = None
first_of (i ∷ more) = Some i

abbrev pub has_more : List ℕ → Bool
has_more [] = false
has_more (i ∷ []) = false
has_more (i ∷ k ∷ more) = true

first_then : (l : List ℕ) (n : ℕ) → option_or (first_of l) (Some n) ≡ first_of (l ++ n ∷ [])
first_then [] n = refl
first_then (i ∷ more) n = refl

more_then : (l : List ℕ) (n : ℕ) → (has_more l || is_some (first_of l)) ≡ has_more (l ++ n ∷ [])
more_then [] n = refl
more_then (i ∷ []) n = refl
more_then (i ∷ k ∷ more) n = refl

only_is : (l : List ℕ) → cond (has_more l) None (first_of l) ≡ only l
only_is [] = refl
only_is (i ∷ []) = refl
only_is (i ∷ k ∷ more) = refl

near_then : (o : Option ℕ) (n : ℕ) → IfSome o (λ i. i < n) →
    IfSome (option_or o (Some n)) (λ i. i < n + 1)
near_then None n near = omega arith
near_then (Some i) n near = omega (arith, near)

near_still : (o : Option ℕ) (n : ℕ) → IfSome o (λ i. i < n) → IfSome o (λ i. i < n + 1)
near_still None n near = tt
near_still (Some i) n near = omega (arith, near)

module _ (c : Circuit) (ws : Waves) (j : Instance) where
  -- of so many pins those that move
  abbrev pub moving : ℕ → List ℕ
  moving n = filter (is_moving c ws j) (range_with_len 0 n)

  one_more : (n : ℕ) → range_with_len 0 (n + 1) ≡ range_with_len 0 n ++ n ∷ []
  one_more n =
      sym (map-id (range_with_len 0 (n + 1)))
      ∙ map-range_with_len_more (λ x. x) 0 n n (omega arith)
      ∙ ap (λ xs. xs ++ n ∷ []) (map-id (range_with_len 0 n))

  more : (n : ℕ) → moving (n + 1) ≡ moving n ++ cond (is_moving c ws j n) (n ∷ []) []
  more n =
      ap (filter (is_moving c ws j)) (one_more n)
      ∙ filter-append (is_moving c ws j) (range_with_len 0 n) (n ∷ [])

  pub record AreMovers (n : ℕ) (found : Movers) : Type 0 where
    pub first : found.first ≡ first_of (moving n)
    pub others : found.others ≡ has_more (moving n)
    pub near : IfSome found.first (λ i. i < n)

  pub none_move : AreMovers 0 (record { first = None; others = false })
  none_move = record { first = refl; others = refl; near = tt }

  pub one_moves : (n : ℕ) (old new : Movers) → is_moving c ws j n ≡ true → new.first
      ≡ option_or old.first (Some n) →
      new.others ≡ (old.others || is_some old.first) → AreMovers n old → AreMovers (n + 1) new
  one_moves n old new is first others before =
      let with_it : moving (n + 1) ≡ moving n ++ n ∷ [] = more n
      ∙ ap (λ (b : Bool). moving n ++ cond b (n ∷ []) []) is in
      let f = before.first in
      let o = before.others in
      record {
        first = first ∙ ap (λ x. option_or x (Some n)) f ∙ first_then (moving n) n
            ∙ ap first_of (sym with_it);
        others = others ∙ (λ i. o i || is_some (f i)) ∙ more_then (moving n) n
            ∙ ap has_more (sym with_it);
        near = subst (λ x. IfSome x (λ i. i < n + 1)) (sym first)
            (near_then old.first n before.near);
      }

  pub one_rests : (n : ℕ) (old : Movers) → is_moving c ws j n ≡ false → AreMovers n old →
      AreMovers (n + 1) old
  one_rests n old is before =
      let without : moving (n + 1) ≡ moving n =
      more n ∙ ap (λ (b : Bool). moving n ++ cond b (n ∷ []) []) is ∙ append-nil (moving n) in
      record {
        first = before.first ∙ ap first_of (sym without);
        others = before.others ∙ ap has_more (sym without);
        near = near_still old.first n before.near;
      }

  pub only_mover : (n : ℕ) (found : Movers) (o held : Option ℕ) → AreMovers n found → o
      ≡ cond found.others None found.first →
      held ≡ None → o ≡ mover_by held (moving n)
  only_mover n found o held are is none =
      let f = are.first in
      let m = are.others in
      is ∙ (λ i. cond (m i) None (f i)) ∙ only_is (moving n)
      ∙ sym (ap (λ h. mover_by h (moving n)) none)

  pub only_near : (n : ℕ) (found : Movers) (o : Option ℕ) → AreMovers n found → o
      ≡ cond found.others None found.first →
      IfSome o (λ i. i < n)
  only_near n found o are is = subst (λ x. IfSome x (λ i. i < n)) (sym is) (by found.others)
    where
      by : (b : Bool) → IfSome (cond b None found.first) (λ i. i < n)
      by true = tt
      by false = are.near

  held_near : (mark : Option ℕ) (found : Option (ℕ × ℕ)) → IfSome mark (λ i. i < length j.pins) →
      IfSome (held_of mark found) (λ i. i < length j.pins)
  held_near None found near = tt
  held_near (Some marked) None near = near
  held_near (Some marked) (Some at) near = tt

  marked_near : (mark : Option ℕ) → marked_pin j ≡ mark → IfSome mark (λ i. i < length j.pins)
  marked_near None is = tt
  marked_near (Some marked) is = (position-Some (λ (p : Pin). p.hold) j.pins marked no_pin is).0
    where
      no_pin : Pin
      no_pin = record { target = Constant false; inverted = false; hold = false }

  -- the one that alone counts is one of them
  pub held_within : (held : Option ℕ) → held ≡ held_pin c ws j →
      IfSome held (λ i. i < length j.pins)
  held_within held is =
      subst (λ h. IfSome h (λ i. i < length j.pins)) (sym is)
      (held_near (marked_pin j) (hazard j.kind (pin_waves c ws j) (marked_pin j))
      (marked_near (marked_pin j) refl))

-- it is heard, and its net moves
pub moving_is : (c : Circuit) (ws : Waves) (j : Instance) (place : ℕ) (held : Option ℕ)
    (heard : Bool) (pin : Option Pin) →
    heard ≡ is_heard_by held j.kind place → held ≡ held_pin c ws j → pin ≡ slice_get j.pins place →
    (heard && moves_ever c.header ws pin) ≡ is_moving c ws j place
moving_is c ws j place held heard pin heard_is held_is pin_is =
    let h = heard_is ∙ ap (λ x. is_heard_by x j.kind place) held_is in
    λ i. h i && moves_ever c.header ws (pin_is i)

pub held_moves : (held held' : Option ℕ) (l : List ℕ) → is_some held ≡ true → held ≡ held' → held
    ≡ mover_by held' l
held_moves None held' l some is = absurd (cc)
held_moves (Some marked) held' l some is = ap (λ h. mover_by h l) is

-- ---- what makes an end

-- as many values as pins
pub counts_fit : (c : Circuit) (ws : Waves) (k : ℕ) (j : Instance) (p : ℕ) (found : List Value) →
    IsCircuit c →
    slice_get c.instances k ≡ Some j → found ≡ pins_shown c ws j.pins Unfolded p →
    IsCount j.kind (length found)
counts_fit c ws k j p found known at is =
    let pins = (fits_at c k j known at).pins in
    subst (λ (n : ℕ). IsCount j.kind n) (sym (long_shown c ws j.pins Unfolded p found is))
    (pins.least, pins.most)

pub own_causes : (c : Circuit) (ws : Waves) (j : Instance) (d : Direction) (p place : ℕ)
    (held : Option ℕ) (shown : List Value)
    (rises falls : Bool) → held ≡ held_pin c ws j → shown ≡ pins_shown c ws j.pins Unfolded p →
    rises ≡ may_make held j.kind shown place false true d → falls
    ≡ may_make held j.kind shown place true false d →
    one_of rises falls ≡ open_cause c ws j d p place
own_causes c ws j d p place held shown rises falls held_is shown_is rise fall =
    (λ i. one_of (rise i) (fall i))
    ∙ (λ i. one_of (may_make (held_is i) j.kind (shown_is i) place false true d)
    (may_make (held_is i) j.kind (shown_is i) place true false d))

mapped_twice : {A B C : Type 0} (f : B → C) (g : A → B) (o : Option A) →
    option_map f (option_map g o) ≡ option_map (λ x. f (g x)) o
mapped_twice f g None = refl
mapped_twice f g (Some x) = refl

module _ (c : Circuit) (ws : Waves) (j : Instance) (corner : Corner) (d : Direction)
    (two : Option Split) (delay : Bounds) (place : ℕ)
    (tick : ℤ) (some : 0 < period c.header) where
  abbrev pub pinned_by : Option Direction → Option Pinned
  pinned_by found = option_map (λ own. record { pin = place; direction = own }) found

  abbrev pub own_end : PulseEnd
  own_end = record {
    corner = corner;
    direction = d;
    slot = slot_of (period c.header) tick;
    split = two;
    delay = delay;
  }

  tried : (n late : ℕ) (word : Word) → late ≡ inward corner delay n → word ≡ end_word two n →
      option_map (arc_of late word)
      (pinned_by (open_cause c ws j d (slot_of (period c.header) (tick -ℤ pos late)) place))
      ≡ open_arc c ws j own_end place n
  tried n late word is named =
      ap (λ (p : ℕ). option_map (arc_of late word) (pinned_by (open_cause c ws j d p place)))
      (slot_back (period c.header) late tick some)
      ∙ (λ i. option_map (arc_of (is i) (named i))
      (pinned_by (open_cause c ws j d
      (back (period c.header) (slot_of (period c.header) tick) (is i)) place)))
      ∙ mapped_twice (arc_of (inward corner delay n) (end_word two n))
      (λ own. record { pin = place; direction = own })
      (open_cause c ws j d (back (period c.header) (slot_of (period c.header) tick)
      (inward corner delay n)) place)

  pub own_tried : (n late : ℕ) (word : Word) (found : Option Pinned) (noted : Option Arc) → late
      ≡ inward corner delay n →
      word ≡ end_word two n → found
      ≡ pinned_by (open_cause c ws j d (slot_of (period c.header) (tick -ℤ pos late)) place) →
      noted ≡ option_map (arc_of late word) found →
      noted ≡ open_arc c ws j own_end place n
  own_tried n late word found noted is named by noted_is =
      noted_is ∙ ap (option_map (arc_of late word)) by ∙ tried n late word is named

-- none of as many as a period has
pub own_nowhere : (c : Circuit) (ws : Waves) (j : Instance) (e : PulseEnd) (place count : ℕ) →
    0 < period c.header → e.delay.min ≤ e.delay.max →
    count ≡ min (choices e.delay) (period c.header) →
    ((n : ℕ) → n < count → open_arc c ws j e place n ≡ None) →
    None ≡ first_some (open_arc c ws j e place) (choices e.delay) 0
own_nowhere c ws j e place count some ordered is none =
    let each : (n : ℕ) → n < choices e.delay →
    open_cause c ws j e.direction (back (period c.header) e.slot (inward e.corner e.delay n)) place
    ≡ None =
    each_delay (λ slot. open_cause c ws j e.direction slot place ≡ None) e.corner
    (period c.header) e.slot e.delay count some ordered is
    (λ n below. unmapped (λ own. record {
      cause = record { pin = place; direction = own; word = end_word e.split n };
      delay = inward e.corner e.delay n;
    })
    (open_cause c ws j e.direction (back (period c.header) e.slot (inward e.corner e.delay n))
    place) (none n below))
    in
    sym (first_some_nowhere (open_arc c ws j e place) (choices e.delay) 0
    (λ n below. ap (option_map (λ own. record {
      cause = record { pin = place; direction = own; word = end_word e.split n };
      delay = inward e.corner e.delay n;
    }))
    (each n (omega (arith, below)))))

-- ---- the event before

module _ (c : Circuit) (j : Instance) (tick : ℤ) (a : Arc) (some : 0 < period c.header) where
  abbrev read_at : ℕ → Pin → ℕ → Direction → ℕ → Option Read
  read_at net pin wire own slot =
      Some (record {
        passage = Through a.cause.pin wire a.delay a.cause.word;
        event = record { net = net; direction = own; slot = slot };
        reading = Unfolded;
      })

  by_pin : (pin : Pin) → slice_get j.pins a.cause.pin ≡ Some pin →
      open_target c (back (period c.header) (slot_of (period c.header) tick) a.delay) a pin.inverted
      pin.target
      ≡ open_before c j (slot_of (period c.header) tick) a
  by_pin pin is = sym (ap (open_pin c
      (back (period c.header) (slot_of (period c.header) tick) a.delay) a) is)

  pub open_found : (pin : Pin) (net wire : ℕ) (own : Direction) (earlier first : ℤ) →
      slice_get j.pins a.cause.pin ≡ Some pin →
      pin.target ≡ OnNet net → wire ≡ (wire_at c.nets net).min → own
      ≡ turned pin.inverted a.cause.direction →
      earlier ≡ tick -ℤ pos a.delay → first ≡ earlier -ℤ pos wire →
      read_at net pin wire own (slot_of (period c.header) first)
      ≡ open_before c j (slot_of (period c.header) tick) a
  open_found pin net wire own earlier first is on wire_is own_is earlier_is first_is =
      let p = period c.header in
      let slot : slot_of p first ≡ back p (back p (slot_of p tick) a.delay) wire =
      ap (slot_of p) first_is ∙ slot_back p wire earlier some
      ∙ ap (λ (q : ℕ). back p q wire) (ap (slot_of p) earlier_is ∙ slot_back p a.delay tick some) in
      ap (read_at net pin wire own) slot
      ∙ (λ i. read_at net pin (wire_is i) (own_is i)
      (back p (back p (slot_of p tick) a.delay) (wire_is i)))
      ∙ sym (ap (open_target c (back p (slot_of p tick) a.delay) a pin.inverted) on)
      ∙ by_pin pin is

  pub open_constant : (pin : Pin) (bit : Bool) → slice_get j.pins a.cause.pin ≡ Some pin →
      pin.target ≡ Constant bit →
      None ≡ open_before c j (slot_of (period c.header) tick) a
  open_constant pin bit is on =
      sym (ap (open_target c (back (period c.header) (slot_of (period c.header) tick) a.delay) a
      pin.inverted) on)
      ∙ by_pin pin is

  pub open_none : slice_get j.pins a.cause.pin ≡ None → None
      ≡ open_before c j (slot_of (period c.header) tick) a
  open_none is = sym (ap (open_pin c
      (back (period c.header) (slot_of (period c.header) tick) a.delay) a) is)

-- ---- through one of several

pub then_mapped : {A B C : Type 0} (f : B → Option C) (g : A → B) (o : Option A) →
    option_and_then f (option_map g o) ≡ option_and_then (λ a. f (g a)) o
then_mapped f g None = refl
then_mapped f g (Some x) = refl
