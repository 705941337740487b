-- The arrivals at places, from those behind pins and at clocks.
use Rattle.std.proofs.Common.{◌≡◌, ℕ, zero, suc, ◌+◌, ◌<◌, ◌==◌, Bool, true, false, cond, List, [], ◌∷◌, ◌++◌, length, map, fold, refl, sym, ap, subst, ◌∙◌, arith, append-nil, append_assoc, eq-eqb, ℤ, pos, ◌-ℤ◌, Option, Some, None}
use Rattle.std.specs.Prelude.{slice_get, unwrap_or}
use Rattle.std.specs.List.{range_with_len}
use Rattle.std.specs.Option.{option_map}
use Rattle.std.proofs.lemmas.List.FromFn.{map-range_with_len_more}
use Rattle.std.proofs.lemmas.List.Folds.{fold-map}
use Rattle.std.proofs.lemmas.List.Sums.{fold-append}
use Rattle.scald_base.specs.Time.{period}
use Rattle.step_values.specs.declared.value.Value.{Value}
use Rattle.step_values.specs.Cell.{values}
use Rattle.skew_algebra.specs.Wave.{Wave, fold as wave_fold, folded}
use Rattle.vector_names.specs.declared.bits.Target.{Target}
use Rattle.vector_names.specs.declared.bits.Target.TheVariants.{Net as OnNet, Constant}
use Rattle.element_kinds.specs.Kinds.{listens}
use Rattle.flat_circuit.specs.declared.instance.Pin.{Pin}
use Rattle.flat_circuit.specs.declared.instance.Instance.{Instance}
use Rattle.flat_circuit.specs.declared.split.Split.{Split}
use Rattle.flat_circuit.specs.Circuit.{Circuit, driver, wire_at}
use Rattle.flat_circuit.specs.Split.{SplitFits}
use Rattle.fixpoint_engine.specs.Waves.{Waves}
use Rattle.fixpoint_engine.proofs.ReadSlots.{read_folded}
use Rattle.critical_paths.specs.declared.arrival.Place.{Place}
use Rattle.critical_paths.specs.declared.direction.Corner.{Corner}
use Rattle.critical_paths.specs.declared.direction.Corner.TheVariants.{Late, Early}
use Rattle.critical_paths.specs.declared.direction.Direction.{Direction}
use Rattle.critical_paths.specs.declared.path.Passage.{Passage}
use Rattle.critical_paths.specs.declared.path.Passage.TheVariants.{Through}
use Rattle.critical_paths.specs.declared.path.Word.TheVariants.{Tight}
use Rattle.critical_paths.specs.declared.region.Test.TheVariants.{May}
use Rattle.critical_paths.specs.Event.{Events, events, turned}
use Rattle.critical_paths.specs.Launch.{offset_of}
use Rattle.critical_paths.specs.Region.{Region, all_events, regions}
use Rattle.critical_paths.specs.Path.{bound}
use Rattle.critical_paths.specs.Arrival.{Arrival, all_of, arrival_at, arrivals_by, arrivals_within, delay_by, end_of, ends_of, events_among, furthest, joined, later_by, own_delay, pin_direction, source_arrivals, through_pin, through_pins, through_target}
use Rattle.critical_paths.specs.Views.{delay_by as delay_of, delay_of_step, end_at, passing, ticks_of_region}
use Rattle.critical_paths.specs.Reached.{AddsThrough, AreArrivals, AreThrough, age_at, behind_at, behind_net, behind_pin, end_time, later, of_clock, through_of, with_all, with_later, with_one}
use Rattle.critical_paths.proofs.Cutting.{two_are, two_none}
use Rattle.critical_paths.proofs.Gathered.{clock_append, clock_furthest, clock_later, one_of, noted}
use Rattle.critical_paths.proofs.Ticks.{slot_pos}

-- ---- ways of more elements

map_extends : {A B : Type 0} (f : A → B) (o p : Option A) (x : B) →
    ((y : A) → o ≡ Some y → p ≡ Some y) → option_map f o ≡ Some x → option_map f p ≡ Some x
map_extends f None p x extends is = absurd (cc)
map_extends f (Some y) p x extends is = ap (option_map f) (extends y refl) ∙ is

joined_extends : (a b p q : Option (List Arrival)) (x : List Arrival) →
    ((y : List Arrival) → a ≡ Some y → p ≡ Some y) → ((y : List Arrival) → b ≡ Some y → q ≡ Some y) →
    joined a b ≡ Some x → joined p q ≡ Some x
joined_extends None b p q x one two is = absurd (cc)
joined_extends (Some y) None p q x one two is = absurd (cc)
joined_extends (Some y) (Some z) p q x one two is = (λ i. joined (one y refl i) (two z refl i)) ∙ is

abbrev At : Type 0
At = Direction → ℕ → Option (List Arrival)

abbrev Extends : At → At → Type 0
Extends at more = (d : Direction) (m : ℕ) (x : List Arrival) → at d m ≡ Some x → more d m ≡ Some x

all_extends : (f g : ℕ → Option (List Arrival)) (is : List ℕ) (x : List Arrival) →
    ((i : ℕ) (y : List Arrival) → f i ≡ Some y → g i ≡ Some y) →
    all_of (map f is) ≡ Some x → all_of (map g is) ≡ Some x
all_extends f g [] x extends all = all
all_extends f g (i ∷ is) x extends all =
    joined_extends (f i) (all_of (map f is)) (g i) (all_of (map g is)) x (extends i)
    (λ y h. all_extends f g is y extends h) all

module _ (c : Circuit) (ws : Waves) (corner : Corner) where
  target_extends : (j : Instance) (d own : Direction) (inverted : Bool) (target : Target) (at more : At)
      (x : List Arrival) → Extends at more →
      through_target c corner j d own inverted target at ≡ Some x →
      through_target c corner j d own inverted target more ≡ Some x
  target_extends j d own inverted (OnNet m) at more x extends is =
      map_extends _ (at (turned inverted own) m) (more (turned inverted own) m) x
      (λ y h. extends (turned inverted own) m y h) is
  target_extends j d own inverted (Constant b) at more x extends is = is

  pub pin_extends : (j : Instance) (d : Direction) (at more : At) (i : ℕ) (pin : Option Pin) (x : List Arrival) →
      Extends at more → through_pin c corner j d at i pin ≡ Some x → through_pin c corner j d more i pin ≡ Some x
  pin_extends j d at more i None x extends is = is
  pin_extends j d at more i (Some pin) x extends is = by (listens j.kind i) is
    where
      by : (b : Bool) →
          cond b (through_target c corner j d (pin_direction j.kind i d) pin.inverted pin.target at) (Some []) ≡ Some x →
          cond b (through_target c corner j d (pin_direction j.kind i d) pin.inverted pin.target more) (Some []) ≡ Some x
      by true is = target_extends j d (pin_direction j.kind i d) pin.inverted pin.target at more x extends is
      by false is = is

  by_extends : (d : Direction) (i : ℕ) (at more : At) (o : Option Instance) (x : List Arrival) →
      Extends at more → arrivals_by c ws corner d i at o ≡ Some x → arrivals_by c ws corner d i more o ≡ Some x
  by_extends d i at more None x extends is = is
  by_extends d i at more (Some j) x extends is =
      map_extends _ (through_pins c corner j (turned j.out_inverted d) at) _ x
      (λ y h. all_extends _ _ (range_with_len 0 (length j.pins)) y
      (λ k z g. pin_extends j (turned j.out_inverted d) at more k (slice_get j.pins k) z extends g) h) is

  within_one : (left : ℕ) (d : Direction) (i : ℕ) (x : List Arrival) →
      arrivals_within c ws corner left d i ≡ Some x → arrivals_within c ws corner (suc left) d i ≡ Some x
  within_one zero d i x is = absurd (cc)
  within_one (suc left) d i x is =
      by_extends d i (λ own m. arrivals_within c ws corner left own m) (λ own m. arrivals_within c ws corner (suc left) own m)
      (driver c i) x (λ own m y h. within_one left own m y h) is

  pub within_more : (more left : ℕ) (d : Direction) (i : ℕ) (x : List Arrival) →
      arrivals_within c ws corner left d i ≡ Some x → arrivals_within c ws corner (more + left) d i ≡ Some x
  within_more zero left d i x is =
      subst (λ (k : ℕ). arrivals_within c ws corner k d i ≡ Some x) (let e : left ≡ 0 + left = omega arith in e) is
  within_more (suc more) left d i x is =
      subst (λ (k : ℕ). arrivals_within c ws corner k d i ≡ Some x) (let e : suc (more + left) ≡ suc more + left = omega arith in e)
      (within_one (more + left) d i x (within_more more left d i x is))

-- ---- through the pins

all_more : (xs : List (Option (List Arrival))) (y : Option (List Arrival)) (f g : List Arrival) →
    all_of xs ≡ Some f → y ≡ Some g → all_of (xs ++ y ∷ []) ≡ Some (f ++ g)
all_more [] y f g is own =
    let none : ◌≡◌ {A = List Arrival} [] f = cc in
    ap (λ (o : Option (List Arrival)). joined o (Some [])) own
    ∙ ap (λ (l : List Arrival). Some l) (append-nil g ∙ ap (λ (l : List Arrival). l ++ g) none)
all_more (None ∷ xs) y f g is own = absurd (cc)
all_more (Some x ∷ xs) y f g is own = by (all_of xs) refl is (λ more at. all_more xs y more g at own)
  where
    by : (o : Option (List Arrival)) → all_of xs ≡ o → joined (Some x) o ≡ Some f →
        ((more : List Arrival) → all_of xs ≡ Some more → all_of (xs ++ y ∷ []) ≡ Some (more ++ g)) →
        joined (Some x) (all_of (xs ++ y ∷ [])) ≡ Some (f ++ g)
    by None at is rest = absurd (cc)
    by (Some more) at is rest =
        let parts : x ++ more ≡ f = cc in
        ap (joined (Some x)) (rest more at)
        ∙ ap (λ (l : List Arrival). Some l) (sym (append_assoc x more g) ∙ ap (λ (l : List Arrival). l ++ g) parts)

delay_is : (j : Instance) (d : Direction) → SplitFits j.kind j.delay j.split → own_delay j d ≡ delay_of_step j d
delay_is j d fits = by j.split refl
  where
    by : (o : Option Split) → j.split ≡ o → own_delay j d ≡ delay_of_step j d
    by None is = ap (λ (o : Option Split). delay_by o j.delay d) (two_none j is)
        ∙ sym (ap (delay_of j.delay d) is)
    by (Some s) is = ap (λ (o : Option Split). delay_by o j.delay d) (two_are j s fits is)
        ∙ sym (ap (delay_of j.delay d) is)

module _ (c : Circuit) (ws : Waves) (j : Instance) (place : Place) where
  abbrev d : Direction
  d = turned j.out_inverted place.direction

  -- with what one pin more adds, of ways of at most so many elements
  more_through : (n : ℕ) (old mid new : List (ℤ × ℤ)) (through : AreThrough c ws j place n old mid)
      (most : ℕ) (more : List Arrival) →
      through_of c ws j place most n ≡ Some more →
      new ≡ with_all c ws place mid (of_clock place.clock more) → AreThrough c ws j place (n + 1) old new
  more_through n old mid new through most more of is =
      record {
        most = most + through.most;
        found = through.found ++ more;
        are = ap all_of (map-range_with_len_more (through_of c ws j place (most + through.most)) 0 n n (let e : 0 + n ≡ n = omega arith in e))
            ∙ all_more (map (through_of c ws j place (most + through.most)) (range_with_len 0 n)) _ through.found more
            (all_extends (through_of c ws j place through.most) (through_of c ws j place (most + through.most))
            (range_with_len 0 n) through.found
            (λ i y h. pin_extends c ws place.corner j d _ _ i (slice_get j.pins i) y
            (λ own m z g. within_more c ws place.corner most through.most own m z g) h) through.are)
            (pin_extends c ws place.corner j d _ _ n (slice_get j.pins n) more
            (λ own m z g. subst (λ (k : ℕ). arrivals_within c ws place.corner k own m ≡ Some z)
            (let e : through.most + most ≡ most + through.most = omega arith in e)
            (within_more c ws place.corner through.most most own m z g)) of);
        is = is ∙ ap (λ (l : List (ℤ × ℤ)). with_all c ws place l (of_clock place.clock more)) through.is
            ∙ sym (fold-append (with_one c ws place) old (of_clock place.clock through.found) (of_clock place.clock more))
            ∙ sym (ap (with_all c ws place old) (clock_append place.clock through.found more));
      }

  pub one_pin : (n : ℕ) (old mid new : List (ℤ × ℤ)) → SplitFits j.kind j.delay j.split →
      AreThrough c ws j place n old mid → AddsThrough c ws place (behind_at c j place n) mid new →
      AreThrough c ws j place (n + 1) old new
  one_pin n old mid new fits through adds = by (slice_get j.pins n) refl adds
    where
      nothing : through_of c ws j place 0 n ≡ Some [] → new ≡ mid → AreThrough c ws j place (n + 1) old new
      nothing of same = more_through n old mid new through 0 [] of same

      net : (pin : Pin) (m : ℕ) → slice_get j.pins n ≡ Some pin → listens j.kind n ≡ true → pin.target ≡ OnNet m →
          AddsThrough c ws place (behind_pin c j place n (Some pin)) mid new →
          AreThrough c ws j place (n + 1) old new
      net pin m at hears on adds =
          let found = subst (λ (o : Option (Place × Passage)). AddsThrough c ws place o mid new)
          (λ i. cond (hears i) (behind_net c j place n pin (on i)) None) adds in
          let arrivals = found.1.0 in
          let ticks = bound place.corner (wire_at c.nets m) + bound place.corner (own_delay j d) in
          let passage = Through n (bound place.corner (wire_at c.nets m)) (bound place.corner (delay_of_step j d)) Tight in
          let of : through_of c ws j place arrivals.most n ≡ Some (map (later_by ticks) arrivals.all) =
          ap (λ (o : Option Pin). through_pin c place.corner j d (λ own m. arrivals_within c ws place.corner arrivals.most own m) n o) at
          ∙ (λ i. cond (hears i) (through_target c place.corner j d (pin_direction j.kind n d) pin.inverted (on i)
          (λ own m. arrivals_within c ws place.corner arrivals.most own m)) (Some []))
          ∙ ap (option_map (map (later_by ticks))) arrivals.are in
          let takes : pos (bound place.corner (wire_at c.nets m) + bound place.corner (delay_of_step j d)) ≡ pos ticks =
          ap (λ b. pos (bound place.corner (wire_at c.nets m) + bound place.corner b)) (sym (delay_is j d fits)) in
          more_through n old mid new through arrivals.most (map (later_by ticks) arrivals.all) of
          (found.1.1 ∙ ap (fold (with_later c ws place passage) mid) arrivals.is
          ∙ sym (fold-map (with_one c ws place) (later passage) mid (of_clock place.clock arrivals.all))
          ∙ ap (with_all c ws place mid) (sym (clock_later place.clock ticks passage arrivals.all takes)))

      target : (pin : Pin) (t : Target) → slice_get j.pins n ≡ Some pin → listens j.kind n ≡ true → pin.target ≡ t →
          AddsThrough c ws place (behind_pin c j place n (Some pin)) mid new →
          AreThrough c ws j place (n + 1) old new
      target pin (OnNet m) at hears on adds = net pin m at hears on adds
      target pin (Constant b) at hears on adds =
          nothing
          (ap (λ (o : Option Pin). through_pin c place.corner j d (λ own m. arrivals_within c ws place.corner 0 own m) n o) at
          ∙ (λ i. cond (hears i) (through_target c place.corner j d (pin_direction j.kind n d) pin.inverted (on i)
          (λ own m. arrivals_within c ws place.corner 0 own m)) (Some [])))
          (subst (λ (o : Option (Place × Passage)). AddsThrough c ws place o mid new)
          (λ i. cond (hears i) (behind_net c j place n pin (on i)) None) adds)

      heard : (pin : Pin) (b : Bool) → slice_get j.pins n ≡ Some pin → listens j.kind n ≡ b →
          AddsThrough c ws place (behind_pin c j place n (Some pin)) mid new →
          AreThrough c ws j place (n + 1) old new
      heard pin true at hears adds = target pin pin.target at hears refl adds
      heard pin false at hears adds =
          nothing
          (ap (λ (o : Option Pin). through_pin c place.corner j d (λ own m. arrivals_within c ws place.corner 0 own m) n o) at
          ∙ ap (λ (b : Bool). cond b (through_target c place.corner j d (pin_direction j.kind n d) pin.inverted pin.target
          (λ own m. arrivals_within c ws place.corner 0 own m)) (Some [])) hears)
          (subst (λ (o : Option (Place × Passage)). AddsThrough c ws place o mid new)
          (ap (λ (b : Bool). cond b (behind_net c j place n pin pin.target) None) hears) adds)

      by : (o : Option Pin) → slice_get j.pins n ≡ o → AddsThrough c ws place (behind_at c j place n) mid new →
          AreThrough c ws j place (n + 1) old new
      by None at adds =
          nothing
          (ap (λ (o : Option Pin). through_pin c place.corner j d (λ own m. arrivals_within c ws place.corner 0 own m) n o) at)
          (subst (λ (o : Option Pin). AddsThrough c ws place (behind_pin c j place n o) mid new) at adds)
      by (Some pin) at adds = heard pin (listens j.kind n) at refl
          (subst (λ (o : Option Pin). AddsThrough c ws place (behind_pin c j place n o) mid new) at adds)

  -- before the first
  pub no_pins : (old : List (ℤ × ℤ)) → AreThrough c ws j place 0 old old
  no_pins old = record { most = 0; found = []; are = refl; is = refl }

  -- and all
  pub all_pins : (new : List (ℤ × ℤ)) → 0 < period c.header → driver c place.net ≡ Some j →
      AreThrough c ws j place (length j.pins) [] new → AreArrivals c ws place new
  all_pins new some driven through =
      record {
        most = suc through.most;
        all = furthest place.corner (events_among c ws place.direction place.net through.found);
        are = ap (arrivals_by c ws place.corner place.direction place.net (λ own m. arrivals_within c ws place.corner through.most own m)) driven
            ∙ ap (option_map (λ found. furthest place.corner (events_among c ws place.direction place.net found))) through.are;
        is = through.is ∙ sym (clock_furthest c ws place some [] through.found);
      }

-- ---- at the clock itself

-- the changes of a fold are those of its wave
pub events_are : (d : Direction) (w : Wave Value) (cells : List Value) → 0 < length w.cells →
    cells ≡ folded values w → passing (May d) cells ≡ events d (wave_fold values w)
unfolding passing
events_are d w cells some is = ap (λ (r : ℕ → Value). events d r) (read_folded w cells some is)

module _ (c : Circuit) (ws : Waves) (place : Place) (some : 0 < period c.header) where
  abbrev ev : Events
  ev = events place.direction (wave_fold values (ws place.net))

  pub own_none : all_events (period c.header) ev ≡ true →
      of_clock place.clock (source_arrivals c ws place.corner place.direction place.net) ≡ []
  own_none all = ap (λ (b : Bool). of_clock place.clock (cond b [] (ends_of c place.corner place.direction place.net ev))) all

  end_is : (corner : Corner) (r : Region) → end_at corner (ticks_of_region r) ≡ pos (end_of corner r)
  end_is Late r = refl
  end_is Early r = refl

  time_is : (r : Region) → ◌≡◌ {A = ℤ × ℤ} ((arrival_at c place.corner place.direction place.net (end_of place.corner r)).edge, pos (end_of place.corner r))
      (end_time c place (ticks_of_region r))
  time_is r =
      ap (λ (n : ℕ). (
        pos (end_of place.corner r) -ℤ unwrap_or (offset_of c place.corner (record {
          net = place.net;
          direction = place.direction;
          slot = n;
        })) (pos 0),
        pos (end_of place.corner r),
      )) (sym (slot_pos (period c.header) (end_of place.corner r) some))
      ∙ ap (λ (t : ℤ). (t -ℤ age_at c place t, t)) (sym (end_is place.corner r))

  ends_are : place.net ≡ place.clock → (rs : List Region) →
      of_clock place.clock (map (λ r. arrival_at c place.corner place.direction place.net (end_of place.corner r)) rs)
      ≡ map (end_time c place) (map ticks_of_region rs)
  ends_are own [] = refl
  ends_are own (r ∷ rs) =
      one_of place.clock (arrival_at c place.corner place.direction place.net (end_of place.corner r)) _
      ∙ ap (λ (b : Bool). cond b (noted place.clock (arrival_at c place.corner place.direction place.net (end_of place.corner r))
      ∷ of_clock place.clock (map (λ r. arrival_at c place.corner place.direction place.net (end_of place.corner r)) rs))
      (of_clock place.clock (map (λ r. arrival_at c place.corner place.direction place.net (end_of place.corner r)) rs)))
      (eq-eqb place.net place.clock own)
      ∙ (λ i. time_is r i ∷ ends_are own rs i)

  pub own_some : all_events (period c.header) ev ≡ false → place.net ≡ place.clock →
      of_clock place.clock (source_arrivals c ws place.corner place.direction place.net)
      ≡ map (end_time c place) (map ticks_of_region (regions (period c.header) ev))
  own_some some own =
      ap (λ (b : Bool). of_clock place.clock (cond b [] (ends_of c place.corner place.direction place.net ev))) some
      ∙ ends_are own (regions (period c.header) ev)

  -- of what is driven by nothing
  pub own_arrivals : (new : List (ℤ × ℤ)) → driver c place.net ≡ None →
      new ≡ of_clock place.clock (source_arrivals c ws place.corner place.direction place.net) → AreArrivals c ws place new
  own_arrivals new input is =
      record {
        most = 1;
        all = source_arrivals c ws place.corner place.direction place.net;
        are = ap (arrivals_by c ws place.corner place.direction place.net (λ own m. arrivals_within c ws place.corner 0 own m)) input;
        is = is;
      }

  -- another net than the clock
  pub not_own : (place.net == place.clock) ≡ false →
      of_clock place.clock (source_arrivals c ws place.corner place.direction place.net) ≡ []
  not_own other = by (all_events (period c.header) ev)
    where
      none : (rs : List Region) →
          of_clock place.clock (map (λ r. arrival_at c place.corner place.direction place.net (end_of place.corner r)) rs) ≡ []
      none [] = refl
      none (r ∷ rs) =
          one_of place.clock (arrival_at c place.corner place.direction place.net (end_of place.corner r)) _
          ∙ ap (λ (b : Bool). cond b (noted place.clock (arrival_at c place.corner place.direction place.net (end_of place.corner r))
          ∷ of_clock place.clock (map (λ r. arrival_at c place.corner place.direction place.net (end_of place.corner r)) rs))
          (of_clock place.clock (map (λ r. arrival_at c place.corner place.direction place.net (end_of place.corner r)) rs))) other
          ∙ none rs

      by : (b : Bool) → of_clock place.clock (cond b [] (ends_of c place.corner place.direction place.net ev)) ≡ []
      by true = refl
      by false = none (regions (period c.header) ev)
