-- What is made of the rises and falls of the nets before a net is its own.
use Rattle.std.proofs.Common.{◌≡◌, ℕ, zero, suc, ◌+◌, ◌<◌, ◌≤◌, ◌&&◌, ◌||◌, ◌⊎◌, inl, inr, Bool, true, false, cond, not, List, [], ◌∷◌, ◌++◌, length, ap, sym, subst, refl, ◌∙◌, arith, slice_get, Option, Some, None}
use Rattle.std.specs.Prelude.{fold, nat_le}
use Rattle.std.specs.List.{list_any, range_with_len}
use Rattle.std.specs.Option.{option_map}
use Rattle.std.proofs.lemmas.Bool.{and_parts, and_from, cases_lt, eqb-true, eq-eqb, or_left, or_right}
use Rattle.std.proofs.lemmas.List.Sums.{fold-append}
use Rattle.std.proofs.lemmas.Option.{slice_get_within}
use Rattle.vector_names.proofs.Ranges.{range_more}
use Rattle.vector_names.specs.declared.bits.Target.{Target}
use Rattle.vector_names.specs.declared.bits.Target.TheVariants.{Net as OnNet, Constant}
use Rattle.element_kinds.specs.declared.kind.Kind.{Kind}
use Rattle.element_kinds.specs.declared.kind.Kind.TheVariants.{Buf, And, Or, Xor, Mux2, Mux4, Mux8, Chg, Reg, RegRs, Latch, LatchRs, SetupHold, RiseFall, MinPulse}
use Rattle.flat_circuit.specs.declared.instance.Pin.{Pin}
use Rattle.flat_circuit.specs.declared.instance.Instance.{Instance}
use Rattle.flat_circuit.specs.Instances.{is_on}
use Rattle.flat_circuit.specs.Circuit.{Circuit, driver, driver_at, instance_in, wire_at}
use Rattle.fixpoint_engine.specs.Waves.{Waves}
use Rattle.drawing_notes.specs.declared.launched.Arrival.{Arrival}
use Rattle.drawing_notes.specs.declared.launched.Edges.{Edges}
use Rattle.drawing_notes.specs.Arrivals.{AreEdges, both_edges, delayed, edge_of, edge_on, edge_through, later, latest_at, latest_to, made_at, made_by, no_edges, passed, pin_edge}
use Rattle.drawing_notes.specs.Late.{behind_wire}
use Rattle.drawing_notes.specs.Passing.{delay_to, is_heard, is_open, is_passable, keeps_mark, makes}
use Rattle.drawing_notes.specs.Paths.{AreLatest, IsLatest, Launches, Stored, Passed, delay_of, greatest_delay, is_kept, leads, makes_of, passes_on, pin_makes}
use Rattle.drawing_notes.specs.Pins.{is_storage, passes}
use Rattle.drawing_notes.proofs.Latest.{latest_delayed, latest_of_two, latest_same}

-- storage passes nothing on
kept_apart : (kind : Kind) → is_storage kind ≡ true → passes kind ≡ false
kept_apart Buf is = absurd cc
kept_apart And is = absurd cc
kept_apart Or is = absurd cc
kept_apart Xor is = absurd cc
kept_apart Mux2 is = absurd cc
kept_apart Mux4 is = absurd cc
kept_apart Mux8 is = absurd cc
kept_apart Chg is = absurd cc
kept_apart Reg is = refl
kept_apart RegRs is = refl
kept_apart Latch is = refl
kept_apart LatchRs is = refl
kept_apart SetupHold is = absurd cc
kept_apart RiseFall is = absurd cc
kept_apart MinPulse is = absurd cc

-- a pin at a place is one of the pins
pub pin_among : (p : Pin → Bool) (pins : List Pin) (place : ℕ) (pin : Pin) → slice_get pins place ≡ Some pin → p pin ≡ true → list_any p pins ≡ true
pin_among p [] place pin at is = absurd cc
pin_among p (q ∷ pins) zero pin at is = let same : q ≡ pin = cc in or_left _ _ (ap p same ∙ is)
pin_among p (q ∷ pins) (suc place) pin at is = or_right _ _ (pin_among p pins place pin at is)

-- at one pin more
pub more_places : (c : Circuit) (held : Bool) (ws : Waves) (edges : ℕ → Edges) (j : Instance) (rise : Bool) (count : ℕ) →
    latest_to c held ws edges j rise (count + 1)
    ≡ later (latest_to c held ws edges j rise count) (pin_edge c held ws edges j rise count (slice_get j.pins count))
more_places c held ws edges j rise count =
    let f : Option Arrival → ℕ → Option Arrival = λ so_far place. later so_far (pin_edge c held ws edges j rise place (slice_get j.pins place)) in
    ap (fold f None) (range_more 0 count count (omega arith)) ∙ fold-append f None (range_with_len 0 count) (count ∷ [])

module _ (c : Circuit) (looped : ℕ → Bool) (ws : Waves) (edges : ℕ → Edges) where
  -- rising or falling
  abbrev Comes : Bool → ℕ → ℕ → ℕ → Type 0
  Comes rise net storage ticks = Launches c looped ws storage rise net ticks

  edge_is : (rise : Bool) (net : ℕ) (e : Edges) → AreEdges c looped ws net e → AreLatest (Comes rise net) (edge_of rise e)
  edge_is true net e are = are.rises
  edge_is false net e are = are.falls

  -- ---- at the pins of a gate or a change function

  module _ (j : Instance) (gate : passes j.kind ≡ true)
      (before : (from : ℕ) → passes_on from (Some j) ≡ true → AreEdges c looped ws from (edges from)) where
    -- what comes through the pin at a place
    pub record Through (rise : Bool) (place : ℕ) (pin : Option Pin) (before_ : Bool) (storage ticks : ℕ) : Type 0 where
      pub from : ℕ
      pub makes_it : pin_makes c ws from before_ rise j place pin ≡ true
      pub ago : ℕ
      pub comes : Comes before_ from storage ago
      pub is : ticks ≡ ago + (wire_at c.nets from).max

    module _ (rise : Bool) (place : ℕ) (p : Pin) (at : slice_get j.pins place ≡ Some p) where
      from_net : (before_ : Bool) (n : ℕ) → p.target ≡ OnNet n → is_open c ws j place p ≡ true → makes j place p before_ rise ≡ true →
          AreLatest (Through rise place (Some p) before_) (option_map (behind_wire c n) (edge_of before_ (edges n)))
      from_net before_ n on open_ makes_it =
          latest_delayed (Comes before_ n) (Through rise place (Some p) before_) (wire_at c.nets n).max there back (edge_of before_ (edges n))
          (edge_is before_ n (edges n) (before n (and_from (passes j.kind) _ gate (pin_among (λ (q : Pin). is_on n q.target) j.pins place p at is_here))))
        where
          is_here : is_on n p.target ≡ true
          is_here = ap (is_on n) on ∙ eq-eqb n n refl

          there : (s t : ℕ) → Comes before_ n s t → Through rise place (Some p) before_ s (t + (wire_at c.nets n).max)
          there s t launch = record { from = n; makes_it = and_from _ _ is_here (and_from _ _ open_ makes_it); ago = t; comes = launch; is = refl }

          back : (s t : ℕ) → Through rise place (Some p) before_ s t → (u : ℕ) × (Comes before_ n s u) × (t ≡ u + (wire_at c.nets n).max)
          back s t through =
              let here = (and_parts (is_on through.from p.target) _ through.makes_it).0 in
              let same : n ≡ through.from = eqb-true n through.from (sym (ap (is_on through.from) on) ∙ here) in (
                through.ago,
                subst (λ m. Comes before_ m s through.ago) (sym same) through.comes,
                through.is ∙ ap (λ m. through.ago + (wire_at c.nets m).max) (sym same),
              )

      on_target : (before_ : Bool) (t : Target) → p.target ≡ t → is_open c ws j place p ≡ true → makes j place p before_ rise ≡ true →
          AreLatest (Through rise place (Some p) before_) (edge_on c edges before_ t)
      on_target before_ (OnNet n) on open_ makes_it = from_net before_ n on open_ makes_it
      on_target before_ (Constant one) on open_ makes_it = λ s t through.
          let here = (and_parts (is_on through.from p.target) _ through.makes_it).0 in
          let no : is_on through.from (Constant one) ≡ true = sym (ap (is_on through.from) on) ∙ here in
          cc

      through_is : (before_ : Bool) → is_open c ws j place p ≡ true → AreLatest (Through rise place (Some p) before_) (edge_through c edges j rise place p before_)
      through_is before_ open_ = by (makes j place p before_ rise) refl
        where
          by : (b : Bool) → makes j place p before_ rise ≡ b → AreLatest (Through rise place (Some p) before_) (cond b (edge_on c edges before_ p.target) None)
          by true makes_it = on_target before_ p.target refl open_ makes_it
          by false none = λ s t through.
              let makes_it = (and_parts (is_open c ws j place p) (makes j place p before_ rise) (and_parts (is_on through.from p.target) _ through.makes_it).1).1 in
              cc

    -- of a rise or of a fall of its net
    pub record Either (rise : Bool) (place : ℕ) (pin : Option Pin) (storage ticks : ℕ) : Type 0 where
      pub before_ : Bool
      pub through : Through rise place pin before_ storage ticks

    either_split : (rise : Bool) (place : ℕ) (pin : Option Pin) (s t : ℕ) → Either rise place pin s t →
        Through rise place pin true s t ⊎ Through rise place pin false s t
    either_split rise place pin s t e = by e.before_ e.through
      where
        by : (b : Bool) → Through rise place pin b s t → Through rise place pin true s t ⊎ Through rise place pin false s t
        by true through = inl through
        by false through = inr through

    pin_is : (rise : Bool) (place : ℕ) (pin : Option Pin) → slice_get j.pins place ≡ pin →
        AreLatest (Either rise place pin) (pin_edge c (keeps_mark c ws j) ws edges j rise place pin)
    pin_is rise place None at = λ s t e. let through = e.through in let no = through.makes_it in cc
    pin_is rise place (Some p) at = by (is_open c ws j place p) refl
      where
        by : (b : Bool) → is_open c ws j place p ≡ b →
            AreLatest (Either rise place (Some p)) (cond b (later (edge_through c edges j rise place p true) (edge_through c edges j rise place p false)) None)
        by true open_ =
            latest_of_two (Through rise place (Some p) true) (Through rise place (Some p) false) (Either rise place (Some p))
            (either_split rise place (Some p)) (λ s t through. record { before_ = true; through = through }) (λ s t through. record { before_ = false; through = through })
            (edge_through c edges j rise place p true) (edge_through c edges j rise place p false)
            (through_is rise place p at true open_) (through_is rise place p at false open_)
        by false shut = λ s t e.
            let through = e.through in
            let open_ = (and_parts (is_open c ws j place p) (makes j place p e.before_ rise) (and_parts (is_on through.from p.target) _ through.makes_it).1).0 in
            cc

    -- at one of the first pins
    pub record AtSome (rise : Bool) (count storage ticks : ℕ) : Type 0 where
      pub place : ℕ
      pub below : place < count
      pub either : Either rise place (slice_get j.pins place) storage ticks

    some_split : (rise : Bool) (count s t : ℕ) → AtSome rise (count + 1) s t → AtSome rise count s t ⊎ Either rise count (slice_get j.pins count) s t
    some_split rise count s t some = elim (cases_lt some.place count) [
      | inl less ↦ inl (record { place = some.place; below = less; either = some.either })
      | inr past ↦
          let below = some.below in
          let same : some.place ≡ count = omega (arith, below, past) in
          inr (subst (λ k. Either rise k (slice_get j.pins k) s t) same some.either)
    ]

    some_first : (rise : Bool) (count s t : ℕ) → AtSome rise count s t → AtSome rise (count + 1) s t
    some_first rise count s t some = record { place = some.place; below = (let below = some.below in omega (arith, below)); either = some.either }

    pins_are : (rise : Bool) (count : ℕ) → AreLatest (AtSome rise count) (latest_to c (keeps_mark c ws j) ws edges j rise count)
    pins_are rise zero = λ s t some. let below = some.below in omega (arith, below)
    pins_are rise (suc count) =
        let one : count + 1 ≡ suc count = omega arith in
        subst (λ n. AreLatest (AtSome rise n) (latest_to c (keeps_mark c ws j) ws edges j rise n)) one
        (subst (AreLatest (AtSome rise (count + 1))) (sym (more_places c (keeps_mark c ws j) ws edges j rise count))
        (latest_of_two (AtSome rise count) (Either rise count (slice_get j.pins count)) (AtSome rise (count + 1)) (some_split rise count) (some_first rise count)
        (λ s t either. record { place = count; below = omega arith; either = either })
        (latest_to c (keeps_mark c ws j) ws edges j rise count) _ (pins_are rise count) (pin_is rise count (slice_get j.pins count) refl)))

  -- ---- at a net

  -- how a path to a net ends, by its driver
  data Ends (storage : ℕ) (rise : Bool) (ticks : ℕ) (k : Option ℕ) (j : Option Instance) : Type 0 where
    At_storage : k ≡ Some storage → is_kept j ≡ true → ticks ≡ greatest_delay j → Ends storage rise ticks k j
    At_gate : (from place ago : ℕ) (before_ : Bool) → Comes before_ from storage ago → makes_of c ws from before_ rise place j ≡ true →
        ticks ≡ ago + (wire_at c.nets from).max + delay_of rise j → Ends storage rise ticks k j

  ends_so : {storage net : ℕ} {rise : Bool} {ticks : ℕ} → Launches c looped ws storage rise net ticks → Ends storage rise ticks (driver_at c.nets net) (driver c net)
  ends_so (Stored driven kept passable) = At_storage driven kept refl
  ends_so (Passed place {before = b} {from = from} {ticks = ago} launch makes_it passable) = At_gate from place ago b launch makes_it refl

  -- nothing passes a net that passes nothing on
  pub shut_net : (net : ℕ) → is_passable c looped ws net ≡ false → AreEdges c looped ws net no_edges
  shut_net net is = record { rises = λ s t launch. none launch; falls = λ s t launch. none launch }
    where
      none : {rise : Bool} {s t : ℕ} → Launches c looped ws s rise net t → ⊥
      none (Stored driven kept passable) = cc
      none (Passed place launch makes_it passable) = cc

  module _ (net : ℕ) (passable : is_passable c looped ws net ≡ true) where
    module _ (k : ℕ) (j : Instance) (driven : driver_at c.nets net ≡ Some k) (at : driver c net ≡ Some j) where
      ended : {s t : ℕ} {rise : Bool} → Comes rise net s t → Ends s rise t (Some k) (Some j)
      ended {s} {t} {rise} launch = subst (λ o. Ends s rise t o (Some j)) driven (subst (Ends s rise t (driver_at c.nets net)) at (ends_so launch))

      stored : is_storage j.kind ≡ true → (rise : Bool) → IsLatest (Comes rise net) (record { ticks = j.delay.max; storage = k })
      stored kept rise = record {
        comes = subst (Launches c looped ws k rise net) (ap greatest_delay at) (Stored driven (ap is_kept at ∙ kept) passable);
        latest = λ s t launch. by s t (ended launch);
      }
        where
          by : (s t : ℕ) → Ends s rise t (Some k) (Some j) → (t < j.delay.max) ⊎ ((t ≡ j.delay.max) × (k ≤ s))
          by s t (At_storage own is same) = let one : k ≡ s = cc in inr (same, omega (arith, one))
          by s t (At_gate from place ago b launch makes_it same) =
              let yes = (and_parts (passes j.kind) _ makes_it).0 in
              let no = kept_apart j.kind kept in
              absurd cc

      module _ (unkept : is_storage j.kind ≡ false) where
        by_gate : passes j.kind ≡ true → ((from : ℕ) → passes_on from (Some j) ≡ true → AreEdges c looped ws from (edges from)) → (rise : Bool) →
            AreLatest (Comes rise net) (passed c (keeps_mark c ws j) ws edges j rise)
        by_gate gate before rise =
            latest_delayed (AtSome j gate before rise (length j.pins)) (Comes rise net) (delay_to rise j) there back
            (latest_at c (keeps_mark c ws j) ws edges j rise) (pins_are j gate before rise (length j.pins))
          where
            there : (s t : ℕ) → AtSome j gate before rise (length j.pins) s t → Comes rise net s (t + delay_to rise j)
            there s t some =
                let either = some.either in
                let through = either.through in
                let whole : Launches c looped ws s rise net (through.ago + (wire_at c.nets through.from).max + delay_of rise (driver c net)) =
                Passed some.place through.comes (ap (makes_of c ws through.from either.before_ rise some.place) at ∙ and_from (passes j.kind) _ gate through.makes_it) passable in
                subst (Launches c looped ws s rise net)
                (ap (λ d. through.ago + (wire_at c.nets through.from).max + d) (ap (delay_of rise) at) ∙ ap (λ n. n + delay_to rise j) (sym through.is)) whole

            place_below : (place from : ℕ) (b : Bool) (o : Option Pin) → slice_get j.pins place ≡ o → pin_makes c ws from b rise j place o ≡ true → place < length j.pins
            place_below place from b None is makes_it = absurd cc
            place_below place from b (Some p) is makes_it = slice_get_within j.pins place p is

            by : (s t : ℕ) → Ends s rise t (Some k) (Some j) → (u : ℕ) × (AtSome j gate before rise (length j.pins) s u) × (t ≡ u + delay_to rise j)
            by s t (At_storage own kept same) = absurd cc
            by s t (At_gate from place ago b launch makes_it same) =
                let pin = (and_parts (passes j.kind) _ makes_it).1 in (
                  ago + (wire_at c.nets from).max,
                  record {
                    place = place;
                    below = place_below place from b (slice_get j.pins place) refl pin;
                    either = record { before_ = b; through = record { from = from; makes_it = pin; ago = ago; comes = launch; is = refl } };
                  },
                  same,
                )

            back : (s t : ℕ) → Comes rise net s t → (u : ℕ) × (AtSome j gate before rise (length j.pins) s u) × (t ≡ u + delay_to rise j)
            back s t launch = by s t (ended launch)

        by_nothing : passes j.kind ≡ false → (rise : Bool) (s t : ℕ) → ¬ Comes rise net s t
        by_nothing none rise s t launch = by (ended launch)
          where
            by : Ends s rise t (Some k) (Some j) → ⊥
            by (At_storage own kept same) = cc
            by (At_gate from place ago b launch_ makes_it same) = let yes = (and_parts (passes j.kind) _ makes_it).0 in cc

      by_driver : ((from : ℕ) → leads c from net ≡ true → AreEdges c looped ws from (edges from)) → AreEdges c looped ws net (made_by c ws edges (Some k) (Some j))
      by_driver before = by (is_storage j.kind) refl
        where
          here : (from : ℕ) → passes_on from (Some j) ≡ true → AreEdges c looped ws from (edges from)
          here from is = before from (ap (passes_on from) at ∙ is)

          passing : (b : Bool) → is_storage j.kind ≡ false → passes j.kind ≡ b →
              AreEdges c looped ws net (cond b (both_edges (passed c (keeps_mark c ws j) ws edges j)) no_edges)
          passing true unkept gate = record { rises = by_gate unkept gate here true; falls = by_gate unkept gate here false }
          passing false unkept none = record { rises = by_nothing unkept none true; falls = by_nothing unkept none false }

          by : (b : Bool) → is_storage j.kind ≡ b → AreEdges c looped ws net
              (cond b (both_edges (λ rise. Some (record { ticks = j.delay.max; storage = k })))
              (cond (passes j.kind) (both_edges (passed c (keeps_mark c ws j) ws edges j)) no_edges))
          by true kept = record { rises = stored kept true; falls = stored kept false }
          by false unkept = passing (passes j.kind) unkept refl

    undriven : (k : Option ℕ) (j : Option Instance) → driver_at c.nets net ≡ k → driver c net ≡ j → (k ≡ None) ⊎ (j ≡ None) → AreEdges c looped ws net no_edges
    undriven k j driven at none = record { rises = λ s t launch. no launch; falls = λ s t launch. no launch }
      where
        by : (s t : ℕ) (rise : Bool) → Ends s rise t (driver_at c.nets net) (driver c net) → ⊥
        by s t rise (At_storage own kept same) = elim none [
          | inl no_number ↦ (let wrong : None ≡ Some s = sym no_number ∙ sym driven ∙ own in cc)
          | inr no_instance ↦ (let wrong : is_kept None ≡ true = sym (ap is_kept (at ∙ no_instance)) ∙ kept in cc)
        ]
        by s t rise (At_gate from place ago b launch makes_it same) = elim none [
          | inl no_number ↦
              let none_there : driver c net ≡ None = ap (instance_in c) (driven ∙ no_number) in
              let wrong : makes_of c ws from b rise place None ≡ true = sym (ap (makes_of c ws from b rise place) none_there) ∙ makes_it in cc
          | inr no_instance ↦
              let wrong : makes_of c ws from b rise place None ≡ true = sym (ap (makes_of c ws from b rise place) (at ∙ no_instance)) ∙ makes_it in cc
        ]

        no : {s t : ℕ} {rise : Bool} → Launches c looped ws s rise net t → ⊥
        no {s} {t} {rise} launch = by s t rise (ends_so launch)

    made_passable : ((from : ℕ) → leads c from net ≡ true → AreEdges c looped ws from (edges from)) →
        AreEdges c looped ws net (made_by c ws edges (driver_at c.nets net) (driver c net))
    made_passable before = by (driver_at c.nets net) refl (driver c net) refl
      where
        by : (k : Option ℕ) → driver_at c.nets net ≡ k → (j : Option Instance) → driver c net ≡ j → AreEdges c looped ws net (made_by c ws edges k j)
        by None driven j at = undriven None j driven at (inl refl)
        by (Some k) driven None at = undriven (Some k) None driven at (inr refl)
        by (Some k) driven (Some j) at = by_driver k j driven at before

  -- What is made of what is known of the nets before is what is true of the net.
  pub made_is : (net : ℕ) → ((from : ℕ) → leads c from net ≡ true → AreEdges c looped ws from (edges from)) → AreEdges c looped ws net (made_at c looped ws edges net)
  made_is net before = by (is_passable c looped ws net) refl
    where
      by : (b : Bool) → is_passable c looped ws net ≡ b → AreEdges c looped ws net (cond b (made_by c ws edges (driver_at c.nets net) (driver c net)) no_edges)
      by true passable = made_passable net passable before
      by false shut = shut_net net shut
