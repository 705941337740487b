-- Places behind pins, to which ways have one element less.
use Rattle.std.proofs.Common.{◌≡◌, ℕ, zero, suc, ◌+◌, ◌<◌, ◌≤◌, Bool, true, false, cond, List, [], length, map, refl, sym, ap, subst, ◌∙◌, arith, Option, Some, None}
use Rattle.std.specs.Prelude.{IfSome, is_some, slice_get}
use Rattle.std.specs.List.{All, range_with_len}
use Rattle.std.specs.Option.{option_map}
use Rattle.std.proofs.lemmas.Option.{same_Some, slice_get_within}
use Rattle.vector_names.specs.declared.bits.Target.{Target}
use Rattle.vector_names.specs.declared.bits.Target.TheVariants.{Net as OnNet, Constant}
use Rattle.element_kinds.specs.Kinds.{listens}
use Rattle.flat_circuit.specs.declared.instance.Pin.{Pin}
use Rattle.flat_circuit.specs.declared.instance.Instance.{Instance}
use Rattle.flat_circuit.specs.Circuit.{Circuit, IsCircuit, driver, driver_at, instance_in}
use Rattle.fixpoint_engine.specs.Waves.{Waves}
use Rattle.critical_paths.specs.declared.direction.Direction.{Direction}
use Rattle.critical_paths.specs.declared.arrival.Place.{Place}
use Rattle.critical_paths.specs.declared.path.Passage.{Passage}
use Rattle.critical_paths.specs.Event.{turned}
use Rattle.critical_paths.specs.Views.{IsPin}
use Rattle.critical_paths.specs.Arrival.{Arrival, all_of, arrivals_by, arrivals_within, events_among, furthest, joined, pin_direction, through_pin, through_pins, through_target}
use Rattle.critical_paths.specs.Reached.{IsBehind, IsFew, behind_at, behind_net, behind_pin, ends_within}
use Rattle.critical_paths.proofs.Arrivals.{within_more}
use Rattle.critical_paths.proofs.Pins.{pin_found, pins_exist}

-- ---- what all have, each has

some_mapped : {A B : Type 0} (f : A → B) (o : Option A) → is_some (option_map f o) ≡ true →
    is_some o ≡ true
some_mapped f None some = some
some_mapped f (Some x) some = refl

joined_first : (a b : Option (List Arrival)) → is_some (joined a b) ≡ true → is_some a ≡ true
joined_first None b some = some
joined_first (Some x) b some = refl

joined_rest : (a b : Option (List Arrival)) → is_some (joined a b) ≡ true → is_some b ≡ true
joined_rest None b some = absurd (cc)
joined_rest (Some x) None some = some
joined_rest (Some x) (Some y) some = refl

each_some : (f : ℕ → Option (List Arrival)) (n from i k : ℕ) → k ≡ from + i →
    is_some (all_of (map f (range_with_len from n))) ≡ true → i < n → is_some (f k) ≡ true
each_some f zero from i k at some less = absurd (omega (arith, less))
each_some f (suc n) from zero k at some less =
    subst (λ (m : ℕ). is_some (f m) ≡ true) (let e : from ≡ k = omega (arith, at) in e)
    (joined_first (f from) (all_of (map f (range_with_len (from + 1) n))) some)
each_some f (suc n) from (suc i) k at some less =
    each_some f n (from + 1) i k (omega (arith, at))
    (joined_rest (f from) (all_of (map f (range_with_len (from + 1) n))) some)
    (omega (arith, less))

-- it is one of the element's pins
pub pin_within : (c : Circuit) (q : Place) (behind : Place × Passage) (b : IsBehind c q behind) →
    b.pin < length b.element.pins
pin_within c q behind b = by (slice_get b.element.pins b.pin) refl b.at
  where
    by : (o : Option Pin) → slice_get b.element.pins b.pin ≡ o →
        behind_pin c b.element q b.pin o ≡ Some behind → b.pin < length b.element.pins
    by None at is = absurd (cc)
    by (Some pin) at is = slice_get_within b.element.pins b.pin pin at

-- what is found behind a pin
pub behind_some : (c : Circuit) (j : Instance) (q : Place) (i : ℕ) (o : Option (Place × Passage)) →
    driver c q.net ≡ Some j → o ≡ behind_at c j q i → IfSome o (IsBehind c q)
behind_some c j q i None driven is = tt
behind_some c j q i (Some behind) driven is =
    record { element = j; pin = i; driven = driven; at = sym is }

module _ (c : Circuit) (ws : Waves) where
  pub ends_more : (more most : ℕ) (q : Place) → ends_within c ws most q ≡ true →
      ends_within c ws (more + most) q ≡ true
  ends_more more most q ends =
      by (arrivals_within c ws q.corner most q.direction q.net) refl ends
    where
      by : (o : Option (List Arrival)) → arrivals_within c ws q.corner most q.direction q.net ≡ o →
          is_some o ≡ true → ends_within c ws (more + most) q ≡ true
      by None is some = absurd (cc)
      by (Some x) is some =
          ap (λ (o : Option (List Arrival)). is_some o)
          (within_more c ws q.corner more most q.direction q.net x is)

  -- ---- one element back

  module _ (q : Place) (behind : Place × Passage) (b : IsBehind c q behind) where
    abbrev own : Direction
    own = turned b.element.out_inverted q.direction

    abbrev own_pin : Direction
    own_pin = pin_direction b.element.kind b.pin own

    -- of a pin on a net
    on_target : (P : Place → Type 0) (pin : Pin) (t : Target) →
        ((net : ℕ) → t ≡ OnNet net → P (record {
          clock = q.clock;
          net = net;
          direction = turned pin.inverted own_pin;
          corner = q.corner;
        })) → behind_net c b.element q b.pin pin t ≡ Some behind → P behind.0
    on_target P pin (OnNet net) then is =
        subst (λ (x : Place × Passage). P x.0) (same_Some _ behind is) (then net refl)
    on_target P pin (Constant bit) then is = absurd (cc)

    on_heard : (P : Place → Type 0) (pin : Pin) (heard : Bool) → listens b.element.kind b.pin ≡ heard →
        ((net : ℕ) → listens b.element.kind b.pin ≡ true → pin.target ≡ OnNet net → P (record {
          clock = q.clock;
          net = net;
          direction = turned pin.inverted own_pin;
          corner = q.corner;
        })) → cond heard (behind_net c b.element q b.pin pin pin.target) None ≡ Some behind →
        P behind.0
    on_heard P pin true hears then is = on_target P pin pin.target (λ net. then net hears) is
    on_heard P pin false hears then is = absurd (cc)

    on_pin : (P : Place → Type 0) (o : Option Pin) → slice_get b.element.pins b.pin ≡ o →
        ((pin : Pin) (net : ℕ) → slice_get b.element.pins b.pin ≡ Some pin →
        listens b.element.kind b.pin ≡ true → pin.target ≡ OnNet net → P (record {
          clock = q.clock;
          net = net;
          direction = turned pin.inverted own_pin;
          corner = q.corner;
        })) → behind_pin c b.element q b.pin o ≡ Some behind → P behind.0
    on_pin P None at then is = absurd (cc)
    on_pin P (Some pin) at then is =
        on_heard P pin (listens b.element.kind b.pin) refl (λ net hears on. then pin net at hears on)
        is

    abbrev at : ℕ → Direction → ℕ → Option (List Arrival)
    at most d m = arrivals_within c ws q.corner most d m

    pub ends_behind : (most : ℕ) → ends_within c ws (suc most) q ≡ true →
        ends_within c ws most behind.0 ≡ true
    ends_behind most ends = on_pin (λ (p : Place). ends_within c ws most p ≡ true)
        (slice_get b.element.pins b.pin) refl one b.at
      where
        through : is_some (through_pins c q.corner b.element own (at most)) ≡ true
        through = some_mapped
            (λ found. furthest q.corner (events_among c ws q.direction q.net found))
            (through_pins c q.corner b.element own (at most))
            (sym (ap (λ (o : Option Instance).
            is_some (arrivals_by c ws q.corner q.direction q.net (at most) o)) b.driven) ∙ ends)

        pinned : is_some (through_pin c q.corner b.element own (at most) b.pin
            (slice_get b.element.pins b.pin)) ≡ true
        pinned = each_some
            (λ i. through_pin c q.corner b.element own (at most) i (slice_get b.element.pins i))
            (length b.element.pins) 0 b.pin b.pin (omega arith) through
            (pin_within c q behind b)

        one : (pin : Pin) (net : ℕ) → slice_get b.element.pins b.pin ≡ Some pin →
            listens b.element.kind b.pin ≡ true → pin.target ≡ OnNet net →
            is_some (at most (turned pin.inverted own_pin) net) ≡ true
        one pin net here hears on =
            some_mapped _ (at most (turned pin.inverted own_pin) net)
            (sym (ap (λ (o : Option Pin). is_some (through_pin c q.corner b.element own (at most) b.pin o))
            here
            ∙ (λ i. is_some (cond (hears i)
            (through_target c q.corner b.element own own_pin pin.inverted (on i) (at most)) (Some []))))
            ∙ pinned)

    net_behind : IsCircuit c → behind.0.net < length c.nets
    net_behind is = on_pin (λ (p : Place). p.net < length c.nets)
        (slice_get b.element.pins b.pin) refl
        (λ pin net here hears on. exists pin net here on) b.at
      where
        pins : (o : Option ℕ) → instance_in c o ≡ Some b.element → All (IsPin c) b.element.pins
        pins None at = absurd (cc)
        pins (Some k) at = pins_exist c k b.element is at

        exists : (pin : Pin) (net : ℕ) → slice_get b.element.pins b.pin ≡ Some pin →
            pin.target ≡ OnNet net → net < length c.nets
        exists pin net here on =
            pin_found c b.element.pins b.pin pin (pins (driver_at c.nets q.net) b.driven) here net on

    pub few_behind : IsCircuit c → IsFew c ws q → IsFew c ws behind.0
    few_behind is few = by few.most few.few few.ends
      where
        by : (most : ℕ) → most ≤ 65537 → ends_within c ws most q ≡ true → IsFew c ws behind.0
        by zero less ends = absurd (cc)
        by (suc most) less ends = record {
          net = net_behind is;
          most = most;
          few = omega (arith, less);
          ends = ends_behind most ends;
        }
