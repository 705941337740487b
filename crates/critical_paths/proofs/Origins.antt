-- What an event comes from, by the instance that drives its net.
use Rattle.std.proofs.Common.{◌≡◌, ℕ, ◌<◌, Bool, true, false, cond, refl, sym, ap, subst, ◌∙◌, arith, length, slice_get, Option, Some, None, ℤ, pos}
use Rattle.std.specs.Option.{option_map}
use Rattle.std.proofs.lemmas.Option.{slice_get_within, get_or_from_slice_get}
use Rattle.scald_base.specs.Time.{Bounds, period}
use Rattle.scald_base.proofs.Back.{mod_small}
use Rattle.element_kinds.specs.declared.kind.Kind.{Kind}
use Rattle.element_kinds.specs.Kinds.{may_split}
use Rattle.flat_circuit.specs.declared.instance.Instance.{Instance}
use Rattle.flat_circuit.specs.declared.split.Split.{Split}
use Rattle.flat_circuit.specs.Circuit.{Circuit, IsCircuit, driver, driver_at, instance_in}
use Rattle.flat_circuit.specs.Instances.{InstanceFits}
use Rattle.flat_circuit.specs.Split.{SplitFits, two_delays}
use Rattle.fixpoint_engine.specs.Waves.{Waves}
use Rattle.critical_paths.specs.declared.direction.Direction.{Direction}
use Rattle.critical_paths.specs.declared.event.Reading.TheVariants.{Folded, Unfolded}
use Rattle.critical_paths.specs.declared.event.Stop.{Stop}
use Rattle.critical_paths.specs.declared.path.Origin.{Origin}
use Rattle.critical_paths.specs.declared.path.Origin.TheVariants.{Input, Level, Earlier}
use Rattle.critical_paths.specs.declared.back.Back.{Back}
use Rattle.critical_paths.specs.Event.{turned}
use Rattle.critical_paths.specs.Path.{Before, before}
use Rattle.critical_paths.specs.Tick.{slot_of}
use Rattle.critical_paths.specs.Known.{LeadsWithin}
use Rattle.critical_paths.specs.Unfolded.{PulseEnd, Read, by_folds, end_delay, mover, read_by}
use Rattle.critical_paths.specs.Views.{event_of, read_of}
use Rattle.critical_paths.specs.Walk.{origin_by, origin_from, origin_of, read_at, stop_of}
use Rattle.critical_paths.proofs.Edges.{at_slot}
use Rattle.critical_paths.proofs.Staying.{origin_stays}

-- ---- of an instance of a circuit

-- the delays that count are those that stand there
pub split_counts : (kind : Kind) (d : Bounds) (split : Option Split) → SplitFits kind d split →
    two_delays kind split ≡ split
split_counts kind d None fits = either (may_split kind)
  where
    either : (b : Bool) → ◌≡◌ {A = Option Split} (cond b None None) None
    either true = refl
    either false = refl
split_counts kind d (Some s) fits = ap (λ (b : Bool). cond b (Some s) None) fits.0

pub fits_at : (c : Circuit) → IsCircuit c → (k : ℕ) (j : Instance) → slice_get c.instances k
    ≡ Some j →
    InstanceFits c.header (length c.nets) j
fits_at c is k j at =
    subst (InstanceFits c.header (length c.nets)) (get_or_from_slice_get c.instances k j j at)
    (is.each k j (slice_get_within c.instances k j at))

pub own_slot : (p slot : ℕ) (tick : ℤ) → slot < p → tick ≡ pos slot → slot_of p tick ≡ slot
own_slot p slot tick below is =
    at_slot p tick slot (omega (arith, below)) is ∙ mod_small slot p below

module _ (c : Circuit) (ws : Waves) (s : Stop) where
  -- ---- as its reading says

  pub folds_are : (j : Instance) (tick : ℤ) (found : Option Before) →
      found ≡ before c ws s.corner (record {
        net = s.net;
        direction = s.direction;
        slot = slot_of (period c.header) tick;
      }) j →
      s.slot < period c.header → s.reading ≡ Folded → tick ≡ pos s.slot →
      option_map by_folds found ≡ read_at c ws s j s.reading
  folds_are j tick found found_is below folded tick_is =
      ap (option_map by_folds) (found_is
      ∙ ap (λ (q : ℕ). before c ws s.corner (record {
        net = s.net;
        direction = s.direction;
        slot = q;
      }) j)
      (own_slot (period c.header) s.slot tick below tick_is))
      ∙ sym (ap (read_at c ws s j) folded)

  abbrev end_by : Instance → Direction → ℕ → Option Split → PulseEnd
  end_by j own q two =
      record {
        corner = s.corner;
        direction = own;
        slot = q;
        split = two;
        delay = end_delay j.delay own two;
      }

  pub ends_are : (j : Instance) (tick : ℤ) (own : Direction) (found : Option Read) →
      found ≡ read_by c ws j (end_by j own (slot_of (period c.header) tick) j.split)
      (mover c ws j) →
      SplitFits j.kind j.delay j.split → s.slot < period c.header → s.reading ≡ Unfolded →
      own ≡ turned j.out_inverted s.direction → tick ≡ pos s.slot →
      found ≡ read_at c ws s j s.reading
  ends_are j tick own found found_is fits below unfolded own_is tick_is =
      let d = turned j.out_inverted s.direction in
      found_is
      ∙ ap (λ (q : ℕ). read_by c ws j (end_by j own q j.split) (mover c ws j))
      (own_slot (period c.header) s.slot tick below tick_is)
      ∙ ap (λ (o : Direction). read_by c ws j (end_by j o s.slot j.split) (mover c ws j)) own_is
      ∙ sym (ap (λ (two : Option Split). read_by c ws j (end_by j d s.slot two) (mover c ws j))
      (split_counts j.kind j.delay j.split fits))
      ∙ sym (ap (read_at c ws s j) unfolded)

  -- ---- the origin

  pub not_driven : driver c s.net ≡ None → Input ≡ origin_of c ws s
  not_driven none = sym (ap (origin_by c ws s) none)

  module _ (k : ℕ) (j : Instance) (at : driver_at c.nets s.net ≡ Some k)
      (is : slice_get c.instances k ≡ Some j) where
    by_driver : origin_of c ws s ≡ origin_from c s.corner (read_at c ws s j s.reading)
    by_driver =
        ap (λ (o : Option ℕ). origin_by c ws s (instance_in c o)) at ∙ ap (origin_by c ws s) is

    pub from_level : None ≡ read_at c ws s j s.reading → Level ≡ origin_of c ws s
    from_level none = sym (by_driver ∙ sym (ap (origin_from c s.corner) none))

    pub from_earlier : (b : Back) (earlier : Stop) → Some (read_of (period c.header) b)
        ≡ read_at c ws s j s.reading →
        earlier ≡ stop_of c s.corner b.event.reading (event_of (period c.header) b.event) →
        Earlier b.passage earlier ≡ origin_of c ws s
    from_earlier b earlier found earlier_is =
        ap (Earlier b.passage) earlier_is
        ∙ sym (by_driver ∙ sym (ap (origin_from c s.corner) found))

  pub leads : IsCircuit c → s.net < length c.nets → s.slot < period c.header → (o : Origin) →
      o ≡ origin_of c ws s →
      LeadsWithin c s.corner o
  leads is net below o o_is =
      subst (LeadsWithin c s.corner) (sym o_is) (origin_stays c ws (omega (arith, below)) is s net)
