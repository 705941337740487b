-- The path of a pin is that of the event behind it.
use Rattle.std.proofs.Common.{◌≡◌, ℕ, zero, suc, ◌+◌, Bool, true, false, cond, ◌<◌, refl, sym, ap, ◌∙◌, Option, Some, None, ℤ, pos, ◌-ℤ◌}
use Rattle.std.specs.Option.{option_map, option_or}
use Rattle.scald_base.specs.Time.{period}
use Rattle.vector_names.specs.declared.bits.Target.{Target}
use Rattle.vector_names.specs.declared.bits.Target.TheVariants.{Net as OnNet, Constant}
use Rattle.flat_circuit.specs.Circuit.{Circuit, wire_at}
use Rattle.gate_eval.specs.Hold.{first_some}
use Rattle.fixpoint_engine.specs.Waves.{Waves}
use Rattle.critical_paths.specs.declared.direction.Corner.{Corner}
use Rattle.critical_paths.specs.declared.direction.Direction.{Direction}
use Rattle.critical_paths.specs.declared.event.Reading.{Reading}
use Rattle.critical_paths.specs.declared.event.Reading.TheVariants.{Folded}
use Rattle.critical_paths.specs.Event.{turned}
use Rattle.critical_paths.specs.Path.{Path, choices, event_before, is_event}
use Rattle.critical_paths.specs.Tick.{slot_of}
use Rattle.critical_paths.specs.Known.{pin_path_by}
use Rattle.critical_paths.specs.Views.{Hidden, behind, behind_at}
use Rattle.critical_paths.specs.Walk.{PinPath, end_path_of, end_path_on, path_of, path_of_stop, pin_path_at, pin_path_on, stop_of}
use Rattle.critical_paths.proofs.Ticks.{slot_back}

or_mapped : {A B : Type 0} (f : A → B) (o more : Option A) (rest : Option B) →
    rest ≡ option_map f more →
    option_or (option_map f o) rest ≡ option_map f (option_or o more)
or_mapped f None more rest same = same
or_mapped f (Some a) more rest same = refl

first_mapped : {A B : Type 0} (f : A → B) (g : ℕ → Option A) (h : ℕ → Option B) →
    ((k : ℕ) → h k ≡ option_map f (g k)) →
    (n i : ℕ) → first_some h n i ≡ option_map f (first_some g n i)
first_mapped f g h same zero i = refl
first_mapped {A} {B} f g h same (suc n) i =
    ap (λ (o : Option B). option_or o (first_some h n (i + 1))) (same i)
    ∙ or_mapped f (g i) (first_some g n (i + 1)) (first_some h n (i + 1))
    (first_mapped f g h same n (i + 1))

module _ (c : Circuit) (ws : Waves) (corner : Corner) where
  abbrev pub path_behind : Hidden → PinPath
  path_behind h = record { wire = h.wire; path = path_of c ws corner h.event }

  kept : (b : Bool) (h : Hidden) → cond b (Some (path_behind h)) None ≡ option_map path_behind
      (cond b (Some h) None)
  kept true h = refl
  kept false h = refl

  pub pin_path_is : (p : ℕ) (d : Direction) (inverted : Bool) (target : Target) →
      pin_path_on c ws corner p d inverted target ≡ option_map path_behind
      (behind c ws corner p (turned inverted d) target)
  pin_path_is p d inverted (OnNet i) =
      first_mapped path_behind (behind_at c ws corner p (turned inverted d) i)
      (pin_path_at c ws corner p (turned inverted d) i)
      (λ n. kept (is_event c ws (event_before corner (period c.header) p (wire_at c.nets i)
      (turned inverted d) i n)) _)
      (choices (wire_at c.nets i)) 0
  pin_path_is p d inverted (Constant b) = refl

  -- what is behind the pin has the path, by folds and at the pin's own corner
  pub pin_path_found : (q : ℕ) (d : Direction) (inverted : Bool) (target : Target) (h : Hidden)
      (side : Corner) (reading : Reading)
      (noted : Option Path) → Some h ≡ behind c ws corner q (turned inverted d) target →
      side ≡ corner → reading ≡ Folded →
      noted ≡ Some (path_of_stop c ws (stop_of c side reading h.event)) →
      ◌≡◌ {A = Option (Option PinPath)} (Some (pin_path_by h.wire noted))
      (option_map Some (pin_path_on c ws corner q d inverted target))
  pin_path_found q d inverted target h side reading noted is side_is reading_is noted_is =
      ap (λ (o : Option Path). Some (pin_path_by h.wire o)) (noted_is
      ∙ ap (λ (k : Corner). Some (path_of_stop c ws (stop_of c k reading h.event))) side_is
      ∙ ap (λ (r : Reading). Some (path_of_stop c ws (stop_of c corner r h.event))) reading_is)
      ∙ sym (ap (option_map Some) (pin_path_is q d inverted target
      ∙ sym (ap (option_map path_behind) is)))

  pub no_pin_path : (q : ℕ) (d : Direction) (inverted : Bool) (target : Target) →
      None ≡ behind c ws corner q (turned inverted d) target →
      ◌≡◌ {A = Option (Option PinPath)} None
      (option_map Some (pin_path_on c ws corner q d inverted target))
  no_pin_path q d inverted target none =
      sym (ap (option_map Some) (pin_path_is q d inverted target
      ∙ sym (ap (option_map path_behind) none)))

  pub end_path_is : (d own : Direction) (inverted : Bool) (target : Target) (i min : ℕ)
      (tick earlier : ℤ) (noted : Option Path) →
      0 < period c.header → target ≡ OnNet i → own ≡ turned inverted d →
      min ≡ (wire_at c.nets i).min → earlier ≡ tick -ℤ pos min →
      noted ≡ Some (end_path_of c ws corner (record {
        net = i;
        direction = own;
        slot = slot_of (period c.header) earlier;
      })) →
      ◌≡◌ {A = Option (Option PinPath)} (Some (pin_path_by min noted))
      (option_map Some (end_path_on c ws corner (slot_of (period c.header) tick) d inverted target))
  end_path_is d own inverted target i min tick earlier noted some target_is own_is min_is earlier_is
      noted_is =
      let slot_is = ap (slot_of (period c.header)) (earlier_is
      ∙ ap (λ (m : ℕ). tick -ℤ pos m) min_is)
      ∙ slot_back (period c.header) (wire_at c.nets i).min tick some in
      ap (λ (o : Option Path). Some (pin_path_by min o)) noted_is
      ∙ ap (λ (m : ℕ). made m own (slot_of (period c.header) earlier)) min_is
      ∙ ap (λ (o : Direction). made (wire_at c.nets i).min o (slot_of (period c.header) earlier))
      own_is
      ∙ ap (made (wire_at c.nets i).min (turned inverted d)) slot_is
      ∙ sym (ap (λ (t : Target). option_map Some
      (end_path_on c ws corner (slot_of (period c.header) tick) d inverted t)) target_is)
    where
      made : ℕ → Direction → ℕ → Option (Option PinPath)
      made m o s =
          Some (Some (record {
            wire = m;
            path = end_path_of c ws corner (record { net = i; direction = o; slot = s });
          }))
