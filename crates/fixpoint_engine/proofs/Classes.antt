-- Nets of one class have one wave in every round, and are due in the same rounds.
use Rattle.std.proofs.Common.{◌≡◌, ℕ, zero, suc, ◌+◌, ◌<◌, ◌≤◌, inl, inr, Bool, not, ◌&&◌, ◌||◌, cond, List, [], ◌∷◌, length, map, All, Option, Some, None, slice_get, if◌then◌else◌, nat_lt, refl, sym, ap, subst, ◌∙◌, arith}
use Rattle.std.specs.List.{AllZip, prefix_len}
use Rattle.std.proofs.lemmas.List.Elements.{All-head, All-tail}
use Rattle.std.proofs.lemmas.Option.{slice_get_cases}
use Rattle.vector_names.specs.declared.bits.Target.{Target}
use Rattle.vector_names.specs.declared.bits.Target.TheVariants.{Net as OnNet, Constant}
use Rattle.step_values.specs.declared.value.Value.{Value}
use Rattle.step_values.specs.Cell.{values}
use Rattle.skew_algebra.specs.Wave.{Wave, normal}
use Rattle.flat_circuit.specs.declared.case.CaseValue.{CaseValue}
use Rattle.flat_circuit.specs.declared.instance.Pin.{Pin}
use Rattle.flat_circuit.specs.declared.instance.Instance.{Instance}
use Rattle.element_kinds.specs.declared.kind.Kind.{Kind}
use Rattle.flat_circuit.specs.declared.net.Net.{Net}
use Rattle.element_kinds.specs.Kinds.{listens}
use Rattle.flat_circuit.specs.Instances.{PinExists, TargetExists}
use Rattle.flat_circuit.specs.Circuit.{Circuit, IsCircuit, wire_in, wire_at, driver_in, driver_at, instance_in, driver}
use Rattle.pin_waves.specs.Interface.{constant_wave}
use Rattle.pin_waves.specs.Pin.{pin_wave as wave_behind}
use Rattle.flat_circuit.specs.Alike.{class_of, TargetsAlike, PinsAlike, InstancesAlike, DriversAlike, instance_of}
use Rattle.flat_circuit.specs.Stable.{IsStable}
use Rattle.fixpoint_engine.specs.Same.{same_wave}
use Rattle.fixpoint_engine.specs.Waves.{Waves, target_wave, target_wire, pin_wave, marked_pin}
use Rattle.flat_circuit.proofs.Numbered.{fits_of}
use Rattle.fixpoint_engine.specs.Value.{made_by, turned_wave, instance_wave}
use Rattle.fixpoint_engine.specs.Rounds.{wave_from, evaluated, next, round}
use Rattle.fixpoint_engine.specs.Work.{differs, is_on_any, hears_from, hears_in, is_due}
use Rattle.fixpoint_engine.specs.Classes.{HaveOneWave, AreTogether, GoTogether}
use Rattle.fixpoint_engine.proofs.Drivers.{driver_fits}

-- marks at the same places
marks_same : (k : List ℕ) (ps qs : List Pin) → AllZip (PinsAlike k) ps qs → prefix_len (λ (p : Pin). not p.hold) ps ≡ prefix_len (λ (p : Pin). not p.hold) qs
marks_same k [] [] h = refl
marks_same k [] (q ∷ qs) h = absurd h
marks_same k (p ∷ ps) [] h = absurd h
marks_same k (p ∷ ps) (q ∷ qs) h = let rest = marks_same k ps qs h.1 in let mark = h.0.mark in λ i. cond (not (mark i)) (1 + rest i) 0

long_same : (k : List ℕ) (ps qs : List Pin) → AllZip (PinsAlike k) ps qs → length ps ≡ length qs
long_same k [] [] h = refl
long_same k [] (q ∷ qs) h = absurd h
long_same k (p ∷ ps) [] h = absurd h
long_same k (p ∷ ps) (q ∷ qs) h = ap suc (long_same k ps qs h.1)

pub net_of : (c : Circuit) (i : ℕ) → i < length c.nets → (m : Net) × (slice_get c.nets i ≡ Some m)
net_of c i below = elim (slice_get_cases c.nets i).1 [
  | inl found ↦ (found.0, found.2)
  | inr past ↦ absurd (let far : length c.nets ≤ i = past.0 in omega (arith, far, below))
]

instance_is : (c : Circuit) (found : Option ℕ) → instance_in c found ≡ instance_of c found
instance_is c None = refl
instance_is c (Some k) = refl

-- ---- which nets differ, and who listens to them

pub differ_together : (c : Circuit) (k : List ℕ) (ws vs : Waves) → HaveOneWave c k ws → HaveOneWave c k vs → AreTogether c k (differs ws vs)
differ_together c k ws vs one one' i j below below' same =
    let old = one i j below below' same in
    let new = one' i j below below' same in
    λ t. not (same_wave (old t) (new t))

module _ (n : ℕ) (k : List ℕ) (nets : ℕ → Bool) (together : (i j : ℕ) → i < n → j < n → class_of k i ≡ class_of k j → nets i ≡ nets j) where
  targets_together : (a b : Target) → TargetExists n a → TargetExists n b → TargetsAlike k a b → is_on_any nets a ≡ is_on_any nets b
  targets_together (OnNet i) (OnNet j) below below' h = together i j below below' h
  targets_together (OnNet i) (Constant b) below below' h = absurd h
  targets_together (Constant a) (OnNet j) below below' h = absurd h
  targets_together (Constant a) (Constant b) below below' h = refl

  pins_together : (kind : Kind) (place : ℕ) (ps qs : List Pin) → All (PinExists n) ps → All (PinExists n) qs → AllZip (PinsAlike k) ps qs →
      hears_from nets kind place ps ≡ hears_from nets kind place qs
  pins_together kind place [] [] exist exist' h = refl
  pins_together kind place [] (q ∷ qs) exist exist' h = absurd h
  pins_together kind place (p ∷ ps) [] exist exist' h = absurd h
  pins_together kind place (p ∷ ps) (q ∷ qs) exist exist' h =
      let first = targets_together p.target q.target (All-head (PinExists n) p ps exist) (All-head (PinExists n) q qs exist') h.0.target in
      let rest = pins_together kind (place + 1) ps qs (All-tail (PinExists n) p ps exist) (All-tail (PinExists n) q qs exist') h.1 in
      λ i. (listens kind place && first i) || rest i

  drivers_together : (a b : Option Instance) → ((j : Instance) → a ≡ Some j → All (PinExists n) j.pins) → ((j : Instance) → b ≡ Some j → All (PinExists n) j.pins) →
      DriversAlike k a b → hears_in nets a ≡ hears_in nets b
  drivers_together None None exist exist' h = refl
  drivers_together None (Some b) exist exist' h = absurd h
  drivers_together (Some a) None exist exist' h = absurd h
  drivers_together (Some a) (Some b) exist exist' h =
      let kind = h.kind in
      (λ i. hears_from nets (kind i) 0 a.pins) ∙ pins_together b.kind 0 a.pins b.pins (exist a refl) (exist' b refl) h.pins

-- ---- stable classes

module _ (c : Circuit) (cases : List (List CaseValue)) (k : List ℕ) (known : IsCircuit c) (stable : IsStable c cases k) where
  pub drivers_alike : (i j : ℕ) → i < length c.nets → j < length c.nets → class_of k i ≡ class_of k j → DriversAlike k (driver c i) (driver c j)
  drivers_alike i j below below' same =
      let m = net_of c i below in
      let n = net_of c j below' in
      let is_m : driver c i ≡ instance_of c m.0.driver = ap (λ (o : Option Net). instance_in c (driver_in o)) m.1 ∙ instance_is c m.0.driver in
      let is_n : driver c j ≡ instance_of c n.0.driver = ap (λ (o : Option Net). instance_in c (driver_in o)) n.1 ∙ instance_is c n.0.driver in
      subst (λ (a : Option Instance). DriversAlike k a (driver c j)) (sym is_m)
      (subst (DriversAlike k (instance_of c m.0.driver)) (sym is_n) (stable i j same m.0 n.0 m.1 n.1).drivers)

  wires_same : (i j : ℕ) → i < length c.nets → j < length c.nets → class_of k i ≡ class_of k j → wire_at c.nets i ≡ wire_at c.nets j
  wires_same i j below below' same =
      let m = net_of c i below in
      let n = net_of c j below' in
      ap wire_in m.1 ∙ (stable i j same m.0 n.0 m.1 n.1).wire ∙ sym (ap wire_in n.1)

  module _ (ws : Waves) (one : HaveOneWave c k ws) where
    target_waves : (a b : Target) → TargetExists (length c.nets) a → TargetExists (length c.nets) b → TargetsAlike k a b → target_wave c.header ws a ≡ target_wave c.header ws b
    target_waves (OnNet i) (OnNet j) below below' h = one i j below below' h
    target_waves (OnNet i) (Constant b) below below' h = absurd h
    target_waves (Constant a) (OnNet j) below below' h = absurd h
    target_waves (Constant a) (Constant b) below below' h = ap (constant_wave c.header) h

    target_wires : (a b : Target) → TargetExists (length c.nets) a → TargetExists (length c.nets) b → TargetsAlike k a b → target_wire c.nets a ≡ target_wire c.nets b
    target_wires (OnNet i) (OnNet j) below below' h = wires_same i j below below' h
    target_wires (OnNet i) (Constant b) below below' h = absurd h
    target_wires (Constant a) (OnNet j) below below' h = absurd h
    target_wires (Constant a) (Constant b) below below' h = refl

    pin_same : (p q : Pin) → PinExists (length c.nets) p → PinExists (length c.nets) q → PinsAlike k p q → pin_wave c ws p ≡ pin_wave c ws q
    pin_same p q exists exists' h =
        let wave = target_waves p.target q.target exists exists' h.target in
        let wire = target_wires p.target q.target exists exists' h.target in
        let complement = h.complement in
        λ i. wave_behind (wave i) (wire i) (complement i)

    pins_same : (ps qs : List Pin) → All (PinExists (length c.nets)) ps → All (PinExists (length c.nets)) qs → AllZip (PinsAlike k) ps qs →
        map (pin_wave c ws) ps ≡ map (pin_wave c ws) qs
    pins_same [] [] exist exist' h = refl
    pins_same [] (q ∷ qs) exist exist' h = absurd h
    pins_same (p ∷ ps) [] exist exist' h = absurd h
    pins_same (p ∷ ps) (q ∷ qs) exist exist' h =
        let first = pin_same p q (All-head (PinExists (length c.nets)) p ps exist) (All-head (PinExists (length c.nets)) q qs exist') h.0 in
        let rest = pins_same ps qs (All-tail (PinExists (length c.nets)) p ps exist) (All-tail (PinExists (length c.nets)) q qs exist') h.1 in
        λ i. first i ∷ rest i

    marked_same : (a b : Instance) → InstancesAlike k a b → marked_pin a ≡ marked_pin b
    marked_same a b h =
        let mark = marks_same k a.pins b.pins h.pins in
        let long = long_same k a.pins b.pins h.pins in
        λ i. cond (nat_lt (mark i) (long i)) (Some (mark i)) None

    instances_same : (a b : Instance) → All (PinExists (length c.nets)) a.pins → All (PinExists (length c.nets)) b.pins → InstancesAlike k a b →
        instance_wave c ws a ≡ instance_wave c ws b
    unfolding instance_wave
    instances_same a b exist exist' h =
        let kind = h.kind in
        let delay = h.delay in
        let split = h.split in
        let complement = h.complement in
        let pins = pins_same a.pins b.pins exist exist' h.pins in
        let marked = marked_same a b h in
        λ i. normal values (turned_wave (complement i) (made_by (kind i) (pins i) (marked i) (delay i) (split i)))

    from_same : (x y : Option ℕ) (v w : Wave Value) → v ≡ w → DriversAlike k (instance_of c x) (instance_of c y) →
        wave_from c ws (instance_in c x) v ≡ wave_from c ws (instance_in c y) w
    from_same None None v w old h = old
    from_same None (Some b) v w old h = go (slice_get c.instances b) h
      where
        go : (found : Option Instance) → DriversAlike k None found → v ≡ wave_from c ws found w
        go None h = old
        go (Some b) h = absurd h
    from_same (Some a) None v w old h = go (slice_get c.instances a) h
      where
        go : (found : Option Instance) → DriversAlike k found None → wave_from c ws found v ≡ w
        go None h = old
        go (Some a) h = absurd h
    from_same (Some a) (Some b) v w old h = go (slice_get c.instances a) (slice_get c.instances b) refl refl h
      where
        go : (x y : Option Instance) → slice_get c.instances a ≡ x → slice_get c.instances b ≡ y → DriversAlike k x y → wave_from c ws x v ≡ wave_from c ws y w
        go None None is_x is_y h = old
        go None (Some j) is_x is_y h = absurd h
        go (Some i) None is_x is_y h = absurd h
        go (Some i) (Some j) is_x is_y h = instances_same i j (fits_of c a i known is_x).exists.reads (fits_of c b j known is_y).exists.reads h

    evaluated_same : (i j : ℕ) → i < length c.nets → j < length c.nets → class_of k i ≡ class_of k j → evaluated c ws i ≡ evaluated c ws j
    evaluated_same i j below below' same =
        let m = net_of c i below in
        let n = net_of c j below' in
        let driven : driver_at c.nets i ≡ m.0.driver = ap driver_in m.1 in
        let driven' : driver_at c.nets j ≡ n.0.driver = ap driver_in n.1 in
        ap (λ (o : Option ℕ). wave_from c ws (instance_in c o) (ws i)) driven
        ∙ from_same m.0.driver n.0.driver (ws i) (ws j) (one i j below below' same) (stable i j same m.0 n.0 m.1 n.1).drivers
        ∙ sym (ap (λ (o : Option ℕ). wave_from c ws (instance_in c o) (ws j)) driven')

  -- ---- rounds

  next_same : (active : ℕ → Bool) (ws : Waves) → AreTogether c k active → HaveOneWave c k ws → HaveOneWave c k (next c active ws)
  unfolding next
  next_same active ws together one i j below below' same =
      let is = together i j below below' same in
      let made = evaluated_same ws one i j below below' same in
      let old = one i j below below' same in
      λ t. if is t then made t else old t

  pub rounds_same : (active : ℕ → Bool) (start : Waves) → AreTogether c k active → HaveOneWave c k start → (r : ℕ) → HaveOneWave c k (round c active start r)
  unfolding round
  rounds_same active start together one zero i j below below' same = one i j below below' same
  rounds_same active start together one (suc r) i j below below' same =
      next_same active (round c active start r) together (rounds_same active start together one r) i j below below' same

  -- who is due in them

  hear_together : (nets : ℕ → Bool) → AreTogether c k nets → AreTogether c k (λ i. hears_in nets (driver c i))
  hear_together nets together i j below below' same =
      drivers_together (length c.nets) k nets together (driver c i) (driver c j) (λ d at. (driver_fits c i d known at).exists.reads) (λ d at. (driver_fits c j d known at).exists.reads)
      (drivers_alike i j below below' same)

  due_together : (active : ℕ → Bool) (start : Waves) → AreTogether c k active → HaveOneWave c k start → (r : ℕ) → AreTogether c k (is_due c active (round c active start) r)
  unfolding is_due
  due_together active start together one zero i j below below' same = refl
  due_together active start together one (suc zero) i j below below' same = together i j below below' same
  due_together active start together one (suc (suc r)) i j below below' same =
      let is = together i j below below' same in
      let changed =
      differ_together c k (round c active start r) (round c active start (suc r)) (rounds_same active start together one r) (rounds_same active start together one (suc r)) in
      let hear = hear_together (differs (round c active start r) (round c active start (suc r))) changed i j below below' same in
      λ t. is t && hear t

  pub go_together : (active : ℕ → Bool) (start : Waves) → AreTogether c k active → HaveOneWave c k start → GoTogether c k active (round c active start)
  go_together active start together one = record { waves = rounds_same active start together one; due = due_together active start together one }
