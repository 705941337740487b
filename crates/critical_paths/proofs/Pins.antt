-- The pins of an instance, and the one that counts alone.
use Rattle.std.proofs.Common.{◌≡◌, ℕ, ◌<◌, ◌≤◌, Bool, true, cond, List, [], ◌∷◌, length, map, refl, sym, ap, subst, ◌∙◌, arith, Option, Some, None}
use Rattle.std.specs.Prelude.{is_some, slice_get}
use Rattle.std.specs.List.{All}
use Rattle.std.proofs.lemmas.List.Elements.{All-nil, All-cons, All-get_or, All-head, All-tail}
use Rattle.std.proofs.lemmas.Option.{get_or_from_slice_get, slice_get_within}
use Rattle.vector_names.specs.declared.bits.Target.{Target}
use Rattle.vector_names.specs.declared.bits.Target.TheVariants.{Net as OnNet, Constant}
use Rattle.element_kinds.specs.declared.kind.Kind.{Kind}
use Rattle.element_kinds.specs.declared.kind.Kind.TheVariants.{Buf, And, Or, Xor, Mux2, Mux4, Mux8, Chg, Reg, RegRs, Latch, LatchRs, SetupHold, RiseFall, MinPulse}
use Rattle.element_kinds.specs.Kinds.{closes_of}
use Rattle.flat_circuit.specs.declared.instance.Instance.{Instance}
use Rattle.flat_circuit.specs.declared.instance.Pin.{Pin}
use Rattle.flat_circuit.specs.Circuit.{Circuit, IsCircuit}
use Rattle.flat_circuit.specs.Instances.{InstanceFits, PinExists, TargetExists}
use Rattle.flat_circuit.specs.Kind.{pin_counts}
use Rattle.gate_eval.specs.Hold.{hazard}
use Rattle.gate_eval.specs.Instance.{MarkFits, MarkIsAt}
use Rattle.gate_eval.proofs.Chosen.{mark_fits}
use Rattle.fixpoint_engine.specs.Waves.{Waves, marked_pin, pin_wave, pin_waves}
use Rattle.critical_paths.specs.Cause.{held_of, held_pin}
use Rattle.critical_paths.specs.declared.event.Reading.{Reading}
use Rattle.step_values.specs.declared.value.Value.{Value}
use Rattle.std.proofs.lemmas.List.{length-map}
use Rattle.critical_paths.specs.Views.{IsPin, MayHold, pins_shown, shown}

pub fits_at : (c : Circuit) (k : ℕ) (j : Instance) → IsCircuit c →
    slice_get c.instances k ≡ Some j → InstanceFits c.header (length c.nets) j
fits_at c k j known at =
    subst (InstanceFits c.header (length c.nets)) (get_or_from_slice_get c.instances k j j at)
    (All-get_or (InstanceFits c.header (length c.nets)) c.instances k j
    (slice_get_within c.instances k j at) known.each)

exists_on : (n i : ℕ) (target : Target) → target ≡ OnNet i → TargetExists n target → i < n
exists_on n i target is exists = subst (TargetExists n) is exists

all_pins : (c : Circuit) (pins : List Pin) → All (PinExists (length c.nets)) pins →
    All (IsPin c) pins
all_pins c [] all = All-nil (IsPin c)
all_pins c (p ∷ pins) all =
    All-cons (IsPin c) p pins (λ i is. exists_on (length c.nets) i p.target is
    (All-head (PinExists (length c.nets)) p pins all))
    (all_pins c pins (All-tail (PinExists (length c.nets)) p pins all))

pub pins_exist : (c : Circuit) (k : ℕ) (j : Instance) → IsCircuit c →
    slice_get c.instances k ≡ Some j → All (IsPin c) j.pins
pins_exist c k j known at = all_pins c j.pins (fits_at c k j known at).exists.reads

pub pin_found : (c : Circuit) (pins : List Pin) (i : ℕ) (pin : Pin) → All (IsPin c) pins →
    slice_get pins i ≡ Some pin → IsPin c pin
pin_found c pins i pin all is =
    subst (IsPin c) (get_or_from_slice_get pins i pin pin is)
    (All-get_or (IsPin c) pins i pin (slice_get_within pins i pin is) all)

-- a pin is marked only of a kind that may have one
may_mark : (kind : Kind) (pins : ℕ) (mark : Option ℕ) → MarkFits kind mark pins → MayHold mark kind
may_mark kind pins None fits = tt
may_mark kind pins (Some marked) fits = by (closes_of kind) fits
  where
    by : (closes : Option Bool) → MarkIsAt closes marked pins → is_some closes ≡ true
    by None h = absurd h
    by (Some bit) h = refl

held_may : (kind : Kind) (mark : Option ℕ) (found : Option (ℕ × ℕ)) → MayHold mark kind →
    MayHold (held_of mark found) kind
held_may kind None found may = tt
held_may kind (Some marked) None may = may
held_may kind (Some marked) (Some at) may = tt

pub may_hold : (c : Circuit) (ws : Waves) (k : ℕ) (j : Instance) → IsCircuit c →
    slice_get c.instances k ≡ Some j → MayHold (held_pin c ws j) j.kind
may_hold c ws k j known at =
    held_may j.kind (marked_pin j) (hazard j.kind (pin_waves c ws j) (marked_pin j))
    (may_mark j.kind (length j.pins) (marked_pin j)
    (mark_fits j.kind (λ (p : Pin). p.hold) j.pins (fits_at c k j known at).pins.marks))

pub held_by : (found : Option (ℕ × ℕ)) (mark : Option ℕ) (marked : ℕ) (b : Bool) →
    mark ≡ Some marked → b ≡ is_some found →
    cond b None (Some marked) ≡ held_of mark found
held_by None mark marked b is e = ap (λ (x : Bool). cond x None (Some marked)) e
    ∙ ap (λ m. held_of m None) (sym is)
held_by (Some at) mark marked b is e = ap (λ (x : Bool). cond x None (Some marked)) e
    ∙ ap (λ m. held_of m (Some at)) (sym is)

pub is_marked : {found mark : Option ℕ} {marked : ℕ} → found ≡ mark → found ≡ Some marked →
    mark ≡ Some marked
is_marked e is = sym e ∙ is

-- what is behind a pin of the circuit
pub target_exists : (c : Circuit) (pin : Pin) → IsPin c pin →
    TargetExists (length c.nets) pin.target
target_exists c pin is = by pin.target is
  where
    by : (target : Target) → ((i : ℕ) → target ≡ OnNet i → i < length c.nets) →
        TargetExists (length c.nets) target
    by (OnNet i) on = on i refl
    by (Constant one) on = tt

-- ---- how many there are

pub long_shown : (c : Circuit) (ws : Waves) (pins : List Pin) (reading : Reading) (p : ℕ)
    (found : List Value) →
    found ≡ pins_shown c ws pins reading p → length found ≡ length pins
long_shown c ws pins reading p found is =
    ap length is ∙ length-map (map (pin_wave c ws) pins) (λ w. shown reading w p)
    ∙ length-map pins (pin_wave c ws)

pub few_counts : (kind : Kind) → (pin_counts kind).1 ≤ 4096
few_counts Buf = omega arith
few_counts And = omega arith
few_counts Or = omega arith
few_counts Xor = omega arith
few_counts Mux2 = omega arith
few_counts Mux4 = omega arith
few_counts Mux8 = omega arith
few_counts Chg = omega arith
few_counts Reg = omega arith
few_counts RegRs = omega arith
few_counts Latch = omega arith
few_counts LatchRs = omega arith
few_counts SetupHold = omega arith
few_counts RiseFall = omega arith
few_counts MinPulse = omega arith

pub few_pins : (c : Circuit) (k : ℕ) (j : Instance) → IsCircuit c →
    slice_get c.instances k ≡ Some j → length j.pins ≤ 4096
few_pins c k j known at =
    let most : length j.pins ≤ (pin_counts j.kind).1 = (fits_at c k j known at).pins.most in
    let few : (pin_counts j.kind).1 ≤ 4096 = few_counts j.kind in
    omega (arith, most, few)
