-- An order of evaluation, taken from the front: each instance reads at once neither itself nor any after it.
use Rattle.std.proofs.Common.{◌≡◌, ℕ, zero, suc, ◌<◌, true, List, [], ◌∷◌, length, get_or, Option, Some, None, refl, ap, sym, subst, ◌∙◌, arith, inl, inr}
use Rattle.std.specs.Prelude.{◌⊎◌, slice_get, is_some}
use Rattle.std.specs.List.{Contains}
use Rattle.vector_names.specs.declared.bits.Target.{Target}
use Rattle.vector_names.specs.declared.bits.Target.TheVariants.{Net as OnNet}
use Rattle.element_kinds.specs.Kinds.{form_of, has_output}
use Rattle.flat_circuit.specs.declared.instance.Pin.{Pin}
use Rattle.flat_circuit.specs.declared.instance.Instance.{Instance}
use Rattle.flat_circuit.specs.declared.net.Net.{Net}
use Rattle.flat_circuit.specs.Instances.{out_of, out_at, pins_of, least_delay_of}
use Rattle.flat_circuit.specs.Circuit.{Circuit, wire_in, wire_at}
use Rattle.flat_circuit.specs.Run.{Choice as Chosen, net_wire_fits, WireFits, WiresFit}
use Rattle.trace_sim.specs.Order.{ReadsAtOnce, IsEvaluationOrder}
use Rattle.trace_sim.specs.Making.{near_in, SeesNow}
use Rattle.trace_sim.proofs.Chosen.{IsFitting}

abbrev pub IsIn : ℕ → List ℕ → Type 0
IsIn k [] = ⊥
IsIn k (x ∷ xs) = (k ≡ x) ⊎ IsIn k xs

abbrev pub InTurn : Circuit → List ℕ → Type 0
InTurn c [] = Unit {0}
InTurn c (k ∷ ks) = ((d : ℕ) → (d ≡ k) ⊎ IsIn d ks → ReadsAtOnce c d k → ⊥) × (IsIn k ks → ⊥) × InTurn c ks

-- ---- places

pub record Place (xs : List ℕ) (d : ℕ) : Type 0 where
  pub at : ℕ
  pub below : at < length xs
  pub is : get_or xs at 0 ≡ d

place_of : (xs : List ℕ) (d : ℕ) → IsIn d xs → Place xs d
place_of [] d i = absurd i
place_of (x ∷ xs) d i =
    elim i as (λ _. Place (x ∷ xs) d) [
      | inl e ↦ record { at = 0; below = omega arith; is = sym e }
      | inr r ↦ let p = place_of xs d r in record { at = suc p.at; below = (let l = p.below in omega arith); is = p.is }
    ]

in_at : (xs : List ℕ) (d at : ℕ) → at < length xs → get_or xs at d ≡ d → IsIn d xs
in_at [] d at l e = absurd (omega arith)
in_at (x ∷ xs) d zero l e = inl (sym e)
in_at (x ∷ xs) d (suc at) l e = inr (in_at xs d at (omega arith) e)

pub is_in : (xs : List ℕ) (d : ℕ) → Contains xs d → IsIn d xs
is_in xs d c = in_at xs d c.0 c.1 c.2

-- what an order says of places holds of its rest too
in_turn_by : (c : Circuit) (xs : List ℕ) → ((a b : ℕ) → a < length xs → b < length xs → get_or xs a 0 ≡ get_or xs b 0 → a ≡ b) →
    ((a b : ℕ) → a < length xs → b < length xs → ReadsAtOnce c (get_or xs a 0) (get_or xs b 0) → a < b) → InTurn c xs
in_turn_by c [] once after = tt
in_turn_by c (x ∷ xs) once after = (
  (λ d i r. let p = place_of (x ∷ xs) d i in let l = after p.at 0 p.below (omega arith) (subst (λ y. ReadsAtOnce c y x) (sym p.is) r) in omega arith),
  (λ i. let p = place_of xs x i in let l = p.below in let e = once (suc p.at) 0 (omega arith) (omega arith) p.is in omega arith),
  in_turn_by c xs (λ a b la lb e. let z = once (suc a) (suc b) (omega arith) (omega arith) e in omega arith) (λ a b la lb r. let z =
      after (suc a) (suc b) (omega arith) (omega arith) r in omega arith),
)

pub in_turn : (c : Circuit) (order : List ℕ) → IsEvaluationOrder c order → InTurn c order
in_turn c order o = in_turn_by c order o.once o.after

-- ---- what an instance sees at once it may read at once

record SeenPin (nets : List Net) (pins : List Pin) (n : ℕ) : Type 0 where
  pin : Pin
  has : Contains pins pin
  on_net : pin.target ≡ OnNet n
  wire : (wire_at nets n).min ≡ 0

no_wire : (found : Option Net) → net_wire_fits found 0 → (wire_in found).min ≡ 0
no_wire None f = absurd f
no_wire (Some net) f = let l = f.0 in omega arith

seen_pin : (nets : List Net) (pins : List Pin) (wires : List ℕ) (n : ℕ) → WiresFit nets pins wires → SeesNow pins wires n → SeenPin nets pins n
seen_pin nets [] wires n f s = absurd s
seen_pin nets (p ∷ ps) [] n f s = absurd s
seen_pin nets (p ∷ ps) (w ∷ ws) n f s =
    elim s as (λ _. SeenPin nets (p ∷ ps) n) [
      | inl h ↦ let g : WireFits nets (OnNet n) 0 = subst (λ (t : Target). WireFits nets t 0) h.0 (subst (λ x. WireFits nets p.target x) h.1 f.0) in
          record { pin = p; has = (0, omega arith, refl); on_net = h.0; wire = no_wire (slice_get nets n) g }
      | inr r ↦ let q = seen_pin nets ps ws n f.1 r in record { pin = q.pin; has = (suc q.has.0, (let l = q.has.1 in omega arith), q.has.2); on_net = q.on_net; wire = q.wire }
    ]

pub reads_now : (c : Circuit) (k d n : ℕ) (i : Instance) (choice : Chosen) → slice_get c.instances k ≡ Some i → has_output i.kind ≡ true → is_some i.out ≡ true → IsFitting c i choice →
    near_in (form_of i.kind) i.delay choice ≡ 0 → SeesNow i.pins choice.wires n → out_at c.instances d ≡ Some (OnNet n) → ReadsAtOnce c d k
reads_now c k d n i choice at makes some fits z sees drives =
    let q = seen_pin c.nets i.pins choice.wires n fits.wires sees in
    record {
      net = n;
      drives = drives;
      at_once = ap least_delay_of at ∙ fits.least makes z;
      wire_at_once = q.wire;
      has_out = ap (λ o. is_some (out_of o)) at ∙ some;
      pin = q.pin;
      reads = subst (λ (ps : List Pin). Contains ps q.pin) (sym (ap pins_of at)) q.has;
      on_net = q.on_net;
    }
