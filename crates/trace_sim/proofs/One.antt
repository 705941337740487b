-- A choice has one run: each bit is an input, or it is fixed by bits before it, or it is the free one.
use Rattle.std.proofs.Common.{◌≡◌, ℕ, zero, suc, ◌-◌, ◌<◌, ◌≤◌, Bool, true, false, List, [], ◌∷◌, length, get_or, Option, Some, None, refl, ap, sym, subst, ◌∙◌, arith, inl, inr}
use Rattle.std.specs.Prelude.{slice_get, is_some}
use Rattle.std.proofs.lemmas.Bool.{cases_lt}
use Rattle.std.proofs.lemmas.List.{ext_get_or, get_or_past, get_or_default}
use Rattle.std.proofs.lemmas.List.Elements.{All-get_or}
use Rattle.std.proofs.lemmas.Option.{slice_get_within}
use Rattle.scald_base.specs.Signal.{turned}
use Rattle.vector_names.specs.declared.bits.Target.{Target}
use Rattle.vector_names.specs.declared.bits.Target.TheVariants.{Net as OnNet}
use Rattle.element_kinds.specs.Kinds.{form_of, makes_output, has_output}
use Rattle.element_kinds.proofs.Forms.{of_form}
use Rattle.flat_circuit.specs.declared.instance.Instance.{Instance}
use Rattle.flat_circuit.specs.Instances.{out_of, out_at}
use Rattle.flat_circuit.specs.Circuit.{Circuit, IsCircuit, driver_at}
use Rattle.flat_circuit.specs.Run.{Choice as Chosen, Run, net_signal, out_signal}
use Rattle.trace_sim.specs.declared.choice.Choice.{Choice}
use Rattle.trace_sim.specs.Choice.{Bits, choices_of, ChoiceFits}
use Rattle.trace_sim.specs.Simulated.{bit_of, run_of, IsSimulated}
use Rattle.trace_sim.specs.Order.{ReadsAtOnce, IsEvaluationOrder}
use Rattle.trace_sim.specs.Making.{SeesNow, near_in, fixed_in}
use Rattle.trace_sim.specs.Laws.{ChoicesHaveOneRun}
use Rattle.trace_sim.proofs.Agreeing.{fixed_kept}
use Rattle.trace_sim.proofs.Fixed.{IsFixedTo}
use Rattle.trace_sim.proofs.Converse.{none_leaves, obeys_fixed}
use Rattle.trace_sim.proofs.Chosen.{IsFitting, fits_at, fitting, length_chosen}
use Rattle.trace_sim.proofs.Turns.{reads_now}
use Rattle.trace_sim.proofs.Orders.{out_below}
use Rattle.trace_sim.proofs.Made.{settled}
use Rattle.trace_sim.proofs.Exists.{order_exists}

past_end : {X : Type 0} (xs : List X) (k : ℕ) → slice_get xs k ≡ None → length xs ≤ k
past_end [] k e = omega arith
past_end (x ∷ xs) zero e = absurd (cc)
past_end (x ∷ xs) (suc k) e = let rest = past_end xs k e in omega arith

turned_back : (inverted x b : Bool) → turned inverted x ≡ b → x ≡ turned inverted b
turned_back true true b e = cc
turned_back true false b e = cc
turned_back false x b e = e

-- an output that is fixed as this says, and free as this, has one bit
one_bit : (run : Run) (out : Option Target) (inverted : Bool) (n t : ℕ) (v : Option Bool) (free : Bool) → out ≡ Some (OnNet n) →
    IsFixedTo v (out_signal run out inverted t) → (v ≡ None → net_signal run n t ≡ free) → net_signal run n t ≡ settled inverted v free
one_bit run out inverted n t None free o h left = left refl
one_bit run out inverted n t (Some b) free o h left =
    let z : t - 0 ≡ t = omega arith in
    let shown : out_signal run (Some (OnNet n)) inverted t ≡ b = subst (λ (x : Option Target). out_signal run x inverted t ≡ b) o h in
    turned_back inverted (net_signal run n t) b (sym (ap (λ x. turned inverted (net_signal run n x)) z) ∙ shown)

module _ (c : Circuit) (choice : Choice) (ticks : ℕ) (known : IsCircuit c) (fits : ChoiceFits c choice ticks) where
  abbrev run_with : Bits → Run
  run_with bits = run_of ticks (choices_of choice) bits

  -- each driven bit of a run is the one that is fixed, or the free one
  driven_bit : (bits : Bits) → IsSimulated c choice ticks bits → (k n t : ℕ) (i : Instance) (at : Chosen) → t < ticks →
      slice_get c.instances k ≡ Some i → slice_get (choices_of choice) k ≡ Some at → i.out ≡ Some (OnNet n) →
      bit_of bits n t ≡ settled i.out_inverted (fixed_in (run_with bits) i at t) (bit_of choice.free n t)
  driven_bit bits s k n t i at l here chose o =
      let f = fitting c choice ticks k i at known fits here chose in
      let makes : has_output i.kind ≡ true = sym (fits_at c k i known here).has_out ∙ ap is_some o in
      one_bit (run_with bits) i.out i.out_inverted n t (fixed_in (run_with bits) i at t) (bit_of choice.free n t) o
      (obeys_fixed (run_with bits) i at t f.some f.one f.gate (λ asked. (s.is_run.at k i at here chose).obeys t l asked))
      (λ none. s.free k n t i at here chose o l
      (none_leaves (run_with bits) i at t f.some f.one f.gate (of_form makes_output i.kind ∙ makes) none))

  module _ (old new : Bits) (s : IsSimulated c choice ticks old) (r : IsSimulated c choice ticks new) where
    abbrev Agree : ℕ → ℕ → Type 0
    Agree n t = bit_of old n t ≡ bit_of new n t

    undriven : (n t : ℕ) → driver_at c.nets n ≡ None → Agree n t
    undriven n t none = s.inputs n t none ∙ sym (r.inputs n t none)

    -- a driven net agrees if the runs agree before the tick and on what its driver sees at once
    driven_agrees : (t k n : ℕ) → t < ticks → ((m v : ℕ) → v < t → Agree m v) → out_at c.instances k ≡ Some (OnNet n) →
        ((d m : ℕ) → out_at c.instances d ≡ Some (OnNet m) → ReadsAtOnce c d k → Agree m t) → Agree n t
    driven_agrees t k n l before drives now = by (slice_get c.instances k) refl (slice_get (choices_of choice) k) refl
      where
        seen_agrees : (i : Instance) (at : Chosen) → slice_get c.instances k ≡ Some i → IsFitting c i at → has_output i.kind ≡ true → is_some i.out ≡ true →
            (m : ℕ) → near_in (form_of i.kind) i.delay at ≡ 0 → SeesNow i.pins at.wires m → (d : Option ℕ) → driver_at c.nets m ≡ d → Agree m t
        seen_agrees i at here f makes some m z sees None e = undriven m t e
        seen_agrees i at here f makes some m z sees (Some d) e =
            let od = known.drivers.is m d e in now d m od (reads_now c k d m i at here makes some f z sees od)

        by : (oi : Option Instance) → slice_get c.instances k ≡ oi → (oc : Option Chosen) → slice_get (choices_of choice) k ≡ oc → Agree n t
        by None none oc e = absurd (let x = ap out_of none in cc)
        by (Some i) here None none =
            let inside = slice_get_within c.instances k i here in
            let long = length_chosen choice.delays choice.wires (length c.instances) fits.delays fits.wires in
            absurd (omega (arith, inside, long, past_end (choices_of choice) k none))
        by (Some i) here (Some at) chose =
            let o : i.out ≡ Some (OnNet n) = sym (ap out_of here) ∙ drives in
            let f = fitting c choice ticks k i at known fits here chose in
            let makes : has_output i.kind ≡ true = sym (fits_at c k i known here).has_out ∙ ap is_some o in
            let same : fixed_in (run_with old) i at t ≡ fixed_in (run_with new) i at t =
            fixed_kept (run_with old) (run_with new) t before i at (λ m z sees. seen_agrees i at here f makes (ap is_some o) m z sees (driver_at c.nets m) refl) in
            driven_bit old s k n t i at l here chose o ∙ ap (λ (v : Option Bool). settled i.out_inverted v (bit_of choice.free n t)) same
            ∙ sym (driven_bit new r k n t i at l here chose o)

    -- so all agree that are driven by the first instances of an order
    first_agree : (order : List ℕ) → IsEvaluationOrder c order → (t : ℕ) → t < ticks → ((m v : ℕ) → v < t → Agree m v) → (b : ℕ) → b ≤ length order →
        (a n : ℕ) → a < b → out_at c.instances (get_or order a 0) ≡ Some (OnNet n) → Agree n t
    first_agree order ordered t l before zero inside a n below o = absurd (omega arith)
    first_agree order ordered t l before (suc b) inside a n below o =
        driven_agrees t (get_or order a 0) n l before o (λ d m od reads.
        let w = ordered.whole d (out_below c.instances d m od) in
        let here : get_or order w.0 0 ≡ d = sym (get_or_default order w.0 d 0 w.1) ∙ w.2 in
        let early = ordered.after w.0 a w.1 (omega arith) (subst (λ x. ReadsAtOnce c x (get_or order a 0)) (sym here) reads) in
        first_agree order ordered t l before b (omega arith) w.0 m (omega arith) (subst (λ x. out_at c.instances x ≡ Some (OnNet m)) (sym here) od))

    -- past its ticks a run shows 0
    past_ticks : (bits : Bits) → IsSimulated c choice ticks bits → (n t : ℕ) → ticks ≤ t → bit_of bits n t ≡ false
    past_ticks bits q n t late = elim (cases_lt n (length bits)) as (λ _. bit_of bits n t ≡ false) [
      | inl below ↦ let long = All-get_or (λ (row : List Bool). length row ≡ ticks) bits n [] below q.is_run.long in get_or_past (get_or bits n []) t false (omega arith)
      | inr past ↦ ap (λ (row : List Bool). get_or row t false) (get_or_past bits n [] past)
    ]

    all_agree : (order : List ℕ) → IsEvaluationOrder c order → (limit n t : ℕ) → t < limit → Agree n t
    all_agree order ordered zero n t early = absurd (omega arith)
    all_agree order ordered (suc limit) n t early = elim (cases_lt t ticks) as (λ _. Agree n t) [
      | inl l ↦ by (λ m v lv. all_agree order ordered limit m v (omega arith)) l (driver_at c.nets n) refl
      | inr late ↦ past_ticks old s n t late ∙ sym (past_ticks new r n t late)
    ]
      where
        by : ((m v : ℕ) → v < t → Agree m v) → t < ticks → (d : Option ℕ) → driver_at c.nets n ≡ d → Agree n t
        by before l None e = undriven n t e
        by before l (Some k) e =
            let o = known.drivers.is n k e in
            let w = ordered.whole k (out_below c.instances k n o) in
            let here : get_or order w.0 0 ≡ k = sym (get_or_default order w.0 k 0 w.1) ∙ w.2 in
            first_agree order ordered t l before (length order) (omega arith) w.0 n w.1 (subst (λ x. out_at c.instances x ≡ Some (OnNet n)) (sym here) o)

    are_one : old ≡ new
    are_one =
        let ordered = order_exists c known in
        ext_get_or [] old new (s.is_run.nets ∙ sym r.is_run.nets) (λ n below.
        let row = All-get_or (λ (row : List Bool). length row ≡ ticks) old n [] below s.is_run.long in
        let other = All-get_or (λ (row : List Bool). length row ≡ ticks) new n [] (subst (λ m. n < m) (s.is_run.nets ∙ sym r.is_run.nets) below) r.is_run.long in
        ext_get_or false (get_or old n []) (get_or new n []) (row ∙ sym other) (λ t early. all_agree ordered.0 ordered.1 (suc t) n t (omega arith)))

pub choices_have_one_run : ChoicesHaveOneRun
choices_have_one_run c choice ticks bits others known fits s r = are_one c choice ticks known fits bits others s r
