-- What is made is a run.
use Rattle.std.proofs.Common.{◌≡◌, ℕ, zero, suc, ◌-◌, ◌<◌, ◌≤◌, Bool, true, false, cond, List, [], ◌∷◌, length, get_or, set, Option, Some, None, refl, ap, sym, subst, ◌∙◌, arith, inl, inr, All}
use Rattle.std.specs.Prelude.{slice_get, is_some}
use Rattle.std.proofs.lemmas.Bool.{cases_eq, cases_lt}
use Rattle.std.proofs.lemmas.List.{get_or-set_same, get_or-set_other, length-set, set_past, get_or_past}
use Rattle.std.proofs.lemmas.List.Elements.{All-get_or, All-set, All-from_get_or}
use Rattle.std.proofs.lemmas.List.FromFn.{length-map-range_with_len, get_or-map-range_with_len}
use Rattle.std.proofs.lemmas.Option.{slice_get_within, same_Some}
use Rattle.scald_base.specs.Signal.{turned}
use Rattle.vector_names.specs.declared.bits.Target.{Target}
use Rattle.vector_names.specs.declared.bits.Target.TheVariants.{Net as OnNet, Constant}
use Rattle.element_kinds.specs.declared.kind.Kind.{Kind}
use Rattle.element_kinds.specs.declared.kind.Kind.TheVariants.{SetupHold, RiseFall, MinPulse}
use Rattle.element_kinds.specs.Kinds.{form_of, has_output}
use Rattle.flat_circuit.specs.declared.split.Split.{Split}
use Rattle.flat_circuit.specs.declared.instance.Instance.{Instance}
use Rattle.flat_circuit.specs.Split.{two_delays}
use Rattle.flat_circuit.specs.Instances.{OutExists, out_of, out_at}
use Rattle.flat_circuit.specs.Circuit.{Circuit, IsCircuit, driver_at}
use Rattle.flat_circuit.specs.Run.{Choice as Chosen, Run, net_signal, out_signal, pin_signals, EquationWith, IsAskedWith, IsRun}
use Rattle.scald_base.specs.Time.{Bounds}
use Rattle.scald_base.specs.Signal.{Signal}
use Rattle.trace_sim.specs.declared.choice.Choice.{Choice}
use Rattle.trace_sim.specs.Choice.{Bits, choices_of, AreTraces, ChoiceFits}
use Rattle.trace_sim.specs.Simulated.{bit_of, run_of, IsSimulated}
use Rattle.trace_sim.specs.Order.{ReadsAtOnce, IsEvaluationOrder}
use Rattle.trace_sim.specs.Making.{SeesNow, near_in, put, written, fixed_in, evaluated_by, evaluated, pass, made, begun_row, begun}
use Rattle.trace_sim.proofs.Agreeing.{fixed_kept}
use Rattle.trace_sim.proofs.Fixed.{IsFixedTo, fixed_obeys_at, leaves_none}
use Rattle.trace_sim.proofs.Chosen.{IsFitting, fits_at, fitting, length_chosen}
use Rattle.trace_sim.proofs.Turns.{IsIn, InTurn, is_in, in_turn, reads_now}

-- an output's bit on its net: the one that is fixed, complemented if the output is marked, and else the free one
abbrev pub settled : Bool → Option Bool → Bool → Bool
settled inverted None free = free
settled inverted (Some bit) free = turned inverted bit

-- ---- one write

put_same : (bits : Bits) (i t : ℕ) (b : Bool) → i < length bits → t < length (get_or bits i []) → bit_of (put bits i t b) i t ≡ b
put_same bits i t b li lt = ap (λ (row : List Bool). get_or row t false) (get_or-set_same bits i (set (get_or bits i []) t b) [] li) ∙ get_or-set_same (get_or bits i []) t b false lt

pub put_other : (bits : Bits) (i t n u : ℕ) (b : Bool) → (n ≡ i → u ≡ t → ⊥) → bit_of (put bits i t b) n u ≡ bit_of bits n u
put_other bits i t n u b h =
    elim (cases_eq n i) as (λ _. bit_of (put bits i t b) n u ≡ bit_of bits n u) [
      | inl e ↦ subst (λ m. bit_of (put bits i t b) m u ≡ bit_of bits m u) (sym e) (elim (cases_lt i (length bits)) as (λ _. bit_of (put bits i t b) i u ≡ bit_of bits i u) [
        | inl l ↦ ap (λ (row : List Bool). get_or row u false) (get_or-set_same bits i (set (get_or bits i []) t b) [] l) ∙ get_or-set_other (get_or bits i []) t u b false (h e)
        | inr l ↦ ap (λ (x : Bits). bit_of x i u) (set_past bits i (set (get_or bits i []) t b) l)
      ])
      | inr d ↦ ap (λ (row : List Bool). get_or row u false) (get_or-set_other bits i n (set (get_or bits i []) t b) [] d)
    ]

put_long : (ticks : ℕ) (bits : Bits) (i t : ℕ) (b : Bool) → All (λ (row : List Bool). length row ≡ ticks) bits → All (λ (row : List Bool). length row ≡ ticks) (put bits i t b)
put_long ticks bits i t b a =
    elim (cases_lt i (length bits)) as (λ _. All (λ (row : List Bool). length row ≡ ticks) (put bits i t b)) [
      | inl l ↦ All-set (λ (row : List Bool). length row ≡ ticks) bits i (set (get_or bits i []) t b)
          (length-set (get_or bits i []) t b ∙ All-get_or (λ (row : List Bool). length row ≡ ticks) bits i [] l a) a
      | inr l ↦ subst (λ (x : Bits). All (λ (row : List Bool). length row ≡ ticks) x) (sym (set_past bits i (set (get_or bits i []) t b) l)) a
    ]

written_shaped : (nets ticks : ℕ) (bits : Bits) (out : Option Target) (inverted : Bool) (t : ℕ) (v : Option Bool) → AreTraces nets ticks bits → AreTraces nets ticks (written bits out inverted t v)
written_shaped nets ticks bits None inverted t v s = s
written_shaped nets ticks bits (Some (Constant b)) inverted t v s = s
written_shaped nets ticks bits (Some (OnNet i)) inverted t None s = s
written_shaped nets ticks bits (Some (OnNet i)) inverted t (Some b) s = record {
  rows = length-set bits i (set (get_or bits i []) t (turned inverted b)) ∙ s.rows;
  long = put_long ticks bits i t (turned inverted b) s.long;
}

written_frame : (bits : Bits) (out : Option Target) (inverted : Bool) (t : ℕ) (v : Option Bool) (n u : ℕ) →
    (u ≡ t → out ≡ Some (OnNet n) → ⊥) → bit_of (written bits out inverted t v) n u ≡ bit_of bits n u
written_frame bits None inverted t v n u h = refl
written_frame bits (Some (Constant b)) inverted t v n u h = refl
written_frame bits (Some (OnNet i)) inverted t None n u h = refl
written_frame bits (Some (OnNet i)) inverted t (Some b) n u h = put_other bits i t n u (turned inverted b) (λ e f. h f (ap (λ m. Some (OnNet m)) (sym e)))

-- the bit is the one that is fixed, or the one that was there
written_settles : (bits : Bits) (inverted : Bool) (t n : ℕ) (v : Option Bool) → n < length bits →
    t < length (get_or bits n []) → bit_of (written bits (Some (OnNet n)) inverted t v) n t ≡ settled inverted v (bit_of bits n t)
written_settles bits inverted t n None l m = refl
written_settles bits inverted t n (Some b) l m = put_same bits n t (turned inverted b) l m

-- ---- one instance, and one tick

module _ (c : Circuit) (ticks : ℕ) (choices : List Chosen) where
  by_shaped : (oi : Option Instance) (oc : Option Chosen) (t : ℕ) (bits : Bits) → AreTraces (length c.nets) ticks bits → AreTraces (length c.nets) ticks (evaluated_by ticks choices oi oc t bits)
  by_shaped None oc t bits s = s
  by_shaped (Some i) None t bits s = s
  by_shaped (Some i) (Some choice) t bits s = written_shaped (length c.nets) ticks bits i.out i.out_inverted t (fixed_in (run_of ticks choices bits) i choice t) s

  by_frame : (oi : Option Instance) (oc : Option Chosen) (t : ℕ) (bits : Bits) (n u : ℕ) →
      (u ≡ t → out_of oi ≡ Some (OnNet n) → ⊥) → bit_of (evaluated_by ticks choices oi oc t bits) n u ≡ bit_of bits n u
  by_frame None oc t bits n u h = refl
  by_frame (Some i) None t bits n u h = refl
  by_frame (Some i) (Some choice) t bits n u h = written_frame bits i.out i.out_inverted t (fixed_in (run_of ticks choices bits) i choice t) n u h

  pass_shaped : (t : ℕ) (ks : List ℕ) (bits : Bits) → AreTraces (length c.nets) ticks bits → AreTraces (length c.nets) ticks (pass c ticks choices t ks bits)
  pass_shaped t [] bits s = s
  pass_shaped t (k ∷ ks) bits s = pass_shaped t ks (evaluated c ticks choices t k bits) (by_shaped (slice_get c.instances k) (slice_get choices k) t bits s)

  -- a pass at a tick writes at this tick alone, and there the nets that its instances drive
  pass_frame : (t : ℕ) (ks : List ℕ) (bits : Bits) (n u : ℕ) → (u ≡ t → (d : ℕ) → IsIn d ks → out_at c.instances d ≡ Some (OnNet n) → ⊥) → bit_of (pass c ticks choices t ks bits) n u ≡ bit_of bits n u
  pass_frame t [] bits n u h = refl
  pass_frame t (k ∷ ks) bits n u h =
      pass_frame t ks (evaluated c ticks choices t k bits) n u (λ e d i o. h e d (inr i) o) ∙ by_frame (slice_get c.instances k) (slice_get choices k) t bits n u (λ e o. h e k (inl refl) o)

  -- instance k, of this driven net, with its choice
  record IsAt (k n : ℕ) (i : Instance) (choice : Chosen) : Type 0 where
    instance_is : slice_get c.instances k ≡ Some i
    choice_is : slice_get choices k ≡ Some choice
    drives : i.out ≡ Some (OnNet n)
    makes : has_output i.kind ≡ true
    fits : IsFitting c i choice
    inside : n < length c.nets

  out_is : (k n : ℕ) (i : Instance) (choice : Chosen) → IsAt k n i choice → out_at c.instances k ≡ Some (OnNet n)
  out_is k n i choice h = ap out_of h.instance_is ∙ h.drives

  one_driver : (known : IsCircuit c) (d k n : ℕ) → out_at c.instances d ≡ Some (OnNet n) → out_at c.instances k ≡ Some (OnNet n) → d ≡ k
  one_driver known d k n od ok = same_Some d k (sym (known.drivers.of n d od) ∙ known.drivers.of n k ok)

  -- what instance k sees at once, none of these drives
  unseen : (k n : ℕ) (i : Instance) (choice : Chosen) (ks : List ℕ) → IsAt k n i choice → ((d : ℕ) → IsIn d ks → ReadsAtOnce c d k → ⊥) → (m : ℕ) →
      near_in (form_of i.kind) i.delay choice ≡ 0 → SeesNow i.pins choice.wires m → (d : ℕ) → IsIn d ks → out_at c.instances d ≡ Some (OnNet m) → ⊥
  unseen k n i choice ks h none m z s d isin o = none d isin (reads_now c k d m i choice h.instance_is h.makes (ap is_some h.drives) h.fits z s o)

  -- evaluated, an instance has the bit that is fixed by the bits before
  step_settles : (t k n : ℕ) (i : Instance) (choice : Chosen) (bits : Bits) → AreTraces (length c.nets) ticks bits → t < ticks → IsAt k n i choice →
      bit_of (evaluated c ticks choices t k bits) n t ≡ settled i.out_inverted (fixed_in (run_of ticks choices bits) i choice t) (bit_of bits n t)
  step_settles t k n i choice bits s lt h =
      let li : n < length bits = subst (λ m. n < m) (sym s.rows) h.inside in
      let row = All-get_or (λ (row : List Bool). length row ≡ ticks) bits n [] li s.long in
      let v = fixed_in (run_of ticks choices bits) i choice t in
      let w : bit_of (written bits i.out i.out_inverted t v) n t ≡ settled i.out_inverted v (bit_of bits n t) =
      subst (λ (o : Option Target). bit_of (written bits o i.out_inverted t v) n t ≡ settled i.out_inverted v (bit_of bits n t))
      (sym h.drives) (written_settles bits i.out_inverted t n v li (omega arith)) in
      ap (λ (oi : Option Instance). bit_of (evaluated_by ticks choices oi (slice_get choices k) t bits) n t) h.instance_is
      ∙ ap (λ (oc : Option Chosen). bit_of (evaluated_by ticks choices (Some i) oc t bits) n t) h.choice_is ∙ w

  -- and that one is fixed by the bits after the whole pass too
  head_settles : (known : IsCircuit c) (t k n : ℕ) (ks : List ℕ) (i : Instance) (choice : Chosen) (bits : Bits) →
      AreTraces (length c.nets) ticks bits → t < ticks → InTurn c (k ∷ ks) → IsAt k n i choice →
      bit_of (pass c ticks choices t (k ∷ ks) bits) n t ≡ settled i.out_inverted (fixed_in (run_of ticks choices (pass c ticks choices t (k ∷ ks) bits)) i choice t) (bit_of bits n t)
  head_settles known t k n ks i choice bits s lt turn h =
      let ok = out_is k n i choice h in
      let after = pass c ticks choices t (k ∷ ks) bits in
      let later = pass_frame t ks (evaluated c ticks choices t k bits) n t (λ e d isin o. turn.1 (subst (λ x. IsIn x ks) (one_driver known d k n o ok) isin)) in
      let same : fixed_in (run_of ticks choices bits) i choice t ≡ fixed_in (run_of ticks choices after) i choice t =
      fixed_kept (run_of ticks choices bits) (run_of ticks choices after) t
      (λ m v l. sym (pass_frame t (k ∷ ks) bits m v (λ e d isin o. omega arith))) i choice
      (λ m z sees. sym (pass_frame t (k ∷ ks) bits m t (λ e d isin o. unseen k n i choice (k ∷ ks) h turn.0 m z sees d isin o))) in
      later ∙ step_settles t k n i choice bits s lt h ∙ ap (λ (v : Option Bool). settled i.out_inverted v (bit_of bits n t)) same

  pass_settles : (known : IsCircuit c) (t k n : ℕ) (ks : List ℕ) (i : Instance) (choice : Chosen) (bits : Bits) →
      AreTraces (length c.nets) ticks bits → t < ticks → InTurn c ks → IsIn k ks → IsAt k n i choice →
      bit_of (pass c ticks choices t ks bits) n t ≡ settled i.out_inverted (fixed_in (run_of ticks choices (pass c ticks choices t ks bits)) i choice t) (bit_of bits n t)
  pass_settles known t k n [] i choice bits s lt turn isin h = absurd isin
  pass_settles known t k n (x ∷ xs) i choice bits s lt turn isin h =
      elim isin as (λ _. bit_of (pass c ticks choices t (x ∷ xs) bits) n t
      ≡ settled i.out_inverted (fixed_in (run_of ticks choices (pass c ticks choices t (x ∷ xs) bits)) i choice t) (bit_of bits n t)) [
        | inl e ↦ head_settles known t x n xs i choice bits s lt turn (subst (λ y. IsAt y n i choice) e h)
        | inr r ↦
            let ok = out_is k n i choice h in
            let before = by_frame (slice_get c.instances x) (slice_get choices x) t bits n t (λ e o. turn.1 (subst (λ y. IsIn y xs) (sym (one_driver known x k n o ok)) r)) in
            pass_settles known t k n xs i choice (evaluated c ticks choices t x bits) (by_shaped (slice_get c.instances x) (slice_get choices x) t bits s) lt turn.2 r h
            ∙ ap (λ (b : Bool). settled i.out_inverted (fixed_in (run_of ticks choices (pass c ticks choices t (x ∷ xs) bits)) i choice t) b) before
      ]

  -- ---- all ticks

  module _ (order : List ℕ) (start : Bits) where
    made_shaped : (m : ℕ) → AreTraces (length c.nets) ticks start → AreTraces (length c.nets) ticks (made c ticks choices order m start)
    made_shaped zero s = s
    made_shaped (suc m) s = pass_shaped m order (made c ticks choices order m start) (made_shaped m s)

    -- from a tick on that was not made yet, the bits are those of the start
    made_later : (m n u : ℕ) → m ≤ u → bit_of (made c ticks choices order m start) n u ≡ bit_of start n u
    made_later zero n u l = refl
    made_later (suc m) n u l = pass_frame m order (made c ticks choices order m start) n u (λ e d isin o. omega arith) ∙ made_later m n u (omega arith)

    -- and of a net that nothing drives they are at each tick
    made_undriven : (known : IsCircuit c) (m n u : ℕ) → driver_at c.nets n ≡ None → bit_of (made c ticks choices order m start) n u ≡ bit_of start n u
    made_undriven known zero n u d = refl
    made_undriven known (suc m) n u d = pass_frame m order (made c ticks choices order m start) n u (λ e k isin o. let z = known.drivers.of n k o in absurd (cc)) ∙ made_undriven known m n u d

    -- after so many ticks, each bit before is the one that is fixed by the bits then, or the free one
    made_settles : (known : IsCircuit c) (m : ℕ) → m ≤ ticks → AreTraces (length c.nets) ticks start →
        InTurn c order → (t k n : ℕ) (i : Instance) (choice : Chosen) → t < m → IsIn k order → IsAt k n i choice →
        bit_of (made c ticks choices order m start) n t ≡ settled i.out_inverted (fixed_in (run_of ticks choices (made c ticks choices order m start)) i choice t) (bit_of start n t)
    made_settles known zero l s turn t k n i choice lt isin h = absurd (omega arith)
    made_settles known (suc m) l s turn t k n i choice lt isin h =
        elim (cases_eq t m) as (λ _. bit_of (made c ticks choices order (suc m) start) n t
        ≡ settled i.out_inverted (fixed_in (run_of ticks choices (made c ticks choices order (suc m) start)) i choice t) (bit_of start n t)) [
          | inl e ↦
              subst (λ x. bit_of (made c ticks choices order (suc m) start) n x ≡ settled i.out_inverted
              (fixed_in (run_of ticks choices (made c ticks choices order (suc m) start)) i choice x) (bit_of start n x)) (sym e)
              (pass_settles known m k n order i choice (made c ticks choices order m start) (made_shaped m s) (omega arith) turn isin h
              ∙ ap (λ (b : Bool). settled i.out_inverted
              (fixed_in (run_of ticks choices (made c ticks choices order (suc m) start)) i choice m) b) (made_later m n m (omega arith)))
          | inr d ↦
              let frame : (p v : ℕ) → v < m → bit_of (made c ticks choices order (suc m) start) p v ≡ bit_of (made c ticks choices order m start)
              p v = λ p v lv. pass_frame m order (made c ticks choices order m start) p v (λ e k2 isin2 o. omega arith) in
              let same : fixed_in (run_of ticks choices (made c ticks choices order m start)) i choice t ≡ fixed_in (run_of ticks choices (made c ticks choices order (suc m) start)) i choice t =
              fixed_kept (run_of ticks choices (made c ticks choices order m start)) (run_of ticks choices (made c ticks choices order (suc m) start))
              t (λ p v lv. sym (frame p v (omega arith))) i choice (λ p z sees. sym (frame p t (omega arith))) in
              frame n t (omega arith) ∙ made_settles known m (omega arith) s turn t k n i choice (omega arith) isin h ∙ ap (λ (v : Option Bool). settled i.out_inverted v (bit_of start n t)) same
        ]

-- ---- what it begins with

begun_traces : (c : Circuit) (choice : Choice) (ticks : ℕ) → ChoiceFits c choice ticks → AreTraces (length c.nets) ticks (begun c choice)
begun_traces c choice ticks fits = record {
  rows = long;
  long = All-from_get_or (λ (row : List Bool). length row ≡ ticks) (begun c choice) [] (λ n l.
      let m : n < length c.nets = omega (arith, long, l) in
      subst (λ (row : List Bool). length row ≡ ticks) (sym (get_or-map-range_with_len (begun_row c choice) 0 (length c.nets) n n [] m (omega arith))) (row_long n m));
}
  where
    long : length (begun c choice) ≡ length c.nets
    long = length-map-range_with_len (begun_row c choice) 0 (length c.nets)

    row_long : (n : ℕ) → n < length c.nets → length (begun_row c choice n) ≡ ticks
    row_long n l = by (is_some (driver_at c.nets n))
      where
        by : (b : Bool) → length (cond b (get_or choice.free n []) (get_or choice.inputs n [])) ≡ ticks
        by true = All-get_or (λ (row : List Bool). length row ≡ ticks) choice.free n [] (let r = fits.free.rows in omega arith) fits.free.long
        by false = All-get_or (λ (row : List Bool). length row ≡ ticks) choice.inputs n [] (let r = fits.inputs.rows in omega arith) fits.inputs.long

begun_input : (c : Circuit) (choice : Choice) (ticks n t : ℕ) → ChoiceFits c choice ticks → driver_at c.nets n ≡ None → bit_of (begun c choice) n t ≡ bit_of choice.inputs n t
begun_input c choice ticks n t fits none =
    elim (cases_lt n (length c.nets)) as (λ _. bit_of (begun c choice) n t ≡ bit_of choice.inputs n t) [
      | inl l ↦ ap (λ (row : List Bool). get_or row t false) (get_or-map-range_with_len (begun_row c choice) 0 (length c.nets) n n [] l (omega arith)
          ∙ ap (λ (d : Option ℕ). cond (is_some d) (get_or choice.free n []) (get_or choice.inputs n [])) none)
      | inr l ↦
          let long = length-map-range_with_len (begun_row c choice) 0 (length c.nets) in
          let rows = fits.inputs.rows in
          ap (λ (row : List Bool). get_or row t false) (get_or_past (begun c choice) n [] (omega arith) ∙ sym (get_or_past choice.inputs n [] (omega arith)))
    ]

begun_free : (c : Circuit) (choice : Choice) (n t k : ℕ) → n < length c.nets → driver_at c.nets n ≡ Some k → bit_of (begun c choice) n t ≡ bit_of choice.free n t
begun_free c choice n t k l drives =
    ap (λ (row : List Bool). get_or row t false) (get_or-map-range_with_len (begun_row c choice) 0 (length c.nets) n n [] l (omega arith)
    ∙ ap (λ (d : Option ℕ). cond (is_some d) (get_or choice.free n []) (get_or choice.inputs n [])) drives)

-- ---- a run

settled_is_fixed : (run : Run) (out : Option Target) (inverted : Bool) (n t : ℕ) (v : Option Bool) (free : Bool) →
    out ≡ Some (OnNet n) → net_signal run n t ≡ settled inverted v free → IsFixedTo v (out_signal run out inverted t)
settled_is_fixed run out inverted n t None free o e = tt
settled_is_fixed run out inverted n t (Some b) free o e =
    let z : t - 0 ≡ t = omega arith in
    subst (λ (x : Option Target). out_signal run x inverted t ≡ b) (sym o) (ap (λ x. turned inverted (net_signal run n x)) z ∙ ap (turned inverted) e ∙ turned_twice inverted b)
  where
    turned_twice : (inverted b : Bool) → turned inverted (turned inverted b) ≡ b
    turned_twice true true = refl
    turned_twice true false = refl
    turned_twice false b = refl

checker_obeys : (kind : Kind) (d : Bounds) (split : Option Split) (choice : Chosen) (xs : List Signal) (o : Signal) (t : ℕ) →
    has_output kind ≡ false → EquationWith kind d (two_delays kind split) choice xs o t
checker_obeys SetupHold d split choice xs o t e = tt
checker_obeys RiseFall d split choice xs o t e = tt
checker_obeys MinPulse d split choice xs o t e = tt
checker_obeys kind d split choice xs o t e = absurd (cc)

module _ (c : Circuit) (choice : Choice) (ticks : ℕ) (known : IsCircuit c) (fits : ChoiceFits c choice ticks) (order : List ℕ) (ordered : IsEvaluationOrder c order) where
  abbrev chosen_all : List Chosen
  chosen_all = choices_of choice

  abbrev bits : Bits
  bits = made c ticks chosen_all order ticks (begun c choice)

  abbrev run : Run
  run = run_of ticks chosen_all bits

  fits_here : (k : ℕ) (i : Instance) (at : Chosen) → slice_get c.instances k ≡ Some i → slice_get chosen_all k ≡ Some at → IsFitting c i at
  fits_here k i at here chose = fitting c choice ticks k i at known fits here chose

  at_net : (k n : ℕ) (i : Instance) (at : Chosen) → slice_get c.instances k ≡ Some i → slice_get chosen_all k ≡ Some at → i.out ≡ Some (OnNet n) → IsAt c ticks chosen_all k n i at
  at_net k n i at here chose o =
      let f = fits_at c k i known here in
      record {
        instance_is = here;
        choice_is = chose;
        drives = o;
        makes = sym f.has_out ∙ ap is_some o;
        fits = fits_here k i at here chose;
        inside = subst (OutExists (length c.nets)) o f.exists.drives;
      }

  -- each driven bit is the one that is fixed, or the free one
  driven : (k n t : ℕ) (i : Instance) (at : Chosen) → t < ticks → slice_get c.instances k ≡ Some i → slice_get chosen_all k ≡ Some at → i.out ≡ Some (OnNet n) →
      net_signal run n t ≡ settled i.out_inverted (fixed_in run i at t) (bit_of (begun c choice) n t)
  driven k n t i at l here chose o =
      made_settles c ticks chosen_all order (begun c choice) known ticks (omega arith) (begun_traces c choice ticks fits) (in_turn c order ordered) t k n i at l
      (is_in order k (ordered.whole k (slice_get_within c.instances k i here))) (at_net k n i at here chose o)

  obeys : (k : ℕ) (i : Instance) (at : Chosen) (out : Option Target) → slice_get c.instances k ≡ Some i → slice_get chosen_all k ≡ Some at → i.out ≡ out → (t : ℕ) → t < ticks →
      IsAskedWith i.kind i.delay (two_delays i.kind i.split) at t → EquationWith i.kind i.delay (two_delays i.kind i.split) at (pin_signals run i.pins at.wires) (out_signal run i.out i.out_inverted) t
  obeys k i at None here chose e t l asked = checker_obeys i.kind i.delay i.split at _ _ t (sym (fits_at c k i known here).has_out ∙ ap is_some e)
  obeys k i at (Some (Constant b)) here chose e t l asked = absurd (known.drivers.steady k b (ap out_of here ∙ e))
  obeys k i at (Some (OnNet n)) here chose e t l asked =
      let f = fits_here k i at here chose in
      fixed_obeys_at run i at t f.some f.one f.gate
      (settled_is_fixed run i.out i.out_inverted n t (fixed_in run i at t) (bit_of (begun c choice) n t) e (driven k n t i at l here chose e)) asked

  is_run : IsRun c run
  is_run =
      let traces = made_shaped c ticks chosen_all order (begun c choice) ticks (begun_traces c choice ticks fits) in
      record {
        nets = traces.rows;
        long = traces.long;
        instances = length_chosen choice.delays choice.wires (length c.instances) fits.delays fits.wires;
        at = λ k i at here chose. record {
          delay = (fits_here k i at here chose).delay;
          wires = (fits_here k i at here chose).wires;
          obeys = λ t l. obeys k i at i.out here chose refl t l;
        };
      }

  pub simulated : IsSimulated c choice ticks (made c ticks (choices_of choice) order ticks (begun c choice))
  simulated = record {
    is_run = is_run;
    inputs = λ n t none. made_undriven c ticks chosen_all order (begun c choice) known ticks n t none ∙ begun_input c choice ticks n t fits none;
    free = λ k n t i at here chose o l left.
        let f = fits_here k i at here chose in
        let none = leaves_none run i at t f.one f.gate left in
        driven k n t i at l here chose o ∙ ap (λ (v : Option Bool). settled i.out_inverted v (bit_of (begun c choice) n t)) none
        ∙ begun_free c choice n t k (at_net k n i at here chose o).inside (known.drivers.of n k (ap out_of here ∙ o));
  }
