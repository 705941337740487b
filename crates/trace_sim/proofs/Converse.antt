-- The other way round: if the equation holds the output is the bit that is fixed, and if none is fixed it leaves
-- the bit open.
use Rattle.std.proofs.Common.{◌≡◌, ◌≢◌, ℕ, suc, ◌+◌, ◌-◌, ◌<◌, ◌≤◌, ◌⊎◌, min, max, Bool, true, false, ◌&&◌, cond, ltb, List, [], ◌∷◌, length, Option, Some, None, refl, sym, subst, ◌∙◌, arith, inl, inr, All}
use Rattle.std.specs.List.{list_all}
use Rattle.std.proofs.lemmas.Bool.{and_parts, cases_lt, lt-ltb}
use Rattle.std.proofs.lemmas.List.Elements.{All-nil, All-cons, All-tail}
use Rattle.scald_base.specs.Time.{Bounds}
use Rattle.scald_base.specs.Signal.{Signal, turned}
use Rattle.element_kinds.specs.declared.kind.Kind.{Kind}
use Rattle.element_kinds.specs.declared.form.Form.{Form}
use Rattle.element_kinds.specs.declared.form.Form.TheVariants.{Gate, Change, Register, Latch as Enabled, Checker}
use Rattle.element_kinds.specs.Kinds.{form_of, makes_output}
use Rattle.element_kinds.specs.Equation.{nth_signal, registered, latched, IsForced, IsStored, AreStill, EquationOf, pins_before}
use Rattle.flat_circuit.specs.declared.split.Split.{Split}
use Rattle.flat_circuit.specs.declared.instance.Instance.{Instance}
use Rattle.flat_circuit.specs.Split.{two_delays}
use Rattle.flat_circuit.specs.Run.{Choice as Chosen, Run, pin_signals, out_signal, EquationWith, IsAskedWith}
use Rattle.trace_sim.specs.Simulated.{MayChange, IsOpenForm, LeavesFree}
use Rattle.trace_sim.specs.Making.{named_in, are_there, are_shown, stays_at, in_a_row, held_through, passes, forced_by, stored, fixed, fixed_in}
use Rattle.trace_sim.proofs.Shown.{there_from, from_there, shown_at, far_enough}
use Rattle.trace_sim.proofs.Held.{row_stops, held_passes}
use Rattle.trace_sim.proofs.Fixed.{AsOne, IsGateByTwo, IsFixedTo, asked_as, gate_obeys, obeys_one, same_stays, stays_same}

-- the ticks that an instance's equation names, and what its pins show
abbrev named_at : Instance → Chosen → List ℕ
named_at i choice = named_in (form_of i.kind) i.delay choice

abbrev shown_by : Run → Instance → Chosen → List Signal
shown_by run i choice = pin_signals run i.pins choice.wires

-- ---- where no bit is fixed

record Stepping (u : ℕ) (xs : List Signal) : Type 0 where
  pin : ℕ
  steps : nth_signal xs pin (u - 1) ≢ nth_signal xs pin u

one_steps : (u : ℕ) (xs : List Signal) → list_all (stays_at u) xs ≡ false → Stepping u xs
one_steps u [] e = absurd (cc)
one_steps u (x ∷ xs) e = by (stays_at u x) refl e (λ rest. one_steps u xs rest)
  where
    by : (b : Bool) → stays_at u x ≡ b → (b && list_all (stays_at u) xs) ≡ false →
        (list_all (stays_at u) xs ≡ false → Stepping u xs) → Stepping u (x ∷ xs)
    by true k rest further = let s = further rest in record { pin = suc s.pin; steps = s.steps }
    by false k rest further = record { pin = 0; steps = λ same. (let stays = same_stays (x (u - 1)) (x u) same in cc) }

not_both : (a b : Bool) → a ≡ true → (a && b) ≡ false → b ≡ false
not_both a b e f = cc

-- a window that is not held has a tick that does not pass
record Missing (test : ℕ → Bool) (near far t : ℕ) : Type 0 where
  tick : ℕ
  low : tick + near ≤ t
  high : t ≤ tick + far
  fails : test tick ≡ false

missing : (test : ℕ → Bool) (near far t : ℕ) → far ≤ t → held_through test near far t ≡ false → Missing test near far t
missing test near far t inside e = by (cases_lt far (in_a_row test (t + 1 - near) + near))
  where
    by : (far < in_a_row test (t + 1 - near) + near) ⊎ (in_a_row test (t + 1 - near) + near ≤ far) → Missing test near far t
    by (inl long) = let held = lt-ltb far (in_a_row test (t + 1 - near) + near) long in absurd (cc)
    by (inr short) =
        record {
          tick = t + 1 - near - in_a_row test (t + 1 - near) - 1;
          low = omega arith;
          high = omega arith;
          fails = row_stops test (t + 1 - near) (omega arith);
        }

both_ones : (a b bit : Bool) → forced_by a b bit ≡ None → (a ≡ true) × (b ≡ true)
both_ones true true bit e = (refl, refl)
both_ones true false bit e = absurd (cc)
both_ones false true bit e = absurd (cc)
both_ones false false bit e = absurd (cc)

none_open : (form : Form) (kind : Kind) (d : Bounds) (choice : Chosen) (xs : List Signal) (old : Bool) (t : ℕ) → 1 ≤ length choice.wires →
    All (λ b. b ≤ t) (named_in form d choice) → makes_output form ≡ true → fixed form kind d choice xs old t ≡ None → IsOpenForm form d choice.delay xs t
none_open Gate kind d choice xs old t some asked makes e = absurd (cc)
none_open Change kind d choice xs old t some asked makes e = by (held_through (passes Change kind choice xs) d.min d.max t) refl e
  where
    by : (b : Bool) → held_through (passes Change kind choice xs) d.min d.max t ≡ b → cond b (Some old) None ≡ None → MayChange d xs t
    by true h e = absurd (cc)
    by false h e =
        let ws = choice.wires in
        let rest = All-tail (λ (b : ℕ). b ≤ t) 1 (pins_before (d.max + 1) ws) asked in
        let far = far_enough (d.max + 1) t ws some rest in
        let m = missing (passes Change kind choice xs) d.min d.max t (omega arith) h in
        let high = m.high in
        let shown = there_from m.tick (pins_before 1 ws) (shown_at (d.max + 1) 1 t m.tick ws (λ l. omega arith) rest) in
        let s = one_steps m.tick xs (not_both (are_shown 1 ws m.tick) (list_all (stays_at m.tick) xs) shown m.fails) in
        record { at = m.tick; in_reach = (m.low, m.high); pin = s.pin; steps = s.steps }
none_open (Register true) kind d choice xs old t some asked makes e =
    both_ones (nth_signal xs 2 (t - choice.delay)) (nth_signal xs 3 (t - choice.delay)) (registered xs (t - choice.delay) old) e
none_open (Register false) kind d choice xs old t some asked makes e = absurd (cc)
none_open (Enabled true) kind d choice xs old t some asked makes e =
    both_ones (nth_signal xs 2 (t - choice.delay)) (nth_signal xs 3 (t - choice.delay)) (latched xs (t - choice.delay) old) e
none_open (Enabled false) kind d choice xs old t some asked makes e = absurd (cc)
none_open (Checker check) kind d choice xs old t some asked makes e = absurd (cc)

-- If no bit is fixed, the equation leaves it open.
pub none_leaves : (run : Run) (i : Instance) (choice : Chosen) (t : ℕ) → 1 ≤ length choice.wires →
    AsOne (form_of i.kind) (two_delays i.kind i.split) choice → IsGateByTwo (form_of i.kind) (two_delays i.kind i.split) → makes_output (form_of i.kind) ≡ true →
    fixed_in run i choice t ≡ None → LeavesFree run i choice t
none_leaves run i choice t some one gate makes e = by (are_there (named_at i choice) t) refl e
  where
    by : (b : Bool) → are_there (named_at i choice) t ≡ b → cond b (fixed (form_of i.kind) i.kind i.delay choice (pin_signals run i.pins choice.wires) (out_signal run i.out i.out_inverted (t - 1)) t) None ≡ None →
        LeavesFree run i choice t
    by true there none =
        inr (none_open (form_of i.kind) i.kind i.delay choice (pin_signals run i.pins choice.wires) (out_signal run i.out i.out_inverted (t - 1)) t some (from_there t (named_at i choice) there) makes none)
    by false there none =
        inl (λ asked. (let k = there_from t (named_at i choice) ((asked_as i.kind i.delay (two_delays i.kind i.split) choice t one gate).1 asked) in absurd (cc)))

-- ---- where one is

forced_is : (s r f o : Bool) → IsForced s r f o → IsFixedTo (forced_by s r f) o
forced_is true true f o h = tt
forced_is true false f o h = h
forced_is false true f o h = h
forced_is false false f o h = h

stored_is : (forced : Bool) (xs : List Signal) (s : ℕ) (bit o : Bool) → IsStored forced xs s bit o → IsFixedTo (stored forced xs s bit) o
stored_is false xs s bit o h = h
stored_is true xs s bit o h = forced_is (nth_signal xs 2 s) (nth_signal xs 3 s) bit o h

still_from : (u : ℕ) (xs : List Signal) → list_all (stays_at u) xs ≡ true → AreStill xs u
still_from u [] e = All-nil (λ (x : Signal). x (u - 1) ≡ x u)
still_from u (x ∷ xs) e =
    let parts = and_parts (stays_at u x) (list_all (stays_at u) xs) e in
    All-cons (λ (z : Signal). z (u - 1) ≡ z u) x xs (stays_same (x (u - 1)) (x u) parts.0) (still_from u xs parts.1)

-- what a gate's bit is fixed to
abbrev waited : Kind → Chosen → List Signal → ℕ → Bool
waited kind choice xs t =
    turned (ltb choice.rise choice.fall)
    (held_through (passes Gate kind choice xs) (min choice.rise choice.fall) (max choice.rise choice.fall) t)

one_is : (form : Form) (kind : Kind) (d : Bounds) (choice : Chosen) (xs : List Signal) (o : Signal) (t : ℕ) → 1 ≤ length choice.wires → AsOne form None choice →
    All (λ b. b ≤ t) (named_in form d choice) → EquationOf form kind d choice.delay xs o t → IsFixedTo (fixed form kind d choice xs (o (t - 1)) t) (o t)
one_is Gate kind d choice xs o t some one asked h =
    h ∙ sym (obeys_one Gate kind d choice xs (λ u. waited kind choice xs t) t some one asked refl)
one_is Change kind d choice xs o t some one asked h = by (held_through (passes Change kind choice xs) d.min d.max t) refl
  where
    by : (b : Bool) → held_through (passes Change kind choice xs) d.min d.max t ≡ b → IsFixedTo (cond b (Some (o (t - 1))) None) (o t)
    by true held = sym (h (λ u near. still_from u xs (and_parts (are_shown 1 choice.wires u) (list_all (stays_at u) xs)
        (held_passes (passes Change kind choice xs) d.min d.max t u held near.0 near.1)).1))
    by false held = tt
one_is (Register forced) kind d choice xs o t some one asked h = stored_is forced xs (t - choice.delay) (registered xs (t - choice.delay) (o (t - 1))) (o t) h
one_is (Enabled forced) kind d choice xs o t some one asked h = stored_is forced xs (t - choice.delay) (latched xs (t - choice.delay) (o (t - 1))) (o t) h
one_is (Checker check) kind d choice xs o t some one asked h = tt

obeyed_is : (kind : Kind) (d : Bounds) (split : Option Split) (choice : Chosen) (xs : List Signal) (o : Signal) (t : ℕ) → 1 ≤ length choice.wires →
    AsOne (form_of kind) split choice → IsGateByTwo (form_of kind) split → All (λ b. b ≤ t) (named_in (form_of kind) d choice) →
    EquationWith kind d split choice xs o t → IsFixedTo (fixed (form_of kind) kind d choice xs (o (t - 1)) t) (o t)
obeyed_is kind d None choice xs o t some one gate asked h = one_is (form_of kind) kind d choice xs o t some one asked h
obeyed_is kind d (Some s) choice xs o t some one gate asked h =
    subst (λ f. IsFixedTo (fixed f kind d choice xs (o (t - 1)) t) (o t)) (sym gate)
    (h ∙ sym (gate_obeys kind choice xs (waited kind choice xs t) t some (subst (λ f. All (λ b. b ≤ t) (named_in f d choice)) gate asked) d (o (t - 1)) refl))

-- In a run that obeys the equation the output is the bit that is fixed, if one is.
pub obeys_fixed : (run : Run) (i : Instance) (choice : Chosen) (t : ℕ) → 1 ≤ length choice.wires →
    AsOne (form_of i.kind) (two_delays i.kind i.split) choice → IsGateByTwo (form_of i.kind) (two_delays i.kind i.split) →
    (IsAskedWith i.kind i.delay (two_delays i.kind i.split) choice t →
    EquationWith i.kind i.delay (two_delays i.kind i.split) choice (pin_signals run i.pins choice.wires) (out_signal run i.out i.out_inverted) t) →
    IsFixedTo (fixed_in run i choice t) (out_signal run i.out i.out_inverted t)
obeys_fixed run i choice t some one gate obeys = by (are_there (named_at i choice) t) refl
  where
    by : (b : Bool) → are_there (named_at i choice) t ≡ b →
        IsFixedTo (cond b (fixed (form_of i.kind) i.kind i.delay choice (shown_by run i choice) (out_signal run i.out i.out_inverted (t - 1)) t) None) (out_signal run i.out i.out_inverted t)
    by true there =
        let asked = from_there t (named_at i choice) there in
        obeyed_is i.kind i.delay (two_delays i.kind i.split) choice (shown_by run i choice) (out_signal run i.out i.out_inverted) t some one gate asked
        (obeys ((asked_as i.kind i.delay (two_delays i.kind i.split) choice t one gate).0 asked))
    by false there = tt
