-- With the bit that is fixed the equation holds, and none is fixed if the equation leaves the bit open.
use Rattle.std.proofs.Common.{◌≡◌, ℕ, zero, suc, ◌+◌, ◌-◌, ◌≤◌, ◌↔◌, max, Bool, true, false, cond, List, [], ◌∷◌, length, Option, Some, None, refl, ap, sym, subst, ◌∙◌, arith, inl, inr, All}
use Rattle.std.specs.List.{list_all}
use Rattle.std.proofs.lemmas.Bool.{and_from, and_parts, false_from_ne_true}
use Rattle.std.proofs.lemmas.List.Elements.{All-head, All-tail}
use Rattle.scald_base.specs.Time.{Bounds}
use Rattle.scald_base.specs.Signal.{Signal}
use Rattle.element_kinds.specs.declared.kind.Kind.{Kind}
use Rattle.element_kinds.specs.declared.form.Form.{Form}
use Rattle.element_kinds.specs.declared.form.Form.TheVariants.{Gate, Change, Register, Latch as Enabled, Checker}
use Rattle.element_kinds.specs.Kinds.{form_of}
use Rattle.element_kinds.specs.Equation.{nth_signal, registered, latched, IsForced, IsStored, AreStill, EquationOf, pins_before, named_by}
use Rattle.flat_circuit.specs.declared.split.Split.{Split}
use Rattle.flat_circuit.specs.declared.instance.Instance.{Instance}
use Rattle.flat_circuit.specs.Split.{gate_signal, split_bit, two_delays}
use Rattle.flat_circuit.specs.Run.{Choice as Chosen, Run, pin_signals, out_signal, EquationWith, IsAskedWith}
use Rattle.flat_circuit.proofs.Splits.{same_delays}
use Rattle.trace_sim.specs.Simulated.{IsOpenForm, LeavesFree}
use Rattle.trace_sim.specs.Making.{named_in, are_there, are_shown, stays_at, held_through, passes, forced_by, stored, fixed, fixed_in}
use Rattle.trace_sim.proofs.Shown.{there_from, from_there, shown_at, far_enough}
use Rattle.trace_sim.proofs.Held.{held_passes, passes_held, waited_is}

-- ---- one delay or two

-- if a gate has one delay, both numbers are it
abbrev pub AsOne : Form → Option Split → Chosen → Type 0
AsOne Gate None choice = (choice.rise ≡ choice.delay) × (choice.fall ≡ choice.delay)
AsOne form split choice = Unit {0}

-- gates alone have two delays
abbrev pub IsGateByTwo : Form → Option Split → Type 0
IsGateByTwo form None = Unit {0}
IsGateByTwo form (Some s) = form ≡ Gate

one_names : (form : Form) (d : Bounds) (choice : Chosen) → AsOne form None choice → named_in form d choice ≡ named_by form d choice.delay choice.wires
one_names Gate d choice h = let e = h.0 in let f = h.1 in let m : max choice.rise choice.fall ≡ choice.delay = omega arith in ap (λ x. pins_before x choice.wires) m
one_names Change d choice h = refl
one_names (Register forced) d choice h = refl
one_names (Enabled forced) d choice h = refl
one_names (Checker check) d choice h = refl

pub asked_as : (kind : Kind) (d : Bounds) (split : Option Split) (choice : Chosen) (t : ℕ) → AsOne (form_of kind) split choice → IsGateByTwo (form_of kind) split →
    All (λ b. b ≤ t) (named_in (form_of kind) d choice) ↔ IsAskedWith kind d split choice t
asked_as kind d None choice t one gate =
    let e = one_names (form_of kind) d choice one in
    (λ a. subst (λ (xs : List ℕ). All (λ b. b ≤ t) xs) e a, λ a. subst (λ (xs : List ℕ). All (λ b. b ≤ t) xs) (sym e) a)
asked_as kind d (Some s) choice t one gate =
    (λ a. subst (λ f. All (λ b. b ≤ t) (named_in f d choice)) gate a, λ a. subst (λ f. All (λ b. b ≤ t) (named_in f d choice)) (sym gate) a)

-- ---- the equation

abbrev pub IsFixedTo : Option Bool → Bool → Type 0
IsFixedTo None bit = Unit {0}
IsFixedTo (Some fixed) bit = bit ≡ fixed

forced_obeys : (s r f o : Bool) → IsFixedTo (forced_by s r f) o → IsForced s r f o
forced_obeys true true f o h = tt
forced_obeys true false f o h = h
forced_obeys false true f o h = h
forced_obeys false false f o h = h

stored_obeys : (forced : Bool) (xs : List Signal) (s : ℕ) (bit o : Bool) → IsFixedTo (stored forced xs s bit) o → IsStored forced xs s bit o
stored_obeys false xs s bit o h = h
stored_obeys true xs s bit o h = forced_obeys (nth_signal xs 2 s) (nth_signal xs 3 s) bit o h

-- a gate's bit, at a tick at which it is asked
pub gate_obeys : (kind : Kind) (choice : Chosen) (xs : List Signal) (o : Bool) (t : ℕ) → 1 ≤ length choice.wires →
    All (λ b. b ≤ t) (pins_before (max choice.rise choice.fall) choice.wires) → (d : Bounds) (old : Bool) → IsFixedTo (fixed Gate kind d choice xs old t) o →
    o ≡ split_bit (gate_signal kind xs) choice.rise choice.fall t
gate_obeys kind choice xs o t some asked d old h =
    let far = far_enough (max choice.rise choice.fall) t choice.wires some asked in
    h ∙ waited_is (gate_signal kind xs) (are_shown 0 choice.wires) choice.rise choice.fall t far
    (λ u l. there_from u (pins_before 0 choice.wires) (shown_at (max choice.rise choice.fall) 0 t u choice.wires (λ m. omega arith) asked))

pub same_stays : (a b : Bool) → a ≡ b → cond a b (cond b false true) ≡ true
same_stays true true e = refl
same_stays true false e = absurd (cc)
same_stays false true e = absurd (cc)
same_stays false false e = refl

all_stay : (u : ℕ) (xs : List Signal) → AreStill xs u → list_all (stays_at u) xs ≡ true
all_stay u [] a = refl
all_stay u (x ∷ xs) a =
    and_from (stays_at u x) (list_all (stays_at u) xs) (same_stays (x (u - 1)) (x u) (All-head (λ (z : Signal). z (u - 1) ≡ z u) x xs a))
    (all_stay u xs (All-tail (λ (z : Signal). z (u - 1) ≡ z u) x xs a))

pub obeys_one : (form : Form) (kind : Kind) (d : Bounds) (choice : Chosen) (xs : List Signal) (o : Signal) (t : ℕ) → 1 ≤ length choice.wires → AsOne form None choice →
    All (λ b. b ≤ t) (named_in form d choice) → IsFixedTo (fixed form kind d choice xs (o (t - 1)) t) (o t) → EquationOf form kind d choice.delay xs o t
obeys_one Gate kind d choice xs o t some one asked h =
    let z = gate_signal kind xs in
    gate_obeys kind choice xs (o t) t some asked d (o (t - 1)) h
    ∙ ap (λ r. split_bit z r choice.fall t) one.0 ∙ ap (λ f. split_bit z choice.delay f t) one.1 ∙ same_delays z choice.delay t
obeys_one Change kind d choice xs o t some one asked h = λ still.
    let ws = choice.wires in
    let rest = All-tail (λ (b : ℕ). b ≤ t) 1 (pins_before (d.max + 1) ws) asked in
    let far = far_enough (d.max + 1) t ws some rest in
    let held = passes_held (passes Change kind choice xs) d.min d.max t (omega arith) (λ u low high.
    and_from (are_shown 1 ws u) (list_all (stays_at u) xs) (there_from u (pins_before 1 ws) (shown_at (d.max + 1) 1 t u ws (λ m. omega arith) rest)) (all_stay u xs (still u (low, high)))) in
    let k : IsFixedTo (cond true (Some (o (t - 1))) None) (o t) = subst (λ (b : Bool). IsFixedTo (cond b (Some (o (t - 1))) None) (o t)) held h in
    sym k
obeys_one (Register forced) kind d choice xs o t some one asked h = stored_obeys forced xs (t - choice.delay) (registered xs (t - choice.delay) (o (t - 1))) (o t) h
obeys_one (Enabled forced) kind d choice xs o t some one asked h = stored_obeys forced xs (t - choice.delay) (latched xs (t - choice.delay) (o (t - 1))) (o t) h
obeys_one (Checker check) kind d choice xs o t some one asked h = tt

pub fixed_obeys : (kind : Kind) (d : Bounds) (split : Option Split) (choice : Chosen) (xs : List Signal) (o : Signal) (t : ℕ) → 1 ≤ length choice.wires →
    AsOne (form_of kind) split choice → IsGateByTwo (form_of kind) split → All (λ b. b ≤ t) (named_in (form_of kind) d choice) →
    IsFixedTo (fixed (form_of kind) kind d choice xs (o (t - 1)) t) (o t) → EquationWith kind d split choice xs o t
fixed_obeys kind d None choice xs o t some one gate asked h = obeys_one (form_of kind) kind d choice xs o t some one asked h
fixed_obeys kind d (Some s) choice xs o t some one gate asked h =
    gate_obeys kind choice xs (o t) t some (subst (λ f. All (λ b. b ≤ t) (named_in f d choice)) gate asked) d (o (t - 1))
    (subst (λ f. IsFixedTo (fixed f kind d choice xs (o (t - 1)) t) (o t)) gate h)

-- ---- if nothing is fixed

pub stays_same : (a b : Bool) → cond a b (cond b false true) ≡ true → a ≡ b
stays_same true true e = refl
stays_same true false e = absurd (cc)
stays_same false true e = absurd (cc)
stays_same false false e = refl

nth_stays : (u : ℕ) (xs : List Signal) (p : ℕ) → list_all (stays_at u) xs ≡ true → nth_signal xs p (u - 1) ≡ nth_signal xs p u
nth_stays u [] p e = refl
nth_stays u (x ∷ xs) zero e = stays_same (x (u - 1)) (x u) (and_parts (stays_at u x) (list_all (stays_at u) xs) e).0
nth_stays u (x ∷ xs) (suc p) e = nth_stays u xs p (and_parts (stays_at u x) (list_all (stays_at u) xs) e).1

both_none : (xs : List Signal) (s : ℕ) (bit a b : Bool) → a ≡ true → b ≡ true → forced_by a b bit ≡ None
both_none xs s bit a b ea eb = rw (ea, eb) refl

open_none : (form : Form) (kind : Kind) (d : Bounds) (choice : Chosen) (xs : List Signal) (old : Bool) (t : ℕ) → IsOpenForm form d choice.delay xs t → fixed form kind d choice xs old t ≡ None
open_none Gate kind d choice xs old t h = absurd h
open_none Change kind d choice xs old t h =
    let moves = false_from_ne_true (held_through (passes Change kind choice xs) d.min d.max t) (λ e.
    let p = held_passes (passes Change kind choice xs) d.min d.max t h.at e h.in_reach.0 h.in_reach.1 in
    h.steps (nth_stays h.at xs h.pin (and_parts (are_shown 1 choice.wires h.at) (list_all (stays_at h.at) xs) p).1)) in
    ap (λ (b : Bool). cond b (Some old) None) moves
open_none (Register true) kind d choice xs old t h = both_none xs t (registered xs (t - choice.delay) old) (nth_signal xs 2 (t - choice.delay)) (nth_signal xs 3 (t - choice.delay)) h.0 h.1
open_none (Register false) kind d choice xs old t h = absurd h
open_none (Enabled true) kind d choice xs old t h = both_none xs t (latched xs (t - choice.delay) old) (nth_signal xs 2 (t - choice.delay)) (nth_signal xs 3 (t - choice.delay)) h.0 h.1
open_none (Enabled false) kind d choice xs old t h = absurd h
open_none (Checker check) kind d choice xs old t h = absurd h

-- ---- the same in a run

-- A run whose output is the bit that is fixed in it obeys the equation.
pub fixed_obeys_at : (run : Run) (i : Instance) (choice : Chosen) (t : ℕ) → 1 ≤ length choice.wires →
    AsOne (form_of i.kind) (two_delays i.kind i.split) choice → IsGateByTwo (form_of i.kind) (two_delays i.kind i.split) →
    IsFixedTo (fixed_in run i choice t) (out_signal run i.out i.out_inverted t) → IsAskedWith i.kind i.delay (two_delays i.kind i.split) choice t →
    EquationWith i.kind i.delay (two_delays i.kind i.split) choice (pin_signals run i.pins choice.wires) (out_signal run i.out i.out_inverted) t
fixed_obeys_at run i choice t some one gate h asked =
    let named = (asked_as i.kind i.delay (two_delays i.kind i.split) choice t one gate).1 asked in
    let e = there_from t (named_in (form_of i.kind) i.delay choice) named in
    let xs = pin_signals run i.pins choice.wires in
    let o : Signal = out_signal run i.out i.out_inverted in
    fixed_obeys i.kind i.delay (two_delays i.kind i.split) choice xs o t some one gate named
    (subst (λ (b : Bool). IsFixedTo (cond b (fixed (form_of i.kind) i.kind i.delay choice (pin_signals run i.pins choice.wires)
    (out_signal run i.out i.out_inverted (t - 1)) t) None) (out_signal run i.out i.out_inverted t)) e h)

-- If the equation leaves the bit open, none is fixed.
pub leaves_none : (run : Run) (i : Instance) (choice : Chosen) (t : ℕ) → AsOne (form_of i.kind) (two_delays i.kind i.split) choice → IsGateByTwo (form_of i.kind) (two_delays i.kind i.split) →
    LeavesFree run i choice t → fixed_in run i choice t ≡ None
leaves_none run i choice t one gate (inl unasked) =
    let none = false_from_ne_true (are_there (named_in (form_of i.kind) i.delay choice) t) (λ e.
    unasked ((asked_as i.kind i.delay (two_delays i.kind i.split) choice t one gate).0 (from_there t (named_in (form_of i.kind) i.delay choice) e))) in
    ap (λ (b : Bool). cond b (fixed (form_of i.kind) i.kind i.delay choice (pin_signals run i.pins choice.wires) (out_signal run i.out i.out_inverted (t - 1)) t) None) none
leaves_none run i choice t one gate (inr left) =
    let e = open_none (form_of i.kind) i.kind i.delay choice (pin_signals run i.pins choice.wires) (out_signal run i.out i.out_inverted (t - 1)) t left in
    ap (λ (v : Option Bool). cond (are_there (named_in (form_of i.kind) i.delay choice) t) v None) e ∙ either (are_there (named_in (form_of i.kind) i.delay choice) t)
  where
    either : (b : Bool) → ◌≡◌ {A = Option Bool} (cond b None None) None
    either true = refl
    either false = refl
