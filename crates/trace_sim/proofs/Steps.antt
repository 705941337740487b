-- What the code's steps say of the definitions.
use Rattle.std.proofs.Common.{◌≡◌, ℕ, zero, suc, ◌+◌, ◌-◌, ◌<◌, ◌≤◌, Bool, true, false, cond, List, [], ◌∷◌, length, get_or, set, drop, Some, refl, ap, sym, ◌∙◌, arith, inl, inr}
use Rattle.std.specs.Prelude.{◌⊎◌, slice_get}
use Rattle.std.proofs.lemmas.List.{get_or_default, drop_more}
use Rattle.std.proofs.lemmas.Option.{slice_get_within}
use Rattle.element_kinds.specs.declared.form.Form.{Form}
use Rattle.element_kinds.specs.Kinds.{form_of}
use Rattle.element_kinds.specs.Equation.{number_of_bits, nth_signal}
use Rattle.flat_circuit.specs.declared.instance.Pin.{Pin}
use Rattle.flat_circuit.specs.declared.instance.Instance.{Instance}
use Rattle.flat_circuit.specs.Circuit.{Circuit}
use Rattle.flat_circuit.specs.Run.{Choice as Chosen, Run, pin_signal, pin_signals}
use Rattle.trace_sim.specs.Choice.{Bits}
use Rattle.trace_sim.specs.Simulated.{bit_of}
use Rattle.trace_sim.specs.Making.{near_in, passes, row_by, row_in, put, evaluated, pass, AreRows, seen}
use Rattle.trace_sim.proofs.Held.{row_short}
use Rattle.trace_sim.proofs.Agreeing.{row_kept}

-- ---- numbers of up to three bits

cond_small : (b : Bool) (n : ℕ) → cond b n 0 ≤ n
cond_small true n = omega arith
cond_small false n = omega arith

pub number_small : (bits : List Bool) → length bits ≤ 3 → number_of_bits bits < 8
number_small [] h = omega arith
number_small (a ∷ []) h = let x = cond_small a 1 in omega arith
number_small (a ∷ b ∷ []) h = let x = cond_small a 2 in let y = cond_small b 1 in omega arith
number_small (a ∷ b ∷ c ∷ []) h = let x = cond_small a 4 in let y = cond_small b 2 in let z = cond_small c 1 in omega arith
number_small (a ∷ b ∷ c ∷ d ∷ ds) h = absurd (omega arith)

-- ---- pins

pub nth_pin_is : (run : Run) (pins : List Pin) (wires : List ℕ) (place t : ℕ) (p : Pin) (w : ℕ) → place < length pins →
    place < length wires → nth_signal (pin_signals run pins wires) place t ≡ pin_signal run (get_or pins place p) (get_or wires place w) t
nth_pin_is run [] wires place t p w l m = absurd (omega arith)
nth_pin_is run (x ∷ xs) [] place t p w l m = absurd (omega arith)
nth_pin_is run (x ∷ xs) (y ∷ ys) zero t p w l m = refl
nth_pin_is run (x ∷ xs) (y ∷ ys) (suc place) t p w l m = nth_pin_is run xs ys place t p w (omega arith) (omega arith)

pub nth_pin_none : (run : Run) (pins : List Pin) (wires : List ℕ) (place t : ℕ) → (length pins ≤ place) ⊎ (length wires ≤ place) → nth_signal (pin_signals run pins wires) place t ≡ false
nth_pin_none run [] wires place t h = refl
nth_pin_none run (x ∷ xs) [] place t h = refl
nth_pin_none run (x ∷ xs) (y ∷ ys) zero t h = elim h as (λ _. nth_signal (pin_signals run (x ∷ xs) (y ∷ ys)) zero t ≡ false) [ inl l ↦ absurd (omega arith) | inr l ↦ absurd (omega arith) ]
nth_pin_none run (x ∷ xs) (y ∷ ys) (suc place) t h = nth_pin_none run xs ys place t
    (elim h as (λ _. (length xs ≤ place) ⊎ (length ys ≤ place)) [ inl l ↦ inl (omega arith) | inr l ↦ inr (omega arith) ])

-- past the last pin or wire there are no signals
pub no_signals : (run : Run) (pins : List Pin) (wires : List ℕ) (place : ℕ) → (length pins ≤ place) ⊎ (length wires ≤ place) → pin_signals run (drop place pins) (drop place wires) ≡ []
no_signals run [] wires zero h = refl
no_signals run [] wires (suc place) h = refl
no_signals run (x ∷ xs) [] zero h = refl
no_signals run (x ∷ xs) (y ∷ ys) zero h = elim h as (λ _. pin_signals run (x ∷ xs) (y ∷ ys) ≡ []) [ inl l ↦ absurd (omega arith) | inr l ↦ absurd (omega arith) ]
no_signals run (x ∷ xs) [] (suc place) h = none run (drop place xs) where
  none : (run : Run) (pins : List Pin) → pin_signals run pins [] ≡ []
  none run [] = refl
  none run (p ∷ ps) = refl
no_signals run (x ∷ xs) (y ∷ ys) (suc place) h = no_signals run xs ys place (elim h as (λ _. (length xs ≤ place) ⊎ (length ys ≤ place)) [ inl l ↦ inl (omega arith) | inr l ↦ inr (omega arith) ])

-- ---- a write

pub put_is : (bits : Bits) (i t : ℕ) (b : Bool) (v w : List Bool) → i < length bits → w ≡ set (get_or bits i v) t b → set bits i w ≡ put bits i t b
put_is bits i t b v w l e = ap (λ (row : List Bool). set bits i row) (e ∙ ap (λ (row : List Bool). set row t b) (get_or_default bits i v [] l))

-- ---- one instance of a tick

pub pass_more : (c : Circuit) (ticks : ℕ) (choices : List Chosen) (t : ℕ) (order : List ℕ) (at d : ℕ) (bits after last : Bits) → at < length order →
    after ≡ evaluated c ticks choices t (get_or order at d) bits → pass c ticks choices t (drop at order) bits ≡ last →
    pass c ticks choices t (drop (at + 1) order) after ≡ last
pass_more c ticks choices t order at d bits after last l e h =
    ap (λ (x : Bits). pass c ticks choices t (drop (at + 1) order) x) e
    ∙ sym (ap (λ (ks : List ℕ). pass c ticks choices t ks bits) (drop_more order at d l)) ∙ h

-- ---- ticks in a row

pub row_bounded : (form : Form) (run : Run) (i : Instance) (at : Chosen) (t : ℕ) → row_by form run i at t ≤ t
row_bounded form run i at t =
    let short = row_short (passes form i.kind at (pin_signals run i.pins at.wires)) (t - near_in form i.delay at) in omega (arith, short)

-- what changes no bit before a tick changes no count of the ticks before it
pub rows_stay : (c : Circuit) (choices : List Chosen) (old new : Bits) (rows : List ℕ) (t : ℕ) → ((n v : ℕ) → v < t → bit_of new n v ≡ bit_of old n v) →
    AreRows c choices old rows t → AreRows c choices new rows t
rows_stay c choices old new rows t before are k i at here chose =
    are k i at here chose ∙ row_kept (seen old) (seen new) (form_of i.kind) i at t (λ n v l. sym (before n v l))

-- the counts of the first instances take tick t in, those of the others do not yet
abbrev pub AreRowsTo : Circuit → List Chosen → Bits → List ℕ → ℕ → ℕ → Type 0
AreRowsTo c choices bits rows t m =
    (k : ℕ) (i : Instance) (at : Chosen) → slice_get c.instances k ≡ Some i → slice_get choices k ≡ Some at →
    (k < m → get_or rows k 0 ≡ row_in (seen bits) i at (t + 1)) × (m ≤ k → get_or rows k 0 ≡ row_in (seen bits) i at t)

pub all_now : (c : Circuit) (choices : List Chosen) (bits : Bits) (rows : List ℕ) (t m : ℕ) → length c.instances ≤ m → AreRowsTo c choices bits rows t m →
    AreRows c choices bits rows (t + 1)
all_now c choices bits rows t m l are k i at here chose = let w = slice_get_within c.instances k i here in (are k i at here chose).0 (omega arith)
