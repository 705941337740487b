-- Runs that agree before a tick, and at it on each net that an instance sees at once, fix one bit of its output there.
use Rattle.std.proofs.Common.{◌≡◌, ℕ, zero, suc, ◌+◌, ◌-◌, ◌<◌, ◌≤◌, min, max, Bool, true, false, ◌&&◌, cond, ltb, List, [], ◌∷◌, length, get_or, Option, Some, None, refl, ap, sym, subst, ◌∙◌, arith, inl, inr, All}
use Rattle.std.specs.List.{list_all}
use Rattle.std.proofs.lemmas.Bool.{cases_eq}
use Rattle.std.proofs.lemmas.List.Elements.{All-head, All-tail}
use Rattle.scald_base.specs.Time.{Bounds}
use Rattle.scald_base.specs.Signal.{turned}
use Rattle.vector_names.specs.declared.bits.Target.{Target}
use Rattle.vector_names.specs.declared.bits.Target.TheVariants.{Net as OnNet, Constant}
use Rattle.element_kinds.specs.declared.kind.Kind.{Kind}
use Rattle.element_kinds.specs.declared.form.Form.{Form}
use Rattle.element_kinds.specs.declared.form.Form.TheVariants.{Gate, Change, Register, Latch as Enabled, Checker}
use Rattle.element_kinds.specs.Kinds.{form_of}
use Rattle.element_kinds.specs.Equation.{gate_bit, bits_at, nth_signal, registered, latched, pins_before, clock_before}
use Rattle.flat_circuit.specs.declared.instance.Pin.{Pin}
use Rattle.flat_circuit.specs.declared.instance.Instance.{Instance}
use Rattle.flat_circuit.specs.Run.{Choice as Chosen, Run, net_signal, target_signal, pin_signal, pin_signals, out_signal}
use Rattle.trace_sim.specs.Making.{near_in, named_in, are_there, are_shown, in_a_row, held_through, stays_at, passes, row_by, stored, fixed, fixed_in, SeesNow}
use Rattle.trace_sim.proofs.Shown.{from_there, shown_at, far_enough}

guarded : (b x y : Bool) → (b ≡ true → x ≡ y) → (b && x) ≡ (b && y)
guarded true x y h = h refl
guarded false x y h = refl

module _ (old new : Run) (near t : ℕ) (before : (n v : ℕ) → v < t → net_signal old n v ≡ net_signal new n v) where
  -- what one pin shows at a tick of its net, looked at `near` ticks before t or earlier
  target_same : (target : Target) (w u : ℕ) → ((n : ℕ) → near ≡ 0 → target ≡ OnNet n → w ≡ 0 → net_signal old n t ≡ net_signal new n t) →
      w ≤ u → u + near ≤ t → target_signal old target w u ≡ target_signal new target w u
  target_same (Constant b) w u now there early = refl
  target_same (OnNet n) w u now there early = elim (cases_eq (u - w) t) as (λ _. net_signal old n (u - w) ≡ net_signal new n (u - w)) [
    | inl e ↦ subst (λ v. net_signal old n v ≡ net_signal new n v) (sym e) (now n (omega arith) refl (omega arith))
    | inr d ↦ before n (u - w) (omega arith)
  ]

  pin_same : (p : Pin) (w u : ℕ) → ((n : ℕ) → near ≡ 0 → p.target ≡ OnNet n → w ≡ 0 → net_signal old n t ≡ net_signal new n t) →
      w ≤ u → u + near ≤ t → pin_signal old p w u ≡ pin_signal new p w u
  pin_same p w u now there early = ap (turned p.inverted) (target_same p.target w u now there early)

  -- the nets that are seen at once
  abbrev AgreeNow : List Pin → List ℕ → Type 0
  AgreeNow pins wires = (n : ℕ) → near ≡ 0 → SeesNow pins wires n → net_signal old n t ≡ net_signal new n t

  abbrev Shown : ℕ → List ℕ → ℕ → Type 0
  Shown back wires u = All (λ b. b ≤ u) (pins_before back wires)

  bits_same : (pins : List Pin) (wires : List ℕ) (u : ℕ) → AgreeNow pins wires → Shown 0 wires u → u + near ≤ t →
      bits_at (pin_signals old pins wires) u ≡ bits_at (pin_signals new pins wires) u
  bits_same [] wires u now there early = refl
  bits_same (p ∷ ps) [] u now there early = refl
  bits_same (p ∷ ps) (w ∷ ws) u now there early =
      let first : 0 + w ≤ u = All-head (λ (b : ℕ). b ≤ u) (0 + w) (pins_before 0 ws) there in
      let here = pin_same p w u (λ n z o e. now n z (inl (o, e))) (omega arith) early in
      let rest = bits_same ps ws u (λ n z s. now n z (inr s)) (All-tail (λ (b : ℕ). b ≤ u) (0 + w) (pins_before 0 ws) there) early in
      ap (λ b. b ∷ bits_at (pin_signals old ps ws) u) here ∙ ap (λ (bs : List Bool). pin_signal new p w u ∷ bs) rest

  nth_same : (pins : List Pin) (wires : List ℕ) (i u : ℕ) → AgreeNow pins wires → Shown 0 wires u → (1 ≤ length wires → u + near ≤ t) →
      nth_signal (pin_signals old pins wires) i u ≡ nth_signal (pin_signals new pins wires) i u
  nth_same [] wires i u now there early = refl
  nth_same (p ∷ ps) [] i u now there early = refl
  nth_same (p ∷ ps) (w ∷ ws) zero u now there early =
      let first : 0 + w ≤ u = All-head (λ (b : ℕ). b ≤ u) (0 + w) (pins_before 0 ws) there in
      pin_same p w u (λ n z o e. now n z (inl (o, e))) (omega arith) (early (omega arith))
  nth_same (p ∷ ps) (w ∷ ws) (suc i) u now there early =
      nth_same ps ws i u (λ n z s. now n z (inr s)) (All-tail (λ (b : ℕ). b ≤ u) (0 + w) (pins_before 0 ws) there) (λ l. early (omega arith))

  first_same : (pins : List Pin) (wires : List ℕ) (u : ℕ) → AgreeNow pins wires → get_or wires 0 0 ≤ u → u + near ≤ t →
      nth_signal (pin_signals old pins wires) 0 u ≡ nth_signal (pin_signals new pins wires) 0 u
  first_same [] wires u now there early = refl
  first_same (p ∷ ps) [] u now there early = refl
  first_same (p ∷ ps) (w ∷ ws) u now there early = pin_same p w u (λ n z o e. now n z (inl (o, e))) there early

  stays_same : (pins : List Pin) (wires : List ℕ) (u : ℕ) → AgreeNow pins wires → Shown 1 wires u → u + near ≤ t →
      list_all (stays_at u) (pin_signals old pins wires) ≡ list_all (stays_at u) (pin_signals new pins wires)
  stays_same [] wires u now there early = refl
  stays_same (p ∷ ps) [] u now there early = refl
  stays_same (p ∷ ps) (w ∷ ws) u now there early =
      let first : 1 + w ≤ u = All-head (λ (b : ℕ). b ≤ u) (1 + w) (pins_before 1 ws) there in
      let here = pin_same p w u (λ n z o e. now n z (inl (o, e))) (omega arith) early in
      let back = pin_same p w (u - 1) (λ n z o e. now n z (inl (o, e))) (omega arith) (omega arith) in
      let rest = stays_same ps ws u (λ n z s. now n z (inr s)) (All-tail (λ (b : ℕ). b ≤ u) (1 + w) (pins_before 1 ws) there) early in
      rw (back, here, rest) refl

  -- ---- what an instance waits for

  passes_same : (form : Form) (kind : Kind) (choice : Chosen) (pins : List Pin) (u : ℕ) → AgreeNow pins choice.wires → u + near ≤ t →
      passes form kind choice (pin_signals old pins choice.wires) u ≡ passes form kind choice (pin_signals new pins choice.wires) u
  passes_same Gate kind choice pins u now early =
      guarded (are_shown 0 choice.wires u) (turned (ltb choice.rise choice.fall) (gate_bit kind (bits_at (pin_signals old pins choice.wires) u)))
      (turned (ltb choice.rise choice.fall) (gate_bit kind (bits_at (pin_signals new pins choice.wires) u))) (λ e. ap (λ (bs : List Bool). turned (ltb choice.rise choice.fall) (gate_bit kind bs))
      (bits_same pins choice.wires u now (from_there u (pins_before 0 choice.wires) e) early))
  passes_same Change kind choice pins u now early =
      guarded (are_shown 1 choice.wires u) (list_all (stays_at u) (pin_signals old pins choice.wires)) (list_all (stays_at u)
      (pin_signals new pins choice.wires)) (λ e. stays_same pins choice.wires u now (from_there u (pins_before 1 choice.wires) e) early)
  passes_same (Register forced) kind choice pins u now early = refl
  passes_same (Enabled forced) kind choice pins u now early = refl
  passes_same (Checker check) kind choice pins u now early = refl

  row_same : (form : Form) (kind : Kind) (choice : Chosen) (pins : List Pin) (n : ℕ) → AgreeNow pins choice.wires → n ≤ t + 1 - near →
      in_a_row (passes form kind choice (pin_signals old pins choice.wires)) n ≡ in_a_row (passes form kind choice (pin_signals new pins choice.wires)) n
  row_same form kind choice pins zero now l = refl
  row_same form kind choice pins (suc u) now l =
      ap (λ b. cond b (in_a_row (passes form kind choice (pin_signals old pins choice.wires)) u + 1) 0) (passes_same form kind choice pins u now (omega arith))
      ∙ ap (λ m. cond (passes form kind choice (pin_signals new pins choice.wires) u) (m + 1) 0) (row_same form kind choice pins u now (omega arith))

  -- ---- storage

  registered_same : (pins : List Pin) (wires : List ℕ) (s : ℕ) (o p : Bool) → AgreeNow pins wires → Shown 0 wires s → get_or wires 0 0 ≤ s - 1 → s + near ≤ t → o ≡ p →
      registered (pin_signals old pins wires) s o ≡ registered (pin_signals new pins wires) s p
  registered_same pins wires s o p now there earlier early e =
      let clock = nth_same pins wires 0 s now there (λ l. early) in
      let back = first_same pins wires (s - 1) now earlier (omega arith) in
      let input = nth_same pins wires 1 s now there (λ l. early) in
      rw (clock, back, input, e) refl

  latched_same : (pins : List Pin) (wires : List ℕ) (s : ℕ) (o p : Bool) → AgreeNow pins wires → Shown 0 wires s → (1 ≤ length wires → s + near ≤ t) → o ≡ p →
      latched (pin_signals old pins wires) s o ≡ latched (pin_signals new pins wires) s p
  latched_same pins wires s o p now there early e =
      let enable = nth_same pins wires 0 s now there early in
      let input = nth_same pins wires 1 s now there early in
      rw (enable, input, e) refl

  stored_same : (forced : Bool) (pins : List Pin) (wires : List ℕ) (s : ℕ) (a b : Bool) → AgreeNow pins wires → Shown 0 wires s → (1 ≤ length wires → s + near ≤ t) → a ≡ b →
      stored forced (pin_signals old pins wires) s a ≡ stored forced (pin_signals new pins wires) s b
  stored_same false pins wires s a b now there early e = ap Some e
  stored_same true pins wires s a b now there early e =
      let set = nth_same pins wires 2 s now there early in
      let reset = nth_same pins wires 3 s now there early in
      rw (set, reset, e) refl

  register_part : (forced : Bool) (pins : List Pin) (wires : List ℕ) (o p : Bool) → AgreeNow pins wires → All (λ b. b ≤ t) (1 ∷ clock_before near wires ∷ pins_before near wires) → (1 ≤ t → o ≡ p) →
      stored forced (pin_signals old pins wires) (t - near) (registered (pin_signals old pins wires) (t - near) o)
      ≡ stored forced (pin_signals new pins wires) (t - near) (registered (pin_signals new pins wires) (t - near) p)
  register_part forced pins wires o p now asked same =
      let one : 1 ≤ t = All-head (λ (b : ℕ). b ≤ t) 1 (clock_before near wires ∷ pins_before near wires) asked in
      let rest = All-tail (λ (b : ℕ). b ≤ t) 1 (clock_before near wires ∷ pins_before near wires) asked in
      let clock : near + 1 + get_or wires 0 0 ≤ t = All-head (λ (b : ℕ). b ≤ t) (clock_before near wires) (pins_before near wires) rest in
      let there = shown_at near 0 t (t - near) wires (λ l. omega arith) (All-tail (λ (b : ℕ). b ≤ t) (clock_before near wires) (pins_before near wires) rest) in
      stored_same forced pins wires (t - near) (registered (pin_signals old pins wires) (t - near) o) (registered (pin_signals new pins wires) (t - near) p) now there (λ l. omega arith)
      (registered_same pins wires (t - near) o p now there (omega arith) (omega arith) (same one))

  latch_part : (forced : Bool) (pins : List Pin) (wires : List ℕ) (o p : Bool) → AgreeNow pins wires → All (λ b. b ≤ t) (1 ∷ pins_before near wires) → (1 ≤ t → o ≡ p) →
      stored forced (pin_signals old pins wires) (t - near) (latched (pin_signals old pins wires) (t - near) o)
      ≡ stored forced (pin_signals new pins wires) (t - near) (latched (pin_signals new pins wires) (t - near) p)
  latch_part forced pins wires o p now asked same =
      let one : 1 ≤ t = All-head (λ (b : ℕ). b ≤ t) 1 (pins_before near wires) asked in
      let rest = All-tail (λ (b : ℕ). b ≤ t) 1 (pins_before near wires) asked in
      let there = shown_at near 0 t (t - near) wires (λ l. omega arith) rest in
      let early : 1 ≤ length wires → (t - near) + near ≤ t = λ l. (let m = far_enough near t wires l rest in omega arith) in
      stored_same forced pins wires (t - near) (latched (pin_signals old pins wires) (t - near) o) (latched (pin_signals new pins wires) (t - near) p) now there early
      (latched_same pins wires (t - near) o p now there early (same one))

-- ---- the bit that is fixed

module _ (old new : Run) (t : ℕ) (before : (n v : ℕ) → v < t → net_signal old n v ≡ net_signal new n v) where
  fixed_same : (form : Form) (kind : Kind) (bounds : Bounds) (choice : Chosen) (pins : List Pin) (o p : Bool) →
      ((n : ℕ) → near_in form bounds choice ≡ 0 → SeesNow pins choice.wires n → net_signal old n t ≡ net_signal new n t) →
      All (λ b. b ≤ t) (named_in form bounds choice) → (1 ≤ t → o ≡ p) →
      fixed form kind bounds choice (pin_signals old pins choice.wires) o t ≡ fixed form kind bounds choice (pin_signals new pins choice.wires) p t
  fixed_same Gate kind bounds choice pins o p now asked same =
      ap (λ m. Some (turned (ltb choice.rise choice.fall) (ltb (max choice.rise choice.fall) (m + min choice.rise choice.fall))))
      (row_same old new (min choice.rise choice.fall) t before Gate kind choice pins (t + 1 - min choice.rise choice.fall) now (omega arith))
  fixed_same Change kind bounds choice pins o p now asked same =
      let one : 1 ≤ t = All-head (λ (b : ℕ). b ≤ t) 1 (pins_before (bounds.max + 1) choice.wires) asked in
      ap (λ m. cond (ltb bounds.max (m + bounds.min)) (Some o) None)
      (row_same old new bounds.min t before Change kind choice pins (t + 1 - bounds.min) now (omega arith))
      ∙ ap (λ b. cond (held_through (passes Change kind choice (pin_signals new pins choice.wires)) bounds.min bounds.max t) (Some b) None) (same one)
  fixed_same (Register forced) kind bounds choice pins o p now asked same = register_part old new choice.delay t before forced pins choice.wires o p now asked same
  fixed_same (Enabled forced) kind bounds choice pins o p now asked same = latch_part old new choice.delay t before forced pins choice.wires o p now asked same
  fixed_same (Checker check) kind bounds choice pins o p now asked same = refl

  out_same : (out : Option Target) (inverted : Bool) (u : ℕ) → u < t → out_signal old out inverted u ≡ out_signal new out inverted u
  out_same None inverted u l = refl
  out_same (Some (Constant b)) inverted u l = refl
  out_same (Some (OnNet n)) inverted u l = ap (turned inverted) (before n (u - 0) (omega arith))

  pub fixed_kept : (i : Instance) (choice : Chosen) → ((n : ℕ) → near_in (form_of i.kind) i.delay choice ≡ 0 → SeesNow i.pins choice.wires n → net_signal old n t ≡ net_signal new n t) →
      fixed_in old i choice t ≡ fixed_in new i choice t
  fixed_kept i choice now = by (are_there (named_in (form_of i.kind) i.delay choice) t) refl
    where
      by : (b : Bool) → are_there (named_in (form_of i.kind) i.delay choice) t ≡ b →
          cond b (fixed (form_of i.kind) i.kind i.delay choice (pin_signals old i.pins choice.wires) (out_signal old i.out i.out_inverted (t - 1)) t) None
          ≡ cond b (fixed (form_of i.kind) i.kind i.delay choice (pin_signals new i.pins choice.wires) (out_signal new i.out i.out_inverted (t - 1)) t) None
      by false e = refl
      by true e =
          fixed_same (form_of i.kind) i.kind i.delay choice i.pins (out_signal old i.out i.out_inverted (t - 1)) (out_signal new i.out i.out_inverted (t - 1)) now
          (from_there t (named_in (form_of i.kind) i.delay choice) e) (λ one. out_same i.out i.out_inverted (t - 1) (omega arith))

-- ---- rows before the tick

pub row_kept : (old new : Run) (form : Form) (i : Instance) (choice : Chosen) (t : ℕ) → ((n v : ℕ) → v < t → net_signal old n v ≡ net_signal new n v) →
    row_by form old i choice t ≡ row_by form new i choice t
row_kept old new form i choice zero before =
    let none : 0 - near_in form i.delay choice ≡ 0 = omega arith in
    ap (in_a_row (passes form i.kind choice (pin_signals old i.pins choice.wires))) none
    ∙ sym (ap (in_a_row (passes form i.kind choice (pin_signals new i.pins choice.wires))) none)
row_kept old new form i choice (suc t) before =
    row_same old new (near_in form i.delay choice) t (λ n v l. before n v (omega arith)) form i.kind choice i.pins (suc t - near_in form i.delay choice)
    (λ n z s. before n t (omega arith)) (omega arith)
