-- What the equation of two delays says of single ticks.
use Rattle.std.proofs.Common.{◌≡◌, ℕ, zero, suc, ◌+◌, ◌-◌, ◌<◌, ◌≤◌, ◌⊎◌, ◌↔◌, min, max, Bool, true, false, not, ◌&&◌, ◌||◌, cond, List, [], ◌∷◌, All, refl, sym, ap, ◌∙◌, subst, inl, inr, arith}
use Rattle.std.specs.List.{list_all, list_any, range_with_len}
use Rattle.std.proofs.lemmas.Bool.{and_parts, and_from, or_cases, or_left, or_right, cases_eq, cases_lt, le-leb, lt-leb}
use Rattle.scald_base.specs.Time.{Bounds}
use Rattle.scald_base.specs.Signal.{Signal}
use Rattle.element_kinds.specs.declared.kind.Kind.{Kind}
use Rattle.element_kinds.specs.declared.form.Form.{Form}
use Rattle.element_kinds.specs.declared.form.Form.TheVariants.{Gate}
use Rattle.element_kinds.specs.Kinds.{form_of, is_function, may_split}
use Rattle.element_kinds.proofs.Forms.{of_form}
use Rattle.element_kinds.specs.Equation.{gate_bit, bits_at, pins_before, EquationOf, Equation, named_by, IsAsked, IsInReach}
use Rattle.flat_circuit.specs.Split.{gate_signal, ticks, split_bit, SplitEquation, IsSplitAsked, EqualDelaysAreOne, EveryTickCounts, RiseMirrorsFall}

-- ---- a signal over some ticks in a row

all_at : (z : Signal) (first n u : ℕ) → list_all z (range_with_len first n) ≡ true → first ≤ u → u < first + n → z u ≡ true
all_at z first zero u h low high = absurd (omega arith)
all_at z first (suc n) u h low high = elim (cases_eq u first) [
  | inl e ↦ ap z e ∙ (and_parts (z first) (list_all z (range_with_len (first + 1) n)) h).0
  | inr ne ↦ all_at z (first + 1) n u (and_parts (z first) (list_all z (range_with_len (first + 1) n)) h).1 (omega arith) (omega arith)
]

all_from : (z : Signal) (first n : ℕ) → ((u : ℕ) → first ≤ u → u < first + n → z u ≡ true) → list_all z (range_with_len first n) ≡ true
all_from z first zero h = refl
all_from z first (suc n) h =
    and_from (z first) (list_all z (range_with_len (first + 1) n)) (h first (omega arith) (omega arith))
    (all_from z (first + 1) n (λ u low high. h u (omega arith) (omega arith)))

any_at : (z : Signal) (first n u : ℕ) → first ≤ u → u < first + n → z u ≡ true → list_any z (range_with_len first n) ≡ true
any_at z first zero u low high h = absurd (omega arith)
any_at z first (suc n) u low high h = elim (cases_eq u first) [
  | inl e ↦ or_left (z first) (list_any z (range_with_len (first + 1) n)) (ap z (sym e) ∙ h)
  | inr ne ↦ or_right (z first) (list_any z (range_with_len (first + 1) n)) (any_at z (first + 1) n u (omega arith) (omega arith) h)
]

any_is : (z : Signal) (first n : ℕ) → list_any z (range_with_len first n) ≡ true → (u : ℕ) × (first ≤ u) × (u < first + n) × (z u ≡ true)
any_is z first zero h = cc
any_is z first (suc n) h = elim (or_cases (z first) (list_any z (range_with_len (first + 1) n)) h) [
  | inl here ↦ (first, omega arith, omega arith, here)
  | inr later ↦ (let r : (u : ℕ) × (first + 1 ≤ u) × (u < first + 1 + n) × (z u ≡ true) = any_is z (first + 1) n later in
      let low : first + 1 ≤ r.0 = r.1 in let high : r.0 < first + 1 + n = r.2 in (r.0, omega arith, omega arith, r.3))
]

any_turned : (z : Signal) (us : List ℕ) → list_any (λ u. not (z u)) us ≡ not (list_all z us)
any_turned z [] = refl
any_turned z (u ∷ us) = ap (λ b. not (z u) || b) (any_turned z us) ∙ turns (z u) (list_all z us)
  where
    turns : (a b : Bool) → (not a || not b) ≡ not (a && b)
    turns a b = grind arith

all_turned : (z : Signal) (us : List ℕ) → list_all (λ u. not (z u)) us ≡ not (list_any z us)
all_turned z [] = refl
all_turned z (u ∷ us) = ap (λ b. not (z u) && b) (all_turned z us) ∙ turns (z u) (list_any z us)
  where
    turns : (a b : Bool) → (not a && not b) ≡ not (a || b)
    turns a b = grind arith

one_tick : (u : ℕ) → ticks u u ≡ u ∷ []
one_tick u = ap (range_with_len u) (let e : u + 1 - u ≡ 1 = omega arith in e)

-- ---- the bit

-- by the longer delay
pub by_rise : (z : Signal) (rise fall t : ℕ) → fall ≤ rise → split_bit z rise fall t ≡ list_all z (ticks (t - rise) (t - fall))
by_rise z rise fall t longer =
    ap (λ b. cond b (list_all z (ticks (t - rise) (t - fall))) (list_any z (ticks (t - fall) (t - rise)))) (le-leb fall rise longer)

pub by_fall : (z : Signal) (rise fall t : ℕ) → rise < fall → split_bit z rise fall t ≡ list_any z (ticks (t - fall) (t - rise))
by_fall z rise fall t longer =
    ap (λ b. cond b (list_all z (ticks (t - rise) (t - fall))) (list_any z (ticks (t - fall) (t - rise)))) (lt-leb fall rise longer)

pub same_delays : (z : Signal) (delay t : ℕ) → split_bit z delay delay t ≡ z (t - delay)
same_delays z delay t =
    by_rise z delay delay t (omega arith) ∙ ap (list_all z) (one_tick (t - delay)) ∙ alone (z (t - delay))
  where
    alone : (b : Bool) → (b && true) ≡ b
    alone b = grind arith

-- a bit that never changes
all_constant : (b : Bool) (first n : ℕ) → list_all (λ u. b) (range_with_len first (suc n)) ≡ b
all_constant b first zero = alone b
  where
    alone : (b : Bool) → (b && true) ≡ b
    alone b = grind arith
all_constant b first (suc n) = ap (λ c. b && c) (all_constant b (first + 1) n) ∙ twice b
  where
    twice : (b : Bool) → (b && b) ≡ b
    twice b = grind arith

any_constant : (b : Bool) (first n : ℕ) → list_any (λ u. b) (range_with_len first (suc n)) ≡ b
any_constant b first zero = alone b
  where
    alone : (b : Bool) → (b || false) ≡ b
    alone b = grind arith
any_constant b first (suc n) = ap (λ c. b || c) (any_constant b (first + 1) n) ∙ twice b
  where
    twice : (b : Bool) → (b || b) ≡ b
    twice b = grind arith

pub constant_bit : (b : Bool) (rise fall t : ℕ) → split_bit (λ u. b) rise fall t ≡ b
constant_bit b rise fall t = by (cases_lt rise fall)
  where
    by : (rise < fall) ⊎ (fall ≤ rise) → split_bit (λ u. b) rise fall t ≡ b
    by (inl longer) =
        let some : t - rise + 1 - (t - fall) ≡ suc (t - rise - (t - fall)) = omega arith in
        by_fall (λ u. b) rise fall t longer
        ∙ ap (λ (n : ℕ). list_any (λ u. b) (range_with_len (t - fall) n)) some
        ∙ any_constant b (t - fall) (t - rise - (t - fall))
    by (inr longer) =
        let some : t - fall + 1 - (t - rise) ≡ suc (t - fall - (t - rise)) = omega arith in
        by_rise (λ u. b) rise fall t longer
        ∙ ap (λ (n : ℕ). list_all (λ u. b) (range_with_len (t - rise) n)) some
        ∙ all_constant b (t - rise) (t - fall - (t - rise))

pub turned : RiseMirrorsFall
turned z rise fall t = by (cases_lt rise fall)
  where
    by : (rise < fall) ⊎ (fall ≤ rise) → split_bit (λ u. not (z u)) fall rise t ≡ not (split_bit z rise fall t)
    by (inl longer) = by_rise (λ u. not (z u)) fall rise t (omega arith) ∙ all_turned z (ticks (t - fall) (t - rise)) ∙ ap not (sym (by_fall z rise fall t longer))
    by (inr longer) = elim (cases_eq rise fall) [
      | inl e ↦ (ap (λ (f : ℕ). split_bit (λ u. not (z u)) f rise t) (sym e) ∙ same_delays (λ u. not (z u)) rise t
          ∙ ap not (sym (same_delays z rise t)) ∙ ap (λ (f : ℕ). not (split_bit z rise f t)) e)
      | inr ne ↦ (by_fall (λ u. not (z u)) fall rise t (omega arith) ∙ any_turned z (ticks (t - rise) (t - fall)) ∙ ap not (sym (by_rise z rise fall t longer)))
    ]

-- ---- the laws

pub equal_delays : EqualDelaysAreOne
equal_delays = record { equation = equation; asked = asked }
  where
    follows : (kind : Kind) (delay : ℕ) (signals : List Signal) (output : Signal) (t : ℕ) →
        SplitEquation kind delay delay signals output t ↔ (output t ≡ gate_bit kind (bits_at signals (t - delay)))
    follows kind delay signals output t =
        (λ h. h ∙ same_delays (gate_signal kind signals) delay t, λ h. h ∙ sym (same_delays (gate_signal kind signals) delay t))

    equation_by : (form : Form) (kind : Kind) (bounds : Bounds) (delay : ℕ) (signals : List Signal) (output : Signal) (t : ℕ) → is_function form ≡ true →
        SplitEquation kind delay delay signals output t ↔ EquationOf form kind bounds delay signals output t
    equation_by Gate kind bounds delay signals output t h = follows kind delay signals output t
    equation_by form kind bounds delay signals output t h = cc

    equation : (kind : Kind) (bounds : Bounds) (delay : ℕ) (signals : List Signal) (output : Signal) (t : ℕ) → may_split kind ≡ true →
        SplitEquation kind delay delay signals output t ↔ Equation kind bounds delay signals output t
    equation kind bounds delay signals output t h = equation_by (form_of kind) kind bounds delay signals output t
        (of_form is_function kind ∙ h)

    greater : (delay : ℕ) → max delay delay ≡ delay
    greater delay = omega arith

    both : (delay : ℕ) (wires : List ℕ) (t : ℕ) → IsSplitAsked delay delay wires t ↔ All (λ back. back ≤ t) (pins_before delay wires)
    both delay wires t = (
      λ h. subst (λ (d : ℕ). All (λ back. back ≤ t) (pins_before d wires)) (greater delay) h,
      λ h. subst (λ (d : ℕ). All (λ back. back ≤ t) (pins_before d wires)) (sym (greater delay)) h,
    )

    asked_by : (form : Form) (bounds : Bounds) (delay : ℕ) (wires : List ℕ) (t : ℕ) → is_function form ≡ true →
        IsSplitAsked delay delay wires t ↔ All (λ back. back ≤ t) (named_by form bounds delay wires)
    asked_by Gate bounds delay wires t h = both delay wires t
    asked_by form bounds delay wires t h = cc

    asked : (kind : Kind) (bounds : Bounds) (delay : ℕ) (wires : List ℕ) (t : ℕ) → may_split kind ≡ true →
        IsSplitAsked delay delay wires t ↔ IsAsked kind bounds delay wires t
    asked kind bounds delay wires t h = asked_by (form_of kind) bounds delay wires t (of_form is_function kind ∙ h)

pub every_tick : EveryTickCounts
every_tick = record {
  slow_rise = λ z rise fall t longer inside. (
    λ h u near.
        let low : u + fall ≤ t = near.0 in let high : t ≤ u + rise = near.1 in
        all_at z (t - rise) (t - fall + 1 - (t - rise)) u (sym (by_rise z rise fall t longer) ∙ h) (omega arith) (omega arith),
    λ h. by_rise z rise fall t longer
        ∙ all_from z (t - rise) (t - fall + 1 - (t - rise)) (λ u low high. h u (omega arith, omega arith)),
  );
  slow_fall = λ z rise fall t longer inside. (
    λ h.
        let r : (u : ℕ) × (t - fall ≤ u) × (u < t - fall + (t - rise + 1 - (t - fall))) × (z u ≡ true) =
        any_is z (t - fall) (t - rise + 1 - (t - fall)) (sym (by_fall z rise fall t longer) ∙ h) in
        let low : t - fall ≤ r.0 = r.1 in
        let high : r.0 < t - fall + (t - rise + 1 - (t - fall)) = r.2 in
        (r.0, (omega arith, omega arith), r.3),
    λ some.
        let low : some.0 + rise ≤ t = some.1.0 in let high : t ≤ some.0 + fall = some.1.1 in
        by_fall z rise fall t longer ∙ any_at z (t - fall) (t - rise + 1 - (t - fall)) some.0 (omega arith) (omega arith) some.2,
  );
}

-- ---- how the output came to its bit

-- It is at this bit at t, to which it comes after the delay `own`, and from which it goes after `other`.
pub data Came (bit : Bool) (z : Signal) (t own other : ℕ) : Type 0 where
  Throughout : other ≤ own → ((j : ℕ) → other ≤ j → j ≤ own → z (t - j) ≡ bit) → Came bit z t own other
  Somewhere : own ≤ other → (j : ℕ) → own ≤ j → j ≤ other → z (t - j) ≡ bit → Came bit z t own other

pub came_one : (z : Signal) (rise fall t : ℕ) → rise ≤ t → fall ≤ t → split_bit z rise fall t ≡ true → Came true z t rise fall
came_one z rise fall t inside inside' h = by (cases_lt rise fall)
  where
    by : (rise < fall) ⊎ (fall ≤ rise) → Came true z t rise fall
    by (inl longer) =
        let some : (u : ℕ) × IsInReach (record { min = rise; max = fall }) t u × (z u ≡ true) = (every_tick.slow_fall z rise fall t longer inside').0 h in
        let low : some.0 + rise ≤ t = some.1.0 in let high : t ≤ some.0 + fall = some.1.1 in
        Somewhere (omega arith) (t - some.0) (omega arith) (omega arith) (ap z (let e : t - (t - some.0) ≡ some.0 = omega arith in e) ∙ some.2)
    by (inr longer) = Throughout longer (λ j low high. (every_tick.slow_rise z rise fall t longer inside).0 h (t - j) (omega arith, omega arith))

came_turned : (z : Signal) (t own other : ℕ) → Came true (λ u. not (z u)) t own other → Came false z t own other
came_turned z t own other (Throughout longer all) = Throughout longer (λ j low high. not_true (z (t - j)) (all j low high))
  where
    not_true : (b : Bool) → not b ≡ true → b ≡ false
    not_true b h = grind arith
came_turned z t own other (Somewhere longer j low high here) = Somewhere longer j low high (not_true (z (t - j)) here)
  where
    not_true : (b : Bool) → not b ≡ true → b ≡ false
    not_true b h = grind arith

pub came_zero : (z : Signal) (rise fall t : ℕ) → rise ≤ t → fall ≤ t → split_bit z rise fall t ≡ false → Came false z t fall rise
came_zero z rise fall t inside inside' h =
    came_turned z t fall rise (came_one (λ u. not (z u)) fall rise t inside' inside (turned z rise fall t ∙ ap not h))

never : (bit b : Bool) → b ≡ not bit → b ≡ bit → ⊥
never bit b h h' = grind arith

-- if the delay to it is the longer one, z was at the bit at both ends
pub came_both : (bit : Bool) (z : Signal) (t own other : ℕ) → other ≤ own → Came bit z t own other → (z (t - own) ≡ bit) × (z (t - other) ≡ bit)
came_both bit z t own other longer (Throughout a all) = (all own a (omega arith), all other (omega arith) a)
came_both bit z t own other longer (Somewhere a j low high here) =
    (ap (λ (i : ℕ). z (t - i)) (let e : own ≡ j = omega arith in e) ∙ here, ap (λ (i : ℕ). z (t - i)) (let e : other ≡ j = omega arith in e) ∙ here)

-- at some tick between the two delays z was at the bit
pub came_some : (bit : Bool) (z : Signal) (t own other : ℕ) → Came bit z t own other →
    (j : ℕ) × (min own other ≤ j) × (j ≤ max own other) × (z (t - j) ≡ bit)
came_some bit z t own other (Throughout a all) = (own, omega arith, omega arith, all own a (omega arith))
came_some bit z t own other (Somewhere a j low high here) = (j, omega arith, omega arith, here)

-- An output that comes to a bit at t does so by a step of z to it, its own delay before.
pub came_step : (bit : Bool) (z : Signal) (t own other : ℕ) → 1 ≤ t → Came (not bit) z (t - 1) other own → Came bit z t own other →
    (z (t - own - 1) ≡ not bit) × (z (t - own) ≡ bit)
came_step bit z t own other t1 (Throughout a before) (Throughout b now) =
    (ap z (let e : t - own - 1 ≡ t - 1 - own = omega arith in e) ∙ before own (omega arith) (omega arith), now own (omega arith) (omega arith))
came_step bit z t own other t1 (Throughout a before) (Somewhere b j low high now) = elim (cases_eq j own) [
  | inl same ↦ (
    ap z (let e : t - own - 1 ≡ t - 1 - own = omega arith in e) ∙ before own (omega arith) (omega arith),
    ap (λ (i : ℕ). z (t - i)) (sym same) ∙ now,
  )
  | inr ne ↦ absurd (never bit (z (t - j)) (ap z (let e : t - j ≡ t - 1 - (j - 1) = omega arith in e) ∙ before (j - 1) (omega arith) (omega arith)) now)
]
came_step bit z t own other t1 (Somewhere a j low high before) (Throughout b now) = elim (cases_eq j own) [
  | inl same ↦ (ap z (let e : t - own - 1 ≡ t - 1 - j = omega (arith, same) in e) ∙ before, now own (omega arith) (omega arith))
  | inr ne ↦ absurd (never bit (z (t - 1 - j)) before (ap z (let e : t - 1 - j ≡ t - (j + 1) = omega arith in e) ∙ now (j + 1) (omega arith) (omega arith)))
]
came_step bit z t own other t1 (Somewhere a i low high before) (Somewhere b j low' high' now) =
    (ap z (let e : t - own - 1 ≡ t - 1 - i = omega arith in e) ∙ before, ap z (let e : t - own ≡ t - j = omega arith in e) ∙ now)
