-- An equation at a tick follows from the same equation so many ticks later in other signals, if
-- both show the same bits at the ticks that it names. Parts of runs, and runs with another bit, are
-- other signals of that kind.
use Rattle.std.proofs.Common.{◌≡◌, ℕ, zero, suc, ◌+◌, ◌-◌, ◌≤◌, Bool, true, false, not, ◌&&◌, if◌then◌else◌, List, [], ◌∷◌, refl, sym, ap, subst, ◌∙◌, arith, All}
use Rattle.std.specs.Prelude.{⊤}
use Rattle.std.proofs.lemmas.List.Elements.{All-nil, All-cons, All-head, All-tail}
use Rattle.scald_base.specs.Time.{Bounds}
use Rattle.scald_base.specs.Signal.{Signal}
use Rattle.element_kinds.specs.declared.kind.Kind.{Kind}
use Rattle.element_kinds.specs.declared.kind.Kind.TheVariants.{Chg}
use Rattle.element_kinds.specs.declared.form.Form.{Form}
use Rattle.element_kinds.specs.declared.form.Form.TheVariants.{Gate, Change, Register, Latch as Enabled, Checker}
use Rattle.element_kinds.specs.Kinds.{form_of}
use Rattle.element_kinds.specs.Equation.{bits_at, gate_bit, nth_signal, rises_at, registered, latched, Follows, IsForced, IsSetReset, AreStill, EquationOf, Equation, pins_before, clock_before, named_by, IsAsked}
use Rattle.flat_circuit.specs.Laws.{looks_back_by, looks_back}

-- From the ticks of its wire on up to t, each signal of ys shows what that of xs shows m ticks
-- later.
abbrev pub Match : ℕ → ℕ → List ℕ → List Signal → List Signal → Type 0
Match m t [] [] [] = ⊤
Match m t (w ∷ ws) (x ∷ xs) (y ∷ ys) = ((u : ℕ) → w ≤ u → u ≤ t →
    y u ≡ x (m + u)) × Match m t ws xs ys
Match m t _ _ _ = ⊥

-- ---- what signals show a delay before

abbrev pub Named : ℕ → ℕ → List ℕ → Type 0
Named t delay ws = All (λ before. before ≤ t) (pins_before delay ws)

pub named_head : (t delay w : ℕ) (ws : List ℕ) → Named t delay (w ∷ ws) → delay + w ≤ t
named_head t delay w ws named = All-head (λ (before : ℕ). before ≤ t) (delay + w)
    (pins_before delay ws) named

pub named_tail : (t delay w : ℕ) (ws : List ℕ) → Named t delay (w ∷ ws) → Named t delay ws
named_tail t delay w ws named = All-tail (λ (before : ℕ). before ≤ t) (delay + w)
    (pins_before delay ws) named

shown : (m t delay w : ℕ) (x y : Signal) → ((u : ℕ) → w ≤ u → u ≤ t → y u ≡ x (m + u)) →
    delay + w ≤ t →
    y (t - delay) ≡ x ((m + t) - delay)
shown m t delay w x y same named =
    let at : m + (t - delay) ≡ (m + t) - delay = omega arith in
    same (t - delay) (omega arith) (omega arith) ∙ ap x at

pub bits_move : (m t delay : ℕ) (ws : List ℕ) (xs ys : List Signal) → Match m t ws xs ys →
    Named t delay ws →
    bits_at ys (t - delay) ≡ bits_at xs ((m + t) - delay)
bits_move m t delay [] [] [] same named = refl
bits_move m t delay [] [] (y ∷ ys) same named = absurd same
bits_move m t delay [] (x ∷ xs) ys same named = absurd same
bits_move m t delay (w ∷ ws) [] ys same named = absurd same
bits_move m t delay (w ∷ ws) (x ∷ xs) [] same named = absurd same
bits_move m t delay (w ∷ ws) (x ∷ xs) (y ∷ ys) same named =
    let one : y (t - delay) ≡ x ((m + t) - delay) =
    shown m t delay w x y same.0 (named_head t delay w ws named) in
    let more : bits_at ys (t - delay) ≡ bits_at xs ((m + t) - delay) =
    bits_move m t delay ws xs ys same.1 (named_tail t delay w ws named) in
    cc

nth_moves : (m t delay : ℕ) (ws : List ℕ) (xs ys : List Signal) (i : ℕ) → Match m t ws xs ys →
    Named t delay ws →
    nth_signal ys i (t - delay) ≡ nth_signal xs i ((m + t) - delay)
nth_moves m t delay [] [] [] i same named = refl
nth_moves m t delay [] [] (y ∷ ys) i same named = absurd same
nth_moves m t delay [] (x ∷ xs) ys i same named = absurd same
nth_moves m t delay (w ∷ ws) [] ys i same named = absurd same
nth_moves m t delay (w ∷ ws) (x ∷ xs) [] i same named = absurd same
nth_moves m t delay (w ∷ ws) (x ∷ xs) (y ∷ ys) zero same named =
    shown m t delay w x y same.0 (named_head t delay w ws named)
nth_moves m t delay (w ∷ ws) (x ∷ xs) (y ∷ ys) (suc i) same named =
    nth_moves m t delay ws xs ys i same.1 (named_tail t delay w ws named)

-- the first signal one tick before that
clock_moves : (m t delay : ℕ) (ws : List ℕ) (xs ys : List Signal) → Match m t ws xs ys →
    clock_before delay ws ≤ t →
    nth_signal ys 0 (t - delay - 1) ≡ nth_signal xs 0 ((m + t) - delay - 1)
clock_moves m t delay [] [] [] same named = refl
clock_moves m t delay [] [] (y ∷ ys) same named = absurd same
clock_moves m t delay [] (x ∷ xs) ys same named = absurd same
clock_moves m t delay (w ∷ ws) [] ys same named = absurd same
clock_moves m t delay (w ∷ ws) (x ∷ xs) [] same named = absurd same
clock_moves m t delay (w ∷ ws) (x ∷ xs) (y ∷ ys) same named =
    let at : m + (t - delay - 1) ≡ (m + t) - delay - 1 = omega arith in
    same.0 (t - delay - 1) (omega arith) (omega arith) ∙ ap x at

-- ---- what storage makes of that

registered_same : (xs ys : List Signal) (s s' : ℕ) (old old' : Bool) →
    nth_signal ys 0 (s - 1) ≡ nth_signal xs 0 (s' - 1) →
    nth_signal ys 0 s ≡ nth_signal xs 0 s' → nth_signal ys 1 s ≡ nth_signal xs 1 s' → old ≡ old' →
    registered ys s old ≡ registered xs s' old'
registered_same xs ys s s' old old' before now taken kept =
    ap (λ b. if not b && nth_signal ys 0 s then nth_signal ys 1 s else old) before
    ∙ ap (λ b. if not (nth_signal xs 0 (s' - 1)) && b then nth_signal ys 1 s else old) now
    ∙ ap (λ b. if rises_at (nth_signal xs 0) s' then b else old) taken
    ∙ ap (λ b. if rises_at (nth_signal xs 0) s' then nth_signal xs 1 s' else b) kept

latched_same : (xs ys : List Signal) (s s' : ℕ) (old old' : Bool) →
    nth_signal ys 0 s ≡ nth_signal xs 0 s' →
    nth_signal ys 1 s ≡ nth_signal xs 1 s' → old ≡ old' → latched ys s old ≡ latched xs s' old'
latched_same xs ys s s' old old' now taken kept =
    ap (λ b. if b then nth_signal ys 1 s else old) now
    ∙ ap (λ b. if nth_signal xs 0 s' then b else old) taken
    ∙ ap (λ b. if nth_signal xs 0 s' then nth_signal xs 1 s' else b) kept

forced_same : (set set' reset reset' free free' out out' : Bool) → set ≡ set' → reset ≡ reset' →
    free ≡ free' → out ≡ out' →
    IsForced set' reset' free' out' → IsForced set reset free out
forced_same set set' reset reset' free free' out out' e f g h forced =
    subst (λ b. IsForced b reset free out) (sym e)
    (subst (λ b. IsForced set' b free out) (sym f)
    (subst (λ b. IsForced set' reset' b out) (sym g)
    (subst (λ b. IsForced set' reset' free' b) (sym h) forced)))

-- ---- what a change function sees

still_moves : (m t max : ℕ) (ws : List ℕ) (xs ys : List Signal) (u : ℕ) → Match m t ws xs ys →
    Named t (max + 1) ws →
    m + t ≤ u + max → u ≤ m + t → ((u' : ℕ) → m + u' ≡ u → AreStill ys u') → AreStill xs u
still_moves m t max [] [] [] u same named least most still =
    All-nil (λ (x : Signal). x (u - 1) ≡ x u)
still_moves m t max [] [] (y ∷ ys) u same named least most still = absurd same
still_moves m t max [] (x ∷ xs) ys u same named least most still = absurd same
still_moves m t max (w ∷ ws) [] ys u same named least most still = absurd same
still_moves m t max (w ∷ ws) (x ∷ xs) [] u same named least most still = absurd same
still_moves m t max (w ∷ ws) (x ∷ xs) (y ∷ ys) u same named least most still =
    let first : (max + 1) + w ≤ t = named_head t (max + 1) w ws named in
    let here : AreStill (y ∷ ys) (u - m) = still (u - m) (omega arith) in
    let quiet : y (u - m - 1) ≡ y (u - m) = All-head
    (λ (x : Signal). x (u - m - 1) ≡ x (u - m)) y ys here in
    let before : y (u - m - 1) ≡ x (u - 1) =
    same.0 (u - m - 1) (omega arith) (omega arith) ∙ ap x (omega arith) in
    let now : y (u - m) ≡ x u = same.0 (u - m) (omega arith) (omega arith) ∙ ap x (omega arith) in
    All-cons (λ (x : Signal). x (u - 1) ≡ x u) x xs (sym before ∙ quiet ∙ now)
    (still_moves m t max ws xs ys u same.1 (named_tail t (max + 1) w ws named) least most
    (λ u' e. All-tail (λ (x : Signal). x (u' - 1) ≡ x u') y ys (still u' e)))

-- ---- equations

-- The output at the tick, and if the equation looks back also at the tick before, is that of the
-- other signals.
pub record OutputMoves (kind : Kind) (m t : ℕ) (x y : Signal) : Type 0 where
  pub now : y t ≡ x (m + t)
  pub before : looks_back kind ≡ true → y (t - 1) ≡ x ((m + t) - 1)

module _ (m t : ℕ) (bounds : Bounds) (delay : ℕ) (ws : List ℕ) (xs ys : List Signal) (x y : Signal)
    (same : Match m t ws xs ys) where
  gate_moves : (kind : Kind) → Named t delay ws → y t ≡ x (m + t) →
      Follows kind xs ((m + t) - delay) (x (m + t)) → Follows kind ys (t - delay) (y t)
  gate_moves kind named now h = now ∙ h ∙ ap (gate_bit kind)
      (sym (bits_move m t delay ws xs ys same named))

  register_moves : clock_before delay ws ≤ t → Named t delay ws → y (t - 1) ≡ x ((m + t) - 1) →
      registered ys (t - delay) (y (t - 1)) ≡ registered xs ((m + t) - delay) (x ((m + t) - 1))
  register_moves clock named before =
      registered_same xs ys (t - delay) ((m + t) - delay) (y (t - 1)) (x ((m + t) - 1))
      (clock_moves m t delay ws xs ys same clock)
      (nth_moves m t delay ws xs ys 0 same named) (nth_moves m t delay ws xs ys 1 same named) before

  latch_moves : Named t delay ws → y (t - 1) ≡ x ((m + t) - 1) →
      latched ys (t - delay) (y (t - 1)) ≡ latched xs ((m + t) - delay) (x ((m + t) - 1))
  latch_moves named before =
      latched_same xs ys (t - delay) ((m + t) - delay) (y (t - 1)) (x ((m + t) - 1))
      (nth_moves m t delay ws xs ys 0 same named) (nth_moves m t delay ws xs ys 1 same named) before

  set_reset_moves : (free free' : Bool) → Named t delay ws → free ≡ free' → y t ≡ x (m + t) →
      IsSetReset xs ((m + t) - delay) free' (x (m + t)) → IsSetReset ys (t - delay) free (y t)
  set_reset_moves free free' named kept now =
      forced_same (nth_signal ys 2 (t - delay)) (nth_signal xs 2 ((m + t) - delay))
      (nth_signal ys 3 (t - delay)) (nth_signal xs 3 ((m + t) - delay))
      free free' (y t) (x (m + t)) (nth_moves m t delay ws xs ys 2 same named)
      (nth_moves m t delay ws xs ys 3 same named) kept now

  change_moves : Named t (bounds.max + 1) ws → y t ≡ x (m + t) → y (t - 1) ≡ x ((m + t) - 1) →
      Equation Chg bounds delay xs x (m + t) → Equation Chg bounds delay ys y t
  change_moves named now before h quiet =
      before ∙ h (λ u reach.
      let early : u + bounds.min ≤ m + t = reach.0 in
      still_moves m t bounds.max ws xs ys u same named reach.1 (omega arith)
      (λ u' e. quiet u' (let late : m + t ≤ u + bounds.max = reach.1 in
      (omega arith, omega arith)))) ∙ sym now

  first : (before : ℕ) (more : List ℕ) → All (λ named. named ≤ t) (before ∷ more) → before ≤ t
  first before more asked = All-head (λ (named : ℕ). named ≤ t) before more asked

  rest : (before : ℕ) (more : List ℕ) → All (λ named. named ≤ t) (before ∷ more) →
      All (λ named. named ≤ t) more
  rest before more asked = All-tail (λ (named : ℕ). named ≤ t) before more asked

  -- by the form of a kind
  form_moves : (form : Form) (kind : Kind) → All (λ named. named ≤ t) (named_by form bounds delay ws) →
      y t ≡ x (m + t) → (looks_back_by form ≡ true → y (t - 1) ≡ x ((m + t) - 1)) →
      EquationOf form kind bounds delay xs x (m + t) → EquationOf form kind bounds delay ys y t
  form_moves Gate kind asked now before h = gate_moves kind asked now h
  form_moves Change kind asked now before h =
      change_moves (rest 1 (pins_before (bounds.max + 1) ws) asked) now (before refl) h
  form_moves (Register false) kind asked now before h =
      let clock : All (λ named. named ≤ t) (clock_before delay ws ∷ pins_before delay ws) =
      rest 1 (clock_before delay ws ∷ pins_before delay ws) asked in
      now ∙ h ∙ sym (register_moves (first (clock_before delay ws)
      (pins_before delay ws) clock) (rest (clock_before delay ws) (pins_before delay ws) clock)
      (before refl))
  form_moves (Register true) kind asked now before h =
      let clock : All (λ named. named ≤ t) (clock_before delay ws ∷ pins_before delay ws) =
      rest 1 (clock_before delay ws ∷ pins_before delay ws) asked in
      let named : Named t delay ws = rest (clock_before delay ws) (pins_before delay ws) clock in
      set_reset_moves (registered ys (t - delay) (y (t - 1)))
      (registered xs ((m + t) - delay) (x ((m + t) - 1))) named
      (register_moves (first (clock_before delay ws) (pins_before delay ws) clock) named
      (before refl)) now h
  form_moves (Enabled false) kind asked now before h = now ∙ h ∙ sym
      (latch_moves (rest 1 (pins_before delay ws) asked) (before refl))
  form_moves (Enabled true) kind asked now before h =
      let named : Named t delay ws = rest 1 (pins_before delay ws) asked in
      set_reset_moves (latched ys (t - delay) (y (t - 1)))
      (latched xs ((m + t) - delay) (x ((m + t) - 1))) named
      (latch_moves named (before refl)) now h
  form_moves (Checker check) kind asked now before h = tt

  pub equation_moves : (kind : Kind) → IsAsked kind bounds delay ws t → OutputMoves kind m t x y →
      Equation kind bounds delay xs x (m + t) → Equation kind bounds delay ys y t
  equation_moves kind asked out h = form_moves (form_of kind) kind asked out.now out.before h
