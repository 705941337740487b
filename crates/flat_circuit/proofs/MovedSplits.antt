-- The equation of two delays at a tick follows from the same equation so many ticks later in other
-- signals, as in `Moved`.
use Rattle.std.proofs.Common.{◌≡◌, ℕ, zero, suc, ◌+◌, ◌-◌, ◌<◌, ◌≤◌, ◌⊎◌, inl, inr, max, ◌&&◌, ◌||◌, List, [], ◌∷◌, refl, sym, ap, ◌∙◌, arith, Option, Some, None}
use Rattle.std.specs.List.{list_all, list_any, range_with_len}
use Rattle.std.proofs.lemmas.Bool.{cases_lt}
use Rattle.std.proofs.lemmas.List.Elements.{All-nil, All-cons}
use Rattle.scald_base.specs.Time.{Bounds}
use Rattle.scald_base.specs.Signal.{Signal}
use Rattle.element_kinds.specs.declared.kind.Kind.{Kind}
use Rattle.element_kinds.specs.Equation.{gate_bit, pins_before}
use Rattle.flat_circuit.specs.declared.split.Split.{Split}
use Rattle.flat_circuit.specs.Split.{gate_signal, split_bit, SplitEquation, IsSplitAsked}
use Rattle.flat_circuit.specs.Run.{Choice, EquationWith, IsAskedWith}
use Rattle.flat_circuit.proofs.Splits.{by_rise, by_fall, constant_bit}
use Rattle.flat_circuit.proofs.Moved.{Match, Named, named_head, named_tail, bits_move, OutputMoves, equation_moves}

-- ---- the gate's own bit

named_less : (t before most : ℕ) (ws : List ℕ) → before ≤ most → Named t most ws →
    Named t before ws
named_less t before most [] less named = All-nil (λ (b : ℕ). b ≤ t)
named_less t before most (w ∷ ws) less named =
    let first : most + w ≤ t = named_head t most w ws named in
    All-cons (λ (b : ℕ). b ≤ t) (before + w) (pins_before before ws) (omega arith)
    (named_less t before most ws less (named_tail t most w ws named))

-- It is the same at each tick from `most` ticks before on, if those are named.
own_bit_moves : (kind : Kind) (m t most : ℕ) (ws : List ℕ) (xs ys : List Signal) →
    Match m t ws xs ys → Named t most ws → (u : ℕ) → t ≤ u + most → u ≤ t →
    gate_signal kind ys u ≡ gate_signal kind xs (m + u)
own_bit_moves kind m t most ws xs ys same named u late soon =
    let here : u ≡ t - (t - u) = omega arith in
    let there : (m + t) - (t - u) ≡ m + u = omega arith in
    ap (gate_signal kind ys) here
    ∙ ap (gate_bit kind) (bits_move m t (t - u) ws xs ys same
    (named_less t (t - u) most ws (omega arith) named)) ∙ ap (gate_signal kind xs) there

-- ---- the output

module _ (z z' : Signal) (m : ℕ) where
  all_moves : (first n : ℕ) → ((u : ℕ) → first ≤ u → u < first + n → z' u ≡ z (m + u)) →
      list_all z' (range_with_len first n) ≡ list_all z (range_with_len (m + first) n)
  all_moves first zero same = refl
  all_moves first (suc n) same =
      let next : m + (first + 1) ≡ m + first + 1 = omega arith in
      ap (λ b. b && list_all z' (range_with_len (first + 1) n))
      (same first (omega arith) (omega arith))
      ∙ ap (λ b. z (m + first) && b)
      (all_moves (first + 1) n (λ u low high. same u (omega arith) (omega arith))
      ∙ ap (λ (v : ℕ). list_all z (range_with_len v n)) next)

  any_moves : (first n : ℕ) → ((u : ℕ) → first ≤ u → u < first + n → z' u ≡ z (m + u)) →
      list_any z' (range_with_len first n) ≡ list_any z (range_with_len (m + first) n)
  any_moves first zero same = refl
  any_moves first (suc n) same =
      let next : m + (first + 1) ≡ m + first + 1 = omega arith in
      ap (λ b. b || list_any z' (range_with_len (first + 1) n))
      (same first (omega arith) (omega arith))
      ∙ ap (λ b. z (m + first) || b)
      (any_moves (first + 1) n (λ u low high. same u (omega arith) (omega arith))
      ∙ ap (λ (v : ℕ). list_any z (range_with_len v n)) next)

  split_bit_moves : (rise fall t : ℕ) → rise ≤ t → fall ≤ t →
      ((u : ℕ) → t ≤ u + max rise fall → u ≤ t → z' u ≡ z (m + u)) →
      split_bit z' rise fall t ≡ split_bit z rise fall (m + t)
  split_bit_moves rise fall t early early' same = by (cases_lt rise fall)
    where
      by : (rise < fall) ⊎ (fall ≤ rise) →
          split_bit z' rise fall t ≡ split_bit z rise fall (m + t)
      by (inl longer) =
          let n : ℕ = t - rise + 1 - (t - fall) in
          let at : m + (t - fall) ≡ m + t - fall = omega arith in
          let long : t - rise + 1 - (t - fall) ≡ m + t - rise + 1 - (m + t - fall) = omega arith in
          by_fall z' rise fall t longer
          ∙ any_moves (t - fall) n (λ u low high. same u (omega arith) (omega arith))
          ∙ ap (λ (v : ℕ). list_any z (range_with_len v n)) at
          ∙ ap (λ (k : ℕ). list_any z (range_with_len (m + t - fall) k)) long
          ∙ sym (by_fall z rise fall (m + t) longer)
      by (inr longer) =
          let n : ℕ = t - fall + 1 - (t - rise) in
          let at : m + (t - rise) ≡ m + t - rise = omega arith in
          let long : t - fall + 1 - (t - rise) ≡ m + t - fall + 1 - (m + t - rise) = omega arith in
          by_rise z' rise fall t longer
          ∙ all_moves (t - rise) n (λ u low high. same u (omega arith) (omega arith))
          ∙ ap (λ (v : ℕ). list_all z (range_with_len v n)) at
          ∙ ap (λ (k : ℕ). list_all z (range_with_len (m + t - rise) k)) long
          ∙ sym (by_rise z rise fall (m + t) longer)

-- ---- the equation

-- without pins the gate's own bit is one and the same
split_moves : (kind : Kind) (m t rise fall : ℕ) (ws : List ℕ) (xs ys : List Signal)
    (x y : Signal) → Match m t ws xs ys → IsSplitAsked rise fall ws t → y t ≡ x (m + t) →
    SplitEquation kind rise fall xs x (m + t) → SplitEquation kind rise fall ys y t
split_moves kind m t rise fall [] [] [] x y same asked now h =
    now ∙ h ∙ constant_bit (gate_bit kind []) rise fall (m + t)
    ∙ sym (constant_bit (gate_bit kind []) rise fall t)
split_moves kind m t rise fall [] [] (y' ∷ ys) x y same asked now h = absurd same
split_moves kind m t rise fall [] (x' ∷ xs) ys x y same asked now h = absurd same
split_moves kind m t rise fall (w ∷ ws) xs ys x y same asked now h =
    let first : max rise fall + w ≤ t = named_head t (max rise fall) w ws asked in
    now ∙ h ∙ sym (split_bit_moves (gate_signal kind xs) (gate_signal kind ys) m rise fall t
    (omega arith) (omega arith)
    (λ u late soon. own_bit_moves kind m t (max rise fall) (w ∷ ws) xs ys same asked u late soon))

-- with the delays of a choice
pub chosen_moves : (kind : Kind) (d : Bounds) (split : Option Split) (choice : Choice) (m t : ℕ)
    (xs ys : List Signal) (x y : Signal) → Match m t choice.wires xs ys →
    IsAskedWith kind d split choice t → OutputMoves kind m t x y →
    EquationWith kind d split choice xs x (m + t) → EquationWith kind d split choice ys y t
chosen_moves kind d None choice m t xs ys x y same asked out h =
    equation_moves m t d choice.delay choice.wires xs ys x y same kind asked out h
chosen_moves kind d (Some s) choice m t xs ys x y same asked out h =
    split_moves kind m t choice.rise choice.fall choice.wires xs ys x y same asked out.now h
