-- What gates make of their pins, as facts.
use Rattle.std.specs.Prelude.{slice_get}
use Rattle.std.proofs.Common.{◌≡◌, ℕ, zero, suc, ◌+◌, ◌<◌, ◌≤◌, ◌||◌, Bool, true, false, List, [], ◌∷◌, length, take, drop, refl, sym, ap, ◌∙◌, arith, Some}
use Rattle.std.specs.List.{list_all, list_any}
use Rattle.std.proofs.lemmas.Bool.{and_from, and_parts, or_parts}
use Rattle.std.proofs.lemmas.List.{drop_more, length-map}
use Rattle.scald_base.specs.Signal.{Signal, turned}
use Rattle.element_kinds.specs.declared.kind.Kind.{Kind}
use Rattle.element_kinds.specs.declared.kind.Kind.TheVariants.{And, Buf, Mux2, Mux4, Mux8, Or, Xor}
use Rattle.element_kinds.specs.Equation.{bits_at, gate_bit, nth_bit, nth_signal, number_of_bits, parity, selected}
use Rattle.flat_circuit.specs.declared.instance.Instance.{Instance}
use Rattle.flat_circuit.specs.Circuit.{Circuit}
use Rattle.flat_circuit.specs.Run.{IsRun}
use Rattle.run_clauses.specs.declared.gates.Gate.{Gate}
use Rattle.run_clauses.specs.Meaning.{IsAll, IsBuffer, IsChoice, IsParity, pin_of, selects_one}
use Rattle.run_clauses.specs.World.{World, fact_holds, own_bit, pin_bit, signals_of}
use Rattle.run_clauses.proofs.Worlds.{same_own, same_signals, signals_long}

-- ---- rows of bits

nth_at : (ss : List Signal) (pin t : ℕ) → nth_signal ss pin t ≡ nth_bit (bits_at ss t) pin
nth_at [] zero t = refl
nth_at [] (suc pin) t = refl
nth_at (x ∷ xs) zero t = refl
nth_at (x ∷ xs) (suc pin) t = nth_at xs pin t

each_one : (row : List Bool) (pin : ℕ) → pin < length row → list_all (λ b. b) row ≡ true →
    nth_bit row pin ≡ true
each_one [] pin below all = absurd (omega (arith, below))
each_one (b ∷ bs) zero below all = (and_parts b (list_all (λ b. b) bs) all).0
each_one (b ∷ bs) (suc pin) below all =
    each_one bs pin (omega (arith, below)) (and_parts b (list_all (λ b. b) bs) all).1

all_one : (row : List Bool) → ((pin : ℕ) → pin < length row → nth_bit row pin ≡ true) →
    list_all (λ b. b) row ≡ true
all_one [] each = refl
all_one (b ∷ bs) each =
    and_from b (list_all (λ b. b) bs) (each 0 (omega arith))
    (all_one bs (λ pin below. each (suc pin) (omega (arith, below))))

each_zero : (row : List Bool) (pin : ℕ) → pin < length row → list_any (λ b. b) row ≡ false →
    nth_bit row pin ≡ false
each_zero [] pin below none = absurd (omega (arith, below))
each_zero (b ∷ bs) zero below none = (or_parts b (list_any (λ b. b) bs) none).0
each_zero (b ∷ bs) (suc pin) below none =
    each_zero bs pin (omega (arith, below)) (or_parts b (list_any (λ b. b) bs) none).1

all_zero : (row : List Bool) → ((pin : ℕ) → pin < length row → nth_bit row pin ≡ false) →
    list_any (λ b. b) row ≡ false
all_zero [] each = refl
all_zero (b ∷ bs) each =
    ap (λ (first : Bool). first || list_any (λ b. b) bs) (each 0 (omega arith))
    ∙ all_zero bs (λ pin below. each (suc pin) (omega (arith, below)))

dropped_all : (row : List Bool) (n : ℕ) → n ≡ length row → drop n row ≡ []
dropped_all [] zero same = refl
dropped_all [] (suc n) same = refl
dropped_all (b ∷ bs) zero same = absurd (omega (arith, same))
dropped_all (b ∷ bs) (suc n) same = dropped_all bs n (omega (arith, same))

-- ---- the front of a row, and the number that its bits write

front_1 : (row : List Bool) → 1 ≤ length row → take 1 row ≡ nth_bit row 0 ∷ []
front_1 [] few = absurd (omega (arith, few))
front_1 (a ∷ row) few = refl

front_2 : (row : List Bool) → 2 ≤ length row → take 2 row ≡ nth_bit row 0 ∷ nth_bit row 1 ∷ []
front_2 [] few = absurd (omega (arith, few))
front_2 (a ∷ []) few = absurd (omega (arith, few))
front_2 (a ∷ b ∷ row) few = refl

front_3 : (row : List Bool) → 3 ≤ length row →
    take 3 row ≡ nth_bit row 0 ∷ nth_bit row 1 ∷ nth_bit row 2 ∷ []
front_3 [] few = absurd (omega (arith, few))
front_3 (a ∷ []) few = absurd (omega (arith, few))
front_3 (a ∷ b ∷ []) few = absurd (omega (arith, few))
front_3 (a ∷ b ∷ d ∷ row) few = refl

number_1 : (n : ℕ) → n < 2 → number_of_bits (selects_one 1 n 0 ∷ []) ≡ n
number_1 zero below = refl
number_1 (suc zero) below = refl
number_1 (suc (suc n)) below = absurd (omega (arith, below))

number_2 : (n : ℕ) → n < 4 → number_of_bits (selects_one 2 n 0 ∷ selects_one 2 n 1 ∷ []) ≡ n
number_2 zero below = refl
number_2 (suc zero) below = refl
number_2 (suc (suc zero)) below = refl
number_2 (suc (suc (suc zero))) below = refl
number_2 (suc (suc (suc (suc n)))) below = absurd (omega (arith, below))

number_3 : (n : ℕ) → n < 8 →
    number_of_bits (selects_one 3 n 0 ∷ selects_one 3 n 1 ∷ selects_one 3 n 2 ∷ []) ≡ n
number_3 zero below = refl
number_3 (suc zero) below = refl
number_3 (suc (suc zero)) below = refl
number_3 (suc (suc (suc zero))) below = refl
number_3 (suc (suc (suc (suc zero)))) below = refl
number_3 (suc (suc (suc (suc (suc zero))))) below = refl
number_3 (suc (suc (suc (suc (suc (suc zero)))))) below = refl
number_3 (suc (suc (suc (suc (suc (suc (suc zero))))))) below = refl
number_3 (suc (suc (suc (suc (suc (suc (suc (suc n)))))))) below = absurd (omega (arith, below))

-- ---- the facts of a gate

module _ (c : Circuit) (w : World) (is_run : IsRun c w.run) (k : ℕ) (j : Instance)
    (there : slice_get c.instances k ≡ Some j) (t pins : ℕ) where
  abbrev row : List Bool
  row = bits_at (signals_of c w k) t

  abbrev gate : Gate
  gate = record { instance = k; tick = t; pins = pins }

  pin_in : (pin : ℕ) → pin_bit c w k pin t ≡ nth_bit row pin
  pin_in pin = nth_at (signals_of c w k) pin t

  -- the gate's bit, by its kind
  own_in_row : (kind : Kind) → j.kind ≡ kind → own_bit c w k t ≡ gate_bit kind row
  own_in_row kind is =
      same_own c w is_run k j there t
      ∙ ap (λ (ss : List Signal). gate_bit j.kind (bits_at ss t))
      (sym (same_signals c w is_run k j there))
      ∙ ap (λ (q : Kind). gate_bit q row) is

  pub is_buffer : j.kind ≡ Buf → IsBuffer gate (fact_holds c w)
  is_buffer is = own_in_row Buf is ∙ sym (pin_in 0)

  -- where there are as many signals as pins
  module _ (counted : pins ≡ length j.pins) where
    long : length row ≡ pins
    long =
        length-map (signals_of c w k) (λ (x : Signal). x t)
        ∙ signals_long c w is_run k j there ∙ sym counted

    inside : (pin : ℕ) → pin < pins → pin < length row
    inside pin below = omega (arith, below, long)

    within : (pin : ℕ) → pin < length row → pin < pins
    within pin below = omega (arith, below, long)

    pub is_and : j.kind ≡ And → IsAll gate true (fact_holds c w)
    is_and is = record {
      each = λ pin below own.
          pin_in pin ∙ each_one row pin (inside pin below) (sym (own_in_row And is) ∙ own);
      all = λ each.
          own_in_row And is
          ∙ all_one row (λ pin below. sym (pin_in pin) ∙ each pin (within pin below));
    }

    pub is_or : j.kind ≡ Or → IsAll gate false (fact_holds c w)
    is_or is = record {
      each = λ pin below own.
          pin_in pin ∙ each_zero row pin (inside pin below) (sym (own_in_row Or is) ∙ own);
      all = λ each.
          own_in_row Or is
          ∙ all_zero row (λ pin below. sym (pin_in pin) ∙ each pin (within pin below));
    }

    pub is_parity : j.kind ≡ Xor → IsParity gate (fact_holds c w)
    is_parity is = record {
      next = λ pin below.
          ap parity (drop_more row pin false (inside pin below))
          ∙ ap (λ (b : Bool). turned b (parity (drop (pin + 1) row))) (sym (pin_in pin));
      last = ap parity (dropped_all row pins (sym long));
      own = own_in_row Xor is;
    }

    -- the selects, and the input that they number
    module _ (number : ℕ) where
      abbrev one : ℕ → ℕ → Bool
      one n select = selects_one n number select

      abbrev AreSelected : ℕ → Type 0
      AreSelected n =
          (select : ℕ) → select < n → pin_of gate (fact_holds c w) select ≡ one n select

      at : (n select : ℕ) → AreSelected n → select < n → nth_bit row select ≡ one n select
      at n select are below = sym (pin_in select) ∙ are select below

      count_1 : 1 ≤ pins → number < 2 → AreSelected 1 → number_of_bits (take 1 row) ≡ number
      count_1 few below are =
          let first = at 1 0 are (omega arith) in
          let same : nth_bit row 0 ∷ [] ≡ one 1 0 ∷ [] = cc in
          ap number_of_bits (front_1 row (omega (arith, few, long)) ∙ same) ∙ number_1 number below

      count_2 : 2 ≤ pins → number < 4 → AreSelected 2 → number_of_bits (take 2 row) ≡ number
      count_2 few below are =
          let first = at 2 0 are (omega arith) in
          let second = at 2 1 are (omega arith) in
          let same : nth_bit row 0 ∷ nth_bit row 1 ∷ [] ≡ one 2 0 ∷ one 2 1 ∷ [] = cc in
          ap number_of_bits (front_2 row (omega (arith, few, long)) ∙ same) ∙ number_2 number below

      count_3 : 3 ≤ pins → number < 8 → AreSelected 3 → number_of_bits (take 3 row) ≡ number
      count_3 few below are =
          let first = at 3 0 are (omega arith) in
          let second = at 3 1 are (omega arith) in
          let third = at 3 2 are (omega arith) in
          let same : nth_bit row 0 ∷ nth_bit row 1 ∷ nth_bit row 2 ∷ []
          ≡ one 3 0 ∷ one 3 1 ∷ one 3 2 ∷ [] = cc in
          ap number_of_bits (front_3 row (omega (arith, few, long)) ∙ same) ∙ number_3 number below

      chosen : (n : ℕ) → own_bit c w k t ≡ selected n row → number_of_bits (take n row) ≡ number →
          own_bit c w k t ≡ pin_bit c w k (n + number) t
      chosen n own is = own ∙ ap (λ (m : ℕ). nth_bit row (n + m)) is ∙ sym (pin_in (n + number))

    pub is_mux2 : j.kind ≡ Mux2 → IsChoice gate 1 (fact_holds c w)
    is_mux2 is few number below are =
        chosen number 1 (own_in_row Mux2 is) (count_1 number few below are)

    pub is_mux4 : j.kind ≡ Mux4 → IsChoice gate 2 (fact_holds c w)
    is_mux4 is few number below are =
        chosen number 2 (own_in_row Mux4 is) (count_2 number few below are)

    pub is_mux8 : j.kind ≡ Mux8 → IsChoice gate 3 (fact_holds c w)
    is_mux8 is few number below are =
        chosen number 3 (own_in_row Mux8 is) (count_3 number few below are)
