-- A gate's value has the step that the gate makes of a step of each value.
use Rattle.std.proofs.Common.{◌≡◌, ℕ, ◌-◌, Bool, true, false, ◌&&◌, ◌||◌, List, [], ◌∷◌, length, refl, sym, ◌∙◌, arith}
use Rattle.std.specs.List.{fold, list_all, list_any}
use Rattle.scald_base.specs.Signal.{Signal, turned}
use Rattle.step_values.specs.declared.value.Value.{Value}
use Rattle.step_values.specs.Steps.{has}
use Rattle.step_values.specs.Cell.{values}
use Rattle.step_values.specs.Image.{and_of, or_of, xor_of, mux2_of, differ, selected}
use Rattle.step_values.proofs.Sound.{and_of_has, or_of_has, xor_of_has, mux2_of_has}
use Rattle.element_kinds.specs.declared.kind.Kind.{Kind}
use Rattle.element_kinds.specs.declared.kind.Kind.TheVariants.{Buf, And, Or, Xor, Mux2, Mux4, Mux8}
use Rattle.element_kinds.specs.Equation.{gate_bit, parity, bits_at, selected as selected_bit}
use Rattle.gate_eval.specs.Permitted.{AllHave}
use Rattle.gate_eval.specs.Gates.{from_left, of_two, of_four, of_eight, gate_value}
use Rattle.gate_eval.proofs.Fitting.{as_many_cells}

-- ---- two pins at a time

-- a value from the left has what the bits from the left make
fold_has : (pair : Value → Value → Value) (bit : Bool → Bool → Bool) →
    ((v w : Value) (a a' b b' : Bool) → has v a a' ≡ true → has w b b' ≡ true → has (pair v w) (bit a b) (bit a' b') ≡ true) →
    (v : Value) (vs : List Value) (a a' : Bool) (xs : List Signal) (t : ℕ) → has v a a' ≡ true → AllHave values vs xs t →
    has (fold pair v vs) (fold bit a (bits_at xs (t - 1))) (fold bit a' (bits_at xs t)) ≡ true
fold_has pair bit pairs v [] a a' [] t h hs = h
fold_has pair bit pairs v [] a a' (x ∷ xs) t h hs = absurd hs
fold_has pair bit pairs v (w ∷ vs) a a' [] t h hs = absurd hs
fold_has pair bit pairs v (w ∷ vs) a a' (x ∷ xs) t h hs =
    fold_has pair bit pairs (pair v w) vs (bit a (x (t - 1))) (bit a' (x t)) xs t (pairs v w a a' (x (t - 1)) (x t) h hs.0) hs.1

and_bits : (a : Bool) (bs : List Bool) → fold (λ b c. b && c) a bs ≡ list_all (λ b. b) (a ∷ bs)
and_bits a [] = grind arith
and_bits a (b ∷ bs) = and_bits (a && b) bs ∙ grind arith

or_bits : (a : Bool) (bs : List Bool) → fold (λ b c. b || c) a bs ≡ list_any (λ b. b) (a ∷ bs)
or_bits a [] = grind arith
or_bits a (b ∷ bs) = or_bits (a || b) bs ∙ grind arith

xor_bits : (a : Bool) (bs : List Bool) → fold differ a bs ≡ parity (a ∷ bs)
xor_bits a [] = grind arith
xor_bits a (b ∷ bs) = xor_bits (differ a b) bs ∙ regroups a b (parity bs)
  where
    regroups : (a b c : Bool) → turned (differ a b) c ≡ turned a (turned b c)
    regroups a b c = grind arith

left_has : (pair : Value → Value → Value) (bit : Bool → Bool → Bool) (whole : List Bool → Bool) →
    ((v w : Value) (a a' b b' : Bool) → has v a a' ≡ true → has w b b' ≡ true → has (pair v w) (bit a b) (bit a' b') ≡ true) →
    ((a : Bool) (bs : List Bool) → fold bit a bs ≡ whole (a ∷ bs)) →
    (vs : List Value) (xs : List Signal) (t : ℕ) → AllHave values vs xs t → has (from_left pair vs) (whole (bits_at xs (t - 1))) (whole (bits_at xs t)) ≡ true
left_has pair bit whole pairs same [] xs t hs = refl
left_has pair bit whole pairs same (v ∷ vs) [] t hs = absurd hs
left_has pair bit whole pairs same (v ∷ vs) (x ∷ xs) t hs =
    let before : whole (x (t - 1) ∷ bits_at xs (t - 1)) ≡ fold bit (x (t - 1)) (bits_at xs (t - 1)) = sym (same (x (t - 1)) (bits_at xs (t - 1))) in
    let now : whole (x t ∷ bits_at xs t) ≡ fold bit (x t) (bits_at xs t) = sym (same (x t) (bits_at xs t)) in
    (λ i. has (fold pair v vs) (before i) (now i))
    ∙ fold_has pair bit pairs v vs (x (t - 1)) (x t) xs t hs.0 hs.1

-- ---- multiplexers

two_bits : (s a b : Bool) → selected_bit 1 (s ∷ a ∷ b ∷ []) ≡ selected s a b
two_bits true a b = refl
two_bits false a b = refl

four_bits : (s1 s0 a b c d : Bool) → selected_bit 2 (s1 ∷ s0 ∷ a ∷ b ∷ c ∷ d ∷ []) ≡ selected s1 (selected s0 a b) (selected s0 c d)
four_bits true true a b c d = refl
four_bits true false a b c d = refl
four_bits false true a b c d = refl
four_bits false false a b c d = refl

eight_bits : (s2 s1 s0 a b c d e f g h : Bool) → selected_bit 3 (s2 ∷ s1 ∷ s0 ∷ a ∷ b ∷ c ∷ d ∷ e ∷ f ∷ g ∷ h ∷ [])
    ≡ selected s2 (selected s1 (selected s0 a b) (selected s0 c d)) (selected s1 (selected s0 e f) (selected s0 g h))
eight_bits true true true a b c d e f g h = refl
eight_bits true true false a b c d e f g h = refl
eight_bits true false true a b c d e f g h = refl
eight_bits true false false a b c d e f g h = refl
eight_bits false true true a b c d e f g h = refl
eight_bits false true false a b c d e f g h = refl
eight_bits false false true a b c d e f g h = refl
eight_bits false false false a b c d e f g h = refl

two_has : (s a b : Value) (xs : List Signal) (t : ℕ) → AllHave values (s ∷ a ∷ b ∷ []) xs t →
    has (mux2_of s a b) (selected_bit 1 (bits_at xs (t - 1))) (selected_bit 1 (bits_at xs t)) ≡ true
two_has s a b (x ∷ y ∷ z ∷ []) t hs =
    let before : selected_bit 1 (x (t - 1) ∷ y (t - 1) ∷ z (t - 1) ∷ []) ≡ selected (x (t - 1)) (y (t - 1)) (z (t - 1)) = two_bits (x (t - 1)) (y (t - 1)) (z (t - 1)) in
    let now : selected_bit 1 (x t ∷ y t ∷ z t ∷ []) ≡ selected (x t) (y t) (z t) = two_bits (x t) (y t) (z t) in
    (λ i. has (mux2_of s a b) (before i) (now i))
    ∙ mux2_of_has s a b (x (t - 1)) (x t) (y (t - 1)) (y t) (z (t - 1)) (z t) hs.0 hs.1.0 hs.1.1.0
two_has s a b xs t hs = let long : 3 ≡ length xs = as_many_cells values (s ∷ a ∷ b ∷ []) xs t hs in absurd (omega arith)

pub of_two_has : (vs : List Value) (xs : List Signal) (t : ℕ) → AllHave values vs xs t →
    has (of_two mux2_of vs) (selected_bit 1 (bits_at xs (t - 1))) (selected_bit 1 (bits_at xs t)) ≡ true
of_two_has (s ∷ a ∷ b ∷ []) xs t hs = two_has s a b xs t hs
of_two_has vs xs t hs = refl

-- four inputs, as a choice of choices
chosen4_has : (s1 s0 a b c d : Value) (k1 k1' k0 k0' p p' q q' r r' u u' : Bool) → has s1 k1 k1' ≡ true → has s0 k0 k0' ≡ true → has a p p' ≡ true → has b q q' ≡ true →
    has c r r' ≡ true → has d u u' ≡ true →
    has (mux2_of s1 (mux2_of s0 a b) (mux2_of s0 c d)) (selected k1 (selected k0 p q) (selected k0 r u)) (selected k1' (selected k0' p' q') (selected k0' r' u')) ≡ true
chosen4_has s1 s0 a b c d k1 k1' k0 k0' p p' q q' r r' u u' h1 h0 ha hb hc hd =
    mux2_of_has s1 (mux2_of s0 a b) (mux2_of s0 c d) k1 k1' (selected k0 p q) (selected k0' p' q') (selected k0 r u) (selected k0' r' u') h1
    (mux2_of_has s0 a b k0 k0' p p' q q' h0 ha hb)
    (mux2_of_has s0 c d k0 k0' r r' u u' h0 hc hd)

four_has : (s1 s0 a b c d : Value) (xs : List Signal) (t : ℕ) → AllHave values (s1 ∷ s0 ∷ a ∷ b ∷ c ∷ d ∷ []) xs t →
    has (mux2_of s1 (mux2_of s0 a b) (mux2_of s0 c d)) (selected_bit 2 (bits_at xs (t - 1))) (selected_bit 2 (bits_at xs t)) ≡ true
four_has s1 s0 a b c d (k1 ∷ k0 ∷ p ∷ q ∷ r ∷ u ∷ []) t hs =
    let before : selected_bit 2 (k1 (t - 1) ∷ k0 (t - 1) ∷ p (t - 1) ∷ q (t - 1) ∷ r (t - 1) ∷ u (t - 1) ∷ [])
    ≡ selected (k1 (t - 1)) (selected (k0 (t - 1)) (p (t - 1)) (q (t - 1))) (selected (k0 (t - 1)) (r (t - 1)) (u (t - 1))) =
    four_bits (k1 (t - 1)) (k0 (t - 1)) (p (t - 1)) (q (t - 1)) (r (t - 1)) (u (t - 1)) in
    let now : selected_bit 2 (k1 t ∷ k0 t ∷ p t ∷ q t ∷ r t ∷ u t ∷ []) ≡ selected (k1 t) (selected (k0 t) (p t) (q t)) (selected (k0 t) (r t) (u t)) =
    four_bits (k1 t) (k0 t) (p t) (q t) (r t) (u t) in
    (λ i. has (mux2_of s1 (mux2_of s0 a b) (mux2_of s0 c d)) (before i) (now i))
    ∙ chosen4_has s1 s0 a b c d (k1 (t - 1)) (k1 t) (k0 (t - 1)) (k0 t) (p (t - 1)) (p t) (q (t - 1)) (q t) (r (t - 1)) (r t) (u (t - 1)) (u t)
    hs.0 hs.1.0 hs.1.1.0 hs.1.1.1.0 hs.1.1.1.1.0 hs.1.1.1.1.1.0
four_has s1 s0 a b c d xs t hs = let long : 6 ≡ length xs = as_many_cells values (s1 ∷ s0 ∷ a ∷ b ∷ c ∷ d ∷ []) xs t hs in absurd (omega arith)

pub of_four_has : (vs : List Value) (xs : List Signal) (t : ℕ) → AllHave values vs xs t →
    has (of_four mux2_of vs) (selected_bit 2 (bits_at xs (t - 1))) (selected_bit 2 (bits_at xs t)) ≡ true
of_four_has (s1 ∷ s0 ∷ a ∷ b ∷ c ∷ d ∷ []) xs t hs = four_has s1 s0 a b c d xs t hs
of_four_has vs xs t hs = refl

eight_has : (s2 s1 s0 a b c d e f g h : Value) (xs : List Signal) (t : ℕ) → AllHave values (s2 ∷ s1 ∷ s0 ∷ a ∷ b ∷ c ∷ d ∷ e ∷ f ∷ g ∷ h ∷ []) xs t →
    has (mux2_of s2 (mux2_of s1 (mux2_of s0 a b) (mux2_of s0 c d)) (mux2_of s1 (mux2_of s0 e f) (mux2_of s0 g h)))
    (selected_bit 3 (bits_at xs (t - 1))) (selected_bit 3 (bits_at xs t)) ≡ true
eight_has s2 s1 s0 a b c d e f g h (k2 ∷ k1 ∷ k0 ∷ p ∷ q ∷ r ∷ u ∷ w ∷ x ∷ y ∷ z ∷ []) t hs =
    let at = λ (n : ℕ). eight_bits (k2 n) (k1 n) (k0 n) (p n) (q n) (r n) (u n) (w n) (x n) (y n) (z n) in
    let one = λ (n : ℕ). selected (k1 n) (selected (k0 n) (p n) (q n)) (selected (k0 n) (r n) (u n)) in
    let other = λ (n : ℕ). selected (k1 n) (selected (k0 n) (w n) (x n)) (selected (k0 n) (y n) (z n)) in
    let four : Value = mux2_of s1 (mux2_of s0 a b) (mux2_of s0 c d) in
    let more : Value = mux2_of s1 (mux2_of s0 e f) (mux2_of s0 g h) in
    (λ i. has (mux2_of s2 four more) (at (t - 1) i) (at t i))
    ∙ mux2_of_has s2 four more (k2 (t - 1)) (k2 t) (one (t - 1)) (one t) (other (t - 1)) (other t) hs.0
    (chosen4_has s1 s0 a b c d (k1 (t - 1)) (k1 t) (k0 (t - 1)) (k0 t) (p (t - 1)) (p t) (q (t - 1)) (q t) (r (t - 1)) (r t) (u (t - 1)) (u t)
    hs.1.0 hs.1.1.0 hs.1.1.1.0 hs.1.1.1.1.0 hs.1.1.1.1.1.0 hs.1.1.1.1.1.1.0)
    (chosen4_has s1 s0 e f g h (k1 (t - 1)) (k1 t) (k0 (t - 1)) (k0 t) (w (t - 1)) (w t) (x (t - 1)) (x t) (y (t - 1)) (y t) (z (t - 1)) (z t)
    hs.1.0 hs.1.1.0 hs.1.1.1.1.1.1.1.0 hs.1.1.1.1.1.1.1.1.0 hs.1.1.1.1.1.1.1.1.1.0 hs.1.1.1.1.1.1.1.1.1.1.0)
eight_has s2 s1 s0 a b c d e f g h xs t hs =
    let long : 11 ≡ length xs = as_many_cells values (s2 ∷ s1 ∷ s0 ∷ a ∷ b ∷ c ∷ d ∷ e ∷ f ∷ g ∷ h ∷ []) xs t hs in absurd (omega arith)

pub of_eight_has : (vs : List Value) (xs : List Signal) (t : ℕ) → AllHave values vs xs t →
    has (of_eight mux2_of vs) (selected_bit 3 (bits_at xs (t - 1))) (selected_bit 3 (bits_at xs t)) ≡ true
of_eight_has (s2 ∷ s1 ∷ s0 ∷ a ∷ b ∷ c ∷ d ∷ e ∷ f ∷ g ∷ h ∷ []) xs t hs = eight_has s2 s1 s0 a b c d e f g h xs t hs
of_eight_has vs xs t hs = refl

-- ---- all of them

passed_has : (vs : List Value) (xs : List Signal) (t : ℕ) → AllHave values vs xs t → has (gate_value Buf vs) (gate_bit Buf (bits_at xs (t - 1))) (gate_bit Buf (bits_at xs t)) ≡ true
passed_has [] xs t hs = refl
passed_has (v ∷ vs) [] t hs = absurd hs
passed_has (v ∷ vs) (x ∷ xs) t hs = hs.0

pub gate_has : (kind : Kind) (vs : List Value) (xs : List Signal) (t : ℕ) → AllHave values vs xs t →
    has (gate_value kind vs) (gate_bit kind (bits_at xs (t - 1))) (gate_bit kind (bits_at xs t)) ≡ true
gate_has Buf vs xs t hs = passed_has vs xs t hs
gate_has And vs xs t hs = left_has and_of (λ b c. b && c) (list_all (λ b. b)) and_of_has and_bits vs xs t hs
gate_has Or vs xs t hs = left_has or_of (λ b c. b || c) (list_any (λ b. b)) or_of_has or_bits vs xs t hs
gate_has Xor vs xs t hs = left_has xor_of differ parity xor_of_has xor_bits vs xs t hs
gate_has Mux2 vs xs t hs = of_two_has vs xs t hs
gate_has Mux4 vs xs t hs = of_four_has vs xs t hs
gate_has Mux8 vs xs t hs = of_eight_has vs xs t hs
gate_has kind vs xs t hs = refl
