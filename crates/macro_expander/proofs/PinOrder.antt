-- Input connections in the order of the pins: the same ones, of which the first two or three stand
-- in reverse order.
use Rattle.std.proofs.Common.{◌≡◌, ℕ, zero, suc, ◌≤◌, Bool, true, false, cond, List, [], ◌∷◌, length, map, refl, ◌∙◌, arith}
use Rattle.std.specs.List.{All, count_by}
use Rattle.std.proofs.lemmas.List.Sums.{sum_by-cons}
use Rattle.std.proofs.lemmas.List.Elements.{All-head, All-tail, All-cons}
use Rattle.element_kinds.specs.declared.kind.Kind.{Kind}
use Rattle.element_kinds.specs.declared.kind.Kind.TheVariants.{Buf, And, Or, Xor, Mux2, Mux4, Mux8, Chg, Reg, RegRs, Latch, LatchRs, SetupHold, RiseFall, MinPulse}
use Rattle.element_kinds.specs.Kinds.{selects_of}
use Rattle.drawing_tree.specs.Tree.{Connection}
use Rattle.macro_expander.specs.Terms.{Joined}
use Rattle.macro_expander.specs.Primitives.{first_reversed, in_pin_order, fewest_inputs}
use Rattle.macro_expander.proofs.Joints.{HasWidth, AreJoined}

-- ---- how many selects there are

three_at_most : (kind : Kind) → selects_of kind ≤ 3
three_at_most Buf = omega arith
three_at_most And = omega arith
three_at_most Or = omega arith
three_at_most Xor = omega arith
three_at_most Mux2 = omega arith
three_at_most Mux4 = omega arith
three_at_most Mux8 = omega arith
three_at_most Chg = omega arith
three_at_most Reg = omega arith
three_at_most RegRs = omega arith
three_at_most Latch = omega arith
three_at_most LatchRs = omega arith
three_at_most SetupHold = omega arith
three_at_most RiseFall = omega arith
three_at_most MinPulse = omega arith

-- no more than there are connections at least
pub selects_few : (kind : Kind) → selects_of kind ≤ fewest_inputs kind
selects_few Buf = omega arith
selects_few And = omega arith
selects_few Or = omega arith
selects_few Xor = omega arith
selects_few Mux2 = omega arith
selects_few Mux4 = omega arith
selects_few Mux8 = omega arith
selects_few Chg = omega arith
selects_few Reg = omega arith
selects_few RegRs = omega arith
selects_few Latch = omega arith
selects_few LatchRs = omega arith
selects_few SetupHold = omega arith
selects_few RiseFall = omega arith
selects_few MinPulse = omega arith

-- ---- what does not look at the order

-- A list with its first three, at most, in reverse order: as it is, or its first two or its first
-- three exchanged.
data IsReversed {X : Type 0} : List X → List X → Type 0 where
  As_it_is : {xs : List X} → IsReversed xs xs
  First_two : {a b : X} {xs : List X} → IsReversed (a ∷ b ∷ xs) (b ∷ a ∷ xs)
  First_three : {a b c : X} {xs : List X} → IsReversed (a ∷ b ∷ c ∷ xs) (c ∷ b ∷ a ∷ xs)

is_reversed : {X : Type 0} (n : ℕ) (xs : List X) → n ≤ 3 → IsReversed xs (first_reversed n xs)
is_reversed zero [] h = As_it_is
is_reversed zero (a ∷ xs) h = As_it_is
is_reversed (suc zero) [] h = As_it_is
is_reversed (suc zero) (a ∷ xs) h = As_it_is
is_reversed (suc (suc zero)) [] h = As_it_is
is_reversed (suc (suc zero)) (a ∷ []) h = As_it_is
is_reversed (suc (suc zero)) (a ∷ b ∷ xs) h = First_two
is_reversed (suc (suc (suc zero))) [] h = As_it_is
is_reversed (suc (suc (suc zero))) (a ∷ []) h = As_it_is
is_reversed (suc (suc (suc zero))) (a ∷ b ∷ []) h = First_two
is_reversed (suc (suc (suc zero))) (a ∷ b ∷ c ∷ xs) h = First_three
is_reversed (suc (suc (suc (suc n)))) xs h = absurd (omega arith)

in_order : {X : Type 0} (b : Bool) (kind : Kind) (xs : List X) →
    IsReversed xs (in_pin_order b kind xs)
in_order true kind xs = is_reversed (selects_of kind) xs (three_at_most kind)
in_order false kind xs = As_it_is

reversed_are : {X : Type 0} (P : X → Type 0) (xs ys : List X) → IsReversed xs ys → All P xs →
    All P ys
reversed_are P xs _ As_it_is h = h
reversed_are P _ _ (First_two {a} {b} {xs}) h =
    let rest = All-tail P a (b ∷ xs) h in
    All-cons P b (a ∷ xs) (All-head P b xs rest)
    (All-cons P a xs (All-head P a (b ∷ xs) h) (All-tail P b xs rest))
reversed_are P _ _ (First_three {a} {b} {c} {xs}) h =
    let second = All-tail P a (b ∷ c ∷ xs) h in
    let third = All-tail P b (c ∷ xs) second in
    All-cons P c (b ∷ a ∷ xs) (All-head P c xs third)
    (All-cons P b (a ∷ xs) (All-head P b (c ∷ xs) second)
    (All-cons P a xs (All-head P a (b ∷ c ∷ xs) h) (All-tail P c xs third)))

reversed_length : {X : Type 0} (xs ys : List X) → IsReversed xs ys → length ys ≡ length xs
reversed_length xs _ As_it_is = refl
reversed_length _ _ First_two = refl
reversed_length _ _ First_three = refl

reversed_marks : (xs ys : List Joined) → IsReversed xs ys →
    count_by (λ (j : Joined). j.hold) ys ≡ count_by (λ (j : Joined). j.hold) xs
reversed_marks xs _ As_it_is = refl
reversed_marks _ _ (First_two {a} {b} {xs}) =
    let f : Joined → ℕ = λ j. cond j.hold 1 0 in
    omega (
      arith,
      sum_by-cons f a (b ∷ xs),
      sum_by-cons f b xs,
      sum_by-cons f b (a ∷ xs),
      sum_by-cons f a xs,
    )
reversed_marks _ _ (First_three {a} {b} {c} {xs}) =
    let f : Joined → ℕ = λ j. cond j.hold 1 0 in
    omega (
      arith,
      sum_by-cons f a (b ∷ c ∷ xs),
      sum_by-cons f b (c ∷ xs),
      sum_by-cons f c xs,
      sum_by-cons f c (b ∷ a ∷ xs),
      sum_by-cons f b (a ∷ xs),
      sum_by-cons f a xs,
    )

-- ---- connections

pub in_pin_order_are : {X : Type 0} (P : X → Type 0) (b : Bool) (kind : Kind) (xs : List X) →
    All P xs → All P (in_pin_order b kind xs)
in_pin_order_are P b kind xs h = reversed_are P xs (in_pin_order b kind xs) (in_order b kind xs) h

reversed_map : {X Y : Type 0} (f : X → Y) (n : ℕ) (xs : List X) → n ≤ 3 →
    map f (first_reversed n xs) ≡ first_reversed n (map f xs)
reversed_map f zero [] h = refl
reversed_map f zero (a ∷ xs) h = refl
reversed_map f (suc zero) [] h = refl
reversed_map f (suc zero) (a ∷ xs) h = refl
reversed_map f (suc (suc zero)) [] h = refl
reversed_map f (suc (suc zero)) (a ∷ []) h = refl
reversed_map f (suc (suc zero)) (a ∷ b ∷ xs) h = refl
reversed_map f (suc (suc (suc zero))) [] h = refl
reversed_map f (suc (suc (suc zero))) (a ∷ []) h = refl
reversed_map f (suc (suc (suc zero))) (a ∷ b ∷ []) h = refl
reversed_map f (suc (suc (suc zero))) (a ∷ b ∷ c ∷ xs) h = refl
reversed_map f (suc (suc (suc (suc n)))) xs h = absurd (omega arith)

-- by numbers or by names
pub in_pin_order_map : {X Y : Type 0} (f : X → Y) (b : Bool) (kind : Kind) (xs : List X) →
    map f (in_pin_order b kind xs) ≡ in_pin_order b kind (map f xs)
in_pin_order_map f true kind xs = reversed_map f (selects_of kind) xs (three_at_most kind)
in_pin_order_map f false kind xs = refl

-- they are as many, marked as often, and as wide
pub joined_turned : (cs : List Connection) (js : List Joined) (b : Bool) (kind : Kind) →
    AreJoined cs js → AreJoined cs (in_pin_order b kind js)
joined_turned cs js b kind are =
    let r = in_order b kind js in
    let turned : List Joined = in_pin_order b kind js in
    record {
      count = reversed_length js turned r ∙ are.count;
      marked = reversed_marks js turned r ∙ are.marked;
      wide = reversed_are HasWidth js turned r are.wide;
    }
