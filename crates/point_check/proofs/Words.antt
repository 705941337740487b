-- What a break says in its own words, the checks say in theirs.
use Rattle.std.proofs.Common.{◌≡◌, ℕ, ◌<◌, ◌≤◌, ◌&&◌, Bool, true, false, cond, ltb, count_by, get_or, length, List, refl, ap, ◌∙◌, arith, slice_get, Option, Some, None}
use Rattle.std.specs.Prelude.{is_some, take}
use Rattle.std.specs.List.{position}
use Rattle.std.proofs.lemmas.Bool.{lt-ltb}
use Rattle.std.proofs.lemmas.List.{get_or-take, length-take}
use Rattle.std.proofs.lemmas.List.Sums.{get_or-le-sum_by, sum_by_more_le, position_or_len_is}
use Rattle.std.proofs.lemmas.Option.{slice_get_within, get_or_from_slice_get}
use Rattle.scald_base.specs.declared.assertion.AssertSpec.{AssertSpec}
use Rattle.scald_base.specs.declared.assertion.AssertSpec.TheVariants.{None as Unasserted, Precision, Clock, Stable}
use Rattle.element_kinds.specs.declared.kind.Kind.{Kind}
use Rattle.flat_circuit.specs.declared.instance.Pin.{Pin}
use Rattle.flat_circuit.specs.declared.instance.Instance.{Instance}
use Rattle.flat_circuit.specs.declared.net.Net.{Net}
use Rattle.element_kinds.specs.Kinds.{closes_of, marks_by, greatest_marks}
use Rattle.flat_circuit.specs.Kind.{PinsFit}
use Rattle.flat_circuit.specs.Builder.{is_asserted}
use Rattle.fixpoint_engine.specs.Waves.{marked_pin}
use Rattle.point_check.specs.Assertion.{is_held}
use Rattle.point_check.specs.Break.{HasMark, Asserts}

-- ---- the marked pin

few_of : (kind : Kind) → greatest_marks kind ≤ 1
few_of kind = by (closes_of kind)
  where
    by : (closes : Option Bool) → marks_by closes ≤ 1
    by None = omega arith
    by (Some bit) = omega arith

-- no instance has two marked pins
pub few_marks : (j : Instance) → PinsFit j.kind j.pins → count_by (λ (p : Pin). p.hold) j.pins ≤ 1
few_marks j fits = let marks = fits.marks in let most = few_of j.kind in omega (arith, marks, most)

module _ {X : Type 0} (test : X → Bool) (xs : List X) (i : ℕ) (x : X) (few : count_by test xs ≤ 1)
    (at : slice_get xs i ≡ Some x) (passes : test x ≡ true) where
  abbrev of : X → ℕ
  of y = cond (test y) 1 0

  below : i < length xs
  below = slice_get_within xs i x at

  here : test (get_or xs i x) ≡ true
  here = ap test (get_or_from_slice_get xs i x x at) ∙ passes

  one_at : of (get_or xs i x) ≡ 1
  one_at = ap (λ b. cond {A = ℕ} b 1 0) here

  none_of : (b : Bool) → cond {A = ℕ} b 1 0 ≤ 0 → b ≡ false
  none_of true most = absurd (omega (arith, most))
  none_of false most = refl

  -- an earlier one would be the second
  not_yet : (k : ℕ) → k < i → test (get_or xs k x) ≡ false
  not_yet k less =
      let inside : k < length (take i xs) = omega (arith, length-take i xs, less, below) in
      let there : of (get_or (take i xs) k x) ≡ of (get_or xs k x) =
      ap of (get_or-take i xs k x less) in
      let part = get_or-le-sum_by of (take i xs) k x inside in
      let both = sum_by_more_le of xs i x below in
      none_of (test (get_or xs k x)) (omega (arith, there, part, both, one_at, few))

  pub only_position : position test xs ≡ Some i
  only_position =
      ap (λ n. cond (ltb n (length xs)) (Some n) None)
      (position_or_len_is test xs i x (omega (arith, below)) not_yet (λ b. here))
      ∙ ap (λ b. cond b (Some i) None) (lt-ltb i (length xs) below)

pub marked_is : (j : Instance) (i : ℕ) → count_by (λ (p : Pin). p.hold) j.pins ≤ 1 → HasMark j i →
    marked_pin j ≡ Some i
marked_is j i few mark =
    only_position (λ (p : Pin). p.hold) j.pins i mark.pin few mark.pin_is mark.holds

-- ---- a net that is held

asserted_is : (spec : AssertSpec) → Asserts spec → is_asserted spec ≡ true
asserted_is Unasserted asserts = absurd asserts
asserted_is (Precision c) asserts = refl
asserted_is (Clock c) asserts = refl
asserted_is (Stable spans) asserts = refl

pub held_is : (net : Net) (driver : ℕ) → net.driver ≡ Some driver → Asserts net.spec →
    is_held net ≡ true
held_is net driver driven asserts =
    ap (λ (d : Option ℕ). is_some d && is_asserted net.spec) driven ∙ asserted_is net.spec asserts
