-- Keys that the derived test finds equal are one.
use Rattle.std.specs.Prelude.{◌≡◌, Bool, true, false, ◌&&◌, ◌==◌}
use Rattle.std.proofs.Common.{refl, sym, ap, ◌∙◌, eq-eqb, rules, true≢false}
use Rattle.std.proofs.lemmas.Bool.{eqb-true, and_parts}
use Rattle.std.specs.Bool.{Decides}
use Rattle.std.specs.Cmp.Derive.{both_true}
use Rattle.std.specs.Cmp.Lexicographic.{pointwise, pointwise_decides}
use mathlib.Core.Bool.{beq}
use denote.Enum.Bare.{sameb, same_true}
use Rattle.element_kinds.specs.contracts.kind.Kind.{the_type}
use Rattle.fixpoint_engine.specs.declared.key.KeyPin.{KeyPin}
use Rattle.fixpoint_engine.specs.declared.key.Key.{Key}

same_bit : (a b : Bool) → beq a b ≡ true → a ≡ b
same_bit true true e = refl
same_bit false false e = refl
same_bit true false e = absurd (true≢false (sym e))
same_bit false true e = absurd (true≢false (sym e))

own_bit : (a b : Bool) → a ≡ b → beq a b ≡ true
own_bit a b e = sym (ap (beq a) e) ∙ by a
  where
    by : (c : Bool) → beq c c ≡ true
    by true = refl
    by false = refl

-- ---- pins

abbrev pub pin_same : KeyPin → KeyPin → Bool
pin_same p q =
    (p.wave == q.wave) && ((p.least == q.least)
    && ((p.greatest == q.greatest) && (beq p.inverted q.inverted && beq p.hold q.hold)))

pub pin_is : (p q : KeyPin) → pin_same p q ≡ true → p ≡ q
pin_is p q h =
    let a = and_parts (p.wave == q.wave)
    ((p.least == q.least) && ((p.greatest == q.greatest)
    && (beq p.inverted q.inverted && beq p.hold q.hold))) h in
    let b = and_parts (p.least == q.least)
    ((p.greatest == q.greatest) && (beq p.inverted q.inverted && beq p.hold q.hold)) a.1 in
    let c = and_parts (p.greatest == q.greatest)
    (beq p.inverted q.inverted && beq p.hold q.hold) b.1 in
    let d = and_parts (beq p.inverted q.inverted) (beq p.hold q.hold) c.1 in
    let wave = eqb-true p.wave q.wave a.0 in
    let least = eqb-true p.least q.least b.0 in
    let greatest = eqb-true p.greatest q.greatest c.0 in
    let inverted = same_bit p.inverted q.inverted d.0 in
    let hold = same_bit p.hold q.hold d.1 in
    λ i. record {
      wave = wave i;
      least = least i;
      greatest = greatest i;
      inverted = inverted i;
      hold = hold i;
    }

pin_self : (p q : KeyPin) → p ≡ q → pin_same p q ≡ true
pin_self p q e =
    both_true (eq-eqb p.wave q.wave (ap (λ (r : KeyPin). r.wave) e))
    (both_true (eq-eqb p.least q.least (ap (λ (r : KeyPin). r.least) e))
    (both_true (eq-eqb p.greatest q.greatest (ap (λ (r : KeyPin). r.greatest) e))
    (both_true (own_bit p.inverted q.inverted (ap (λ (r : KeyPin). r.inverted) e))
    (own_bit p.hold q.hold (ap (λ (r : KeyPin). r.hold) e)))))

same_pin : (p q : KeyPin) → Decides (pin_same p q) (p ≡ q)
same_pin p q = (pin_is p q, pin_self p q)

-- ---- keys, from their last field to their first

abbrev same_shape : Key → Key → Bool
same_shape j k = beq j.inverted k.inverted && pointwise pin_same j.pins k.pins

abbrev same_fall : Key → Key → Bool
same_fall j k =
    (j.fall_least == k.fall_least) && ((j.fall_greatest == k.fall_greatest) && same_shape j k)

abbrev same_rise : Key → Key → Bool
same_rise j k =
    (j.rise_least == k.rise_least) && ((j.rise_greatest == k.rise_greatest) && same_fall j k)

abbrev same_late : Key → Key → Bool
same_late j k =
    (j.least == k.least) && ((j.greatest == k.greatest) && (beq j.split k.split && same_rise j k))

pub same_key : (j k : Key) → (sameb the_type j.kind k.kind && same_late j k) ≡ true → j ≡ k
same_key j k h =
    let a = and_parts (sameb the_type j.kind k.kind) (same_late j k) h in
    let b = and_parts (j.least == k.least)
    ((j.greatest == k.greatest) && (beq j.split k.split && same_rise j k)) a.1 in
    let c = and_parts (j.greatest == k.greatest) (beq j.split k.split && same_rise j k) b.1 in
    let d = and_parts (beq j.split k.split) (same_rise j k) c.1 in
    let e = and_parts (j.rise_least == k.rise_least)
    ((j.rise_greatest == k.rise_greatest) && same_fall j k) d.1 in
    let f = and_parts (j.rise_greatest == k.rise_greatest) (same_fall j k) e.1 in
    let g = and_parts (j.fall_least == k.fall_least)
    ((j.fall_greatest == k.fall_greatest) && same_shape j k) f.1 in
    let m = and_parts (j.fall_greatest == k.fall_greatest) (same_shape j k) g.1 in
    let n = and_parts (beq j.inverted k.inverted) (pointwise pin_same j.pins k.pins) m.1 in
    let kind = same_true the_type (search rules) _ _ a.0 in
    let least = eqb-true j.least k.least b.0 in
    let greatest = eqb-true j.greatest k.greatest c.0 in
    let split = same_bit j.split k.split d.0 in
    let rise_least = eqb-true j.rise_least k.rise_least e.0 in
    let rise_greatest = eqb-true j.rise_greatest k.rise_greatest f.0 in
    let fall_least = eqb-true j.fall_least k.fall_least g.0 in
    let fall_greatest = eqb-true j.fall_greatest k.fall_greatest m.0 in
    let inverted = same_bit j.inverted k.inverted n.0 in
    let pins = (pointwise_decides same_pin j.pins k.pins).0 n.1 in
    λ i. record {
      kind = kind i;
      least = least i;
      greatest = greatest i;
      split = split i;
      rise_least = rise_least i;
      rise_greatest = rise_greatest i;
      fall_least = fall_least i;
      fall_greatest = fall_greatest i;
      inverted = inverted i;
      pins = pins i;
    }
