use Rattle.std.proofs.Common.{◌≡◌, ◌∙◌, ◌-ℤ◌, arith, sym, to_z, of_z, w64}
use Rattle.std.specs.Prelude.{int_le}
use Rattle.std.proofs.lemmas.Int.{ints}
use Rattle.slack_rows.proofs.Merged.{not_close, not_close_after, one_or_not, out_of_order}
use Rattle.slack_rows.proofs.table.have_one_region.Goals as goal

pub returns-then-not-are_close : goal.returns-then-not-are_close
returns-then-not-are_close c = λ near near_after.
    not_close c.args.period c.requires c.args.before c.args.after c.in-Some.one
    c.in-Some-region_of.other (sym c.region_of.ensures ∙ c.in-Some.is)
    (sym c.region_of-2.ensures ∙ c.in-Some-region_of.is) near near_after
    (sym c.are_close.ensures.is ∙ c.if-not-are_close.true)

pub returns-then-not-are_close-2 : goal.returns-then-not-are_close-2
returns-then-not-are_close-2 c = λ near near_after.
    not_close_after c.args.period c.requires c.args.before c.args.after c.in-Some.one
    c.in-Some-region_of.other (sym c.region_of.ensures ∙ c.in-Some.is)
    (sym c.region_of-2.ensures ∙ c.in-Some-region_of.is) near near_after
    (sym c.are_close-2.ensures.is ∙ c.if-not-are_close-2.true)

pub returns-then-not-is_in_order : goal.returns-then-not-is_in_order
returns-then-not-is_in_order c = λ near near_after.
    let from = c.are_close.ensures.from c.if-not-are_close.false in
    let begin = c.are_close.ensures.first c.if-not-are_close.false in
    let from_after = c.are_close-2.ensures.from c.if-not-are_close-2.false in
    let begin_after = c.are_close-2.ensures.first c.if-not-are_close-2.false in
    let opens = c.opens_after.ensures in
    let opens_after = c.opens_after-2.ensures in
    let first : to_z w64 (of_z w64 c.opens_after.result)
    ≡ c.args.before.window.from -ℤ c.in-Some.one.first =
    omega (arith, ints, opens, from, begin) in
    let second : to_z w64 (of_z w64 c.opens_after-2.result)
    ≡ c.args.after.window.from -ℤ c.in-Some-region_of.other.first =
    omega (arith, ints, opens_after, from_after, begin_after) in
    out_of_order c.args.period c.requires c.args.before c.args.after c.in-Some.one
    c.in-Some-region_of.other (sym c.region_of.ensures ∙ c.in-Some.is)
    (sym c.region_of-2.ensures ∙ c.in-Some-region_of.is) near near_after
    (sym (c.is_in_order.ensures ∙ (λ i. int_le (first i) (second i))) ∙ c.if-not-is_in_order.true)

pub returns : goal.returns
returns c = λ near near_after.
    let from = c.are_close.ensures.from c.if-not-are_close.false in
    let begin = c.are_close.ensures.first c.if-not-are_close.false in
    let from_after = c.are_close-2.ensures.from c.if-not-are_close-2.false in
    let begin_after = c.are_close-2.ensures.first c.if-not-are_close-2.false in
    let opens = c.opens_after.ensures in
    let opens_after = c.opens_after-2.ensures in
    let first : to_z w64 (of_z w64 c.opens_after.result)
    ≡ c.args.before.window.from -ℤ c.in-Some.one.first =
    omega (arith, ints, opens, from, begin) in
    let second : to_z w64 (of_z w64 c.opens_after-2.result)
    ≡ c.args.after.window.from -ℤ c.in-Some-region_of.other.first =
    omega (arith, ints, opens_after, from_after, begin_after) in
    one_or_not c.args.period c.requires c.args.before c.args.after c.in-Some.one
    c.in-Some-region_of.other (sym c.region_of.ensures ∙ c.in-Some.is)
    (sym c.region_of-2.ensures ∙ c.in-Some-region_of.is) near near_after
    (sym (c.is_in_order.ensures ∙ (λ i. int_le (first i) (second i))) ∙ c.if-not-is_in_order.false)
    c.are_same.result
    (λ same. sym c.shape_of.ensures ∙ c.are_same.ensures.same same ∙ c.shape_of-2.ensures)
    (λ differ same. c.are_same.ensures.other differ
    (c.shape_of.ensures ∙ same ∙ sym c.shape_of-2.ensures))
