use Rattle.std.proofs.Common.{◌≡◌, ◌∙◌, ℕ, false, below_more, ap, sym, arith, Some}
use Rattle.std.specs.Prelude.{slice_get}
use Rattle.std.specs.Ordering.{int_eq}
use Rattle.std.proofs.lemmas.Option.{slice_get_within}
use Rattle.critical_paths.specs.declared.gather.Reached.{Reached}
use Rattle.critical_paths.proofs.gather.place_of.Goals as goal

pub loop-at-preserved : goal.loop-at-preserved
loop-at-preserved c =
    below_more
    (λ (k : ℕ). (a : Reached) → slice_get c.args.some.now k ≡ Some a →
    int_eq a.near.ideal c.args.reached.near.ideal ≡ false)
    c.loop-at.at c.loop-at.invariant
    (λ a here.
    let is : a ≡ c.reached_at.result = let found = c.reached_at.ensures in cc in
    ap (λ (x : Reached). int_eq x.near.ideal c.args.reached.near.ideal) is ∙ sym c.are_one.ensures
    ∙ c.if-are_one.false)

pub returns-then-are_one-clause-is : goal.returns-then-are_one-clause-is
returns-then-are_one-clause-is c = (
  c.reached_at.result,
  record {
    is = c.reached_at.ensures;
    edge = sym c.are_one.ensures ∙ c.if-are_one.true;
    before = λ k b below at. c.loop-at.invariant k below b at;
  },
)

pub returns-clause-none : goal.returns-clause-none
returns-clause-none c = λ k a at.
    let test = c.loop-at-test.false in
    let within = slice_get_within c.args.some.now k a at in
    c.loop-at.invariant k (omega (arith, within, test)) a at
