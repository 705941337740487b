use Rattle.std.proofs.Common.{◌≤◌, length, arith}
use Rattle.critical_paths.proofs.Pins.{few_counts}
use Rattle.critical_paths.proofs.Search.{passed_more}
use Rattle.critical_paths.proofs.path.Paths.open_from.Goals as goal

pub open_behind-requires : goal.open_behind-requires
open_behind-requires c =
    let j = c.args.element.now in
    let test = c.loop-number-test.true in
    let long = c.len-number-end.ensures in
    let most : length j.pins ≤ _ = c.requires.fits.pins.most in
    let few = few_counts j.kind in
    omega (arith, test, long, most, few)

pub loop-number-init : goal.loop-number-init
loop-number-init c = λ behind b low high. absurd (omega (arith, low, high))

pub loop-number-preserved : goal.loop-number-preserved
loop-number-preserved c =
    passed_more c.args.circuit.now c.args.self.now.known.entries c.args.frame.place c.args.frame.pin
    c.loop-number.number c.args.element.now c.requires.driven c.in_default.ensures.none c.loop-number.invariant

pub returns-in-Some-clause-some : goal.returns-in-Some-clause-some
returns-in-Some-clause-some c = (
  c.in-Some.ensures.some.0,
  (
    c.in-Some.ensures.some.1.0,
    record {
      element = c.args.element.now;
      pin = c.loop-number.number;
      driven = c.requires.driven;
      at = c.in-Some.ensures.some.1.1;
    },
  ),
  c.loop-number.invariant,
)

pub returns-clause-none : goal.returns-clause-none
returns-clause-none c = λ behind b low high.
    let test = c.loop-number-test.false in
    let long = c.len-number-end.ensures in
    c.loop-number.invariant behind b low (omega (arith, test, long, high))
