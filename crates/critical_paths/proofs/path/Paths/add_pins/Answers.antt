use Rattle.std.proofs.Common.{◌≡◌, ◌∙◌, ℕ, ◌<◌, ◌≤◌, ◌^◌, length, sym, subst, arith, Option}
use Rattle.std.proofs.lemmas.Option.{IfSome_then}
use Rattle.fixpoint_engine.specs.Waves.{waves_of}
use Rattle.critical_paths.specs.declared.arrival.Place.{Place}
use Rattle.critical_paths.specs.declared.path.Passage.{Passage}
use Rattle.critical_paths.specs.Reached.{AddsThrough, AreThrough, gathered}
use Rattle.critical_paths.proofs.Arrivals.{no_pins, one_pin}
use Rattle.critical_paths.proofs.Pins.{few_counts}
use Rattle.critical_paths.proofs.Behind.{behind_some, few_behind}
use Rattle.critical_paths.proofs.path.Paths.add_pins.Goals as goal

pub loop-number-init : goal.loop-number-init
loop-number-init g c = record {
  to = omega arith;
  are = λ exact. no_pins c.args.view.now.circuit.now (waves_of c.args.view.now.waves.now) c.args.element.now
      c.args.place (gathered c.args.out.now);
  ways = λ exact old. old;
}

pub loop-number-preserved : goal.loop-number-preserved
loop-number-preserved g c =
    let so = c.loop-number.invariant in
    let circuit = c.args.view.now.circuit.now in
    let ws = waves_of c.args.view.now.waves.now in
    let j = c.args.element.now in
    let test = c.loop-number-test.true in
    let long = c.len-number-end.ensures in
    let most : length j.pins ≤ _ = c.requires.fits.pins.most in
    let few = few_counts j.kind in
    let small : c.loop-number.number < 2 ^ 16 = omega (arith, test, long, most, few) in
    record {
      to = omega (arith, test, long);
      are = λ exact. one_pin circuit ws j c.args.place c.loop-number.number (gathered c.args.out.now)
          (gathered c.loop-number.out) (gathered c.add_through.new.out)
          c.requires.fits.split (so.are exact)
          (subst (λ (o : Option (Place × Passage)). AddsThrough circuit ws c.args.place o (gathered c.loop-number.out)
          (gathered c.add_through.new.out))
          (c.place_behind-behind.ensures.is small) (c.in_ok-add_through.ensures.gathered exact c.if-not-branch.false));
      ways = λ exact old. c.in_ok-add_through.ensures.ways exact
          (behind_some circuit j c.args.place c.loop-number.number c.place_behind-behind.result
          c.requires.driven (c.place_behind-behind.ensures.is small))
          (so.ways exact old);
    }

pub returns-then-not-branch-clause-ways : goal.returns-then-not-branch-clause-ways
returns-then-not-branch-clause-ways g c = λ exact old.
    let j = c.args.element.now in
    let test = c.loop-number-test.true in
    let long = c.len-number-end.ensures in
    let most : length j.pins ≤ _ = c.requires.fits.pins.most in
    let few = few_counts j.kind in
    let small : c.loop-number.number < 2 ^ 16 = omega (arith, test, long, most, few) in
    c.in_ok-add_through.ensures.ways exact
    (behind_some c.args.view.now.circuit.now j c.args.place c.loop-number.number c.place_behind-behind.result
    c.requires.driven (c.place_behind-behind.ensures.is small))
    (c.loop-number.invariant.ways exact old)

pub returns-then-not-branch-clause-fits : goal.returns-then-not-branch-clause-fits
returns-then-not-branch-clause-fits g c = λ exact few done.
    let circuit = c.args.view.now.circuit.now in
    let ws = waves_of c.args.view.now.waves.now in
    let j = c.args.element.now in
    let test = c.loop-number-test.true in
    let long = c.len-number-end.ensures in
    let most : length j.pins ≤ _ = c.requires.fits.pins.most in
    let counts = few_counts j.kind in
    let small : c.loop-number.number < 2 ^ 16 = omega (arith, test, long, most, counts) in
    sym c.if-not-branch.true
    ∙ c.in_ok-add_through.ensures.fits exact
    (IfSome_then c.place_behind-behind.result
    (behind_some circuit j c.args.place c.loop-number.number c.place_behind-behind.result
    c.requires.driven (c.place_behind-behind.ensures.is small))
    (λ found is. (done found is, few_behind circuit ws c.args.place found is c.requires.sees.circuit few)))

pub returns-clause-gathered : goal.returns-clause-gathered
returns-clause-gathered g c = λ exact fits.
    let so = c.loop-number.invariant in
    let test = c.loop-number-test.false in
    let long = c.len-number-end.ensures in
    let to = so.to in
    let whole : c.loop-number.number ≡ length c.args.element.now.pins = omega (arith, test, long, to) in
    subst (λ (n : ℕ). AreThrough c.args.view.now.circuit.now (waves_of c.args.view.now.waves.now) c.args.element.now
    c.args.place n (gathered c.args.out.now) (gathered c.loop-number.out)) whole (so.are exact)

pub returns-clause-ways : goal.returns-clause-ways
returns-clause-ways g c = c.loop-number.invariant.ways
