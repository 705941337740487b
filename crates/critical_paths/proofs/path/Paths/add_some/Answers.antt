use Rattle.std.proofs.Common.{◌∙◌, ap, arith, sym, ℤ, List}
use Rattle.std.specs.Prelude.{fold}
use Rattle.std.specs.Option.{option_map}
use Rattle.std.proofs.lemmas.Option.{slice_get-map}
use Rattle.fixpoint_engine.specs.Waves.{waves_of}
use Rattle.critical_paths.specs.declared.near.Near.{Near}
use Rattle.critical_paths.specs.Reached.{gathered, times, with_later}
use Rattle.critical_paths.proofs.Arriving.{some_at, taken_more, taken_none}
use Rattle.critical_paths.proofs.path.Paths.add_some.Goals as goal

pub loop-number-init : goal.loop-number-init
loop-number-init g c =
    let step = with_later c.args.view.now.circuit.now (waves_of c.args.view.now.waves.now) c.args.place c.args.passage in
    record {
      from = omega arith;
      to = c.requires.ordered;
      is = ap (fold step (gathered c.args.out.now)) (sym (taken_none (times c.args.self.now.arrivals) c.args.numbers.0));
      ways = λ b is have old. old;
    }

pub loop-number-preserved : goal.loop-number-preserved
loop-number-preserved g c =
    let so = c.loop-number.invariant in
    let step = with_later c.args.view.now.circuit.now (waves_of c.args.view.now.waves.now) c.args.place c.args.passage in
    let all = c.args.self.now.arrivals in
    let from = so.from in
    let below = c.loop-number-test.true in
    let few = c.requires.numbers in
    let at = some_at all c.loop-number.number (omega (arith, below, few)) in
    record {
      from = omega (arith, from);
      to = omega (arith, below);
      is = c.in_ok-add_one.ensures.gathered c.if-not-branch.false at.0 at.1
          ∙ ap (λ (l : List (ℤ × ℤ)). step l (at.0.ideal, at.0.tick)) so.is
          ∙ sym (taken_more step (gathered c.args.out.now) (times all) c.args.numbers.0 c.loop-number.number
          (at.0.ideal, at.0.tick) from
          (slice_get-map (λ (a : Near). (a.ideal, a.tick)) all c.loop-number.number
          ∙ ap (option_map (λ (a : Near). (a.ideal, a.tick))) at.1));
      ways = λ b is have old. c.in_ok-add_one.ensures.ways b at.0 is at.1
          (have c.loop-number.number at.0 from below at.1) (so.ways b is have old);
    }

pub returns-then-not-branch-clause-fits : goal.returns-then-not-branch-clause-fits
returns-then-not-branch-clause-fits g c = λ b few have.
    let below = c.loop-number-test.true in
    let most = c.requires.numbers in
    let at = some_at c.args.self.now.arrivals c.loop-number.number (omega (arith, below, most)) in
    sym c.if-not-branch.true
    ∙ c.in_ok-add_one.ensures.fits b at.0 few at.1
    (have c.loop-number.number at.0 c.loop-number.invariant.from below at.1)

pub returns-then-not-branch-clause-ways : goal.returns-then-not-branch-clause-ways
returns-then-not-branch-clause-ways g c = λ b is have old.
    let below = c.loop-number-test.true in
    let most = c.requires.numbers in
    let at = some_at c.args.self.now.arrivals c.loop-number.number (omega (arith, below, most)) in
    c.in_ok-add_one.ensures.ways b at.0 is at.1
    (have c.loop-number.number at.0 c.loop-number.invariant.from below at.1)
    (c.loop-number.invariant.ways b is have old)

pub returns-clause-ways : goal.returns-clause-ways
returns-clause-ways g c = c.loop-number.invariant.ways
