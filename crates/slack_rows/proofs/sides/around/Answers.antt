use Rattle.std.proofs.Common.{◌≡◌, ◌+◌, ◌*◌, ℕ, ◌∙◌, refl, subst, arith}
use Rattle.scald_base.specs.Time.{period}
use Rattle.fixpoint_engine.specs.Waves.{waves_of}
use Rattle.slack_rows.specs.Views.{window_in}
use Rattle.slack_rows.specs.Held.{AreAround, in_periods, side_held, two_of}
use Rattle.slack_rows.proofs.Gathering.{around_end, around_none}
use Rattle.slack_rows.proofs.Launching.{goes_none, goes_then}
use Rattle.slack_rows.proofs.sides.around.Goals as goal

next_begin : (begin number p q all : ℕ) → begin ≡ number * p → q ≡ p → all ≡ begin + q → all ≡ (number + 1) * p
next_begin begin number p q all is same sum =
    sum ∙ (λ i. is i + same i) ∙ (let more : number * p + p ≡ (number + 1) * p = grind arith in more)

pub loop-number-init : goal.loop-number-init
loop-number-init g c =
    let circuit = c.args.view.now.circuit.now in
    let ws = waves_of c.args.view.now.waves.now in
    let w = window_in (period circuit.header) c.args.window in
    record {
      goes = goes_none circuit ws c.args.paths.now c.requires.knows;
      met = omega arith;
      short = omega arith;
      begin = (let none : 0 ≡ 0 * period circuit.header = grind arith in none);
      are = around_none (period circuit.header) (side_held circuit ws c.args.watch.held w) (two_of circuit ws c.args.watch.held w) w _ refl refl refl refl;
    }

pub loop-number-preserved : goal.loop-number-preserved
loop-number-preserved g c =
    let circuit = c.args.view.now.circuit.now in
    let ws = waves_of c.args.view.now.waves.now in
    let w = window_in (period circuit.header) c.args.window in
    let so = c.loop-number.invariant in
    let met = c.in_ok-all.ensures.met in
    let before = so.met in
    let short = so.short in
    let longest = c.period-period.ensures.longest in
    record {
      goes = goes_then _ _ _ _ _ so.goes c.in_ok-all.ensures.paths;
      met = omega (arith, met, before);
      short = omega (arith, short, longest);
      begin = next_begin c.loop-number.begin c.loop-number.number (period circuit.header) c.period-period.result _ so.begin c.period-period.ensures.is refl;
      are = around_end (period circuit.header) (side_held circuit ws c.args.watch.held w) (two_of circuit ws c.args.watch.held w) w
          c.args.watch.changes.now c.loop-number.number (c.loop-number.number + 1) c.loop-number.all _ refl so.are c.loop-number.begin so.begin c.in_ok-all.ensures.are;
    }

pub returns-clause-are : goal.returns-clause-are
returns-clause-are g c =
    let circuit = c.args.view.now.circuit.now in
    let ws = waves_of c.args.view.now.waves.now in
    let w = window_in (period circuit.header) c.args.window in
    let past = c.loop-number-test.false in
    let most = c.loop-number.auto.number-end in
    let all : c.loop-number.number ≡ 8 = omega (arith, past, most) in
    subst (λ (n : ℕ). AreAround (period circuit.header) (side_held circuit ws c.args.watch.held w) (two_of circuit ws c.args.watch.held w) w
    (in_periods (period circuit.header) c.args.watch.changes.now n) c.loop-number.all) all c.loop-number.invariant.are
