use Rattle.std.proofs.Common.{◌≡◌, None, map, rules, arith, sym, ap, ◌∙◌}
use Rattle.std.specs.List.{position}
use Rattle.step_values.specs.Cell.{values}
use Rattle.gate_eval.specs.Meeting.{folds_in, period_of}
use Rattle.gate_eval.specs.Hold.{disturber}
use Rattle.gate_eval.proofs.Gathered.{period_any, all_below, all_long}
use Rattle.gate_eval.proofs.Found.{below_run, hazard_unmarked, hazard_here, hazard_nowhere}
use Rattle.gate_eval.proofs.hold.hazard_among.Goals as goal

pub returns-in_err-marked : goal.returns-in_err-marked
returns-in_err-marked g c =
    c.from_residual.ensures
    ∙ hazard_unmarked c.args.kind (map (λ p. p.wave) c.args.pins.now) (position (λ p. p.hold) c.args.pins.now) (search rules)

pub disturber_at-requires-clause-slot : goal.disturber_at-requires-clause-slot
disturber_at-requires-clause-slot g c =
    let period : c.period-period.result ≡ period_of (map (λ p. p.wave) c.args.pins.now) =
    c.period-period.ensures ∙ period_any c.args.pins.now c.in_ok-marked.marked c.index-pins-marked.result (λ p. p.wave) c.in_ok-marked.ensures.within c.requires.periods in
    all_below c.args.pins.now c.changes.slot (λ p. p.wave) c.requires.periods (omega (arith, period))

pub returns-in-Some : goal.returns-in-Some
returns-in-Some g c =
    let period : c.period-period.result ≡ period_of (map (λ p. p.wave) c.args.pins.now) =
    c.period-period.ensures ∙ period_any c.args.pins.now c.in_ok-marked.marked c.index-pins-marked.result (λ p. p.wave) c.in_ok-marked.ensures.within c.requires.periods in
    hazard_here c.args.kind (map (λ p. p.wave) c.args.pins.now) (position (λ p. p.hold) c.args.pins.now) c.in_ok-marked.marked c.changes.slot c.in-Some.pin
    c.in_ok-marked.ensures.place c.changes.invariant (omega (arith, period)) c.in-Some.ensures.first

pub next_fold_change-slot-requires-clause-pins : goal.next_fold_change-slot-requires-clause-pins
next_fold_change-slot-requires-clause-pins g c =
    let period : c.period-period.result ≡ period_of (map (λ p. p.wave) c.args.pins.now) =
    c.period-period.ensures ∙ period_any c.args.pins.now c.in_ok-marked.marked c.index-pins-marked.result (λ p. p.wave) c.in_ok-marked.ensures.within c.requires.periods in
    all_long c.args.pins.now c.period-period.result (λ p. p.wave) c.requires.periods period

pub changes-preserved : goal.changes-preserved
changes-preserved g c =
    below_run (λ k. disturber c.args.kind c.in_ok-marked.marked (folds_in values (map (λ p. p.wave) c.args.pins.now) k) ≡ None) c.changes.slot _ c.changes.invariant
    (λ k above below. ap (disturber c.args.kind c.in_ok-marked.marked) (c.next_fold_change-slot.ensures.same k above below)
    ∙ sym c.disturber_at.ensures.first ∙ search rules)

pub returns : goal.returns
returns g c =
    let period : c.period-period.result ≡ period_of (map (λ p. p.wave) c.args.pins.now) =
    c.period-period.ensures ∙ period_any c.args.pins.now c.in_ok-marked.marked c.index-pins-marked.result (λ p. p.wave) c.in_ok-marked.ensures.within c.requires.periods in
    hazard_nowhere c.args.kind (map (λ p. p.wave) c.args.pins.now) (position (λ p. p.hold) c.args.pins.now) c.in_ok-marked.marked
    c.in_ok-marked.ensures.place (λ k below. c.changes.invariant k (omega (arith, period)))
