use Rattle.std.proofs.Common.{◌≡◌, length, map, rules, arith, sym, ap, ◌∙◌, below_more}
use Rattle.step_values.specs.Cell.{values}
use Rattle.gate_eval.specs.Meeting.{folds_in}
use Rattle.gate_eval.specs.Hold.{is_closed}
use Rattle.gate_eval.proofs.Found.{value_at, value_of_item, folds_long, beside_moves, beside_quiet, beside_itself, disturbs, disturbs_none, disturbs_closed}
use Rattle.gate_eval.proofs.hold.disturber_at.Goals as goal
use Rattle.gate_eval.proofs.hold.disturber_at.Goals.{else-place-marked-via-then-place-marked+else-not-quiet, else-place-marked-via-else-place-marked}

pub returns-then-is_closed-clause-first : goal.returns-then-is_closed-clause-first
returns-then-is_closed-clause-first g c =
    disturbs_closed c.args.kind c.args.marked (folds_in values (map (λ p. p.wave) c.args.pins.now) c.args.slot)
    (ap (is_closed c.args.kind) (sym (value_at c.args.pins.now c.args.marked c.index-pins-marked.result c.args.slot c.fold_at.result (λ p. p.wave) c.requires.marked c.fold_at.ensures))
    ∙ sym c.is_closed.ensures ∙ c.if-is_closed.true)

pub returns-then-not-quiet-clause-first : goal.returns-then-not-quiet-clause-first
returns-then-not-quiet-clause-first g c =
    let long : length (folds_in values (map (λ p. p.wave) c.args.pins.now) c.args.slot) ≡ length c.args.pins.now = folds_long c.args.pins.now c.args.slot (λ p. p.wave) in
    disturbs c.args.kind c.args.marked (folds_in values (map (λ p. p.wave) c.args.pins.now) c.args.slot) c.loop-place.place
    (ap (is_closed c.args.kind) (sym (value_at c.args.pins.now c.args.marked c.index-pins-marked.result c.args.slot c.fold_at.result (λ p. p.wave) c.requires.marked c.fold_at.ensures))
    ∙ sym c.is_closed.ensures ∙ c.if-is_closed.false)
    c.loop-place.invariant (omega (arith, long))
    (beside_moves c.args.marked (folds_in values (map (λ p. p.wave) c.args.pins.now) c.args.slot) c.loop-place.place c.fold_at-then-place-marked.result
    (value_of_item c.args.pins.now c.loop-place.place c.index-pins-place.result c.args.slot
    c.fold_at-then-place-marked.result (λ p. p.wave) (omega arith) c.index-pins-place.is c.fold_at-then-place-marked.ensures)
    c.if-place-marked.true (search rules))

pub loop-place-preserved : goal.loop-place-preserved
loop-place-preserved g c =
    below_more _ _ c.loop-place.invariant
    (elim c.else-place-marked.branch [
      | else-place-marked-via-then-place-marked+else-not-quiet w ↦
          beside_quiet c.args.marked (folds_in values (map (λ p. p.wave) c.args.pins.now) c.args.slot) c.loop-place.place w.fold_at-then-place-marked.result
          (value_of_item c.args.pins.now c.loop-place.place c.index-pins-place.result c.args.slot
          w.fold_at-then-place-marked.result (λ p. p.wave) (omega arith) c.index-pins-place.is w.fold_at-then-place-marked.ensures)
          (search rules)
      | else-place-marked-via-else-place-marked w ↦ beside_itself c.args.marked (folds_in values (map (λ p. p.wave) c.args.pins.now) c.args.slot) c.loop-place.place w.if-place-marked.false
    ])

pub returns-clause-first : goal.returns-clause-first
returns-clause-first g c =
    let long : length (folds_in values (map (λ p. p.wave) c.args.pins.now) c.args.slot) ≡ length c.args.pins.now = folds_long c.args.pins.now c.args.slot (λ p. p.wave) in
    disturbs_none c.args.kind c.args.marked (folds_in values (map (λ p. p.wave) c.args.pins.now) c.args.slot)
    (ap (is_closed c.args.kind) (sym (value_at c.args.pins.now c.args.marked c.index-pins-marked.result c.args.slot c.fold_at.result (λ p. p.wave) c.requires.marked c.fold_at.ensures))
    ∙ sym c.is_closed.ensures ∙ c.if-is_closed.false)
    (λ k below. c.loop-place.invariant k (omega (arith, long)))
