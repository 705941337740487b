use Rattle.std.proofs.Common.{◌≡◌, length, map, rules, arith, sym, ap, ◌∙◌, below_more}
use Rattle.std.proofs.lemmas.List.{length-map}
use Rattle.step_values.specs.Cell.{values}
use Rattle.skew_algebra.specs.Wave.{cell_at}
use Rattle.gate_eval.specs.Hold.{is_closed}
use Rattle.gate_eval.proofs.Found.{value_among, beside_moves, beside_quiet, beside_itself, disturbs, disturbs_none, disturbs_closed}
use Rattle.gate_eval.proofs.hold.disturber_among.Goals as goal
use Rattle.gate_eval.proofs.hold.disturber_among.Goals.{else-pin-marked-via-then-pin-marked+else-not-quiet, else-pin-marked-via-else-pin-marked}

pub returns-then-is_closed : goal.returns-then-is_closed
returns-then-is_closed g c =
    disturbs_closed c.args.kind c.args.marked (map (λ w. cell_at values (g.W.CyclicWave.cells w) c.args.slot) c.args.folds.now)
    (ap (is_closed c.args.kind)
    (sym (value_among c.args.folds.now c.args.marked c.index-folds-marked.result
    c.args.slot c.at.result g.W.CyclicWave.cells c.requires.marked c.index-folds-marked.is c.at.ensures))
    ∙ sym c.is_closed.ensures ∙ c.if-is_closed.true)

pub returns-then-not-quiet : goal.returns-then-not-quiet
returns-then-not-quiet g c =
    let long : length (map (λ w. cell_at values (g.W.CyclicWave.cells w) c.args.slot) c.args.folds.now) ≡ length c.args.folds.now =
    length-map c.args.folds.now (λ w. cell_at values (g.W.CyclicWave.cells w) c.args.slot) in
    disturbs c.args.kind c.args.marked (map (λ w. cell_at values (g.W.CyclicWave.cells w) c.args.slot) c.args.folds.now) c.loop-pin.pin
    (ap (is_closed c.args.kind)
    (sym (value_among c.args.folds.now c.args.marked c.index-folds-marked.result
    c.args.slot c.at.result g.W.CyclicWave.cells c.requires.marked c.index-folds-marked.is c.at.ensures))
    ∙ sym c.is_closed.ensures ∙ c.if-is_closed.false)
    c.loop-pin.invariant (omega (arith, long))
    (beside_moves c.args.marked (map (λ w. cell_at values (g.W.CyclicWave.cells w) c.args.slot) c.args.folds.now) c.loop-pin.pin c.at-then-pin-marked.result
    (value_among c.args.folds.now c.loop-pin.pin c.index-folds-pin.result c.args.slot c.at-then-pin-marked.result g.W.CyclicWave.cells (omega arith) c.index-folds-pin.is c.at-then-pin-marked.ensures)
    c.if-pin-marked.true (search rules))

pub loop-pin-preserved : goal.loop-pin-preserved
loop-pin-preserved g c =
    below_more _ _ c.loop-pin.invariant
    (elim c.else-pin-marked.branch [
      | else-pin-marked-via-then-pin-marked+else-not-quiet w ↦
          beside_quiet c.args.marked (map (λ u. cell_at values (g.W.CyclicWave.cells u) c.args.slot) c.args.folds.now) c.loop-pin.pin w.at-then-pin-marked.result
          (value_among c.args.folds.now c.loop-pin.pin c.index-folds-pin.result c.args.slot
          w.at-then-pin-marked.result g.W.CyclicWave.cells (omega arith) c.index-folds-pin.is w.at-then-pin-marked.ensures)
          (search rules)
      | else-pin-marked-via-else-pin-marked w ↦
          beside_itself c.args.marked (map (λ u. cell_at values (g.W.CyclicWave.cells u) c.args.slot) c.args.folds.now) c.loop-pin.pin w.if-pin-marked.false
    ])

pub returns : goal.returns
returns g c =
    let long : length (map (λ w. cell_at values (g.W.CyclicWave.cells w) c.args.slot) c.args.folds.now) ≡ length c.args.folds.now =
    length-map c.args.folds.now (λ w. cell_at values (g.W.CyclicWave.cells w) c.args.slot) in
    disturbs_none c.args.kind c.args.marked (map (λ w. cell_at values (g.W.CyclicWave.cells w) c.args.slot) c.args.folds.now)
    (ap (is_closed c.args.kind)
    (sym (value_among c.args.folds.now c.args.marked c.index-folds-marked.result
    c.args.slot c.at.result g.W.CyclicWave.cells c.requires.marked c.index-folds-marked.is c.at.ensures))
    ∙ sym c.is_closed.ensures ∙ c.if-is_closed.false)
    (λ k below. c.loop-pin.invariant k (omega (arith, long)))
