use Rattle.std.proofs.Common.{◌≡◌, ℕ, ◌+◌, ◌-◌, ◌<◌, List, ◌++◌, length, arith, ap₂, sym, ◌∙◌}
use Rattle.fixpoint_engine.specs.Waves.{waves_of}
use Rattle.draw_report.specs.declared.row.Row.{Row}
use Rattle.draw_report.specs.Row.{cut, joins, named_rows}
use Rattle.draw_report.proofs.Cutting.{goes_on, stops}
use Rattle.draw_report.proofs.row.named_rows.Goals.{then-not-joins+in_ok-push, else-not-joins}
use Rattle.draw_report.proofs.row.named_rows.Goals as goal

pub loop-place-preserved : goal.loop-place-preserved
loop-place-preserved g c =
    let ws = waves_of c.args.waves.now in
    let test = joins c.args.c.now ws in
    let place : ℕ = c.loop-place.place in
    let count : ℕ = length c.args.c.now.nets in
    let all = named_rows c.args.c.now ws in
    let within : place < count = omega arith in
    elim c.if-not-joins.branch as (λ _. c.if-not-joins.rows
    ++ cut test c.if-not-joins.from (place + 1) (count - (place + 1)) ≡ all) [
      | then-not-joins+in_ok-push w ↦
          ap₂ (λ (rows : List Row) (from : ℕ). rows
          ++ cut test from (place + 1) (count - (place + 1)))
          w.rows-is w.from-is
          ∙ stops test c.loop-place.from place count c.loop-place.rows w.push.new.self all within
          (sym c.joins.ensures ∙ w.if-not-joins.true) w.in_ok-push.ensures.ok c.loop-place.invariant
      | else-not-joins w ↦
          ap₂ (λ (rows : List Row) (from : ℕ). rows
          ++ cut test from (place + 1) (count - (place + 1)))
          w.rows-is w.from-is
          ∙ goes_on test c.loop-place.from place count c.loop-place.rows all within
          (sym c.joins.ensures ∙ w.if-not-joins.false) c.loop-place.invariant
    ]
