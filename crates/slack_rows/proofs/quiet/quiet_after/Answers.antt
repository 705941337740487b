use Rattle.std.proofs.Common.{ℕ, length, not, sym, ap, ◌∙◌, arith, refl, below_more, slice_get, ◌+◌, ◌%◌}
use Rattle.slack_rows.proofs.Quieted.{change_on, never_on, still_on}
use Rattle.slack_rows.proofs.quiet.quiet_after.Goals as goal

pub returns-then-not-quiet : goal.returns-then-not-quiet
returns-then-not-quiet g c =
    let cells = g.W.CyclicWave.cells c.args.input.now in
    let p = c.period-period.ensures in
    let less = c.loop-place-test.true in
    sym (still_on cells (length cells) c.args.slot refl c.loop-place.place (omega (arith, p, less)) c.loop-place.invariant
    (change_on cells (length cells) c.args.slot refl c.loop-place.place c.at.result
    (ap (λ (n : ℕ). slice_get cells ((c.args.slot + 1 + c.loop-place.place) % n)) (sym p) ∙ c.at.ensures)
    ∙ ap not (sym c.quiet.ensures ∙ c.if-not-quiet.true)))

pub loop-place-preserved : goal.loop-place-preserved
loop-place-preserved g c =
    let cells = g.W.CyclicWave.cells c.args.input.now in
    let p = c.period-period.ensures in
    below_more _ _ c.loop-place.invariant
    (change_on cells (length cells) c.args.slot refl c.loop-place.place c.at.result
    (ap (λ (n : ℕ). slice_get cells ((c.args.slot + 1 + c.loop-place.place) % n)) (sym p) ∙ c.at.ensures)
    ∙ ap not (sym c.quiet.ensures ∙ c.if-not-quiet.false))

pub returns : goal.returns
returns g c =
    let cells = g.W.CyclicWave.cells c.args.input.now in
    let p = c.period-period.ensures in
    let past = c.loop-place-test.false in
    sym (never_on cells (length cells) c.args.slot refl (λ j below. c.loop-place.invariant j (omega (arith, p, past, below))))
