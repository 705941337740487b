use Rattle.std.proofs.Common.{ℕ, length, not, sym, ap, ◌∙◌, arith, refl, below_more, slice_get, ◌+◌, ◌-◌, ◌%◌}
use Rattle.slack_rows.proofs.Quieted.{change_back, never_back, still_back}
use Rattle.slack_rows.proofs.quiet.quiet_before.Goals as goal

pub returns-then-not-quiet : goal.returns-then-not-quiet
returns-then-not-quiet g c =
    let cells = g.W.CyclicWave.cells c.args.input.now in
    let p = c.period-period.ensures in
    let less = c.loop-back-test.true in
    sym (still_back cells (length cells) c.args.slot refl c.loop-back.back (omega (arith, p, less)) c.loop-back.invariant
    (change_back cells (length cells) c.args.slot refl c.loop-back.back c.at.result (omega (arith, p, less))
    (ap (λ (n : ℕ). slice_get cells ((c.args.slot + (n - c.loop-back.back)) % n)) (sym p) ∙ c.at.ensures)
    ∙ ap not (sym c.quiet.ensures ∙ c.if-not-quiet.true)))

pub loop-back-preserved : goal.loop-back-preserved
loop-back-preserved g c =
    let cells = g.W.CyclicWave.cells c.args.input.now in
    let p = c.period-period.ensures in
    let less = c.loop-back-test.true in
    below_more _ _ c.loop-back.invariant
    (change_back cells (length cells) c.args.slot refl c.loop-back.back c.at.result (omega (arith, p, less))
    (ap (λ (n : ℕ). slice_get cells ((c.args.slot + (n - c.loop-back.back)) % n)) (sym p) ∙ c.at.ensures)
    ∙ ap not (sym c.quiet.ensures ∙ c.if-not-quiet.false))

pub returns : goal.returns
returns g c =
    let cells = g.W.CyclicWave.cells c.args.input.now in
    let p = c.period-period.ensures in
    let past = c.loop-back-test.false in
    sym (never_back cells (length cells) c.args.slot refl (λ j below. c.loop-back.invariant j (omega (arith, p, past, below))))
