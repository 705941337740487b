use Rattle.std.proofs.Common.{◌≤◌, ◌<◌, ◌-◌, ◌∙◌, false, sym, ap, arith}
use Rattle.element_kinds.specs.Kinds.{selects_of}
use Rattle.fixpoint_engine.specs.Waves.{waves_of}
use Rattle.drawing_notes.specs.Passing.{shuts}
use Rattle.drawing_notes.proofs.Ranging.{any_before}
use Rattle.drawing_notes.proofs.Shutting.{shut_at}
use Rattle.drawing_notes.proofs.passing.is_shut.Goals as goal

pub returns-then-shuts : goal.returns-then-shuts
returns-then-shuts g c =
    let j = c.args.instance.now in
    let ws = waves_of c.args.waves.now in
    let is = c.selects-selects.ensures in
    let le : selects_of j.kind ≤ c.args.place = omega (arith, is, c.if-place-selects.false) in
    let below : c.loop-select.select < selects_of j.kind = omega (arith, is, c.loop-select-test.true, c.loop-select.auto.select-end) in
    shut_at ws j c.args.place c.loop-select.select le below
    (ap (λ n. shuts ws j (c.args.place - n) c.loop-select.select) (sym is) ∙ sym c.shuts.ensures ∙ c.if-shuts.true)

pub loop-select-preserved : goal.loop-select-preserved
loop-select-preserved g c =
    let j = c.args.instance.now in
    let ws = waves_of c.args.waves.now in
    any_before (shuts ws j (c.args.place - selects_of j.kind)) c.loop-select.select false c.loop-select.invariant
    (ap (λ n. shuts ws j (c.args.place - n) c.loop-select.select) (sym c.selects-selects.ensures) ∙ sym c.shuts.ensures ∙ c.if-shuts.false)
