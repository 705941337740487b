use Rattle.std.proofs.Common.{[], ◌∷◌, ◌∙◌, ◌+◌, ℕ, ap, false}
use Rattle.scald_base.specs.Clock.{back, ideal}
use Rattle.scald_base.specs.Fitting.{skew_of}
use Rattle.scald_base.specs.Time.{Header, period}
use Rattle.run_clauses.specs.declared.fact.Fact.TheVariants.{Lasts, Net, Offset}
use Rattle.run_clauses.specs.Forms.{said}
use Rattle.run_clauses.proofs.Holding.{clock_none}
use Rattle.run_clauses.proofs.Pushing.{added}
use Rattle.run_clauses.proofs.undriven.add_clock.Goals as goal

pub loop-by-init : goal.loop-by-init
loop-by-init c bits is before = before

pub loop-by-preserved : goal.loop-by-preserved
loop-by-preserved c bits is before =
    let i = c.args.input in
    let by = c.loop-by.by in
    let bit = c.ideal-bit.result in
    added bits c.loop-by.formula c.push.new.self
    (said (Lasts i.tick) false ∷ said (Offset i.net by) false ∷ said (Net i.net i.tick) bit ∷ [])
    (cc c.in_ok-push.ensures) (clock_none bits i c.args.h.now c.args.clock.now by bit is
    (c.ideal-bit.ensures
    ∙ ap (ideal c.args.clock.now c.args.h.now)
    (c.slot_back.ensures.is
    ∙ ap (λ (skew : ℕ × ℕ). back (period c.args.h.now) (i.tick + skew.0) by)
    (c.skew_of-skew.ensures ∙ ap (λ (h : Header). skew_of c.args.clock.now h.pskew) c.h.view_is))))
    (c.loop-by.invariant bits is before)
