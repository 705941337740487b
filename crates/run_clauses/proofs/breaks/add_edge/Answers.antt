use Rattle.std.proofs.Common.{ℕ, ◌+◌, ◌-◌, ◌∙◌, ap, max, subst, sym}
use Rattle.run_clauses.specs.Meaning.{IsSecondIn, stretch}
use Rattle.run_clauses.proofs.breaks.add_edge.Goals as goal

pub loop-edge-init : goal.loop-edge-init
loop-edge-init c bits is before = c.in_ok-add_firsts.ensures bits is.first before

pub loop-edge-preserved : goal.loop-edge-preserved
loop-edge-preserved c bits is before =
    let t = c.loop-edge.edge in
    let from_is = c.greater.ensures ∙ ap (max c.args.period.from) c.saturating_sub.ensures in
    c.in_ok-add_seconds.ensures bits
    (subst (λ (n : ℕ). IsSecondIn t (stretch n (t + c.args.hold + 1)) bits) (sym from_is)
    (is.near t))
    (c.in_ok-add_showed.ensures bits (is.low t)
    (c.in_ok-add_shows.ensures bits (is.high t) (c.loop-edge.invariant bits is before)))

pub loop-change-init : goal.loop-change-init
loop-change-init c bits is before = c.loop-edge.invariant bits is before

pub loop-change-preserved : goal.loop-change-preserved
loop-change-preserved c bits is before =
    let t = c.loop-change.change in
    c.in_ok-add_implied-2.ensures bits (is.changes t)
    (c.in_ok-add_implied.ensures bits (is.lasts t) (c.loop-change.invariant bits is before))
