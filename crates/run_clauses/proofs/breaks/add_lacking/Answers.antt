use Rattle.std.proofs.Common.{◌∙◌, subst}
use Rattle.step_values.specs.declared.value.Value.{Value}
use Rattle.run_clauses.specs.Meaning.{LacksAt}
use Rattle.run_clauses.proofs.BreakFacts.{wide_read}
use Rattle.run_clauses.proofs.breaks.add_lacking.Goals as goal

pub loop-tick-init : goal.loop-tick-init
loop-tick-init c bits is before = c.in_ok-add_firsts.ensures bits is.first before

pub loop-tick-preserved : goal.loop-tick-preserved
loop-tick-preserved c bits is before =
    let t = c.loop-tick.tick in
    let value =
    wide_read c.args.h.now c.args.spec.now t c.from.result c.in_ok-wide.wide.cells.items c.at.result
    c.in_ok-wide.ensures.wave (c.from.ensures ∙ c.period.ensures.is) c.at.ensures in
    c.in_ok-add_lacking_at.ensures bits
    (subst (λ (v : Value). LacksAt v c.args.net t bits) value (is.lacks t))
    (c.loop-tick.invariant bits is before)
