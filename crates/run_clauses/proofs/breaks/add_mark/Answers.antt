use Rattle.run_clauses.proofs.breaks.add_mark.Goals as goal

pub loop-tick-init : goal.loop-tick-init
loop-tick-init c bits is before =
    c.in_ok-add_beside.ensures bits is.beside (c.in_ok-add_firsts.ensures bits is.first before)

pub loop-beside-init : goal.loop-beside-init
loop-beside-init c bits is before =
    c.in_ok-add_leaves.ensures bits (is.leaves c.loop-tick.tick)
    (c.loop-tick.invariant bits is before)

pub loop-beside-preserved : goal.loop-beside-preserved
loop-beside-preserved c bits is before =
    c.in_ok-add_implied_by_two.ensures bits (is.steps c.loop-tick.tick c.loop-beside.beside)
    (c.loop-beside.invariant bits is before)

pub loop-tick-preserved : goal.loop-tick-preserved
loop-tick-preserved c bits is before = c.loop-beside.invariant bits is before
