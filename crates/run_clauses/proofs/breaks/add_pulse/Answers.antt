use Rattle.run_clauses.proofs.breaks.add_pulse.Goals as goal

pub loop-start-init : goal.loop-start-init
loop-start-init c bits is before = c.in_ok-add_firsts.ensures bits is.first before

pub loop-start-preserved : goal.loop-start-preserved
loop-start-preserved c bits is before =
    let t = c.loop-start.start in
    c.in_ok-add_seconds.ensures bits (is.near t)
    (c.in_ok-add_showed.ensures bits (is.before t)
    (c.in_ok-add_shows.ensures bits (is.begins t) (c.loop-start.invariant bits is before)))

pub loop-end-init : goal.loop-end-init
loop-end-init c bits is before = c.loop-start.invariant bits is before

pub loop-end-preserved : goal.loop-end-preserved
loop-end-preserved c bits is before =
    let t = c.loop-end.end in
    c.in_ok-add_showed-2.ensures bits (is.after t)
    (c.in_ok-add_shows-2.ensures bits (is.ends t)
    (c.in_ok-add_implied.ensures bits (is.lasts t) (c.loop-end.invariant bits is before)))
