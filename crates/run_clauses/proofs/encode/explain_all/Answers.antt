use Rattle.run_clauses.proofs.encode.explain_all.Goals as goal

pub loop-number-init : goal.loop-number-init
loop-number-init c x printed w is before = before

pub loop-number-preserved : goal.loop-number-preserved
loop-number-preserved c x printed w is before =
    c.in_ok-explain.ensures x printed w is (c.loop-number.invariant x printed w is before)
