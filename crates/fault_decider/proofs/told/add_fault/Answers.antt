use Rattle.std.proofs.lemmas.Result.{on_ok_weaker}
use Rattle.fault_decider.proofs.Telling.{told_more}
use Rattle.fault_decider.proofs.told.add_fault.Goals as goal

pub returns : goal.returns
returns c =
    let v = c.in_ok-verdict.verdict in
    let is = c.in_ok-verdict.ensures in
    on_ok_weaker c.add_told.result
    (λ told start before so_far.
    told_more c.args.c.now c.args.values.now c.args.tick c.args.fault v start _ _ before is told so_far)
    c.add_told.ensures
