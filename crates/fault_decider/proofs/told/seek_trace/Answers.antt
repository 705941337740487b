use Rattle.std.proofs.Common.{◌∙◌, arith, refl}
use Rattle.std.proofs.lemmas.Result.{on_ok_weaker}
use Rattle.fault_decider.proofs.Seeking.{added_same, sought_here, sought_passed}
use Rattle.fault_decider.proofs.told.seek_trace.Goals as goal

pub returns-then-answer-wanted : goal.returns-then-answer-wanted
returns-then-answer-wanted c start before so_far =
    sought_passed c.args.c.now c.args.values.now c.args.tick c.args.wanted c.args.fault before start
    c.args.answer.now _ c.in_ok-answer.ensures so_far refl refl

pub returns : goal.returns
returns c =
    let v = c.in_ok-verdict.verdict in
    let is = c.in_ok-verdict.ensures in
    let test = c.if-answer-wanted.false in
    on_ok_weaker c.add_trace.result
    (λ added start before so_far.
    let same = added.0 in
    sought_here c.args.c.now c.args.values.now c.args.tick c.args.wanted c.args.fault before start
    c.args.answer.now c.add_trace.new.answer (same ∙ c.in_ok-answer.ensures) so_far v
    (omega (arith, test, same)) is
    (added_same c.args.c.now v c.args.answer.now _ c.add_trace.new.answer refl refl added.1))
    c.add_trace.ensures
