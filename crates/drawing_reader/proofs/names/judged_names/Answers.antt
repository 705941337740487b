use Rattle.std.proofs.Common.{List, drop, map, ap}
use Rattle.std.proofs.lemmas.List.{drop_all}
use Rattle.std.proofs.lemmas.Result.{err_from_is_err_and}
use Rattle.drawing_reader.specs.declared.names.Doubtful.{Doubtful}
use Rattle.drawing_reader.specs.Sifted.{naming_of}
use Rattle.drawing_reader.proofs.Naming.{judged_start, judged_end}
use Rattle.drawing_reader.proofs.Sifting.{judged_next, stopped_next}
use Rattle.drawing_reader.proofs.names.judged_names.Goals as goal

pub returns-in_err-judge : goal.returns-in_err-judge
returns-in_err-judge c =
    let p = err_from_is_err_and c.from_residual.result c.from_residual.ensures.1 in
    rw (p.1, p.2) (stopped_next c.args.header.now c.args.names.now c.names.name-index _
    c.in_err-judge.field-0.0 c.names-test.true c.in_err-judge.ensures c.names.invariant)

pub names-init : goal.names-init
names-init c = judged_start c.args.header.now (map naming_of c.args.names.now)

pub names-preserved : goal.names-preserved
names-preserved c =
    judged_next c.args.header.now c.args.names.now c.names.name-index _ c.names-test.true
    c.in_ok-judge.ensures c.names.invariant

pub returns : goal.returns
returns c =
    let ns = c.args.names.now in let i = c.names.name-index in
    judged_end c.args.header.now (map naming_of ns) (map naming_of (drop i ns)) c.names.invariant
    (ap (λ (xs : List Doubtful). map naming_of xs) (drop_all i ns c.names-test.false))
