use Rattle.std.proofs.Common.{◌≡◌, IfSome, Some, slice_get, sym}
use Rattle.std.proofs.lemmas.Result.{IfOk-weaker}
use Rattle.narrowing.specs.Narrowed.{by_parts, narrowed}
use Rattle.narrowing.proofs.Splitting.{instance_there}
use Rattle.narrowing.proofs.splits.instance_at.Goals as goal

pub returns-in-Some : goal.returns-in-Some
returns-in-Some c =
    let parts = c.args.parts.now in
    IfOk-weaker c.narrowed_instance.result (λ found. IfSome found (λ j. j ≡ by_parts c.args.k c.in-Some.i.now parts))
    (λ found. IfSome found (λ j. slice_get (narrowed c.args.c.now parts).instances c.args.k ≡ Some j))
    (λ found is. instance_there c.args.c.now parts c.args.k c.in-Some.i.now found (sym c.in-Some.ensures) is)
    c.narrowed_instance.ensures.is
