use Rattle.std.proofs.Common.{◌≡◌, ℕ, ◌+◌, ◌≤◌, length, arith}
use Rattle.std.proofs.lemmas.List.{length-take}
use Rattle.scald_base.proofs.Device.{reads_all, reads_front, reads_past, at_err}
use Rattle.scald_base.proofs.transfer.read_all.Goals as goal

pub returns-then-count-missing-clause-too_long : goal.returns-then-count-missing-clause-too_long
returns-then-count-missing-clause-too_long g c =
    let gave = c.in_ok-count.ensures.gives in
    let sum : length c.more.all + c.in_ok-count.count ≡ c.args.limit + 1 = omega arith in
    λ _. reads_past _ _ _ _ c.in_ok-count.count c.more.all _ c.more.invariant.moved gave.bytes gave.fits sum

pub returns-then-count-missing-clause-err : goal.returns-then-count-missing-clause-err
returns-then-count-missing-clause-err g c =
    let gave = c.in_ok-count.ensures.gives in
    let sum : length c.more.all + c.in_ok-count.count ≤ c.args.limit + 1 = omega arith in
    reads_front _ _ _ _ c.in_ok-count.count c.more.all _ c.more.invariant.moved gave.bytes gave.fits sum

pub returns-in_err-extend-clause-err : goal.returns-in_err-extend-clause-err
returns-in_err-extend-clause-err g c =
    let gave = c.in_ok-count.ensures.gives in
    let sum : length c.more.all + c.in_ok-count.count ≤ c.args.limit + 1 = omega (arith, length-take {A = ℕ}) in
    at_err _ (reads_front _ _ _ _ c.in_ok-count.count c.more.all _ c.more.invariant.moved gave.bytes gave.fits sum)

pub returns-then-count-eq0-clause-ok : goal.returns-then-count-eq0-clause-ok
returns-then-count-eq0-clause-ok g c =
    let gave = c.in_ok-count.ensures.gives in
    reads_all _ _ _ _ c.in_ok-count.count c.more.all _ c.more.invariant.moved gave.bytes (omega arith) (gave.none (omega arith) (omega (arith, length-take {A = ℕ}))) c.more.invariant.within
