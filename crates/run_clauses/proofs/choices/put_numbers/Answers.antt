use Rattle.std.proofs.Common.{true, arith, below_more}
use Rattle.run_clauses.specs.Choices.{choosing}
use Rattle.run_clauses.specs.Forms.{said}
use Rattle.run_clauses.proofs.Pushing.{put_more}
use Rattle.run_clauses.proofs.choices.put_numbers.Goals as goal

pub loop-number-init : goal.loop-number-init
loop-number-init c bits fails = (fails, λ n below least. absurd (omega arith))

pub loop-number-preserved : goal.loop-number-preserved
loop-number-preserved c bits fails =
    let parts =
    put_more bits c.loop-number.some.items c.push.new.self.items
    (said (choosing c.args.fact c.loop-number.number) true) (cc c.in_ok-push.ensures.items) fails in
    let before = c.loop-number.invariant bits parts.0 in
    (before.0, below_more _ _ before.1 (λ least. parts.1))

pub returns : goal.returns
returns c bits fails =
    let is = c.loop-number.invariant bits fails in
    (is.0, λ n below least. is.1 n (omega arith) least)
