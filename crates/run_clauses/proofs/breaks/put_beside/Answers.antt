use Rattle.std.proofs.Common.{true}
use Rattle.run_clauses.specs.declared.fact.Fact.TheVariants.{Beside}
use Rattle.run_clauses.specs.Forms.{said}
use Rattle.run_clauses.proofs.Pushing.{put_more}
use Rattle.run_clauses.proofs.breaks.put_beside.Goals as goal

pub returns : goal.returns
returns c bits fails =
    let parts =
    put_more bits c.args.some.now.items c.push.new.self.items (said (Beside c.args.beside) true)
    (cc c.in_ok-push.ensures.items) fails in
    (parts.0, λ apart. parts.1)
