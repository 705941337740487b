use Rattle.std.proofs.Common.{ℕ, ◌+◌, ◌*◌, ◌-◌, ◌%◌, ap}
use Rattle.scald_base.specs.Clock.{back}
use Rattle.trace_sim.proofs.clock.slot_back.Goals as goal

pub returns-clause-is : goal.returns-clause-is
unfolding back
returns-clause-is c = ap (λ (p : ℕ). (c.args.tick + c.args.by * (p - 1)) % p) c.period-period.ensures.is
