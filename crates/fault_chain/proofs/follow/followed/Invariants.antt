use Rattle.std.proofs.Common.{◌-◌, length}
use Rattle.fixpoint_engine.specs.Waves.{waves_of}
use Rattle.fault_chain.proofs.Following.{IsFollowed}
use Rattle.fault_chain.proofs.follow.followed.Given as goal

-- so many links are made, and the chain goes on from the next
abbrev pub invariant-loop-passed : goal.invariant-loop-passed
invariant-loop-passed g l =
    IsFollowed l.c (waves_of l.waves) l.fn.first l.links l.link l.met (length l.c.nets - l.passed)
