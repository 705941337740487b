use Rattle.std.proofs.Common.{◌≡◌, ◌<◌, ◌≤◌, ℕ, None}
use Rattle.fixpoint_engine.specs.Waves.{waves_of}
use Rattle.fault_chain.specs.Chain.{mover_back}
use Rattle.fault_chain.proofs.link.first_back.Given as goal

-- there is no change nearer
abbrev pub invariant-loop-late : goal.invariant-loop-late
invariant-loop-late g l = (o : ℕ) → l.least ≤ o → o < l.late → mover_back l.c (waves_of l.waves) l.net l.slot o ≡ None
