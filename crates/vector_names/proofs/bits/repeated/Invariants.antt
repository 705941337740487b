use Rattle.std.proofs.Common.{◌≡◌, replicate}
use Rattle.vector_names.proofs.bits.repeated.Given as goal

abbrev pub invariant-loop-place : goal.invariant-loop-place
invariant-loop-place l = l.bits ≡ replicate l._place l.bit
