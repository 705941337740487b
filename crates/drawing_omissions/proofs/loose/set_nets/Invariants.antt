use Rattle.std.proofs.Common.{◌≡◌, ℕ, length, take}
use Rattle.fixpoint_engine.specs.Settled.{marked_in}
use Rattle.drawing_omissions.specs.Loose.{is_set}
use Rattle.drawing_omissions.proofs.loose.set_nets.Given as goal

abbrev pub invariant-loop-case : goal.invariant-loop-case
invariant-loop-case l = record {
  long : length l.set ≡ length l.c.nets;
  are : (i : ℕ) → marked_in l.set i ≡ is_set (take l.case-index l.cases) i;
}
