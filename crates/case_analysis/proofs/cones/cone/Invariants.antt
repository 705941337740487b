use Rattle.std.proofs.Common.{◌≡◌, ◌-◌, ℕ, length, take}
use Rattle.fixpoint_engine.specs.Settled.{marked_in}
use Rattle.case_analysis.specs.Case.{is_set}
use Rattle.case_analysis.proofs.Coning.{Closing}
use Rattle.case_analysis.proofs.cones.cone.Given as goal

abbrev pub invariant-loop-value : goal.invariant-loop-value
invariant-loop-value l = record {
  each_net : length l.found.marks ≡ length l.c.nets;
  marks : (i : ℕ) → marked_in l.found.marks i ≡ is_set (take l.value-index l.case) i;
}

abbrev pub invariant-nets : goal.invariant-nets
invariant-nets l = Closing l.c l.case l.found l.next

abbrev pub decreases-nets : goal.decreases-nets
decreases-nets l = length l.c.nets - l.next
