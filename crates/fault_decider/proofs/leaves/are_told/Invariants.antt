use Rattle.std.proofs.Common.{◌≡◌, drop}
use Rattle.std.specs.List.{list_all}
use Rattle.fault_decider.specs.Lines.{is_of_net}
use Rattle.fault_decider.proofs.leaves.are_told.Given as goal

abbrev pub invariant-loop-parts : goal.invariant-loop-parts
invariant-loop-parts l =
    list_all (list_all is_of_net) (drop l.parts-index l.leaves) ≡ list_all (list_all is_of_net) l.leaves
