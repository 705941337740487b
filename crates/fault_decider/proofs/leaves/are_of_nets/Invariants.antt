use Rattle.std.proofs.Common.{◌≡◌, drop}
use Rattle.std.specs.List.{list_all}
use Rattle.fault_decider.specs.Lines.{is_of_net}
use Rattle.fault_decider.proofs.leaves.are_of_nets.Given as goal

abbrev pub invariant-loop-part : goal.invariant-loop-part
invariant-loop-part l = list_all is_of_net (drop l.part-index l.parts) ≡ list_all is_of_net l.parts
