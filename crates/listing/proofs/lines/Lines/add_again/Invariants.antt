use Rattle.std.proofs.Common.{◌≡◌, ◌++◌, take}
use Rattle.std.specs.List.{flat_map}
use Rattle.listing.specs.Fault.{fault_line}
use Rattle.listing.specs.Lines.{AreLines, lines_text}
use Rattle.listing.proofs.lines.Lines.add_again.Given as goal

abbrev pub invariant-loop-fault : goal.invariant-loop-fault
invariant-loop-fault l = record {
  text : lines_text l.self
      ≡ lines_text l.fn.self ++ flat_map (fault_line l.c) (take l.fault-index l.faults);
  are : AreLines l.c l.self;
}
