use Rattle.std.proofs.Common.{◌≡◌, ◌++◌, take}
use Rattle.std.specs.List.{flat_map}
use Rattle.fault_chain.specs.Report.{link_line}
use Rattle.fault_chain.proofs.lines.add_links.Given as goal

abbrev pub invariant-loop-link : goal.invariant-loop-link
invariant-loop-link l = l.out ≡ l.fn.out ++ flat_map (link_line l.c) (take l.link-index l.links)
