use Rattle.std.proofs.Common.{◌≡◌, ◌++◌, map}
use Rattle.std.specs.List.{concat, range_with_len}
use Rattle.design_gen.specs.Datapath.{head, section}
use Rattle.design_gen.proofs.datapath.generate.Given as goal

abbrev pub invariant-loop-j : goal.invariant-loop-j
invariant-loop-j l = l.out ≡ head ++ concat (map section (range_with_len 1 l.j))
