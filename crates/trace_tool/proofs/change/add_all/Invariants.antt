use Rattle.std.proofs.Common.{◌≡◌, ◌++◌, take}
use Rattle.std.specs.List.{flat_map}
use Rattle.trace_tool.proofs.Texts.{all_text}
use Rattle.trace_tool.proofs.change.add_all.Given as goal

abbrev pub invariant-loop-s : goal.invariant-loop-s
invariant-loop-s l = l.out ≡ l.fn.out ++ flat_map (all_text l.c l.rows l.tick) (take l.s-index l.all)
