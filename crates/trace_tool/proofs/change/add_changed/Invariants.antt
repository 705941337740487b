use Rattle.std.proofs.Common.{◌≡◌, ◌++◌, take}
use Rattle.std.specs.List.{flat_map}
use Rattle.trace_tool.proofs.Texts.{if_text}
use Rattle.trace_tool.proofs.change.add_changed.Given as goal

abbrev pub invariant-loop-s : goal.invariant-loop-s
invariant-loop-s l = l.out ≡ l.fn.out ++ flat_map (if_text l.c l.rows l.tick) (take l.s-index l.all)
