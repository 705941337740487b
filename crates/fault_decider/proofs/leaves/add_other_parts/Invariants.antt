use Rattle.std.specs.Prelude.{codes}
use Rattle.std.proofs.Common.{◌≡◌, ◌++◌, List, flat_map, take}
use Rattle.narrowing.specs.declared.part.Part.{Part}
use Rattle.fault_decider.specs.Lines.{part_text}
use Rattle.fault_decider.proofs.leaves.add_other_parts.Given as goal

abbrev pub invariant-loop-part : goal.invariant-loop-part
invariant-loop-part l =
    l.out ≡ l.fn.out ++ flat_map (λ (p : Part). codes " & " ++ part_text l.c p) (take l.part-index l.parts)
