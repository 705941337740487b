use Rattle.std.specs.Prelude.{codes}
use Rattle.std.proofs.Common.{◌≡◌, ◌++◌, List, flat_map, take}
use Rattle.narrowing.specs.declared.part.Part.{Part}
use Rattle.fault_decider.specs.Lines.{leaf_text}
use Rattle.fault_decider.proofs.leaves.add_others.Given as goal

abbrev pub invariant-loop-parts : goal.invariant-loop-parts
invariant-loop-parts l =
    l.out ≡ l.fn.out ++ flat_map (λ (ps : List Part). codes ", " ++ leaf_text l.c ps) (take l.parts-index l.leaves)
