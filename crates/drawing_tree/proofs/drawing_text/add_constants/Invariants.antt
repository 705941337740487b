use Rattle.std.proofs.Common.{◌≡◌, ◌++◌, take}
use Rattle.std.specs.List.{flat_map}
use Rattle.drawing_tree.specs.Tree.{assignment_of}
use Rattle.drawing_tree.specs.Canonical.{constant_line}
use Rattle.drawing_tree.proofs.drawing_text.add_constants.Given as goal

abbrev pub invariant-constants : goal.invariant-constants
invariant-constants l = l.out ≡ l.initial.out ++ flat_map (λ c. constant_line (assignment_of c)) (take l.constant-index l.constants)
