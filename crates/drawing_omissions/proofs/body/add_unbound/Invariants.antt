use Rattle.std.proofs.Common.{◌≡◌, ◌++◌, [], map, take}
use Rattle.macro_expander.specs.Numbered.{bound_ref}
use Rattle.drawing_omissions.proofs.body.add_unbound.Given as goal

abbrev pub invariant-loop-shape : goal.invariant-loop-shape
invariant-loop-shape l = l.formals ≡ l.fn.formals ++ map (λ shape. bound_ref shape []) (take l.shape-index l.shapes)
