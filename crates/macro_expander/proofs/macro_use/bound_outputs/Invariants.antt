use Rattle.std.proofs.Common.{◌≡◌, length, drop}
use Rattle.std.specs.List.{zip}
use Rattle.macro_expander.specs.Outcome.{collected}
use Rattle.macro_expander.specs.Numbered.{output_bound_ref}
use Rattle.macro_expander.proofs.macro_use.bound_outputs.Given as goal

abbrev pub invariant-loop-shape : goal.invariant-loop-shape
invariant-loop-shape l =
    let i = length l.yielded in
    collected output_bound_ref l.formals (zip (drop i l.shapes) (drop i l.outs)) ≡ collected output_bound_ref l.fn.formals (zip l.shapes l.outs)
