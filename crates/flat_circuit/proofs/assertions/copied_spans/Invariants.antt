use Rattle.std.proofs.Common.{◌≡◌, take}
use Rattle.flat_circuit.proofs.assertions.copied_spans.Given as goal

abbrev pub invariant-loop-span : goal.invariant-loop-span
invariant-loop-span l = l.copies ≡ take l.span-index l.spans
