use Rattle.std.proofs.Common.{◌≡◌, take}
use Rattle.narrowing.specs.Narrowed.{fine_spans}
use Rattle.narrowing.proofs.moved.fine_spans.Given as goal

abbrev pub invariant-loop-span : goal.invariant-loop-span
invariant-loop-span l = l.fine ≡ fine_spans l.h (take l.span-index l.spans)
