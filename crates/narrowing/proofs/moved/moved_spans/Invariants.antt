use Rattle.std.proofs.Common.{◌≡◌, take}
use Rattle.narrowing.specs.Narrowed.{moved_spans}
use Rattle.narrowing.proofs.moved.moved_spans.Given as goal

abbrev pub invariant-loop-span : goal.invariant-loop-span
invariant-loop-span l = l.moved ≡ moved_spans l.h l.by (take l.span-index l.spans)
