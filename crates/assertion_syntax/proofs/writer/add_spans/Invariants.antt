use Rattle.std.proofs.Common.{◌≡◌, ◌++◌, take}
use Rattle.std.specs.Prelude.{codes}
use Rattle.std.specs.List.{flat_map}
use Rattle.assertion_syntax.specs.Name.{span_text}
use Rattle.assertion_syntax.proofs.writer.add_spans.Given as goal

abbrev pub invariant-more : goal.invariant-more
invariant-more l = l.out ≡ l.initial.out ++ flat_map (λ s. codes "," ++ span_text s) (take l.span-index l.more)
