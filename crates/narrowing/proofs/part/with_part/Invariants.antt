use Rattle.std.proofs.Common.{◌≡◌, ◌++◌, drop, filter, not}
use Rattle.narrowing.specs.Part.{same_thing}
use Rattle.narrowing.proofs.part.with_part.Given as goal

abbrev pub invariant-loop-other : goal.invariant-loop-other
invariant-loop-other l =
    l.new ++ filter (λ q. not (same_thing q l.part)) (drop l.other-index l.parts)
    ≡ filter (λ q. not (same_thing q l.part)) l.parts
