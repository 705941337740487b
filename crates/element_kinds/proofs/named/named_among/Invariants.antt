use Rattle.std.proofs.Common.{◌≡◌, drop}
use Rattle.std.specs.List.{find}
use Rattle.element_kinds.specs.Kinds.{is_named}
use Rattle.element_kinds.proofs.named.named_among.Given as goal

abbrev pub invariant-loop-kind : goal.invariant-loop-kind
invariant-loop-kind l =
    find (is_named l.name) (drop l.kind-index l.kinds) ≡ find (is_named l.name) l.kinds
