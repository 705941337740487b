use Rattle.std.proofs.Common.{◌≡◌, ◌++◌, length, map, take}
use Rattle.std.specs.List.{flat_map, range_with_len}
use Rattle.slack_rows.specs.declared.parameter.Subject.TheVariants.{Instance as OfInstance, Net as OfNet}
use Rattle.slack_rows.specs.Rows.{limits_at}
use Rattle.slack_rows.proofs.limits.parameters_of.Given as goal

abbrev pub invariant-loop-number : goal.invariant-loop-number
invariant-loop-number l = l.out ≡ flat_map (limits_at l.c) (map OfInstance (range_with_len 0 l.number))

abbrev pub invariant-loop-place : goal.invariant-loop-place
invariant-loop-place l =
    l.out ≡ flat_map (limits_at l.c) (map OfInstance (range_with_len 0 (length l.c.instances)))
    ++ flat_map (limits_at l.c) (map OfNet (take l.place l.c.order))
