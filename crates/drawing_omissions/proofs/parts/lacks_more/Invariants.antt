use Rattle.std.proofs.Common.{◌≡◌, ◌+◌, ◌*◌, ◌^◌, ◌<◌}
use Rattle.drawing_omissions.specs.Open.{parts_before}
use Rattle.drawing_omissions.proofs.parts.lacks_more.Given as goal

-- what is left, beside the parts of the cases so far
abbrev pub invariant-loop-entries : goal.invariant-loop-entries
invariant-loop-entries l = record {
  left : 2 ^ l.entries ≡ l.left + 2 * parts_before l.cases l.entries;
  some : 0 < l.left;
}
