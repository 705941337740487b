use Rattle.std.proofs.Common.{◌≡◌, ◌-◌, ◌≤◌, length, drop}
use Rattle.section_compose.specs.Cut.{lines, lines_after}
use Rattle.section_compose.specs.Pieces.{bytes_from}
use Rattle.section_compose.proofs.cut.line_end.Given as goal

abbrev pub invariant-bytes : goal.invariant-bytes
invariant-bytes l = record {
  after : l.from ≤ l.at;
  within : l.at ≤ length l.text;
  read : lines (drop l.from l.text) ≡ lines_after (bytes_from l.text l.from l.at) (drop l.at l.text);
}

abbrev pub decreases-bytes : goal.decreases-bytes
decreases-bytes l = length l.text - l.at
