use Rattle.std.proofs.Common.{◌≡◌, ◌-◌, ◌≤◌, length}
use Rattle.std.specs.List.{All}
use Rattle.section_compose.specs.Cut.{sections_of}
use Rattle.section_compose.specs.Pieces.{Lies}
use Rattle.section_compose.proofs.Cuts.{sections_from}
use Rattle.section_compose.proofs.cut.sections_of.Given as goal

abbrev pub invariant-lines : goal.invariant-lines
invariant-lines l = record {
  few : length l.pieces ≤ l.from;
  after : l.from ≤ l.at;
  within : l.at ≤ length l.text;
  lie : All (Lies (length l.text)) l.pieces;
  cut : sections_from l.text l.pieces l.from l.at ≡ sections_of l.text;
}

abbrev pub decreases-lines : goal.decreases-lines
decreases-lines l = length l.text - l.at
