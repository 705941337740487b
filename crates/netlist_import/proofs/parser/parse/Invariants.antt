use Rattle.std.proofs.Common.{◌≡◌, length}
use Rattle.netlist_import.specs.Parsed.{beginning, run, state_of}
use Rattle.netlist_import.proofs.parser.parse.Given as goal

abbrev pub invariant-loop-token : goal.invariant-loop-token
invariant-loop-token l = run beginning 0 l.initial.reader
    ≡ run (state_of l.parser) l.number l.reader

abbrev pub decreases-loop-token : goal.decreases-loop-token
decreases-loop-token l = length l.reader
