use Rattle.std.proofs.Common.{take}
use Rattle.std.specs.List.{flat_map}
use Rattle.draw_report.specs.Element.{escape}
use Rattle.draw_report.specs.Paper.{Adds}
use Rattle.draw_report.proofs.paper.Paper.text.Given as goal

abbrev pub invariant-loop-byte : goal.invariant-loop-byte
invariant-loop-byte l =
    Adds l.fn.self l.self (flat_map escape (take l.byte-index l.text))
