use Rattle.std.proofs.Common.{◌∙◌, None, replicate, ap}
use Rattle.drawing_notes.specs.declared.case_gates.CaseGates.{CaseGates}
use Rattle.drawing_notes.proofs.Gathering.{gates_begin}
use Rattle.drawing_notes.proofs.case_gates.CaseGates.begin.Goals as goal

pub returns : goal.returns
returns c =
    let gates : CaseGates = record { clocks = c.in_ok-clocks.clocks; timed = c.in_ok-timed.timed; firsts = c.in_ok-firsts.firsts } in
    gates_begin c.args.c.now gates c.in_ok-clocks.ensures c.in_ok-timed.ensures
    (c.in_ok-firsts.ensures ∙ ap (λ n. replicate n None) c.instance_count.ensures)
