use Rattle.std.proofs.Common.{◌≡◌, ◌+◌, true, arith, rules}
use Rattle.step_values.specs.Cell.{values}
use Rattle.drawing_notes.specs.Passing.{is_other}
use Rattle.wave_core.specs.Slots.{cell_round}
use Rattle.drawing_notes.proofs.Scanning.{none_passes, one_passes}
use Rattle.drawing_notes.proofs.searching.has_other.Goals as goal

pub returns-in-Some : goal.returns-in-Some
returns-in-Some g c =
    let cells = g.W.CyclicWave.cells c.args.wave.now in
    let found = c.in-Some.ensures in
    let passes = found.passes in
    let unknown : true ≡ is_other c.args.bit (cell_round values cells (0 + c.in-Some.field-0)) = search rules in
    one_passes values cells (is_other c.args.bit) c.period.result c.period.ensures c.in-Some.field-0 found.within unknown

pub returns-in-None : goal.returns-in-None
returns-in-None g c =
    let cells = g.W.CyclicWave.cells c.args.wave.now in
    none_passes values cells (is_other c.args.bit) c.period.result c.period.ensures
    (λ place below. let fails = c.in-None.ensures place (omega arith) below in search rules)
