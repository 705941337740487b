use Rattle.std.proofs.Common.{◌≡◌, ℕ, ◌+◌, ◌<◌, true, false, not, arith, rules}
use Rattle.wave_core.specs.Slots.{cell_round}
use Rattle.skew_algebra.proofs.Round.{steady_none, steady_not}
use Rattle.skew_algebra.proofs.scan.is_steady.Goals as goal

pub returns-in-Some : goal.returns-in-Some
returns-in-Some g c =
    let k = g.W.Item.Cell.kind in
    let cells = g.W.CyclicWave.cells c.args.wave.now in
    let found = c.in-Some.ensures in
    let passes = found.passes in
    let within = found.within in
    let moves : true ≡ not (k.quiet (cell_round k cells (0 + c.in-Some.field-0))) = search rules in
    steady_not k cells c.period.result c.in-Some.field-0 c.period.ensures within moves

pub returns-in-None : goal.returns-in-None
returns-in-None g c =
    let k = g.W.Item.Cell.kind in
    let cells = g.W.CyclicWave.cells c.args.wave.now in
    let still : (place : ℕ) → place < c.period.result → false ≡ not (k.quiet (cell_round k cells (0 + place))) =
    λ place below. let fails = c.in-None.ensures place (omega arith) below in search rules in
    steady_none k cells c.period.result c.period.ensures still
