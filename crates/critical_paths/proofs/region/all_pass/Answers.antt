use Rattle.std.proofs.Common.{◌≡◌, ◌+◌, ◌≤◌, false, true, length, not, arith, rules}
use Rattle.step_values.specs.Cell.{values}
use Rattle.wave_core.specs.Slots.{cell_round}
use Rattle.critical_paths.specs.Views.{passes}
use Rattle.critical_paths.proofs.Finding.{all_pass, fails_at, one_fails, passes_at}
use Rattle.critical_paths.proofs.region.all_pass.Goals as goal

pub returns-in-None : goal.returns-in-None
returns-in-None g c =
    let test = c.args.test in
    let cells = g.W.CyclicWave.cells c.args.wave.now in
    let long : 2 ≤ length cells = (g.met.W.CyclicWave.sized c.args.wave.now).shortest in
    all_pass test cells long
    (λ place below.
    let said = c.in-None.ensures place (omega arith) (omega (arith, below, c.period.ensures)) in
    let passes : false ≡ not (passes test (cell_round values cells (0 + place))) = search rules in
    passes_at test cells long place (0 + place) (omega arith) passes)

pub returns-in-Some : goal.returns-in-Some
returns-in-Some g c =
    let test = c.args.test in
    let cells = g.W.CyclicWave.cells c.args.wave.now in
    let long : 2 ≤ length cells = (g.met.W.CyclicWave.sized c.args.wave.now).shortest in
    let found = c.in-Some.ensures in
    let within = found.within in
    let place = c.in-Some.field-0 in
    let said = found.passes in
    let fails : true ≡ not (passes test (cell_round values cells (0 + place))) = search rules in
    one_fails test cells long place (omega (arith, within, c.period.ensures))
    (fails_at test cells long place (0 + place) (omega arith) fails)
    (λ t below.
    let said = found.before t (omega arith) below in
    let passes : false ≡ not (passes test (cell_round values cells (0 + t))) = search rules in
    passes_at test cells long t (0 + t) (omega arith) passes)
