use Rattle.std.proofs.Common.{◌≡◌, ◌*◌, ◌∙◌, arith, to_z, of_z, w64}
use Rattle.std.proofs.lemmas.Int.{ints}
use Rattle.scald_base.specs.Time.{period}
use Rattle.fixpoint_engine.specs.Waves.{waves_of}
use Rattle.critical_paths.specs.declared.direction.Corner.TheVariants.{Early}
use Rattle.critical_paths.specs.declared.direction.Direction.TheVariants.{Change}
use Rattle.critical_paths.specs.Launch.{ago}
use Rattle.slack_rows.specs.Views.{ahead_of}
use Rattle.slack_rows.specs.Held.{edge_at_pin}
use Rattle.slack_rows.proofs.Launching.{ago_same, edges_stay, goes_then, near_stays}
use Rattle.slack_rows.proofs.launch.launched.Goals as goal

pub ago_if-requires-clause-clock : goal.ago_if-requires-clause-clock
ago_if-requires-clause-clock g c = near_stays _ _ c.in_ok-clock.clock c.in_ok-data.ensures.paths.grows c.in_ok-clock.ensures.near

pub returns-clause-paths : goal.returns-clause-paths
returns-clause-paths g c = goes_then _ _ _ _ _ c.in_ok-clock.ensures.paths c.in_ok-data.ensures.paths

pub returns-clause-is : goal.returns-clause-is
returns-clause-is g c =
    let circuit = c.args.view.now.circuit.now in
    let ws = waves_of c.args.view.now.waves.now in
    let p = period circuit.header in
    let held = c.args.held in
    let near = c.requires.tick in
    let near_first = c.requires.window.first in
    let tick : to_z w64 (of_z w64 c.args.tick) ≡ c.args.tick = omega (arith, ints, near) in
    let first : to_z w64 (of_z w64 c.args.window.first) ≡ c.args.window.first = omega (arith, ints, near_first) in
    c.ago_if.ensures
    ∙ ago_same (3 * p) _ _ _ _ c.in_ok-data.ensures.edge
    (edges_stay _ _ c.in_ok-clock.clock c.in_ok-data.ensures.paths.grows c.in_ok-clock.ensures.near ∙ c.in_ok-clock.ensures.edge)
    ∙ (λ i. ago (edge_at_pin circuit ws c.args.corner held.pin Change (ahead_of p (tick i))) (edge_at_pin circuit ws Early held.clock held.opens (ahead_of p (first i))))
