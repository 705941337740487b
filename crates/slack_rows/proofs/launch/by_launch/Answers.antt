use Rattle.std.proofs.Common.{◌≡◌, ◌∙◌, arith, to_z, of_z, w64}
use Rattle.std.proofs.lemmas.Int.{ints}
use Rattle.scald_base.specs.Time.{period}
use Rattle.fixpoint_engine.specs.Waves.{waves_of}
use Rattle.critical_paths.specs.declared.direction.Corner.TheVariants.{Late, Early}
use Rattle.critical_paths.specs.declared.direction.Direction.TheVariants.{Change}
use Rattle.critical_paths.specs.Launch.{ago}
use Rattle.slack_rows.specs.Views.{ahead_of, window_in}
use Rattle.slack_rows.specs.Held.{edge_at_pin, held_edge}
use Rattle.slack_rows.specs.Launched.{are_two, side_by}
use Rattle.slack_rows.proofs.Launching.{goes_then}
use Rattle.slack_rows.proofs.launch.by_launch.Goals as goal

pub returns-clause-paths : goal.returns-clause-paths
returns-clause-paths g c = goes_then _ _ _ _ _ c.in_ok-last.ensures.paths c.in_ok-first.ensures.paths

pub returns-clause-side : goal.returns-clause-side
returns-clause-side g c =
    let circuit = c.args.view.now.circuit.now in
    let ws = waves_of c.args.view.now.waves.now in
    let p = period circuit.header in
    let held = c.args.held in
    let edge = held_edge circuit ws held (window_in p c.args.window) in
    let near_last = c.requires.region.last in
    let near_first = c.requires.region.first in
    let last : to_z w64 (of_z w64 c.args.region.last) ≡ c.args.region.last = omega (arith, ints, near_last) in
    let first : to_z w64 (of_z w64 c.args.region.first) ≡ c.args.region.first = omega (arith, ints, near_first) in
    c.side_by.ensures.side ∙ (λ i. side_by (c.in_ok-last.ensures.is i) (c.in_ok-first.ensures.is i))
    ∙ (λ i. side_by (ago (edge_at_pin circuit ws Late held.pin Change (ahead_of p (last i))) edge)
    (ago (edge_at_pin circuit ws Early held.pin Change (ahead_of p (first i))) edge))

pub returns-clause-two : goal.returns-clause-two
returns-clause-two g c =
    let circuit = c.args.view.now.circuit.now in
    let ws = waves_of c.args.view.now.waves.now in
    let p = period circuit.header in
    let held = c.args.held in
    let edge = held_edge circuit ws held (window_in p c.args.window) in
    let near_last = c.requires.region.last in
    let near_first = c.requires.region.first in
    let last : to_z w64 (of_z w64 c.args.region.last) ≡ c.args.region.last = omega (arith, ints, near_last) in
    let first : to_z w64 (of_z w64 c.args.region.first) ≡ c.args.region.first = omega (arith, ints, near_first) in
    c.side_by.ensures.two ∙ (λ i. are_two (c.in_ok-last.ensures.is i) (c.in_ok-first.ensures.is i))
    ∙ (λ i. are_two (ago (edge_at_pin circuit ws Late held.pin Change (ahead_of p (last i))) edge)
    (ago (edge_at_pin circuit ws Early held.pin Change (ahead_of p (first i))) edge))
