use Rattle.std.proofs.Common.{arith, ap, ◌∙◌, subst}
use Rattle.scald_base.specs.Time.{period}
use Rattle.fixpoint_engine.specs.Waves.{waves_of}
use Rattle.slack_rows.specs.Held.{place_in, slacks_of_two}
use Rattle.std.specs.Option.{option_and_then}
use Rattle.slack_rows.specs.Sides.{MayBeTwo, two_by_arrivals}
use Rattle.slack_rows.proofs.Guarding.{may_be_two}
use Rattle.slack_rows.proofs.Gathering.{about_finding, close_within, level_either, met_two}
use Rattle.slack_rows.proofs.Launching.{goes_then}
use Rattle.slack_rows.proofs.sides.about.Goals as goal

pub by_two_if-requires-clause-met : goal.by_two_if-requires-clause-met
by_two_if-requires-clause-met g c =
    met_two c.args.view.now.circuit.now (period c.args.view.now.circuit.now.header) c.args.watch.held c.in_ok-all.all.two c.meets_two-met.result
    c.requires.held c.in_ok-all.ensures.are.close_two c.meets_two-met.ensures.held c.meets_two-met.ensures.two

pub by_regions-regions-requires-clause-last : goal.by_regions-regions-requires-clause-last
by_regions-regions-requires-clause-last g c =
    close_within (period c.args.view.now.circuit.now.header) c.in_ok-all.all.last c.in_ok-all.ensures.are.close_last

pub by_regions-regions-requires-clause-first : goal.by_regions-regions-requires-clause-first
by_regions-regions-requires-clause-first g c =
    close_within (period c.args.view.now.circuit.now.header) c.in_ok-all.all.first c.in_ok-all.ensures.are.close_first

pub returns-clause-paths : goal.returns-clause-paths
returns-clause-paths g c = goes_then _ _ _ _ _ c.in_ok-all.ensures.paths c.in_ok-two.ensures.paths

pub returns-clause-level : goal.returns-clause-level
returns-clause-level g c =
    level_either c.in_ok-two.two c.by_regions-regions.result c.either.result c.in_ok-two.ensures.level c.by_regions-regions.ensures.level c.either.ensures

pub returns-clause-finding : goal.returns-clause-finding
returns-clause-finding g c =
    λ ev are placed.
    let circuit = c.args.view.now.circuit.now in
    let long = c.period-period.ensures.shortest in
    let is = c.period-period.ensures.is in
    about_finding (period circuit.header) ev c.args.watch.changes.now (omega (arith, long, is)) are circuit (waves_of c.args.view.now.waves.now)
    c.args.watch.held c.args.window c.requires.window placed c.in_ok-all.all c.in_ok-all.ensures.are (place_in c.args.watch.held) c.args.watch.direction
    c.meets_two-met.result c.in_ok-two.two c.by_regions-regions.result c.either.result c.meets_two-met.ensures.two c.meets_two-met.ensures.met
    c.in_ok-two.ensures.only c.in_ok-two.ensures.broken c.by_regions-regions.ensures.before c.by_regions-regions.ensures.after c.either.ensures

pub returns-clause-are : goal.returns-clause-are
returns-clause-are g c =
    let circuit = c.args.view.now.circuit.now in
    let ws = waves_of c.args.view.now.waves.now in
    let paths = c.by_two_if.new.paths in
    let w = c.args.window in
    let parts = c.by_regions-regions.ensures in
    let two = c.in_ok-two.ensures.is ∙ ap (option_and_then (two_by_arrivals circuit ws paths w)) c.meets_two-met.ensures.is in
    record {
      near = c.in_ok-all.all;
      around = c.in_ok-all.ensures.are;
      known = subst (MayBeTwo circuit ws paths w) c.meets_two-met.ensures.is
          (may_be_two circuit ws paths w c.meets_two-met.result c.in_ok-two.ensures.known);
      is = c.either.ensures
          ∙ (λ i. slacks_of_two (two i) (record { level = parts.level i; before = parts.before i; after = parts.after i }));
    }
