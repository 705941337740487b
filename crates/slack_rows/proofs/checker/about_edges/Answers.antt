use Rattle.std.proofs.Common.{◌≡◌, true, false, List, Some, map, sym, subst, ◌∙◌}
use Rattle.fixpoint_engine.specs.Waves.{waves_of}
use Rattle.critical_paths.specs.declared.direction.Direction.TheVariants.{Change}
use Rattle.critical_paths.specs.declared.region.Region.{Region as Ticked}
use Rattle.slack_rows.specs.Sides.{AreLeastAbout}
use Rattle.slack_rows.specs.Views.{window_about}
use Rattle.slack_rows.proofs.checker.about_edges.Goals as goal

pub returns-then-changes-clause-are : goal.returns-then-changes-clause-are
returns-then-changes-clause-are g c =
    record {
      keeps = c.in_ok-starred.ensures.paths.keeps;
      apart = λ none. let bad : true ≡ false = sym c.if-changes.true ∙ none in absurd (cc);
      always = λ all some. c.in_ok-starred.ensures.are some;
    }

pub returns-clause-are : goal.returns-clause-are
returns-clause-are g c =
    let circuit = c.args.view.now.circuit.now in
    let ws = waves_of c.args.view.now.waves.now in
    record {
      keeps = c.in_ok-found.ensures.paths.keeps;
      apart = λ none. subst (λ (changes : List Ticked). AreLeastAbout circuit ws c.args.paths.now (Some c.args.held) Change changes
          (map (λ e. window_about e c.args.extent) c.args.edges.now) c.in_ok-found.found) c.as_slice-moving.ensures c.in_ok-found.ensures.are;
      always = λ all some. let bad : true ≡ false = sym all ∙ c.if-changes.false in absurd (cc);
    }
